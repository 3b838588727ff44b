-- The tokens of JSON trees, as a writer takes them one after another.
use Rattle.std.specs.Prelude.{◌≡◌, ℕ, List, [], ◌∷◌, ◌++◌, decimal}
use Rattle.json.specs.Token.{Token, key, string, number}
use Rattle.json.specs.Tree.{json_tokens, items_tokens, members_tokens}
use Rattle.json.specs.Written.{Written}
use Rattle.serde_json.specs.Data.{Data, Items, Members}
use Rattle.serde_json.specs.Written.{outline, items_outline, members_outline}
use Rattle.tv_value.specs.Nested.{Tree}
use Rattle.tv_value.specs.Values.{Text, Name, Scalar}
use Rattle.tv_value.specs.Printed.{json}

-- a writer takes these tokens more
abbrev pub Adds : Written → Written → List Token → Type 0
Adds old new ts = (new.before ≡ old.before) × (new.tokens ≡ old.tokens ++ ts)

abbrev pub tokens_of : Data → List Token
tokens_of d = json_tokens (outline d)

-- with the closing bracket
abbrev pub tokens_of_items : Items → List Token
tokens_of_items ds = items_tokens (items_outline ds)

abbrev pub tokens_of_members : Members → List Token
tokens_of_members ms = members_tokens (members_outline ms)

abbrev pub text_member : Text → Text → List Token
text_member k t = key k ∷ string t ∷ []

abbrev pub number_member : Text → ℕ → List Token
number_member k n = key k ∷ number (decimal n) ∷ []

-- a name with a value
abbrev pub value_member : {N : Type 0} → Name × Tree N Scalar → List Token
value_member o = key o.0 ∷ tokens_of (json o.1)
