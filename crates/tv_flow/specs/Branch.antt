-- The trees at the one field of a strategy's node.
use Rattle.std.specs.Prelude.{ℕ, [], ◌∷◌, codes, Result}
use Rattle.serde_json.specs.Data.{Data}
use Rattle.tv_value.specs.Values.{Text}
use Rattle.tv_value.specs.Strategies.{Strategy, Strategies}
use Rattle.tv_flow.specs.Complaints.{Path, Complaint, and_then}
use Rattle.tv_flow.specs.Forms.{fields_form, required, trees_form, prefix_form}

abbrev pub branch : ℕ → Text → Path → Data → Result Strategies Complaint
branch format k here d = and_then (fields_form (k ∷ []) here d) (λ u. required (trees_form format) k here d)

-- the two of a prefix node
abbrev pub pair : ℕ → Path → Data → Result Strategy Complaint
pair format here d = and_then (fields_form (codes "prefix" ∷ []) here d)
    (λ u. required (prefix_form format) (codes "prefix") here d)
