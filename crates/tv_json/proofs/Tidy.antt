-- JSON trees whose objects have their keys in order, and of which a text reads back.
use Rattle.std.specs.Prelude.{◌≡◌, ℕ, suc, ◌^◌, ◌<◌, ◌≤◌, max, List, [], ◌∷◌, ◌++◌, map, true, Some, option_map, option_and_then, refl}
use Rattle.std.proofs.Common.{ap, ap₂, sym, subst, ◌∙◌, append-nil}
use Rattle.json.specs.Json as json
use Rattle.json.specs.Lex.{tokens}
use Rattle.json.specs.Tree as tree
use Rattle.json.specs.Tree.{json_tokens, HasNumbers, ItemsHaveNumbers, MembersHaveNumbers}
use Rattle.json.proofs.Printed.Decimals.{IsNumber-decimal}
use Rattle.json.proofs.Printed.Trees.{value-json_tokens, ArePrintable-json_tokens}
use Rattle.serde_json.specs.Data.{Num, unsigned, negative, float, Data, null, boolean, number, string, array, object, Items, no_items, item, Members, no_members, member, put, depth, items_depth, members_depth}
use Rattle.serde_json.specs.Read.{of_json, of_items, of_members, max_depth, read}
use Rattle.serde_json.specs.Written.{outline, items_outline, members_outline, compact_text}
use Rattle.serde_json.proofs.Numbers.{number_of-decimal}
use Rattle.serde_json.proofs.Texts.{print-outline}
use Rattle.tv_value.specs.Printed.{members}
use Rattle.tv_value.specs.Values.{Text}
use Rattle.tv_flow.specs.Formed.{is_ascending}
use Rattle.tv_flow.proofs.Shapes.{member_keys}
use Rattle.tv_json.specs.Documents.{put_each}
use Rattle.tv_json.proofs.InOrder.{pairs, put_each-members, under-none}
use Rattle.tv_json.proofs.LineFeeds.{tokens-fed}

-- the members as a list
abbrev pub listed : Members → List (Text × Data)
listed no_members = []
listed (member k d ms) = (k, d) ∷ listed ms

-- each object has its keys in order, each once, and each number is one of these
module _ (P : Num → Type 0) where
  abbrev mutual
    pub IsTidy : Data → Type 0
    IsTidy null = Unit {0}
    IsTidy (boolean b) = Unit {0}
    IsTidy (number n) = P n
    IsTidy (string s) = Unit {0}
    IsTidy (array ds) = AreTidy ds
    IsTidy (object ms) = (is_ascending (member_keys ms) ≡ true) × MembersAreTidy ms

    pub AreTidy : Items → Type 0
    AreTidy no_items = Unit {0}
    AreTidy (item d ds) = IsTidy d × AreTidy ds

    pub MembersAreTidy : Members → Type 0
    MembersAreTidy no_members = Unit {0}
    MembersAreTidy (member k d ms) = IsTidy d × MembersAreTidy ms

abbrev pub AnyNumber : Num → Type 0
AnyNumber n = Unit {0}

-- a number of 64 bits
abbrev pub IsShort : Num → Type 0
IsShort (unsigned n) = n < 2 ^ 64
IsShort (negative z) = ⊥
IsShort (float x) = ⊥

-- ---- the grammar's tree of it

abbrev as_is : Data → Data
as_is d = d

as-listed : (ms : Members) → members (pairs as_is (listed ms)) ≡ ms
as-listed no_members = refl
as-listed (member k d ms) = ap (member k d) (as-listed ms)

keys-listed : (ms : Members) → map (λ e. e.0) (listed ms) ≡ member_keys ms
keys-listed no_members = refl
keys-listed (member k d ms) = ap (λ ks. k ∷ ks) (keys-listed ms)

all-put : (ms : Members) → is_ascending (member_keys ms) ≡ true → put_each as_is no_members (listed ms) ≡ ms
all-put ms h = put_each-members as_is [] (listed ms) (under-none (listed ms)) (ap is_ascending (keys-listed ms) ∙ h) ∙ as-listed ms

number-back : (n : Num) → IsShort n → of_json (outline (number n)) ≡ Some (number n)
number-back (unsigned n) h = ap (option_map number) (number_of-decimal n h)
number-back (negative z) h = absurd h
number-back (float x) h = absurd h

mutual
  tree-back : (d : Data) → IsTidy IsShort d → of_json (outline d) ≡ Some d
  tree-back null h = refl
  tree-back (boolean b) h = refl
  tree-back (number n) h = number-back n h
  tree-back (string s) h = refl
  tree-back (array ds) h = ap (option_map array) (items-back ds h)
  tree-back (object ms) h = ap (option_map object) (members-back ms no_members h.1 ∙ ap Some (all-put ms h.0))

  items-back : (ds : Items) → AreTidy IsShort ds → of_items (items_outline ds) ≡ Some ds
  items-back no_items h = refl
  items-back (item d ds) h =
      ap (option_and_then (λ d. option_map (item d) (of_items (items_outline ds)))) (tree-back d h.0)
      ∙ ap (option_map (item d)) (items-back ds h.1)

  members-back : (ms found : Members) → MembersAreTidy IsShort ms → of_members (members_outline ms) found ≡ Some (put_each as_is found (listed ms))
  members-back no_members found h = refl
  members-back (member k d ms) found h =
      ap (option_and_then (λ d. of_members (members_outline ms) (put k d found))) (tree-back d h.0)
      ∙ members-back ms (put k d found) h.1

mutual
  same-depth : (d : Data) → tree.depth (outline d) ≡ depth d
  same-depth null = refl
  same-depth (boolean b) = refl
  same-depth (number n) = refl
  same-depth (string s) = refl
  same-depth (array ds) = ap suc (same-items ds)
  same-depth (object ms) = ap suc (same-members ms)

  same-items : (ds : Items) → tree.items_depth (items_outline ds) ≡ items_depth ds
  same-items no_items = refl
  same-items (item d ds) = ap₂ (λ (a b : ℕ). max a b) (same-depth d) (same-items ds)

  same-members : (ms : Members) → tree.members_depth (members_outline ms) ≡ members_depth ms
  same-members no_members = refl
  same-members (member k d ms) = ap₂ (λ (a b : ℕ). max a b) (same-depth d) (same-members ms)

number-written : (n : Num) → IsShort n → HasNumbers (outline (number n))
number-written (unsigned n) h = IsNumber-decimal n h
number-written (negative z) h = absurd h
number-written (float x) h = absurd h

mutual
  numbers-written : (d : Data) → IsTidy IsShort d → HasNumbers (outline d)
  numbers-written null h = tt
  numbers-written (boolean b) h = tt
  numbers-written (number n) h = number-written n h
  numbers-written (string s) h = tt
  numbers-written (array ds) h = items-written ds h
  numbers-written (object ms) h = members-written ms h.1

  items-written : (ds : Items) → AreTidy IsShort ds → ItemsHaveNumbers (items_outline ds)
  items-written no_items h = tt
  items-written (item d ds) h = (numbers-written d h.0, items-written ds h.1)

  members-written : (ms : Members) → MembersAreTidy IsShort ms → MembersHaveNumbers (members_outline ms)
  members-written no_members h = tt
  members-written (member k d ms) h = (numbers-written d h.0, members-written ms h.1)

-- ---- its text

-- the compact text with a line feed reads as the tree
pub line-back : (d : Data) → IsTidy IsShort d → depth d ≤ max_depth → read (compact_text d ++ 10 ∷ []) ≡ Some d
line-back d h shallow =
    let j = outline d in
    let text = ap (λ s. tokens (s ++ 10 ∷ [])) (sym (print-outline d)) ∙ tokens-fed (json_tokens j) (ArePrintable-json_tokens j (numbers-written d h)) ∙ sym (append-nil (json_tokens j)) in
    ap (λ ts. option_and_then of_json (option_and_then (λ p. json.if_last p.0 p.1) (json.value max_depth ts))) text
    ∙ ap (λ o. option_and_then of_json (option_and_then (λ p. json.if_last p.0 p.1) o)) (value-json_tokens j max_depth [] (subst (λ n. n ≤ max_depth) (sym (same-depth d)) shallow))
    ∙ tree-back d h
