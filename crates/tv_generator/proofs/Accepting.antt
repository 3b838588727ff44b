-- The check finds nothing in a generated document.
use Rattle.std.specs.Prelude.{Bool, List, None, [], codes, if◌then◌else◌, map, not, refl, unwrap_or, true, ◌++◌, ◌∷◌, ◌≡◌, ℕ}
use Rattle.std.specs.List.{range_with_len}
use Rattle.std.proofs.Common.{ap, ◌∙◌}
use Rattle.tv_value.specs.DepthSets.{least_depth}
use Rattle.tv_value.specs.Orders.{same_name}
use Rattle.tv_value.specs.Values.{Name, Text, Value, has_depth, text_value}
use Rattle.tv_naming.specs.Faulty.{CheckComplaint, at_given, first_of, input_depth, with_numbers}
use Rattle.tv_naming.specs.Naming.{complain_if, naming_complaints}
use Rattle.tv_naming.specs.Inputs.{given_complaints}
use Rattle.tv_check.specs.Cycles.{cycle_complaints, link_cycle_complaints, nesting_complaints}
use Rattle.tv_check.specs.Depthwise.{depth_complaints}
use Rattle.tv_check.specs.Passes.{checked}
use Rattle.tv_model.specs.RowsOfSize.{generated, inner_text, outer_text, texts_to}
use Rattle.tv_model.specs.Writing.{words}
use Rattle.tv_generator.specs.Accepted.{KnowsItsServices}

-- ---- names

-- services that know these four as they are told, and no other
abbrev told : Bool → Bool → Bool → Bool → Name → Bool
told a b c d n =
    if same_name n (codes "concat") then a
    else (if same_name n (codes "flaky") then b
    else (if same_name n (codes "fail_if") then c else d))

no-name : (knows : Name → Bool) → KnowsItsServices knows → (n : ℕ) → naming_complaints knows (generated n) ≡ []
no-name knows k n = (λ i. naming_complaints (told (k.concat i) (k.flaky i) (k.fail_if i) (k.upper i)) (generated n))

-- ---- depths

lists : (ts : List Text) → has_depth (words ts) 1 ≡ true
lists [] = refl
lists (t ∷ ts) = lists ts

-- what would be said of a value without depth 1
abbrev flat : Text → List Text → CheckComplaint
flat n ts = with_numbers input_depth (at_given n) 1 (unwrap_or (least_depth (words ts)) 0)

given :
    (x y : List Text) (n : ℕ)
    → given_complaints (record (generated n) { inputs = (codes "x", words x) ∷ (codes "y", words y) ∷ [] }) ≡ []
given x y n = λ i. complain_if (not (lists x i)) (flat (codes "x") x) ++ (complain_if (not (lists y i)) (flat (codes "y") y) ++ [])

pub accepted : (knows : Name → Bool) → KnowsItsServices knows → (n : ℕ) → checked knows (generated n) ≡ None
accepted knows k n =
    ap first_of
    ((λ i. no-name knows k n i ++ cycle_complaints (generated n) ++ nesting_complaints (generated n) ++ link_cycle_complaints (generated n)
    ++ depth_complaints (generated n) ++ given (map outer_text (range_with_len 0 n)) (map inner_text (range_with_len 0 n)) n i))
