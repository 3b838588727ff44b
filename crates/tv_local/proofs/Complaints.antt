-- The first complaint of the inputs, input by input.
use Rattle.std.specs.Prelude.{◌≡◌, ℕ, zero, suc, ◌+◌, ◌<◌, List, [], ◌∷◌, map, drop, length, refl, Option, Some}
use Rattle.std.proofs.Common.{arith, ap, ◌∙◌, get_or}
use Rattle.std.proofs.Math.Numerals.{suc-eq-add-one}
use Rattle.tv_value.specs.Values as spec
use Rattle.tv_value.specs.Values.{Text}
use Rattle.tv_value.specs.declared.value.Value.{Value}
use Rattle.tv_value.specs.Views.{view}
use Rattle.tv_local.specs.declared.row.Want.{Want}
use Rattle.tv_local.specs.Reading.{first_of, or_else}

module _ (f : ℕ → Want → spec.Value → Option Text) where
  -- the first complaint from number i on
  abbrev pub complaint_from : ℕ → List Want → List Value → Option Text
  complaint_from i ws vs = first_of f (i + 1) (drop i ws) (drop i (map view vs))

  step_at : (ws : List Want) (vs : List Value) (i k : ℕ) (w : Want) (v : Value) → i < length ws → i < length vs → first_of f k (drop i ws) (drop i (map view vs)) ≡ or_else (f k (get_or ws i w) (view (get_or vs i v))) (first_of f (suc k) (drop (suc i) ws) (drop (suc i) (map view vs)))
  step_at [] vs i k w v h p = absurd (none i h)
    where
      none : (i : ℕ) → i < 0 → ⊥
      none i q = omega arith
  step_at (x ∷ ws) [] i k w v h p = absurd (none i p)
    where
      none : (i : ℕ) → i < 0 → ⊥
      none i q = omega arith
  step_at (x ∷ ws) (y ∷ vs) zero k w v h p = refl
  step_at (x ∷ ws) (y ∷ vs) (suc i) k w v h p = step_at ws vs i k w v (omega arith) (omega arith)

  pub complaint-step : (ws : List Want) (vs : List Value) (i : ℕ) (w : Want) (v : Value) → i < length ws → i < length vs → complaint_from i ws vs ≡ or_else (f (i + 1) (get_or ws i w) (view (get_or vs i v))) (complaint_from (i + 1) ws vs)
  complaint-step ws vs i w v h p =
      step_at ws vs i (i + 1) w v h p
      ∙ ap (λ c. or_else (f (i + 1) (get_or ws i w) (view (get_or vs i v))) c)
      (ap (λ n. first_of f n (drop (suc i) ws) (drop (suc i) (map view vs))) (suc-eq-add-one (i + 1)) ∙ ap (λ n. first_of f (i + 1 + 1) (drop n ws) (drop n (map view vs))) (suc-eq-add-one i))

pub found-first : (o p : Option Text) (why : Text) → o ≡ Some why → or_else o p ≡ Some why
found-first o p why e = ap (λ q. or_else q p) e
