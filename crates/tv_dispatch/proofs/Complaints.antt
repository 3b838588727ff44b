-- The complaints of a list of values, value by value.
use Rattle.std.specs.Prelude.{◌≡◌, ℕ, zero, suc, ◌+◌, ◌<◌, List, [], ◌∷◌, map, drop, length, refl, Option}
use Rattle.std.proofs.Common.{arith, ap, ◌∙◌, get_or}
use Rattle.tv_value.specs.Values.{Name}
use Rattle.tv_value.specs.declared.value.Value.{Value}
use Rattle.tv_value.specs.Views.{view}
use Rattle.tv_dispatch.specs.Jobs.{value_complaint, first_complaint, or_else}

abbrev pub depths_of : List (Name × ℕ) → List ℕ
depths_of os = map (λ o. o.1) os

-- the first complaint from number i on
abbrev pub complaint_from : ℕ → List (Name × ℕ) → List Value → Option (List ℕ)
complaint_from i os vs = first_complaint (i + 1) (drop i (depths_of os)) (drop i (map view vs))

step_at : (os : List (Name × ℕ)) (vs : List Value) (i k : ℕ) (o : Name × ℕ) (v : Value) → i < length os → i < length vs → first_complaint k (drop i (depths_of os)) (drop i (map view vs)) ≡ or_else (value_complaint k (get_or os i o).1 (view (get_or vs i v))) (first_complaint (suc k) (drop (suc i) (depths_of os)) (drop (suc i) (map view vs)))
step_at [] vs i k o v h p = absurd (none i h)
  where
    none : (i : ℕ) → i < 0 → ⊥
    none i q = omega arith
step_at (x ∷ os) [] i k o v h p = absurd (none i p)
  where
    none : (i : ℕ) → i < 0 → ⊥
    none i q = omega arith
step_at (x ∷ os) (y ∷ vs) zero k o v h p = refl
step_at (x ∷ os) (y ∷ vs) (suc i) k o v h p = step_at os vs i k o v (omega arith) (omega arith)

pub complaint-step : (os : List (Name × ℕ)) (vs : List Value) (i : ℕ) (o : Name × ℕ) (v : Value) → i < length os → i < length vs → complaint_from i os vs ≡ or_else (value_complaint (i + 1) (get_or os i o).1 (view (get_or vs i v))) (complaint_from (i + 1) os vs)
complaint-step os vs i o v h p =
    step_at os vs i (i + 1) o v h p
    ∙ ap (λ c. or_else (value_complaint (i + 1) (get_or os i o).1 (view (get_or vs i v))) c) (same i)
  where
    next : (n : ℕ) → suc n ≡ n + 1
    next n = omega arith

    same : (i : ℕ) → first_complaint (suc (i + 1)) (drop (suc i) (depths_of os)) (drop (suc i) (map view vs)) ≡ complaint_from (i + 1) os vs
    same i = ap (λ n. first_complaint n (drop (suc i) (depths_of os)) (drop (suc i) (map view vs))) (next (i + 1)) ∙ ap (λ n. first_complaint (i + 1 + 1) (drop n (depths_of os)) (drop n (map view vs))) (next i)
