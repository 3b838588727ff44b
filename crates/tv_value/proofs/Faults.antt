-- The faults of a list of values, item by item.
use Rattle.std.specs.Prelude.{◌≡◌, ℕ, zero, suc, ◌<◌, List, [], ◌∷◌, ◌++◌, map, drop, length, refl, Bool, true, false, ◌||◌}
use Rattle.std.specs.List.{list_any}
use Rattle.std.specs.Ordering.{match_ordering}
use Rattle.std.specs.BTreeSet.{insert_key}
use Rattle.std.specs.declared.cmp.Ordering.{Ordering}
use Rattle.std.proofs.Common.{arith, ap, sym, ◌∙◌, get_or}
use Rattle.tv_value.specs.Nested.{trees_of, leaves, all_leaves}
use Rattle.tv_value.specs.Values.{Scalar, text, fault, is_fault, holds_fault, makers_of, JobName}
use Rattle.tv_value.specs.Orders.{put_in_order, put_all, in_order, job_name_cmp}
use Rattle.tv_value.specs.declared.value.Value.{Value}
use Rattle.tv_value.specs.Views.{view}

or_assoc : (a b c : Bool) → ((a || b) || c) ≡ (a || (b || c))
or_assoc true b c = refl
or_assoc false b c = refl

any-append : (xs ys : List Scalar) → list_any is_fault (xs ++ ys) ≡ (list_any is_fault xs || list_any is_fault ys)
any-append [] ys = refl
any-append (x ∷ xs) ys = ap (λ b. is_fault x || b) (any-append xs ys) ∙ sym (or_assoc (is_fault x) (list_any is_fault xs) (list_any is_fault ys))

pub hold_fault-each : (vs : List Value) → list_any is_fault (all_leaves (trees_of (map view vs))) ≡ list_any (λ v. holds_fault (view v)) vs
hold_fault-each [] = refl
hold_fault-each (v ∷ vs) = any-append (leaves (view v)) (all_leaves (trees_of (map view vs))) ∙ ap (λ b. holds_fault (view v) || b) (hold_fault-each vs)

pub makers-append : (as' bs : List Scalar) → makers_of (as' ++ bs) ≡ makers_of as' ++ makers_of bs
makers-append [] bs = refl
makers-append (text t ∷ as') bs = makers-append as' bs
makers-append (fault e ∷ as') bs = ap (λ ns. e.at ∷ ns) (makers-append as' bs)

put_all-append : {A : Type 0} (cmp : A → A → Ordering) (xs ys acc : List A) → put_all cmp (xs ++ ys) acc ≡ put_all cmp xs (put_all cmp ys acc)
put_all-append cmp [] ys acc = refl
put_all-append cmp (x ∷ xs) ys acc = ap (put_in_order cmp x) (put_all-append cmp xs ys acc)

pub put_all-nothing : {A : Type 0} (cmp : A → A → Ordering) (xs : List A) → put_all cmp xs [] ≡ in_order cmp xs
put_all-nothing cmp [] = refl
put_all-nothing cmp (x ∷ xs) = ap (put_in_order cmp x) (put_all-nothing cmp xs)

-- std's sets put a key where a name goes
pub put-as-key : {A : Type 0} (cmp : A → A → Ordering) (xs : List A) (k : A) → insert_key cmp xs k ≡ put_in_order cmp k xs
put-as-key cmp [] k = refl
put-as-key cmp (x ∷ xs) k = ap (λ ys. match_ordering (cmp k x) (k ∷ x ∷ xs) (x ∷ xs) (x ∷ ys)) (put-as-key cmp xs k)

-- the makers in the values from number i on
abbrev pub makers_from : List Value → ℕ → List JobName
makers_from vs i = makers_of (all_leaves (trees_of (map view (drop i vs))))

pub makers-step : (vs : List Value) (i : ℕ) (d : Value) (acc : List JobName) → i < length vs → put_all job_name_cmp (makers_from vs i) acc ≡ put_all job_name_cmp (makers_of (leaves (view (get_or vs i d)))) (put_all job_name_cmp (makers_from vs (suc i)) acc)
makers-step [] i d acc h = absurd (none i h)
  where
    none : (i : ℕ) → i < 0 → ⊥
    none i p = omega arith
makers-step (v ∷ vs) zero d acc h =
    ap (λ ns. put_all job_name_cmp ns acc) (makers-append (leaves (view v)) (all_leaves (trees_of (map view vs))))
    ∙ put_all-append job_name_cmp (makers_of (leaves (view v))) (makers_of (all_leaves (trees_of (map view vs)))) acc
makers-step (v ∷ vs) (suc i) d acc h = makers-step vs i d acc (omega arith)
