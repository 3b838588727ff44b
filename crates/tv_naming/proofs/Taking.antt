-- The steps of `by_least`.
use Rattle.std.proofs.Common.{◌≡◌, ℕ, ◌+◌, ◌<◌, Bool, suc, zero, eqb, List, [], ◌∷◌, ◌++◌, ◌||◌, Option, Some, None, refl, sym, ap, ◌∙◌, arith, append_assoc}
use Rattle.std.proofs.lemmas.List.{append-nil}
use Rattle.std.specs.Prelude.{find}
use Rattle.std.specs.Option.{option_map_or}
use mathlib.Core.Path.{fun_ext}
use Rattle.tv_naming.specs.graphs.Graphs.{Graph, is_one_of, is_next, vertices, taken_by_least, by_least}
use Rattle.tv_naming.specs.graphs.Untaken.{is_ready, is_given}

module _ (g : Graph) (taken : List ℕ) where
  same_find : (p : ℕ → Bool) → ((u : ℕ) → p u ≡ is_one_of taken u) → find (is_next g taken) (vertices g) ≡ find (is_ready g p) (vertices g)
  same_find p same = let e : p ≡ is_one_of taken = fun_ext same in sym (ap (λ q. find (is_ready g q) (vertices g)) e)

  none_taken : (left : ℕ) → find (is_next g taken) (vertices g) ≡ None → taken_by_least g left taken ≡ []
  none_taken zero e = refl
  none_taken (suc n) e = ap (λ o. option_map_or (λ v. v ∷ taken_by_least g n (v ∷ taken)) o []) e

  some_taken : (n v : ℕ) → find (is_next g taken) (vertices g) ≡ Some v → taken_by_least g (suc n) taken ≡ v ∷ taken_by_least g n (v ∷ taken)
  some_taken n v e = ap (λ o. option_map_or (λ w. w ∷ taken_by_least g n (w ∷ taken)) o []) e

  module _ (p : ℕ → Bool) (same : (u : ℕ) → p u ≡ is_one_of taken u) (order : List ℕ) where
    pub by_least-end : (left : ℕ) (o : Option ℕ) → by_least g ≡ order ++ taken_by_least g left taken → o ≡ find (is_ready g p) (vertices g) → o ≡ None → order ≡ by_least g
    by_least-end left o rest found is =
        sym (rest ∙ ap (λ xs. order ++ xs) (none_taken left (same_find p same ∙ sym found ∙ is)) ∙ append-nil order)

    pub by_least-more : (k m v : ℕ) (o : Option ℕ) (left : ℕ) → left + k ≡ m → k < m → by_least g ≡ order ++ taken_by_least g left taken → o ≡ find (is_ready g p) (vertices g) → o ≡ Some v →
        (n : ℕ) × (n + (k + 1) ≡ m) × (by_least g ≡ (order ++ v ∷ []) ++ taken_by_least g n (v ∷ taken))
    by_least-more k m v o zero sum less rest found is = absurd (omega arith)
    by_least-more k m v o (suc n) sum less rest found is =
        (n, omega arith, rest ∙ ap (λ xs. order ++ xs) (some_taken n v (same_find p same ∙ sym found ∙ is)) ∙ sym (append_assoc order (v ∷ []) _))

pub is_given-more : (o : Option ℕ) (v u : ℕ) (b c : Bool) → o ≡ Some v → b ≡ c → (b || is_given o u) ≡ (eqb u v || c)
is_given-more o v u b c is same = rw (is, same) (grind arith)
