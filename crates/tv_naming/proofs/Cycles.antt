-- All vertices come in `by_least` exactly where none comes before itself.
use Rattle.std.proofs.Common.{◌≡◌, ℕ, ◌+◌, ◌<◌, ◌≤◌, true, false, not, suc, zero, eqb, List, [], ◌∷◌, length, Option, Some, None, refl, sym, ◌∙◌, subst, inl, inr, arith}
use Rattle.std.proofs.lemmas.Bool.{eqb-true, or_cases, cases_lt, false_from_ne_true, not-true}
use Rattle.std.specs.Prelude.{find}
use Rattle.std.specs.Option.{option_map_or}
use Rattle.tv_naming.specs.graphs.Graphs.{Graph, is_graph, before, is_one_of, is_next, vertices, comes_before, is_on_cycle, first_on_cycle, taken_by_least, by_least}
use Rattle.tv_naming.proofs.Members.{find-range, find-range-none, find-range-clear, all-fails-find}
use Rattle.tv_naming.proofs.Walks.{walk-edge, walk-far, walk-at_most, before-below}
use Rattle.tv_naming.proofs.Counting.{tally-some}
use Rattle.tv_naming.proofs.Arranged.{by_least-IsArranged, onto, onto-missing, missing, missing-nil, missing-cons, missing-none, all_come, come_not_before_itself}

pub first_on_cycle-none : (g : Graph) → ((v : ℕ) → v < length g → is_on_cycle g v ≡ false) → first_on_cycle g ≡ None
first_on_cycle-none g none = find-range-none (is_on_cycle g) (length g) 0 (λ v _ below. none v (omega arith))

pub first_on_cycle-some : (g : Graph) (v : ℕ) → v < length g → is_on_cycle g v ≡ true → ((u : ℕ) → u < v → is_on_cycle g u ≡ false) → first_on_cycle g ≡ Some v
first_on_cycle-some g v below h least = find-range (is_on_cycle g) (length g) 0 v (omega arith) (omega arith) h (λ u _ less. least u less)

pub not_on_cycle : (g : Graph) (v : ℕ) → first_on_cycle g ≡ None → v < length g → is_on_cycle g v ≡ false
not_on_cycle g v e below = find-range-clear (is_on_cycle g) (length g) 0 v e (omega arith) (omega arith)

-- where all vertices come, none comes before itself
pub all_come-no_cycle : (g : Graph) → length (by_least g) ≡ length g → first_on_cycle g ≡ None
all_come-no_cycle g e = first_on_cycle-none g (λ v below. come_not_before_itself g v (length g) (all_come g v e below))

-- where too few come, none of the others may be taken next
pub stuck : (g : Graph) (left : ℕ) (taken : List ℕ) → length (taken_by_least g left taken) < left → find (is_next g (onto taken (taken_by_least g left taken))) (vertices g) ≡ None
stuck g zero taken few = absurd (omega arith)
stuck g (suc n) taken few = stuck_at (find (is_next g taken) (vertices g)) refl few (λ v. stuck g n (v ∷ taken))
  where
    stuck_at : (o : Option ℕ) → find (is_next g taken) (vertices g) ≡ o → length (option_map_or (λ v. v ∷ taken_by_least g n (v ∷ taken)) o []) < suc n →
        ((v : ℕ) → length (taken_by_least g n (v ∷ taken)) < n → find (is_next g (onto (v ∷ taken) (taken_by_least g n (v ∷ taken)))) (vertices g) ≡ None) →
        find (is_next g (onto taken (option_map_or (λ v. v ∷ taken_by_least g n (v ∷ taken)) o []))) (vertices g) ≡ None
    stuck_at None e few rest = e
    stuck_at (Some v) e few rest = rest v (omega arith)

-- ways back among vertices that never come
module _ (g : Graph) (ok : is_graph g ≡ true) (no_cycle : first_on_cycle g ≡ None) (taken : List ℕ) (none_next : find (is_next g taken) (vertices g) ≡ None) where
  waits_for : (v : ℕ) → v < length g → is_one_of taken v ≡ false → (u : ℕ) × (is_one_of (before g v) u ≡ true) × (is_one_of taken u ≡ false)
  waits_for v below fresh =
      let no : is_next g taken v ≡ false = find-range-clear (is_next g taken) (length g) 0 v none_next (omega arith) (omega arith) in
      all-fails-find (is_one_of taken) (before g v) (grind arith)

  -- a way doesn't come back to where it was
  no_return : (way : List ℕ) (u : ℕ) → length way ≤ length g → u < length g → ((w : ℕ) → is_one_of way w ≡ true → comes_before g (length way) u w ≡ true) → is_one_of way u ≡ false
  no_return way u short below walks =
      false_from_ne_true _ (λ again.
      let on : is_on_cycle g u ≡ true = walk-at_most g (length g) (length way) u u short (walks u again) in
      let off : is_on_cycle g u ≡ false = not_on_cycle g u no_cycle below in
      let no : true ≡ false = sym on ∙ off in cc)

  way_back : (d : ℕ) (way : List ℕ) (u : ℕ) → d + length way ≡ length g → missing g way + length way ≡ length g → u < length g → is_one_of taken u ≡ false →
      ((w : ℕ) → is_one_of way w ≡ true → comes_before g (length way) u w ≡ true) → ⊥
  way_back zero way u sum count below fresh walks =
      let new : is_one_of way u ≡ false = no_return way u (omega arith) below walks in
      let no : is_one_of way u ≡ true = missing-none g way u (omega arith) below in
      cc
  way_back (suc d) way u sum count below fresh walks =
      let new : is_one_of way u ≡ false = no_return way u (omega arith) below walks in
      let next = waits_for u below fresh in
      way_back d (u ∷ way) next.0 (omega arith) (omega (arith, missing-cons g way u below new)) (before-below g ok u next.0 next.1) next.2
      (λ w h. elim (or_cases (eqb w u) (is_one_of way w) h) [
        | inl same ↦ walk-edge g (length way) next.0 w (subst (λ (y : ℕ). is_one_of (before g y) next.0 ≡ true) (sym (eqb-true w u same)) next.1)
        | inr old ↦ walk-far g (length way) next.0 u w next.1 (walks w old)
      ])

-- where no vertex comes before itself, all come
pub no_cycle-all_come : (g : Graph) → is_graph g ≡ true → first_on_cycle g ≡ None → length (by_least g) ≡ length g
no_cycle-all_come g ok no_cycle =
    let taken : List ℕ = onto [] (by_least g) in
    let count : missing g taken + length (by_least g) ≡ length g = onto-missing g (by_least g) [] (by_least-IsArranged g) ∙ missing-nil g in
    elim (cases_lt (length (by_least g)) (length g)) [
      | inl few ↦
          let found = tally-some (λ u. not (is_one_of taken u)) (length g) 0 (omega arith) in
          absurd (way_back g ok no_cycle taken (stuck g (length g) [] few) (length g) [] found.0 (omega arith) (omega (arith, missing-nil g)) (omega arith) (not-true _ found.3) (λ w h. cc))
      | inr all ↦ omega arith
    ]
