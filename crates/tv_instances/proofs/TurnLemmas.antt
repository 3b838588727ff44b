-- The positions of the steps of an order, and steps that aren't passed any more.
use Rattle.std.specs.Option.{option_map_or}
use Rattle.std.specs.Prelude.{◌≡◌, refl, ℕ, zero, suc, ◌+◌, ◌-◌, ◌<◌, ◌≤◌, nat_lt, List, get_or, [], ◌∷◌, ◌++◌, Some, length, slice_get}
use Rattle.std.proofs.Common.{ap, arith, set, subst, sym, ◌∙◌}
use Rattle.std.proofs.lemmas.Bool.{ltb-false, ltb-true, cases_eq}
use Rattle.std.proofs.lemmas.List.{length-set}
use Rattle.std.proofs.lemmas.Option.{get_or_from_slice_get, none-some, same_Some, slice_get_within}
use Rattle.tv_lemmas.proofs.Cases.{on_either, on_test}
use Rattle.tv_lemmas.proofs.Lists.{get-within}
use Rattle.tv_value.specs.Nested.{Place}
use Rattle.tv_check.proofs.Ranked.{get-set-other, get-set-same}
use Rattle.tv_seats.specs.Seats.{Seat}
use Rattle.tv_forest.proofs.seats.Lists.{in-either}
use Rattle.tv_instances.specs.Seating.{seat_for}
use Rattle.tv_instances.specs.Turns.{AreTurns, TakeIn, TakesIn, turn_of}
use Rattle.tv_instances.specs.declared.turns.Turns.{Turns}

-- ---- the table

-- the positions from that one on stand in the table
pub record AreFilled (order ps : List ℕ) (steps from : ℕ) : Type 0 where
  pub long : length ps ≡ steps
  pub filled :
      (i k : ℕ) → from ≤ i → slice_get order i ≡ Some k
      → (slice_get order (turn_of ps k) ≡ Some k) × (turn_of ps k ≤ i)

module _ (order ps : List ℕ) (steps from at k : ℕ) (there : slice_get order at ≡ Some k) (low : k < steps)
    (f : AreFilled order ps steps from) (is : from ≡ at + 1) where
  here : turn_of (set ps k at) k ≡ at
  here =
      ap (λ o. option_map_or (λ (i : ℕ). i) o 0)
      (get-set-same ps k at (let l = f.long in omega (arith, low, l)))

  other : (l : ℕ) → (k ≡ l → ⊥) → turn_of (set ps k at) l ≡ turn_of ps l
  other l ne = ap (λ o. option_map_or (λ (i : ℕ). i) o 0) (get-set-other ps k l at ne)

  pub next-filled : (to : ℕ) → to ≡ at → AreFilled order (set ps k at) steps to
  next-filled to down = record {
    long = length-set ps k at ∙ f.long;
    filled = λ i l le e.
        on_either (cases_eq k l)
        (λ same. (
          ap (slice_get order) (ap (turn_of (set ps k at)) (sym same) ∙ here) ∙ there ∙ ap Some same,
          let h = ap (turn_of (set ps k at)) (sym same) ∙ here in omega (arith, h, le, down),
        ))
        (λ ne.
        let w = f.filled i l (later i l (omega (arith, le, down)) e ne) e in
        (ap (slice_get order) (other l ne) ∙ w.0, let h = other l ne in let b = w.1 in omega (arith, h, b)));
  }
    where
      later : (i l : ℕ) → at ≤ i → slice_get order i ≡ Some l → (k ≡ l → ⊥) → from ≤ i
      later i l le e ne =
          on_test (nat_lt at i) (λ h. let a = ltb-true at i h in omega (arith, a, is))
          (λ h.
          let b = ltb-false at i h in
          let same : at ≡ i = omega (arith, b, le) in
          absurd (ne (same_Some k l (sym there ∙ ap (slice_get order) same ∙ e))))

pub more-filled : (order ps : List ℕ) (steps done : ℕ) → done < length order
    → ((i k : ℕ) → slice_get order i ≡ Some k → k < steps) → AreFilled order ps steps (length order - done)
    → AreFilled order (set ps (get_or order (length order - 1 - done) 0) (length order - 1 - done)) steps
    (length order - (done + 1))
more-filled order ps steps done low steps-low f =
    next-filled order ps steps (length order - done) at k there (steps-low at k there) f (omega (arith, low))
    (length order - (done + 1)) (omega (arith, low))
  where
    at : ℕ
    at = length order - 1 - done

    k : ℕ
    k = get_or order at 0

    there : slice_get order at ≡ Some k
    there =
        let x = get-within order at (omega (arith, low)) in
        x.1 ∙ ap Some (sym (get_or_from_slice_get order at x.0 0 x.1))

pub all-filled : (order ps : List ℕ) (steps from : ℕ) → from ≡ 0 → AreFilled order ps steps from → AreTurns order ps
all-filled order ps steps from none f = record {
  there = λ i k e. (f.filled i k (omega (arith, none)) e).0;
  first = λ i k e. (f.filled i k (omega (arith, none)) e).1;
}

-- ---- steps that aren't passed

pub none-more : (t : Turns) (xs : List Seat) (number : ℕ) → number ≡ length xs → TakeIn t t (length xs) xs
none-more t xs number is = record {
  positions = refl;
  fewer = omega arith;
  ahead = λ m s e l. let w = slice_get_within xs m s e in absurd (omega (arith, w, l));
}

pub one-more : (t u w : Turns) (n : ℕ) (ys zs : List Seat) (j : ℕ × Place) → TakeIn t u n ys → TakesIn u w j.0
    → zs ≡ ys ++ seat_for j ∷ [] → TakeIn t w n zs
one-more t u w n ys zs j all one is = record {
  positions = one.positions ∙ all.positions;
  fewer = let a = one.fewer in let b = all.fewer in omega (arith, a, b);
  ahead = λ m s e l.
      on_either (in-either ys (seat_for j ∷ []) m s (ap (λ l. slice_get l m) (sym is) ∙ e))
      (λ f. let a = all.ahead m s f l in let b = one.fewer in omega (arith, a, b))
      (λ p.
      let k = last (seat_for j) p.0 s p.1 in
      subst (λ i. w.from ≤ turn_of t.positions.items i) (ap (λ (v : Seat). v.step) k)
      (subst (λ ps. w.from ≤ turn_of ps j.0) all.positions one.ahead));
}
  where
    last : (x : Seat) (p : ℕ) (s : Seat) → slice_get (x ∷ []) p ≡ Some s → x ≡ s
    last x zero s e = same_Some x s e
    last x (suc p) s e = absurd (none-some s e)
