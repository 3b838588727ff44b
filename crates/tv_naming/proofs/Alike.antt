-- What comes before what, from one to the next, and vertices that come before each other.
use Rattle.std.proofs.Common.{◌≡◌, ℕ, ◌<◌, true, false, ◌&&◌, suc, zero, [], eqb, ltb, length, sym, subst, ap, inl, inr, arith}
use Rattle.std.proofs.lemmas.Bool.{eqb-true, or_cases, ltb-true, cases_lt}
use Rattle.std.proofs.lemmas.Bool.Decides.{nat_tests}
use Rattle.std.proofs.lemmas.Option.{slice_get_past}
use Rattle.std.specs.Prelude.{unwrap_or}
use Rattle.tv_naming.specs.graphs.Graphs.{Graph, is_graph, before, is_one_of, comes_before}
use Rattle.tv_naming.specs.graphs.Leaving.{alike}
use Rattle.tv_naming.proofs.Walks.{walk-last, walk-edge, walk-far, walk-short, walk-closed, before-below}

module _ (g : Graph) where
  -- something comes before it: so it is there
  pub owner-below : (v u : ℕ) → is_one_of (before g v) u ≡ true → v < length g
  owner-below v u h =
      elim (cases_lt v (length g)) [
        | inl below ↦ below
        | inr past ↦ let no : is_one_of (before g v) u ≡ false = ap (λ o. is_one_of (unwrap_or o []) u) (slice_get_past g v (omega arith)) in cc
      ]

  pub walk-to_below : (k w v : ℕ) → comes_before g k w v ≡ true → v < length g
  walk-to_below zero w v h = cc
  walk-to_below (suc k) w v h = let last = walk-last g k w v h in owner-below v last.0 last.1

  module _ (ok : is_graph g ≡ true) where
    pub walk-from_below : (w v : ℕ) → comes_before g (length g) w v ≡ true → w < length g
    walk-from_below w v h =
        ltb-true w (length g) (walk-closed g (λ x. ltb x (length g)) (λ x y _ e. grind (arith, nat_tests, before-below g ok x y e)) (length g) w v (λ y e. grind (arith, nat_tests, before-below g ok v y e)) h)

    -- one edge
    pub near : (w v : ℕ) → is_one_of (before g v) w ≡ true → comes_before g (length g) w v ≡ true
    near w v e = walk-short g ok w v (owner-below v w e) (walk-edge g (length g) w v e)

    -- one edge, and on
    pub on_from : (x w v : ℕ) → is_one_of (before g w) x ≡ true → comes_before g (length g) w v ≡ true → comes_before g (length g) x v ≡ true
    on_from x w v e h = walk-short g ok x v (walk-to_below (length g) w v h) (walk-far g (length g) x w v e h)

    pub join : (a b c : ℕ) → comes_before g (length g) a b ≡ true → comes_before g (length g) b c ≡ true → comes_before g (length g) a c ≡ true
    join a b c ab bc = walk-closed g (λ x. comes_before g (length g) x c) (λ v u h e. on_from u v c e h) (length g) a b (λ u e. on_from u b c e bc) ab

    pub alike-itself : (v : ℕ) → alike g v v ≡ true
    alike-itself v = grind (arith, nat_tests)

    pub alike-both : (w v : ℕ) → comes_before g (length g) w v ≡ true → comes_before g (length g) v w ≡ true → alike g w v ≡ true
    alike-both w v there back = grind arith

    pub alike-turned : (w v : ℕ) → alike g w v ≡ true → alike g v w ≡ true
    alike-turned w v h = grind (arith, nat_tests)

    -- what comes before one comes before the other
    pub alike-before : (u v w : ℕ) → comes_before g (length g) u v ≡ true → alike g v w ≡ true → comes_before g (length g) u w ≡ true
    alike-before u v w h same =
        elim (or_cases (eqb v w) (comes_before g (length g) v w && comes_before g (length g) w v) same) [
          | inl e ↦ subst (λ (x : ℕ). comes_before g (length g) u x ≡ true) (eqb-true v w e) h
          | inr both ↦ join u v w h (grind arith)
        ]

    pub alike-after : (u v w : ℕ) → alike g u v ≡ true → comes_before g (length g) v w ≡ true → comes_before g (length g) u w ≡ true
    alike-after u v w same h =
        elim (or_cases (eqb u v) (comes_before g (length g) u v && comes_before g (length g) v u) same) [
          | inl e ↦ subst (λ (x : ℕ). comes_before g (length g) x w ≡ true) (sym (eqb-true u v e)) h
          | inr both ↦ join u v w (grind arith) h
        ]

    pub alike-join : (a b c : ℕ) → alike g a b ≡ true → alike g b c ≡ true → alike g a c ≡ true
    alike-join a b c ab bc =
        elim (or_cases (eqb a b) (comes_before g (length g) a b && comes_before g (length g) b a) ab) [
          | inl e ↦ subst (λ (x : ℕ). alike g x c ≡ true) (sym (eqb-true a b e)) bc
          | inr both ↦ alike-both a c (alike-before a b c (grind arith) bc) (alike-after c b a (alike-turned b c bc) (grind arith))
        ]
