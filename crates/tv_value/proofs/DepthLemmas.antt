-- The depths of a value are those that it has, and the least of them is the least.
use Rattle.std.specs.Prelude.{◌≡◌, refl, ℕ, zero, suc, ◌+◌, ◌≤◌, ◌<◌, ◌↔◌, Bool, true, false, ◌==◌, nat_lt, nat_le, if◌then◌else◌, Some, None, is_some}
use Rattle.std.proofs.Common.{arith, sym, subst, ap, ◌∙◌, true≢false}
use Rattle.std.proofs.lemmas.Bool.{ltb-false, leb-true, leb-false, eqb-true, eqb-false, eq-eqb, and_parts, and_from}
use Rattle.tv_value.specs.Nested.{leaf, list, Trees, no_trees, tree}
use Rattle.tv_value.specs.Values.{Scalar, Value, scalar_depth, HasDepth, AllHaveDepth, has_depth, all_have_depth}
use Rattle.tv_value.specs.DepthSets.{DepthSet, exactly, at_least, no_depth, IsOneOf, common, one_deeper, depths, common_depths, least_of, depth_limit}
use Rattle.tv_value.specs.Laws.{TestDecidesDepth, DepthsAreThose, LeastDepthIsLeast, RaggedHasNoDepth}

mutual
  test : (v : Value) (d : ℕ) → (has_depth v d ≡ true) ↔ HasDepth v d
  test (leaf n a) d = (eqb-true (scalar_depth a) d, eq-eqb (scalar_depth a) d)
  test (list n ts) zero = (λ h. absurd (true≢false (sym h)), λ h. absurd h)
  test (list n ts) (suc d) = all-test ts d

  all-test : (ts : Trees (Unit {0}) Scalar) (d : ℕ) → (all_have_depth ts d ≡ true) ↔ AllHaveDepth ts d
  all-test no_trees d = (λ h. tt, λ h. refl)
  all-test (tree t ts) d = (
    λ h. let p = and_parts (has_depth t d) (all_have_depth ts d) h in ((test t d).0 p.0, (all-test ts d).0 p.1),
    λ h. and_from (has_depth t d) (all_have_depth ts d) ((test t d).1 h.0) ((all-test ts d).1 h.1),
  )

pub test-decides : TestDecidesDepth
test-decides = test

exact-exact : (c d n : ℕ) (b : Bool) → (c == d) ≡ b → IsOneOf (if b then exactly c else no_depth) n ↔ ((c ≡ n) × (d ≡ n))
exact-exact c d n true h = (λ e. (e, sym (eqb-true c d h) ∙ e), λ p. p.0)
exact-exact c d n false h = (λ e. absurd e, λ p. eqb-false c d h (p.0 ∙ sym p.1))

exact-least : (c d n : ℕ) (b : Bool) → nat_le d c ≡ b → IsOneOf (if b then exactly c else no_depth) n ↔ ((c ≡ n) × (d ≤ n))
exact-least c d n true h = (λ e. (e, subst (λ m. d ≤ m) e (leb-true d c h)), λ p. p.0)
exact-least c d n false h = (λ e. absurd e, λ p. omega (arith, leb-false d c h, p.0, p.1))

least-exact : (c d n : ℕ) (b : Bool) → nat_le c d ≡ b → IsOneOf (if b then exactly d else no_depth) n ↔ ((c ≤ n) × (d ≡ n))
least-exact c d n true h = (λ e. (subst (λ m. c ≤ m) e (leb-true c d h), e), λ p. p.1)
least-exact c d n false h = (λ e. absurd e, λ p. omega (arith, leb-false c d h, p.0, p.1))

common-both : (e f : DepthSet) (n : ℕ) → IsOneOf (common e f) n ↔ (IsOneOf e n × IsOneOf f n)
common-both (exactly c) (exactly d) n = exact-exact c d n (c == d) refl
common-both (exactly c) (at_least d) n = exact-least c d n (nat_le d c) refl
common-both (exactly c) no_depth n = (λ e. absurd e, λ p. p.1)
common-both (at_least c) (exactly d) n = least-exact c d n (nat_le c d) refl
common-both (at_least c) (at_least d) n = (λ e. (omega (arith, e), omega (arith, e)), λ p. omega (arith, p.0, p.1))
common-both (at_least c) no_depth n = (λ e. absurd e, λ p. p.1)
common-both no_depth f n = (λ e. absurd e, λ p. p.0)

deeper-exact : (c n : ℕ) (b : Bool) → nat_lt (c + 1) depth_limit ≡ b → suc n < depth_limit → IsOneOf (if b then exactly (c + 1) else no_depth) (suc n) ↔ (c ≡ n)
deeper-exact c n true h k = (λ e. omega (arith, e), λ e. omega (arith, e))
deeper-exact c n false h k = (λ e. absurd e, λ e. omega (arith, ltb-false (c + 1) depth_limit h, e, k))

deeper-least : (c n : ℕ) (b : Bool) → nat_lt (c + 1) depth_limit ≡ b → suc n < depth_limit → IsOneOf (if b then at_least (c + 1) else no_depth) (suc n) ↔ (c ≤ n)
deeper-least c n true h k = (λ e. omega (arith, e), λ e. omega (arith, e))
deeper-least c n false h k = (λ e. absurd e, λ e. omega (arith, ltb-false (c + 1) depth_limit h, e, k))

deeper : (e : DepthSet) (n : ℕ) → suc n < depth_limit → IsOneOf (one_deeper e) (suc n) ↔ IsOneOf e n
deeper (exactly c) n k = deeper-exact c n (nat_lt (c + 1) depth_limit) refl k
deeper (at_least c) n k = deeper-least c n (nat_lt (c + 1) depth_limit) refl k
deeper no_depth n k = (λ e. e, λ e. e)

not-zero-exact : (c : ℕ) (b : Bool) → IsOneOf (if b then exactly (c + 1) else no_depth) 0 → ⊥
not-zero-exact c true e = omega (arith, e)
not-zero-exact c false e = e

not-zero-least : (c : ℕ) (b : Bool) → IsOneOf (if b then at_least (c + 1) else no_depth) 0 → ⊥
not-zero-least c true e = omega (arith, e)
not-zero-least c false e = e

not-zero : (e : DepthSet) → IsOneOf (one_deeper e) 0 → ⊥
not-zero (exactly c) h = not-zero-exact c (nat_lt (c + 1) depth_limit) h
not-zero (at_least c) h = not-zero-least c (nat_lt (c + 1) depth_limit) h
not-zero no_depth h = h

mutual
  those : (v : Value) (d : ℕ) → d < depth_limit → HasDepth v d ↔ IsOneOf (depths v) d
  those (leaf n a) d k = (λ h. h, λ h. h)
  those (list n ts) zero k = (λ h. absurd h, λ h. not-zero (common_depths ts) h)
  those (list n ts) (suc d) k =
      let inner = all-those ts d (omega (arith, k)) in
      let outer = deeper (common_depths ts) d k in
      (λ h. outer.1 (inner.0 h), λ h. inner.1 (outer.0 h))

  all-those : (ts : Trees (Unit {0}) Scalar) (d : ℕ) → d < depth_limit → AllHaveDepth ts d ↔ IsOneOf (common_depths ts) d
  all-those no_trees d k = (λ h. omega arith, λ h. tt)
  all-those (tree t ts) d k =
      let first = those t d k in
      let rest = all-those ts d k in
      let both = common-both (depths t) (common_depths ts) d in
      (λ h. both.1 (first.0 h.0, rest.0 h.1), λ h. (first.1 (both.0 h).0, rest.1 (both.0 h).1))

pub depths-those : DepthsAreThose
depths-those = those

some-same : (c d : ℕ) → Some c ≡ Some d → c ≡ d
some-same c d h = cc

least-one : (e : DepthSet) (d : ℕ) → least_of e ≡ Some d → IsOneOf e d × ((c : ℕ) → IsOneOf e c → d ≤ c)
least-one (exactly c) d h = (some-same c d h, λ b k. omega (arith, some-same c d h, k))
least-one (at_least c) d h = (omega (arith, some-same c d h), λ b k. omega (arith, some-same c d h, k))
least-one no_depth d h = absurd (true≢false (ap is_some (sym h)))

least-none : (e : DepthSet) (d : ℕ) → least_of e ≡ None → IsOneOf e d → ⊥
least-none (exactly c) d h k = true≢false (ap is_some h)
least-none (at_least c) d h k = true≢false (ap is_some h)
least-none no_depth d h k = k

not-greater : (d c : ℕ) → (c < d → ⊥) → d ≤ c
not-greater d c h = omega (arith, h)

pub least-least : LeastDepthIsLeast
least-least v d k h =
    let least = least-one (depths v) d h in
    ((those v d k).1 least.0, λ c g. at_most c g)
  where
    at_most : (c : ℕ) → HasDepth v c → d ≤ c
    at_most c g = not-greater d c (λ s. below s)
      where
        below : c < d → ⊥
        below s = omega (arith, s, (least-one (depths v) d h).1 c ((those v c (omega (arith, s, k))).0 g))

pub ragged-none : RaggedHasNoDepth
ragged-none v d k h g = least-none (depths v) d h ((those v d k).0 g)
