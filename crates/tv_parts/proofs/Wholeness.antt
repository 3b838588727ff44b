-- A whole part below a value is the value, and a list is whole where its counter is its length.
use Rattle.std.specs.Prelude.{◌≡◌, refl, ℕ, zero, suc, ◌+◌, ◌≤◌, Bool, true, false, ◌&&◌, ◌==◌}
use Rattle.std.proofs.Common.{arith, sym, ap, ◌∙◌}
use Rattle.std.proofs.lemmas.Bool.{eqb-true, eq-eqb}
use Rattle.std.specs.Cmp.{first_so, second_so}
use Rattle.tv_value.specs.Nested.{leaf, list, no_trees, tree}
use Rattle.tv_value.specs.Values.{Value}
use Rattle.tv_parts.specs.Partials.{Partial, wanting, item, growing, closed, Parts, no_parts, part, part_count, part_of, whole, all_whole, one_if, whole_count}
use Rattle.tv_parts.specs.Below.{Values, Below, EachBelow, value_in, values_in}
use Rattle.tv_parts.specs.Changes.{with_part}

-- ---- a whole part is the value

mutual
  pub whole-is : (r : Partial Value) (v : Value) → Below r v → whole r ≡ true → value_in r ≡ v
  whole-is wanting v h w = absurd (cc)
  whole-is (item u) v h w = h
  whole-is (growing ps) v h w = absurd (cc)
  whole-is (closed ps) (leaf n a) h w = absurd h
  whole-is (closed ps) (list n vs) h w = ap (list tt) (whole-are ps vs h w)

  whole-are : (ps : Parts Value) (vs : Values) → EachBelow ps vs → all_whole ps ≡ true → values_in ps ≡ vs
  whole-are no_parts no_trees h w = refl
  whole-are no_parts (tree v vs) h w = absurd h
  whole-are (part r ps) no_trees h w = absurd h
  whole-are (part r ps) (tree v vs) h w =
      ap (λ u. tree u (values_in ps)) (whole-is r v h.0 (first_so (whole r) (all_whole ps) w)) ∙ ap (tree v) (whole-are ps vs h.1 (second_so (whole r) (all_whole ps) w))

-- ---- whole by counting

pub whole-counts : {A : Type 0} (ps : Parts A) → (all_whole ps ≡ (whole_count ps == part_count ps)) × (whole_count ps ≤ part_count ps)
whole-counts no_parts = (refl, omega arith)
whole-counts (part r ps) = by (whole r) (whole-counts ps)
  where
    fewer : (m n : ℕ) → m ≤ n → (m == suc n) ≡ false
    fewer m n h = test (m == suc n) refl
      where
        test : (b : Bool) → (m == suc n) ≡ b → (m == suc n) ≡ false
        test false e = e
        test true e = absurd (none m n h (eqb-true m (suc n) e))
          where
            none : (m n : ℕ) → m ≤ n → m ≡ suc n → ⊥
            none m n h e = omega arith

    by : (b : Bool) → (all_whole ps ≡ (whole_count ps == part_count ps)) × (whole_count ps ≤ part_count ps) → ((b && all_whole ps) ≡ (one_if b + whole_count ps == suc (part_count ps))) × (one_if b + whole_count ps ≤ suc (part_count ps))
    by true h = (h.0 ∙ same (whole_count ps) (part_count ps), omega arith)
      where
        same : (m n : ℕ) → (m == n) ≡ (1 + m == suc n)
        same m n = test (m == n) (1 + m == suc n) refl refl
          where
            test : (b c : Bool) → (m == n) ≡ b → (1 + m == suc n) ≡ c → (m == n) ≡ (1 + m == suc n)
            test true true e f = e ∙ sym f
            test false false e f = e ∙ sym f
            test true false e f = e ∙ sym (eq-eqb (1 + m) (suc n) (up m n (eqb-true m n e)))
              where
                up : (m n : ℕ) → m ≡ n → 1 + m ≡ suc n
                up m n e = omega arith
            test false true e f = eq-eqb m n (down m n (eqb-true (1 + m) (suc n) f)) ∙ sym f
              where
                down : (m n : ℕ) → 1 + m ≡ suc n → m ≡ n
                down m n e = omega arith
    by false h = (sym (ap (λ m. m == suc (part_count ps)) (none (whole_count ps)) ∙ fewer (whole_count ps) (part_count ps) h.1), omega arith)
      where
        none : (m : ℕ) → 0 + m ≡ m
        none m = omega arith

-- a part that wasn't whole is exchanged: the counter rises by one where the new part is whole
pub count-with : {A : Type 0} (p : Partial A) (ps : Parts A) (i : ℕ) → whole (part_of ps i) ≡ false → whole_count (with_part p ps i) ≡ one_if (whole p) + whole_count ps
count-with p no_parts zero h = refl
count-with p no_parts (suc i) h = ap (λ n. 0 + n) (count-with p no_parts i h) ∙ none (one_if (whole p))
  where
    none : (m : ℕ) → 0 + (m + 0) ≡ m + 0
    none m = omega arith
count-with p (part r ps) zero h = ap (λ n. one_if (whole p) + n) (sym (ap (λ b. one_if b + whole_count ps) h ∙ none (whole_count ps)))
  where
    none : (m : ℕ) → 0 + m ≡ m
    none m = omega arith
count-with p (part r ps) (suc i) h = ap (λ n. one_if (whole r) + n) (count-with p ps i h) ∙ flip (one_if (whole r)) (one_if (whole p)) (whole_count ps)
  where
    flip : (a b c : ℕ) → a + (b + c) ≡ b + (a + c)
    flip a b c = omega arith
