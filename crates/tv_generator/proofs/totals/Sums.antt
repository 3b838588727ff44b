-- What the jobs of each step add, summed over the pairs of texts.
use Rattle.std.specs.Prelude.{Bool, List, None, Some, [], cond, false, filter, flat_map, length, map, not, refl, true, ℕ, ◌*◌, ◌+◌, ◌++◌, ◌∷◌, ◌≡◌}
use Rattle.std.proofs.Common.{ap, arith, ◌∙◌}
use Rattle.tv_value.specs.Values.{Text}
use Rattle.tv_model.specs.Jobs.{failed_end, good_end}
use Rattle.tv_model.specs.Totals.{Totals}
use Rattle.tv_generator.proofs.totals.Comes.{nested-adds}
use Rattle.tv_generator.proofs.totals.Pairs.{is_true}
use Rattle.tv_generator.proofs.totals.Tallies.{Mark, one, plus, tally, tally-append}

abbrev pub sum : ℕ → ℕ → ℕ → ℕ → Totals
sum a b f j = record { attempts = a; bounced = b; failed = f; jobs = j }

pub same : {a a2 b b2 f f2 j j2 : ℕ} → a ≡ a2 → b ≡ b2 → f ≡ f2 → j ≡ j2 → sum a b f j ≡ sum a2 b2 f2 j2
same p q r s = λ i. sum (p i) (q i) (r i) (s i)

-- those that the step g refuses, and the others
abbrev pub bad : List Text → ℕ
bad ts = length (filter is_true ts)

abbrev pub good : List Text → ℕ
good ts = length (filter (λ t. not (is_true t)) ts)

pub pairs-sum : (ts : List Text) → tally (map (λ t. (1, good_end)) ts) ≡ sum (length ts) 0 0 (length ts)
pairs-sum [] = refl
pairs-sum (t ∷ ts) = ap (plus (one (1, good_end))) (pairs-sum ts) ∙ same (omega arith) refl refl (omega arith)

pub flaky-sum : (ts : List Text) → tally (flat_map (λ t. (2, good_end) ∷ []) ts) ≡ sum (2 * length ts) 0 0 (length ts)
flaky-sum [] = refl
flaky-sum (t ∷ ts) = ap (plus (one (2, good_end))) (flaky-sum ts) ∙ same (omega arith) refl refl (omega arith)

pub fail-sum : (ts : List Text) → tally (flat_map (λ t. (1, cond (is_true t) failed_end good_end) ∷ []) ts) ≡ sum (length ts) 0 (bad ts) (length ts)
fail-sum [] = refl
fail-sum (t ∷ ts) = ap (plus (one (1, cond (is_true t) failed_end good_end))) (fail-sum ts) ∙ by (is_true t)
  where
    by : (c : Bool) → plus (one (1, cond c failed_end good_end)) (sum (length ts) 0 (bad ts) (length ts)) ≡ sum (length (t ∷ ts)) 0 (length (cond c (t ∷ filter is_true ts) (filter is_true ts))) (length (t ∷ ts))
    by true = same (omega arith) refl (omega arith) (omega arith)
    by false = same (omega arith) refl (omega arith) (omega arith)

pub nested-sum : (ts : List Text) → tally (flat_map (λ t. nested-adds (cond (is_true t) None (Some t))) ts) ≡ sum (good ts) (bad ts) 0 (length ts + good ts)
nested-sum [] = refl
nested-sum (t ∷ ts) = by (is_true t) (nested-sum ts)
  where
    by : (c : Bool) → tally (flat_map (λ u. nested-adds (cond (is_true u) None (Some u))) ts) ≡ sum (good ts) (bad ts) 0 (length ts + good ts) → tally (nested-adds (cond c None (Some t)) ++ flat_map (λ u. nested-adds (cond (is_true u) None (Some u))) ts) ≡ sum (length (cond (not c) (t ∷ filter (λ u. not (is_true u)) ts) (filter (λ u. not (is_true u)) ts))) (length (cond c (t ∷ filter is_true ts) (filter is_true ts))) 0 (length (t ∷ ts) + length (cond (not c) (t ∷ filter (λ u. not (is_true u)) ts) (filter (λ u. not (is_true u)) ts)))
    by true e = tally-append (nested-adds None) (flat_map (λ u. nested-adds (cond (is_true u) None (Some u))) ts) ∙ ap (plus (tally (nested-adds None))) e ∙ same (omega arith) (omega arith) refl (omega arith)
    by false e = tally-append (nested-adds (Some t)) (flat_map (λ u. nested-adds (cond (is_true u) None (Some u))) ts) ∙ ap (plus (tally (nested-adds (Some t)))) e ∙ same (omega arith) (omega arith) refl (omega arith)

pub four-sums : (a b c d : List Mark) → tally (a ++ (b ++ (c ++ (d ++ [])))) ≡ plus (tally a) (plus (tally b) (plus (tally c) (plus (tally d) (tally []))))
four-sums a b c d =
    tally-append a (b ++ (c ++ (d ++ [])))
    ∙ ap (plus (tally a)) (tally-append b (c ++ (d ++ [])) ∙ ap (plus (tally b)) (tally-append c (d ++ []) ∙ ap (plus (tally c)) (tally-append d [])))
