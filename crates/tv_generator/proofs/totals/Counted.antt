-- The totals of a generated document's run are the formulas.
use Rattle.std.specs.List.{range_with_len}
use Rattle.std.specs.Prelude.{List, None, Some, [], codes, cond, flat_map, length, map, not, refl, suc, ℕ, ◌*◌, ◌+◌, ◌++◌, ◌-◌, ◌∷◌, ◌≡◌}
use Rattle.std.proofs.Common.{ap, ap₂, arith, sym, ◌∙◌}
use Rattle.std.proofs.lemmas.Grind.{flat_map-append}
use Rattle.std.proofs.lemmas.List.Filters.{length-filter_both}
use Rattle.std.proofs.lemmas.List.Folds.{flat_map-map}
use Rattle.std.proofs.lemmas.List.FromFn.{length-map-range_with_len}
use Rattle.tv_lemmas.proofs.Lists.{flat-flat, map-after}
use Rattle.tv_value.specs.Nested.{Place, all_leaves, leaf, leaves, trees_of}
use Rattle.tv_value.specs.Values.{Name, Text, text, text_value}
use Rattle.tv_gate.specs.Outcomes.{Giving}
use Rattle.tv_strategy.specs.Iterations.{Iteration}
use Rattle.tv_strategy.specs.Origins.{Traced, fixed, input_value, input_values}
use Rattle.tv_model.specs.Jobs.{good_end}
use Rattle.tv_model.specs.Made.{Opened}
use Rattle.tv_model.specs.Meanings.{jobs_with_inside}
use Rattle.tv_model.specs.RowsOfSize.{inner_text, outer_text}
use Rattle.tv_model.specs.Totals.{totals}
use Rattle.tv_model.specs.Writing.{a, b, words, x, y}
use Rattle.tv_generator.specs.Formulas.{GivesAsLocals, HaveTheirTotals, tenths}
use Rattle.tv_generator.specs.Parts.{concat_step, fail_step, flaky_step, nested_step}
use Rattle.tv_generator.proofs.totals.Comes.{fail-adds, fail-comes, fail-gives, flaky-adds, flaky-comes, flaky-gives, nested-adds, nested-comes, pair-adds, pair-comes, pair-gives, within}
use Rattle.tv_generator.proofs.totals.Found.{all_jobs, output}
use Rattle.tv_generator.proofs.totals.Jobs.{marks, tell}
use Rattle.tv_generator.proofs.totals.Pairs.{all-rows, is_true, length-pairs, of-pairs, pairs, small-range}
use Rattle.tv_generator.proofs.totals.Steps.{across, across-adds, across-even, across-tells, over, over-adds, over-even, over-tells, tells, two-lists}
use Rattle.tv_generator.proofs.totals.Sums.{bad, fail-sum, flaky-sum, four-sums, good, nested-sum, pairs-sum, same, sum}
use Rattle.tv_generator.proofs.totals.Tallies.{Mark, mark, plus, tally, totals-tally}
use Rattle.tv_generator.proofs.totals.Walked.{AllEven, Even}

-- ---- a list of texts as an input

even-texts : (n : Name) (q : Place) (i : ℕ) (ts : List Text) → AllEven 0 (input_values n q i (trees_of (map text_value ts)))
even-texts n q i [] = tt
even-texts n q i (t ∷ ts) = (tt, even-texts n q (suc i) ts)

told-texts : (n : Name) (q : Place) (i : ℕ) (ts : List Text) → map tell (all_leaves (input_values n q i (trees_of (map text_value ts)))) ≡ map (λ t. Some t) ts
told-texts n q i [] = refl
told-texts n q i (t ∷ ts) = ap (λ l. Some t ∷ l) (told-texts n q (suc i) ts)

-- ---- on any two lists of texts

module _ (gives : Giving) (as-locals : GivesAsLocals gives) (us vs : List Text) where
  abbrev xs : Traced
  xs = input_value x [] (words us)

  abbrev ys : Traced
  ys = input_value y [] (words vs)

  abbrev ps : List Text
  ps = pairs us vs

  -- the iterations of the steps, and what each gives
  abbrev at-pairs : Iteration
  at-pairs = across gives (within gives as-locals 7) (codes "c") concat_step a b pair-adds pair-gives (pair-comes gives as-locals) xs ys (even-texts x [] 0 us) (even-texts y [] 0 vs)

  abbrev paired : Traced
  paired = output gives (within gives as-locals 7) [] (codes "c") concat_step [] at-pairs 2

  abbrev at-flaky : Iteration
  at-flaky = over gives (within gives as-locals 7) (codes "f") flaky_step a (fixed ∷ []) ((codes "n", leaf fixed (text (codes "1"))) ∷ []) paired

  abbrev tried : Traced
  tried = output gives (within gives as-locals 7) [] (codes "f") flaky_step [] at-flaky 2

  abbrev at-fail : Iteration
  at-fail = over gives (within gives as-locals 7) (codes "g") fail_step a [] [] tried

  abbrev passed-on : Traced
  passed-on = output gives (within gives as-locals 7) [] (codes "g") fail_step [] at-fail 2

  abbrev at-nested : Iteration
  at-nested = over gives (within gives as-locals 7) (codes "n") nested_step a [] [] passed-on

  paired-even : Even 2 paired
  paired-even = across-even gives (within gives as-locals 7) (codes "c") concat_step a b pair-adds pair-gives (pair-comes gives as-locals) xs ys (even-texts x [] 0 us) (even-texts y [] 0 vs)

  tried-even : Even 2 tried
  tried-even = over-even gives (within gives as-locals 7) (codes "f") flaky_step a (fixed ∷ []) ((codes "n", leaf fixed (text (codes "1"))) ∷ []) flaky-adds flaky-gives (flaky-comes gives as-locals) paired paired-even

  passed-even : Even 2 passed-on
  passed-even = over-even gives (within gives as-locals 7) (codes "g") fail_step a [] [] fail-adds fail-gives (fail-comes gives as-locals) tried tried-even

  -- what is told of each
  paired-tells : tells paired ≡ map (λ t. Some t) ps
  paired-tells =
      across-tells gives (within gives as-locals 7) (codes "c") concat_step a b pair-adds pair-gives (pair-comes gives as-locals) xs ys (even-texts x [] 0 us) (even-texts y [] 0 vs)
      ∙ two-lists (λ m n. pair-gives m n ∷ []) us vs (leaves xs) (leaves ys) (told-texts x [] 0 us) (told-texts y [] 0 vs)
      ∙ of-pairs (λ t. Some t) vs us

  tried-tells : tells tried ≡ map (λ t. Some t) ps
  tried-tells =
      over-tells gives (within gives as-locals 7) (codes "f") flaky_step a (fixed ∷ []) ((codes "n", leaf fixed (text (codes "1"))) ∷ []) flaky-adds flaky-gives (flaky-comes gives as-locals) paired paired-even
      ∙ ap (map flaky-gives) paired-tells
      ∙ sym (map-after flaky-gives (λ t. Some t) ps)

  passed-tells : tells passed-on ≡ map (λ t. cond (is_true t) None (Some t)) ps
  passed-tells =
      over-tells gives (within gives as-locals 7) (codes "g") fail_step a [] [] fail-adds fail-gives (fail-comes gives as-locals) tried tried-even
      ∙ ap (map fail-gives) tried-tells
      ∙ sym (map-after fail-gives (λ t. Some t) ps)

  -- what the jobs of each add
  abbrev adding : List Opened → List Mark
  adding os = flat_map marks os

  abbrev pair-jobs : List Opened
  pair-jobs = all_jobs gives (within gives as-locals 7) [] (codes "c") concat_step [] at-pairs

  abbrev flaky-jobs : List Opened
  flaky-jobs = all_jobs gives (within gives as-locals 7) [] (codes "f") flaky_step [] at-flaky

  abbrev fail-jobs : List Opened
  fail-jobs = all_jobs gives (within gives as-locals 7) [] (codes "g") fail_step [] at-fail

  abbrev nested-jobs : List Opened
  nested-jobs = all_jobs gives (within gives as-locals 7) [] (codes "n") nested_step [] at-nested

  pairs-tally : tally (adding pair-jobs) ≡ sum (length ps) 0 0 (length ps)
  pairs-tally =
      ap tally
      (across-adds gives (within gives as-locals 7) (codes "c") concat_step a b pair-adds pair-gives (pair-comes gives as-locals) xs ys (even-texts x [] 0 us) (even-texts y [] 0 vs)
      ∙ two-lists pair-adds us vs (leaves xs) (leaves ys) (told-texts x [] 0 us) (told-texts y [] 0 vs)
      ∙ of-pairs (λ t. (1, good_end)) vs us)
      ∙ pairs-sum ps

  flaky-tally : tally (adding flaky-jobs) ≡ sum (2 * length ps) 0 0 (length ps)
  flaky-tally =
      ap tally
      (over-adds gives (within gives as-locals 7) (codes "f") flaky_step a (fixed ∷ []) ((codes "n", leaf fixed (text (codes "1"))) ∷ []) flaky-adds (λ q o c. (flaky-comes gives as-locals q o c).adds) paired paired-even
      ∙ ap (flat_map flaky-adds) paired-tells
      ∙ flat_map-map flaky-adds (λ t. Some t) ps)
      ∙ flaky-sum ps

  fail-tally : tally (adding fail-jobs) ≡ sum (length ps) 0 (bad ps) (length ps)
  fail-tally =
      ap tally
      (over-adds gives (within gives as-locals 7) (codes "g") fail_step a [] [] fail-adds (λ q o c. (fail-comes gives as-locals q o c).adds) tried tried-even
      ∙ ap (flat_map fail-adds) tried-tells
      ∙ flat_map-map fail-adds (λ t. Some t) ps)
      ∙ fail-sum ps

  nested-tally : tally (adding nested-jobs) ≡ sum (good ps) (bad ps) 0 (length ps + good ps)
  nested-tally =
      ap tally
      (over-adds gives (within gives as-locals 7) (codes "n") nested_step a [] [] nested-adds (nested-comes gives as-locals) passed-on passed-even
      ∙ ap (flat_map nested-adds) passed-tells
      ∙ flat_map-map nested-adds (λ t. cond (is_true t) None (Some t)) ps)
      ∙ nested-sum ps

  abbrev all-opened : List Opened
  all-opened = nested-jobs ++ (fail-jobs ++ (flaky-jobs ++ (pair-jobs ++ [])))

  opened-adding : adding all-opened ≡ adding nested-jobs ++ (adding fail-jobs ++ (adding flaky-jobs ++ (adding pair-jobs ++ [])))
  opened-adding =
      flat_map-append marks nested-jobs (fail-jobs ++ (flaky-jobs ++ (pair-jobs ++ [])))
      ∙ ap (λ l. adding nested-jobs ++ l)
      (flat_map-append marks fail-jobs (flaky-jobs ++ (pair-jobs ++ []))
      ∙ ap (λ l. adding fail-jobs ++ l) (flat_map-append marks flaky-jobs (pair-jobs ++ []) ∙ ap (λ l. adding flaky-jobs ++ l) (flat_map-append marks pair-jobs [])))

  -- as many jobs as attempts: five for each pair, less those that open no flow
  all-totals : totals (flat_map jobs_with_inside all-opened) ≡ sum (5 * length ps - bad ps) (bad ps) (bad ps) (5 * length ps - bad ps)
  all-totals =
      let rest = length-filter_both is_true (λ t. not (is_true t)) (λ t. refl) ps in
      totals-tally (flat_map jobs_with_inside all-opened)
      ∙ ap tally (flat-flat mark jobs_with_inside all-opened ∙ opened-adding)
      ∙ four-sums (adding nested-jobs) (adding fail-jobs) (adding flaky-jobs) (adding pair-jobs)
      ∙ (λ i. plus (nested-tally i) (plus (fail-tally i) (plus (flaky-tally i) (plus (pairs-tally i) (tally [])))))
      ∙ same (omega (arith, rest)) (omega arith) (omega arith) (omega (arith, rest))

-- ---- the generated document

pub have-their-totals : HaveTheirTotals
have-their-totals gives as-locals n h =
    all-totals gives as-locals (map outer_text (range_with_len 0 n)) (map inner_text (range_with_len 0 n))
    ∙ (λ i. sum (5 * many i - few i) (few i) (few i) (5 * many i - few i))
  where
    many : length (pairs (map outer_text (range_with_len 0 n)) (map inner_text (range_with_len 0 n))) ≡ n * n
    many = length-pairs (map outer_text (range_with_len 0 n)) (map inner_text (range_with_len 0 n)) ∙ ap₂ (λ k m. k * m) (length-map-range_with_len outer_text 0 n) (length-map-range_with_len inner_text 0 n)

    few : bad (pairs (map outer_text (range_with_len 0 n)) (map inner_text (range_with_len 0 n))) ≡ tenths n * tenths n
    few = all-rows (range_with_len 0 n) (range_with_len 0 n) (small-range 0 n (omega (arith, h)))
