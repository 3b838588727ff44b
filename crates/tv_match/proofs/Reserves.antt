-- Room for tellings.
use Rattle.std.proofs.Common.{◌≡◌, refl, ℕ, ◌+◌, ◌<◌, ◌≤◌, true, false, List, [], ◌∷◌, ◌++◌, map, length, take, drop, sym, ap, subst, ◌∙◌, arith, length-append}
use Rattle.std.proofs.Math.Seq.{drop-append_seam, take-length}
use Rattle.std.proofs.lemmas.List.Sorted.{length_permutation}
use Rattle.std.proofs.lemmas.List.{length-take-le, length-map, map-append}
use Rattle.tv_lemmas.specs.Members.{Each}
use Rattle.tv_value.specs.Values.{Name}
use Rattle.tv_value.specs.Strategies.{Strategy}
use Rattle.tv_strategy.specs.Conditions.{number_of}
use Rattle.tv_strategy.specs.Measures.{leaf_names}
use Rattle.tv_strategy.proofs.Sources.{each-append}
use Rattle.tv_matching.specs.Members.{Once}
use Rattle.tv_matching.specs.Told.{told_to, matched_after, count_of_added, IsFit}
use Rattle.tv_matching.specs.Matchers.{Matching, out as out_of, CanTellAll, Holds}
use Rattle.tv_matching.specs.Stores.{store_for, worked_items}
use Rattle.tv_matching.proofs.LawLemmas.{tellings-count}
use Rattle.tv_match.specs.declared.told.Told as code
use Rattle.tv_match.specs.Entries.{Entry, kepts, front}
use Rattle.tv_match.specs.Brief.{briefs}
use Rattle.tv_match.specs.Filed.{Filed}
use Rattle.tv_match.specs.Seen.{telling_of, tellings_of, outcome_of, told_view, leaf_of, NameLeaves, entry_of, seen_as, AreSound, IsProper}
use Rattle.tv_match.specs.Working.{IsDone, unit_news, news_of}
use Rattle.tv_match.proofs.Fronts.{front-first, front-again}
use Rattle.tv_match.proofs.Working.{take-less, take-within}
use Rattle.tv_match.proofs.Seeing.{out-all, bound-proper, closed-proper, fault-proper}
use Rattle.tv_match.proofs.Calls.{each-take}

module _ (s : Strategy) where
  listed-one : (t : code.Told) → telling_of s (entry_of t) ≡ told_view s t
  listed-one (code.Told.Arrival l q true) = refl
  listed-one (code.Told.Arrival l q false) = refl
  listed-one (code.Told.Faulty l q) = refl
  listed-one (code.Told.Close l q n) = refl

  listed-all : (ts : List code.Told) → tellings_of s (map entry_of ts) ≡ map (told_view s) ts
  listed-all [] = refl
  listed-all (t ∷ ts) = ap (λ x. x ∷ tellings_of s (map entry_of ts)) (listed-one t) ∙ ap (λ l. told_view s t ∷ l) (listed-all ts)

  -- what can be told is fit
  all-fit : (m : Matching) (ts : List code.Told) → CanTellAll m (map (told_view s) ts) → Each (λ e. IsFit (number_of m.mismatch) (telling_of s e)) (map entry_of ts)
  all-fit m [] h = tt
  all-fit m (t ∷ ts) h = (subst (IsFit (number_of m.mismatch)) (sym (listed-one t)) h.0.0, all-fit (record m { told = m.told ++ told_view s t ∷ [] }) ts h.1)

module _ (s : Strategy) (mm : List (Name × ℕ)) (root : Filed) (log out : List Entry) (n g : ℕ) (a : AreSound s mm root log out n g) (ts : List code.Told) (names : NameLeaves s ts) (can : CanTellAll (seen_as s mm log out n g) (map (told_view s) ts)) (two : Filed) (more outs : List Entry) (m : more ≡ take n log ++ map entry_of ts) (d : IsDone (number_of mm) s two more outs) (fr : front n outs ≡ front n (front n out)) where
  one-proper : (t : code.Told) → leaf_of t < length (leaf_names s) → IsProper s (entry_of t)
  one-proper (code.Told.Arrival l q true) h = fault-proper s a.suits.leaves_differ l q h
  one-proper (code.Told.Arrival l q false) h = bound-proper s a.suits.leaves_differ l q false h
  one-proper (code.Told.Faulty l q) h = bound-proper s a.suits.leaves_differ l q true h
  one-proper (code.Told.Close l q k) h = closed-proper s a.suits.leaves_differ l q k h

  all-proper : (ts : List code.Told) → NameLeaves s ts → Each (IsProper s) (map entry_of ts)
  all-proper [] h = tt
  all-proper (t ∷ ts) h = (one-proper t h.0, all-proper ts h.1)

  long : length (take n log) ≡ n
  long = length-take-le n log a.told_within

  same-first : take n more ≡ take n log
  same-first = ap (take n) m ∙ take-within n (take n log) (map entry_of ts) (let l = long in omega (arith, l)) ∙ take-less n n log (omega arith)

  same-front : front n outs ≡ front n out
  same-front = fr ∙ front-again n out

  proper : Each (IsProper s) more
  proper = subst (Each (IsProper s)) (sym m) (each-append (IsProper s) (take n log) (map entry_of ts) (each-take (IsProper s) n log a.proper) (all-proper ts names))

  fit : Each (λ e. IsFit (number_of mm) (telling_of s e)) more
  fit =
      subst (Each (λ e. IsFit (number_of mm) (telling_of s e))) (sym m)
      (each-append (λ e. IsFit (number_of mm) (telling_of s e)) (take n log) (map entry_of ts) (each-take (λ e. IsFit (number_of mm) (telling_of s e)) n log a.fit) (all-fit s (seen_as s mm log out n g) ts can))

  pub held-sound : AreSound s mm two more outs n g
  held-sound =
      record {
        suits = a.suits;
        agree = a.agree;
        fit = fit;
        once = λ q. subst (λ x. Once (told_to (tellings_of s x) q)) (sym same-first) (a.once q);
        proper = proper;
        done = d;
        told_within = let k = ap length m in let j = length-append (take n log) (map entry_of ts) in let l = long in omega (arith, k, j, l);
        given_within = subst (λ x. g ≤ length x) (sym same-front) a.given_within;
      }

  first-given : take g outs ≡ take g out
  first-given =
      sym (ap (take g) (sym (front-first n outs)) ∙ take-less g (length (front n outs)) outs (subst (λ x. g ≤ length x) (sym same-front) a.given_within))
      ∙ ap (take g) same-front
      ∙ ap (take g) (sym (front-first n out))
      ∙ take-less g (length (front n out)) out a.given_within

  pub held-holds : Holds (map (told_view s) ts) (seen_as s mm log out n g) (seen_as s mm more outs n g)
  held-holds =
      record {
        strategy_is = refl;
        mismatch_is = refl;
        told_is = ap (tellings_of s) same-first;
        held_is = ap (λ l. tellings_of s (drop n l)) m ∙ ap (λ k. tellings_of s (drop k (take n log ++ map entry_of ts))) (sym long) ∙ ap (tellings_of s) (drop-append_seam (take n log) (map entry_of ts)) ∙ listed-all s ts;
        given_is = ap (map outcome_of) first-given;
      }

  -- as many are new at the top as the tellings add
  whole-count : (es xs : List Entry) → Each (IsProper s) es → Each (λ e. IsFit (number_of mm) (telling_of s e)) es → kepts xs ≡ briefs (worked_items (store_for (number_of mm) 0 s) (unit_news ∷ map news_of es)) → length xs ≡ length (matched_after s (tellings_of s es))
  whole-count es xs h f e =
      sym (length-map xs outcome_of)
      ∙ sym (length_permutation (map outcome_of xs) (map (out_of s) (matched_after s (tellings_of s es))) (out-all s a.suits.leaves_differ (number_of mm) a.agree es xs h f e))
      ∙ length-map (matched_after s (tellings_of s es)) (out_of s)

  pub held-count : length outs ≡ length (front n out) + count_of_added s (tellings_of s (take n log)) (map (told_view s) ts)
  held-count =
      whole-count more outs proper fit (ap kepts (sym d.out_full) ∙ d.worked.items (length more) (omega arith) ∙ ap (λ l. briefs (worked_items (store_for (number_of mm) 0 s) (unit_news ∷ map news_of l))) (take-length more))
      ∙ ap (λ l. length (matched_after s l)) (ap (tellings_of s) m ∙ map-append (telling_of s) (take n log) (map entry_of ts) ∙ ap (λ l. tellings_of s (take n log) ++ l) (listed-all s ts))
      ∙ (tellings-count s (tellings_of s (take n log)) (map (told_view s) ts) []).0
      ∙ ap (λ k. k + count_of_added s (tellings_of s (take n log)) (map (told_view s) ts)) (sym (whole-count (take n log) (front n out) (each-take (IsProper s) n log a.proper) (each-take (λ e. IsFit (number_of mm) (telling_of s e)) n log a.fit) (a.done.worked.items n a.told_within)))
