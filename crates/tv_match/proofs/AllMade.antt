-- What follows of the held tellings, and all of them made.
use Rattle.std.specs.Prelude.{IsPermutation}
use Rattle.std.proofs.Common.{◌≡◌, refl, ℕ, zero, suc, ◌+◌, ◌<◌, ◌≤◌, List, [], ◌∷◌, ◌++◌, map, length, take, drop, sym, ap, subst, ◌∙◌, arith, take-suc}
use Rattle.std.proofs.lemmas.List.{take-append-drop, map-append}
use Rattle.std.proofs.Math.Seq.{take-length}
use Rattle.tv_value.specs.Values.{Name}
use Rattle.tv_value.specs.Strategies.{Strategy}
use Rattle.tv_value.specs.Views.{strategy_view}
use Rattle.tv_strategy.specs.Conditions.{number_of}
use Rattle.tv_matching.specs.Told.{Told, IsFit, IsNew, matched_after}
use Rattle.tv_matching.specs.Matchers.{Matching, CanTellAll, out as out_of}
use Rattle.tv_matching.specs.Stores.{store_for, worked_items}
use Rattle.tv_match.specs.Entries.{Entry, no_entry, entry_at, kepts, front}
use Rattle.tv_match.specs.Filed.{Filed}
use Rattle.tv_match.specs.declared.matchers.Matcher.{Matcher}
use Rattle.tv_match.specs.Seen.{telling_of, tellings_of, outcome_of, seen_as, AreSound, IsSound, matching}
use Rattle.tv_match.specs.Ahead.{AheadIsMatched, NoneIsAhead}
use Rattle.tv_match.specs.Brief.{briefs}
use Rattle.tv_match.specs.Working.{unit_news, news_of}
use Rattle.tv_match.proofs.Calls.{next-sound}
use Rattle.tv_match.proofs.Putting.{from-next}
use Rattle.tv_match.proofs.Seeing.{out-all}

-- what can be told is told by what was told
can-still : (m n : Matching) → m.mismatch ≡ n.mismatch → m.told ≡ n.told → (ts : List Told) → CanTellAll m ts → CanTellAll n ts
can-still m n e f [] h = tt
can-still m n e f (t ∷ ts) h = (
  (subst (λ x. IsFit (number_of x) t) e h.0.0, subst (λ x. IsNew x t) f h.0.1),
  can-still (record m { told = m.told ++ t ∷ [] }) (record n { told = n.told ++ t ∷ [] }) e (ap (λ l. l ++ t ∷ []) f) ts h.1,
)

none-left : {A : Type 0} (n : ℕ) (xs : List A) → drop n xs ≡ [] → length xs ≤ n
none-left zero [] e = omega arith
none-left zero (x ∷ xs) e = absurd (cc)
none-left (suc n) [] e = omega arith
none-left (suc n) (x ∷ xs) e = let h = none-left n xs e in omega (arith, h)

empty-map : {A B : Type 0} (f : A → B) (xs : List A) → map f xs ≡ [] → xs ≡ []
empty-map f [] e = refl
empty-map f (x ∷ xs) e = absurd (cc)

module _ (s : Strategy) (mm : List (Name × ℕ)) (root : Filed) (log out : List Entry) (g : ℕ) where
  one-more : (n : ℕ) → n < length log → tellings_of s (take (n + 1) log) ≡ tellings_of s (take n log) ++ telling_of s (entry_at log n) ∷ []
  one-more n h =
      ap (λ k. tellings_of s (take k log)) (plus n)
      ∙ ap (tellings_of s) (take-suc log n no_entry h)
      ∙ map-append (telling_of s) (take n log) (entry_at log n ∷ [])
    where
      plus : (n : ℕ) → n + 1 ≡ suc n
      plus n = omega arith

  -- d tellings are held
  pub all-made : (d n : ℕ) → n + d ≡ length log → AreSound s mm root log out n g → CanTellAll (seen_as s mm log out n g) (tellings_of s (drop n log)) → AreSound s mm root log out (length log) g
  all-made zero n e a h = let f : n ≡ length log = omega (arith, e) in subst (λ k. AreSound s mm root log out k g) f a
  all-made (suc d) n e a h =
      let lt : n < length log = omega (arith, e) in
      let k = subst (λ l. CanTellAll (seen_as s mm log out n g) (tellings_of s l)) (from-next log n lt) h in
      all-made d (n + 1) (omega (arith, e)) (next-sound s mm root log out n g (entry_at log n) a lt refl k.0)
      (can-still (record (seen_as s mm log out n g) { told = tellings_of s (take n log) ++ telling_of s (entry_at log n) ∷ [] }) (seen_as s mm log out (n + 1) g) refl (sym (one-more n lt)) (tellings_of s (drop (n + 1) log)) k.1)

pub ahead-matched : AheadIsMatched
ahead-matched m a =
    let s = strategy_view m.tree in
    let items : kepts m.out ≡ briefs (worked_items (store_for (number_of m.mismatch) 0 s) (unit_news ∷ map news_of m.log)) =
    ap kepts (sym a.keeps.done.out_full) ∙ a.keeps.done.worked.items (length m.log) (omega arith) ∙ ap (λ l. briefs (worked_items (store_for (number_of m.mismatch) 0 s) (unit_news ∷ map news_of l))) (take-length m.log) in
    let parts : map (telling_of s) m.log ≡ tellings_of s (take m.told m.log) ++ tellings_of s (drop m.told m.log) =
    ap (map (telling_of s)) (sym (take-append-drop m.told m.log)) ∙ map-append (telling_of s) (take m.told m.log) (drop m.told m.log) in
    subst (λ l. IsPermutation (map outcome_of m.out) (map (out_of s) (matched_after s l))) parts (out-all s a.keeps.suits.leaves_differ (number_of m.mismatch) a.keeps.agree m.log m.out a.keeps.proper a.keeps.fit items)

pub none-ahead : NoneIsAhead
none-ahead m a e =
    let s = strategy_view m.tree in
    let l = none-left m.told m.log (empty-map (telling_of s) (drop m.told m.log) e) in
    let n : m.told ≡ length m.log = omega (arith, l, a.keeps.told_within) in
    sym (ap (map outcome_of) (ap (λ k. front k m.out) n ∙ a.keeps.done.out_full))

-- where nothing is held, all that is listed was told
pub told-all : (m : Matcher) → IsSound m → (matching m).held ≡ [] → (m.log ≡ take m.told m.log) × (m.out ≡ front m.told m.out)
told-all m a e =
    let l = none-left m.told m.log (empty-map (telling_of (strategy_view m.tree)) (drop m.told m.log) e) in
    let n : m.told ≡ length m.log = omega (arith, l, a.keeps.told_within) in
    (sym (ap (λ k. take k m.log) n ∙ take-length m.log), sym (ap (λ k. front k m.out) n ∙ a.keeps.done.out_full))
