-- The laws of matchers hold.
use Rattle.std.specs.Prelude.{IsPermutation}
use Rattle.std.proofs.Common.{◌≡◌, ◌<◌, ◌≤◌, ◌⊎◌, inl, inr, refl, List, [], ◌∷◌, ◌++◌, map, length, take, drop, sym, ap, subst, ◌∙◌, arith, length-append}
use Rattle.std.proofs.lemmas.Bool.{cases_lt}
use Rattle.std.proofs.lemmas.List.{take-append-drop, length-map, map-append}
use Rattle.std.proofs.lemmas.List.Sorted.{IsPermutation-sym, IsPermutation-trans, IsPermutation-append_left, IsPermutation-map, length_permutation}
use Rattle.std.proofs.lemmas.List.Folds.{flat_map-map}
use Rattle.tv_lemmas.specs.Members.{In}
use Rattle.tv_lemmas.proofs.Members.{in-left}
use Rattle.tv_value.specs.Nested.{Place}
use Rattle.tv_value.specs.Values.{Name, Value}
use Rattle.tv_value.specs.Strategies.{Strategy}
use Rattle.tv_value.specs.Views.{strategy_view}
use Rattle.tv_strategy.specs.Conditions.{number_of}
use Rattle.tv_strategy.specs.Splits.{same_place}
use Rattle.tv_matching.specs.Items.{Kind, ends, closes, passes, Item, if_so}
use Rattle.tv_matching.specs.Members.{at_place}
use Rattle.tv_matching.specs.Told.{Spot, Told, matched_after, added_after}
use Rattle.tv_matching.specs.Matchers.{kind_out, out, all_out}
use Rattle.tv_matching.proofs.Lists.{flat-append, flat-same, map-flat, map-if}
use Rattle.tv_matching.proofs.LawLemmas.{matches-once, tellings-add, tellings-in_any_order}
use Rattle.tv_matching.proofs.Matchers.{out-is_known}
use Rattle.tv_matching.proofs.Members.{in-permutes}
use Rattle.tv_matching.proofs.Permutes.{flat-permutes}
use Rattle.tv_match.specs.declared.matchers.Matcher.{Matcher}
use Rattle.tv_match.specs.Entries.{front, entry_at}
use Rattle.tv_match.specs.Filed.{filed}
use Rattle.tv_match.specs.Seen.{IsSound, in_order, matching, HasMore, outcome_of}
use Rattle.tv_match.specs.Stated.{AreTold, known_out, outcome_place, outcomes_at, StandOnce, SoundIsMatching, GivesOnlyKnown, GivesOnce, GivesAllKnown, MoreIsLeft, OrderIsKnown, AllAtTheEnd, AddedIsBehind}
use Rattle.tv_match.proofs.Calls.{gave-all, told-fit}
use Rattle.tv_match.proofs.Cancelled.{front-off}
use Rattle.tv_match.proofs.Faults.{given-first, given-long, all-in_order}
use Rattle.tv_match.proofs.Fronts.{early-in_front, late-behind, front-short}

-- ---- what follows from what was told, in order

module _ (m : Matcher) (a : IsSound m) where
  pub all-follows : IsPermutation (in_order m) (all_out (matching m))
  all-follows = all-in_order (strategy_view m.tree) m.mismatch (filed m.root) m.log m.out m.told m.given a.keeps

  pub first-given : (matching m).given ≡ take m.given (in_order m)
  first-given = given-first (strategy_view m.tree) m.mismatch (filed m.root) m.log m.out m.told m.given a.keeps

  pub long-given : m.given ≡ length (matching m).given
  long-given = given-long (strategy_view m.tree) m.mismatch (filed m.root) m.log m.out m.told m.given a.keeps

  pub in-parts : (matching m).given ++ drop m.given (in_order m) ≡ in_order m
  in-parts = ap (λ l. l ++ drop m.given (in_order m)) first-given ∙ take-append-drop m.given (in_order m)

abbrev pub sound-is_matching : SoundIsMatching
sound-is_matching m a =
    record {
      suits = a.keeps.suits;
      agree = a.keeps.agree;
      fit = told-fit (strategy_view m.tree) m.mismatch (filed m.root) m.log m.out m.told m.given a.keeps;
      once = a.keeps.once;
      rest = drop m.given (in_order m);
      parts = subst (λ l. IsPermutation l (all_out (matching m))) (sym (in-parts m a)) (all-follows m a);
    }

order-known : (m : Matcher) → IsSound m → (values : Name → Value) → AreTold (matching m) values → IsPermutation (in_order m) (known_out (matching m) values)
order-known m a values t = subst (λ l. IsPermutation l (known_out (matching m) values)) (in-parts m a) (out-is_known (matching m) (sound-is_matching m a) values t.deep t.holds)

pub order-is_known : OrderIsKnown
order-is_known m a = (ap (λ k. take k (in_order m)) (sym (long-given m a)) ∙ sym (first-given m a), order-known m a)

pub gives-only_known : GivesOnlyKnown
gives-only_known m a values t o h =
    in-permutes o (known_out (matching m) values) (in_order m) (IsPermutation-sym _ _ (order-known m a values t)) (subst (In o) (in-parts m a) (in-left o (matching m).given (drop m.given (in_order m)) h))

pub gives-all_known : GivesAllKnown
gives-all_known m a h values t = IsPermutation-trans _ _ _ h (IsPermutation-trans _ _ _ (IsPermutation-sym _ _ (all-follows m a)) (order-known m a values t))

pub more-is_left : MoreIsLeft
more-is_left m a more h =
    let l = early-in_front m.told m.out m.given more.0 more.1 in
    let g = long-given m a in
    let p = length_permutation (matching m).given (all_out (matching m)) h in
    let q = length_permutation (in_order m) (all_out (matching m)) (all-follows m a) in
    let f = length-map (front m.told m.out) outcome_of in
    omega (arith, l, g, p, q, f)

-- ---- nothing follows exactly where all that is known has come out

none-ahead : (m : Matcher) → IsSound m → (HasMore m → ⊥) → length (front m.told m.out) ≤ m.given
none-ahead m a h = by (cases_lt m.given (length m.out))
  where
    late :
        m.given < length m.out
        → (m.told < (entry_at m.out m.given).number) ⊎ ((entry_at m.out m.given).number ≤ m.told)
        → length (front m.told m.out) ≤ m.given
    late w (inl l) = late-behind m.told m.out m.given a.keeps.done.rise w l
    late w (inr l) = absurd (h (w, l))

    by : (m.given < length m.out) ⊎ (length m.out ≤ m.given) → length (front m.told m.out) ≤ m.given
    by (inl w) = late w (cases_lt m.told (entry_at m.out m.given).number)
    by (inr l) = let s = front-short m.told m.out in omega (arith, s, l)

pub all-at_the_end : AllAtTheEnd
all-at_the_end m a values t =
    record {
      all = λ h.
          let g = gave-all (strategy_view m.tree) m.mismatch (filed m.root) m.log m.out m.told m.given a.keeps (none-ahead m a h) in
          gives-all_known m a g values t;
      end = λ h more.
          let k = IsPermutation-trans _ _ _ (IsPermutation-sym _ _ (order-known m a values t)) (all-follows m a) in
          more-is_left m a more (IsPermutation-trans _ _ _ h k);
    }

-- ---- what a telling adds is behind what followed before it

added-follows :
    (s : Strategy) (ts us : List Told) (t : Told) → IsPermutation us (ts ++ t ∷ [])
    → IsPermutation (map (out s) (matched_after s us)) (map (out s) (matched_after s ts) ++ map (out s) (added_after s ts (t ∷ [])))
added-follows s ts us t h =
    subst (IsPermutation (map (out s) (matched_after s us))) (map-append (out s) (matched_after s ts) (added_after s ts (t ∷ [])))
    (IsPermutation-map (out s) (matched_after s us) (matched_after s ts ++ added_after s ts (t ∷ []))
    (IsPermutation-trans _ _ _ (tellings-in_any_order s us (ts ++ t ∷ []) h) (tellings-add s ts (t ∷ []))))

pub added-is_behind : AddedIsBehind
added-is_behind t m n a b h e =
    let s = (matching m).strategy in
    let added = map (out s) (added_after s (matching m).told (t ∷ [])) in
    let more = drop (length (in_order m)) (in_order n) in
    let parts : in_order n ≡ in_order m ++ more = sym (take-append-drop (length (in_order m)) (in_order n)) ∙ ap (λ l. l ++ more) e in
    let follows = subst (λ r. IsPermutation (in_order n) (map (out r) (matched_after r (matching n).told))) h.strategy_is (all-follows n b) in
    front-off (in_order m) more added
    (subst (λ l. IsPermutation l (in_order m ++ added)) parts
    (IsPermutation-trans _ _ _ follows
    (IsPermutation-trans _ _ _ (added-follows s (matching m).told (matching n).told t h.told_is)
    (IsPermutation-append_left added (all_out (matching m)) (in_order m) (IsPermutation-sym _ _ (all-follows m a))))))

-- ---- no place has two

module _ (s : Strategy) where
  out-place : (q : Place) (k : Kind Spot Spot) → outcome_place (kind_out s q k) ≡ q
  out-place q (ends b) = refl
  out-place q (closes n) = refl
  out-place q (passes r) = refl

  at-out : (q : Place) (xs : List (Item Spot Spot)) → outcomes_at q (map (out s) xs) ≡ map (out s) (at_place q xs)
  at-out q xs =
      flat_map-map (λ o. if_so (same_place q (outcome_place o)) o) (out s) xs
      ∙ flat-same (λ x. if_so (same_place q (outcome_place (out s x))) (out s x)) (λ x. map (out s) (if_so (same_place q x.place) x)) (λ x. ap (λ r. if_so (same_place q r) (out s x)) (out-place x.place x.kind) ∙ sym (map-if (out s) (same_place q x.place) x)) xs
      ∙ sym (map-flat (out s) (λ x. if_so (same_place q x.place) x) xs)

order-once : (m : Matcher) → IsSound m → StandOnce (in_order m)
order-once m a q =
    let s = strategy_view m.tree in
    let ts = (matching m).told in
    let o = (matches-once (number_of m.mismatch) ts (told-fit s m.mismatch (filed m.root) m.log m.out m.told m.given a.keeps) a.keeps.once s a.keeps.agree).0 q in
    let e = ap length (at-out s q (matched_after s ts)) ∙ length-map (at_place q (matched_after s ts)) (out s) in
    let p = length_permutation _ _ (flat-permutes (λ o. if_so (same_place q (outcome_place o)) o) (in_order m) (all_out (matching m)) (all-follows m a)) in
    omega (arith, o, e, p)

pub gives-once : GivesOnce
gives-once m a = (
  λ q.
      let o = order-once m a q in
      let e = ap (λ l. length (outcomes_at q l)) (in-parts m a) in
      let f = ap length (flat-append (λ x. if_so (same_place q (outcome_place x)) x) (matching m).given (drop m.given (in_order m))) in
      let l = length-append (outcomes_at q (matching m).given) (outcomes_at q (drop m.given (in_order m))) in
      omega (arith, o, e, f, l),
  order-once m a,
)
