-- The laws hold.
use Rattle.std.specs.Prelude.{◌≡◌, refl, ℕ, ◌+◌, ◌≤◌, Bool, true, false, List, [], ◌∷◌, ◌++◌, length, Option, Some, None, IsPermutation}
use Rattle.std.proofs.Common.{arith, sym, ap, subst, ◌∙◌, append-nil}
use Rattle.std.proofs.lemmas.List.Sorted.{IsPermutation-map}
use Rattle.std.proofs.lemmas.List.{map-append}
use Rattle.tv_lemmas.specs.Members.{Each}
use Rattle.tv_value.specs.Nested.{at}
use Rattle.tv_value.specs.Values.{Name}
use Rattle.tv_value.specs.Orders.{same_name}
use Rattle.tv_strategy.specs.Iterations.{Iteration}
use Rattle.tv_strategy.specs.Splits.{same_place}
use Rattle.tv_strategy.proofs.AtDepth.{walk-levels, input-depth}
use Rattle.tv_strategy.proofs.PlaceLemmas.{same-equal}
use Rattle.tv_strategy.proofs.Sources.{each-append}
use Rattle.tv_matching.specs.Items.{Item, node_at, if_so}
use Rattle.tv_matching.specs.Levels.{KindAt, AreLeveled}
use Rattle.tv_matching.specs.Members.{at_place}
use Rattle.tv_matching.specs.Tellings.{told_of, after, room_for}
use Rattle.tv_matching.specs.Told.{Spot, Told, arrival, faulty, close, told_leaf, told_place, told_kind, telling, tellings, told_to, matched_after, added_after, IsFit, labelled}
use Rattle.tv_matching.specs.Stated.{MatchesKnown, MatchesOnlyKnown, MatchesAllKnown, NodesStand, PlacesHaveNodes, MatchesWhatWasTold, MatchesOnce, NewIsOnce, TellingsAdd, TellingsCount, TellingsInAnyOrder, StoreIsMatched, StoreStarts, StoreGrows, StoreWorks, CrossOfOne, CrossesNest}
use Rattle.tv_matching.proofs.Lists.{flat-append}
use Rattle.tv_matching.proofs.Gains.{told-append, after-more, after-counts, room-parts, after-permutes}
use Rattle.tv_matching.proofs.Stores.{items-for, for-empty, empty-is, grown-is, items-gain, worked-is, worked-permutes, cross-of_one, crossed-thrice}
use Rattle.tv_matching.specs.Stores.{store_for}
use Rattle.tv_matching.proofs.Nodes.{IsNodeOf, node-stands, node-in}
use Rattle.tv_matching.proofs.Onces.{matched-once, matched-leveled}
use Rattle.tv_matching.proofs.Matches.{matched-known, matched-sound, matched-complete}
use Rattle.tv_matching.proofs.Heard.{matched-told}

pub matches-known : MatchesKnown
matches-known = matched-known

pub matches-only_known : MatchesOnlyKnown
matches-only_known = matched-sound

pub matches-all_known : MatchesAllKnown
matches-all_known = matched-complete

pub nodes-stand : NodesStand
nodes-stand t n h = by (at t n.item.place) refl (node-stands n.item.place t n refl h)
  where
    by : (o : Option Iteration) → at t n.item.place ≡ o → IsNodeOf o n → (u : Iteration) × (at t n.item.place ≡ Some u) × (n ≡ node_at n.item.place u)
    by None e i = absurd i
    by (Some u) e i = (u, e, i)

pub places-have_nodes : PlacesHaveNodes
places-have_nodes t q u h = node-in q t u h

pub matches-what_was_told : MatchesWhatWasTold
matches-what_was_told values mismatch deep ts holds once s a =
    matched-told values mismatch ts holds once (λ p. walk-levels p (labelled values p) (mismatch p) (deep p).0 (mismatch p + (deep p).0) refl (input-depth p [] (values p) (mismatch p + (deep p).0) (deep p).1)) s a

-- ---- what was told

levels-of : (mismatch : Name → ℕ) (t : Told) → IsFit mismatch t → KindAt (mismatch (told_leaf t)) (told_place t) (told_kind t)
levels-of mismatch (arrival p q false) h = h
levels-of mismatch (arrival p q true) h = h
levels-of mismatch (faulty p q) h = h
levels-of mismatch (close p q n) h = h

pub told-leveled : (mismatch : Name → ℕ) (ts : List Told) → Each (IsFit mismatch) ts → (p : Name) → AreLeveled (mismatch p) (told_to ts p)
told-leveled mismatch [] h p = tt
told-leveled mismatch (t ∷ ts) h p = each-append (λ x. KindAt (mismatch p) x.place x.kind) (if_so (same_name p (told_leaf t)) (telling t).item) (told_to ts p) (by (same_name p (told_leaf t)) refl) (told-leveled mismatch ts h.1 p)
  where
    by : (b : Bool) → same_name p (told_leaf t) ≡ b → Each (λ (x : Item Spot Spot). KindAt (mismatch p) x.place x.kind) (if_so b (telling t).item)
    by false e = tt
    by true e = (subst (λ r. KindAt (mismatch r) (told_place t) (told_kind t)) (sym (same-equal p (told_leaf t) e)) (levels-of mismatch t h.0), tt)

pub matches-once : MatchesOnce
matches-once mismatch ts fit once s a = (matched-once mismatch (told_to ts) (told-leveled mismatch ts fit) once s a, matched-leveled mismatch (told_to ts) (told-leveled mismatch ts fit) s a)

pub told-more : (ts more : List Told) (p : Name) → told_to (ts ++ more) p ≡ told_to ts p ++ told_to more p
told-more ts more p = ap (λ l. told_of l p) (map-append telling ts more) ∙ told-append (tellings ts) (tellings more) p

pub new-is_once : NewIsOnce
new-is_once ts once t n p q =
    subst (λ l. length (at_place q l) ≤ 1) (sym (told-more ts (t ∷ []) p))
    (subst (λ l. length l ≤ 1) (sym (flat-append (λ x. if_so (same_place q x.place) x) (told_to ts p) (told_to (t ∷ []) p)))
    (by (same_name p (told_leaf t)) refl (same_place q (told_place t)) refl))
  where
    none : (c : Bool) → same_place q (told_place t) ≡ c → c ≡ false → at_place q ((telling t).item ∷ []) ≡ []
    none c e f = ap (λ b. if_so b (telling t).item ++ []) (e ∙ f)

    one : (b : Bool) → length (if_so b (telling t).item ++ []) ≤ 1
    one true = omega arith
    one false = omega arith

    same : same_name p (told_leaf t) ≡ true → same_place q (told_place t) ≡ true → at_place q (told_to ts p) ≡ []
    same e f = subst (λ r. at_place r (told_to ts p) ≡ []) (sym (same-equal q (told_place t) f)) (subst (λ r. at_place (told_place t) (told_to ts r) ≡ []) (sym (same-equal p (told_leaf t) e)) n)

    by : (b : Bool) → same_name p (told_leaf t) ≡ b → (c : Bool) → same_place q (told_place t) ≡ c → length (at_place q (told_to ts p) ++ at_place q (if_so b (telling t).item ++ [])) ≤ 1
    by false e c f = subst (λ l. length l ≤ 1) (sym (append-nil (at_place q (told_to ts p)))) (once p q)
    by true e false f = subst (λ l. length (at_place q (told_to ts p) ++ l) ≤ 1) (sym (none false f refl)) (subst (λ l. length l ≤ 1) (sym (append-nil (at_place q (told_to ts p)))) (once p q))
    by true e true f = subst (λ l. length (l ++ at_place q ((telling t).item ∷ [])) ≤ 1) (sym (same e f)) (one (same_place q (told_place t)))

pub tellings-add : TellingsAdd
tellings-add s ts more = subst (λ l. IsPermutation (after s l) (matched_after s ts ++ added_after s ts more)) (sym (map-append telling ts more)) (after-more s (tellings ts) (tellings more))

pub tellings-count : TellingsCount
tellings-count s ts more rest = (
  ap (λ l. length (after s l)) (map-append telling ts more) ∙ after-counts s (tellings ts) (tellings more),
  ap (λ l. room_for s (tellings ts) l) (map-append telling more rest) ∙ room-parts s (tellings ts) (tellings more) (tellings rest) ∙ ap (λ l. room_for s (tellings ts) (tellings more) + room_for s l (tellings rest)) (sym (map-append telling ts more)),
)

pub tellings-in_any_order : TellingsInAnyOrder
tellings-in_any_order s ts others h = after-permutes s (tellings ts) (tellings others) (IsPermutation-map telling ts others h)

-- ---- what a matcher keeps

pub store-is_matched : StoreIsMatched
store-is_matched told named mismatch leveled s a none h = items-for told named none mismatch leveled 0 s a h

pub store-starts : StoreStarts
store-starts mismatch s = empty-is (store_for mismatch 0 s) (for-empty (Unit {0}) ℕ mismatch 0 s)

pub store-grows : StoreGrows
store-grows told new st h = (grown-is told new st h, items-gain told new st h)

pub store-works : StoreWorks
store-works told st ns h = (worked-is told st ns h, worked-permutes told st ns h)

pub cross-of_one_child : CrossOfOne
cross-of_one_child told c = cross-of_one told c

pub crosses-nest : CrossesNest
crosses-nest xs ys zs = crossed-thrice xs ys zs
