-- What a contract sees of a matcher stays true over its calls, and what comes out is what is known of the iteration.
use Rattle.std.specs.Prelude.{◌≡◌, refl, ℕ, ◌+◌, true, false, List, [], ◌∷◌, ◌++◌, map, flat_map, length, Option, Some, None, option_map, IsPermutation}
use Rattle.std.proofs.Common.{arith, sym, ap, subst, ◌∙◌, append_assoc, length-append}
use Rattle.std.proofs.lemmas.List.Sorted.{IsPermutation-refl, IsPermutation-sym, IsPermutation-trans, IsPermutation-append_left, IsPermutation-map, length_permutation}
use Rattle.std.proofs.lemmas.Simd.{map-map}
use Rattle.std.proofs.lemmas.List.{map-append}
use Rattle.tv_lemmas.specs.Members.{Each}
use Rattle.tv_value.specs.Nested.{leaf, list, Place, at}
use Rattle.tv_value.specs.Values.{Name, text, fault, Value}
use Rattle.tv_value.specs.Orders.{same_name}
use Rattle.tv_value.specs.Strategies.{Strategy, port, cross, dot, prefix, Strategies, no_strategies, strategy}
use Rattle.tv_strategy.specs.Origins.{Traced, input_value}
use Rattle.tv_strategy.specs.Iterations.{iteration, walks}
use Rattle.tv_strategy.specs.Conditions.{number_of}
use Rattle.tv_strategy.specs.Measures.{leaf_names}
use Rattle.tv_strategy.specs.Splits.{same_place}
use Rattle.tv_strategy.proofs.Sources.{each-append}
use Rattle.tv_strategy.proofs.Each.{each-weaken}
use Rattle.tv_matching.specs.Items.{Kind, ends, closes, passes, Item, item, if_so, known_items}
use Rattle.tv_matching.specs.Members.{at_place}
use Rattle.tv_matching.specs.Matched.{bound, below, replaced, crossed_items, meet_kinds, meet, joined_items, same, reaches, meet_below, prefixed_items, matched, matched_cross, matched_dot}
use Rattle.tv_matching.specs.Tellings.{Telling}
use Rattle.tv_matching.specs.Told.{Spot, Told, arrival, faulty, close, told_leaf, told_place, told_kind, telling, tellings, told_to, matched_after, added_after, IsFit, item_there, stop_there, stop_of, labelled, node_told, IsTrueOf, IsFaultThere}
use Rattle.tv_matching.specs.Matchers.{Outcome, fault_at, leaf_number, kind_out, out, all_out, Matching, AreMatching, CanTellAll, IsTold, mark_number, node_out, OutIsKnown, StartIsMatching, TellingIsMatching, GivesOnlyRest}
use Rattle.tv_matching.proofs.Lists.{each-map, each-if}
use Rattle.tv_matching.proofs.Permutes.{perm-from, flat-permutes}
use Rattle.tv_matching.proofs.Members.{each-permutes}
use Rattle.tv_matching.proofs.Onces.{each-flat, once-permutes}
use Rattle.tv_matching.proofs.Heard.{at-input}
use Rattle.tv_matching.proofs.LawLemmas.{matches-what_was_told, new-is_once, tellings-add, tellings-in_any_order}

-- ---- what is so of every fault that was told is so of every fault that is matched

module _ {X F : Type 0} (Q : F → Type 0) where
  abbrev pub PassesHave : Kind X F → Type 0
  PassesHave (ends b) = Unit {0}
  PassesHave (closes n) = Unit {0}
  PassesHave (passes f) = Q f

  abbrev pub AllPass : List (Item X F) → Type 0
  AllPass xs = Each (λ x. PassesHave x.kind) xs

  bound-has : (b : List X) (k : Kind X F) → PassesHave k → PassesHave (bound b k)
  bound-has b (ends c) h = tt
  bound-has b (closes n) h = tt
  bound-has b (passes f) h = h

  replaced-have : (ys : List (Item X F)) (q : Place) (k : Kind X F) → AllPass ys → PassesHave k → AllPass (replaced ys q k)
  replaced-have ys q (ends b) h k = each-map (λ y. PassesHave y.kind) (below q b) ys (each-weaken (λ y. PassesHave y.kind) (λ y. PassesHave (bound b y.kind)) (λ y j. bound-has b y.kind j) ys h)
  replaced-have ys q (closes n) h k = (tt, tt)
  replaced-have ys q (passes f) h k = (k, tt)

  met-has : (k l : Kind X F) → PassesHave k → PassesHave l → PassesHave (meet_kinds k l)
  met-has (ends b) l h j = bound-has b l j
  met-has (passes f) l h j = h
  met-has (closes m) (ends c) h j = tt
  met-has (closes m) (closes n) h j = tt
  met-has (closes m) (passes f) h j = j

  crossed-have : (xs ys : List (Item X F)) → AllPass xs → AllPass ys → AllPass (crossed_items xs ys)
  crossed-have xs ys h k = each-flat (λ y. PassesHave y.kind) (λ x. replaced ys x.place x.kind) xs (each-weaken (λ x. PassesHave x.kind) (λ x. AllPass (replaced ys x.place x.kind)) (λ x j. replaced-have ys x.place x.kind k j) xs h)

  joined-have : (xs ys : List (Item X F)) → AllPass xs → AllPass ys → AllPass (joined_items same xs ys)
  joined-have xs ys h k =
      each-flat (λ y. PassesHave y.kind) (λ x. flat_map (meet same x) ys) xs (each-weaken (λ x. PassesHave x.kind) (λ x. AllPass (flat_map (meet same x) ys)) (λ x j. each-flat (λ y. PassesHave y.kind) (meet same x) ys (each-weaken (λ y. PassesHave y.kind) (λ y. AllPass (meet same x y)) (λ y l. each-if (λ z. PassesHave z.kind) (same_place x.place y.place) (item y.place (meet_kinds x.kind y.kind)) (met-has x.kind y.kind j l)) ys k)) xs h)

  prefixed-have : (xs ys : List (Item X F)) → AllPass xs → AllPass ys → AllPass (prefixed_items xs ys)
  prefixed-have xs ys h k =
      each-flat (λ y. PassesHave y.kind) (λ x. flat_map (meet_below x) ys) xs (each-weaken (λ x. PassesHave x.kind) (λ x. AllPass (flat_map (meet_below x) ys)) (λ x j. each-flat (λ y. PassesHave y.kind) (meet_below x) ys (each-weaken (λ y. PassesHave y.kind) (λ y. AllPass (meet_below x y)) (λ y l. each-if (λ z. PassesHave z.kind) (reaches x.kind x.place y.place) (item y.place (meet_kinds x.kind y.kind)) (met-has x.kind y.kind j l)) ys k)) xs h)

  module _ (told : Name → List (Item X F)) (have : (p : Name) → AllPass (told p)) where
    mutual
      pub matched-have : (s : Strategy) → AllPass (matched told s)
      matched-have (port p) = have p
      matched-have (cross cs) = cross-have cs
      matched-have (dot cs) = dot-have cs
      matched-have (prefix l r) = prefixed-have (matched told l) (matched told r) (matched-have l) (matched-have r)

      cross-have : (cs : Strategies) → AllPass (matched_cross told cs)
      cross-have no_strategies = (tt, tt)
      cross-have (strategy c cs) = crossed-have (matched told c) (matched_cross told cs) (matched-have c) (cross-have cs)

      dot-have : (cs : Strategies) → AllPass (matched_dot told cs)
      dot-have no_strategies = (tt, tt)
      dot-have (strategy c no_strategies) = matched-have c
      dot-have (strategy c (strategy d ds)) = joined-have (matched told c) (matched_dot told (strategy d ds)) (matched-have c) (dot-have (strategy d ds))

-- ---- the leaf of a passed fault

pub map-each : {A B : Type 0} (f g : A → B) (xs : List A) → Each (λ x. f x ≡ g x) xs → map f xs ≡ map g xs
map-each f g [] h = refl
map-each f g (x ∷ xs) h = ap (λ y. y ∷ map f xs) h.0 ∙ ap (λ l. g x ∷ l) (map-each f g xs h.1)

abbrev option_there : Name → Place → Option Value → Option Traced
option_there p q o = option_map (input_value p q) o

module _ (s : Strategy) (values : Name → Value) (mismatch : Name → ℕ) where
  -- the mark of the fault there names its leaf
  abbrev NamesLeaf : Spot → Type 0
  NamesLeaf r = mark_number s (stop_there (labelled values) r).0 ≡ leaf_number (leaf_names s) r.0

  mark-there : (p : Name) (q : Place) (o : Option Value) → IsFaultThere (option_there p q o) → mark_number s (stop_of (option_there p q o)).0 ≡ leaf_number (leaf_names s) p
  mark-there p q None h = absurd h
  mark-there p q (Some (leaf n (text t))) h = absurd h
  mark-there p q (Some (leaf n (fault e))) h = refl
  mark-there p q (Some (list n vs)) h = absurd h

  told-names : (t : Told) → IsTrueOf (labelled values) mismatch t → PassesHave NamesLeaf (told_kind t)
  told-names (arrival p q false) h = tt
  told-names (arrival p q true) h =
      let e = at-input p q [] (values p) in
      subst (λ o. mark_number s (stop_of o).0 ≡ leaf_number (leaf_names s) p) (sym e) (mark-there p q (at (values p) q) (subst IsFaultThere e h.1))
  told-names (faulty p q) h = tt
  told-names (close p q n) h = tt

  all-name : (ts : List Told) → Each (IsTrueOf (labelled values) mismatch) ts → (p : Name) → AllPass NamesLeaf (told_to ts p)
  all-name ts h p =
      each-flat (λ (x : Item Spot Spot). PassesHave NamesLeaf x.kind) (λ (t : Telling Spot Spot). if_so (same_name p t.leaf) t.item) (tellings ts)
      (each-map (λ (t : Telling Spot Spot). AllPass NamesLeaf (if_so (same_name p t.leaf) t.item)) telling ts
      (each-weaken (IsTrueOf (labelled values) mismatch) (λ t. AllPass NamesLeaf (if_so (same_name p (telling t).leaf) (telling t).item)) (λ t k. each-if (λ (x : Item Spot Spot). PassesHave NamesLeaf x.kind) (same_name p (telling t).leaf) (telling t).item (told-names t k)) ts h))

  out-seen : (q : Place) (k : Kind Spot Spot) → PassesHave NamesLeaf k → kind_out s q k ≡ node_out s (item_there (labelled values) (item q k))
  out-seen q (ends b) h = refl
  out-seen q (closes n) h = refl
  out-seen q (passes r) h = ap (fault_at q) (sym h)

  outs-seen : (ts : List Told) → Each (IsTrueOf (labelled values) mismatch) ts → map (out s) (matched_after s ts) ≡ map (node_out s) (map (item_there (labelled values)) (matched_after s ts))
  outs-seen ts h =
      map-each (out s) (λ x. node_out s (item_there (labelled values) x)) (matched_after s ts) (each-weaken (λ x. PassesHave NamesLeaf x.kind) (λ x. out s x ≡ node_out s (item_there (labelled values) x)) (λ x k. out-seen x.place x.kind k) (matched_after s ts) (matched-have NamesLeaf (told_to ts) (all-name ts h) s))
      ∙ sym (map-map (node_out s) (item_there (labelled values)) (matched_after s ts))

pub out-is_known : OutIsKnown
out-is_known m h values deep holds =
    let found = known_items (node_told (number_of m.mismatch) m.told) (iteration (walks (number_of m.mismatch) (labelled values)) m.strategy) in
    IsPermutation-trans _ _ _ h.parts
    (subst (λ l. IsPermutation l (map (node_out m.strategy) found)) (sym (outs-seen m.strategy values (number_of m.mismatch) m.told holds))
    (IsPermutation-map (node_out m.strategy) (map (item_there (labelled values)) (matched_after m.strategy m.told)) found (matches-what_was_told values (number_of m.mismatch) deep m.told holds h.once m.strategy h.agree)))

-- ---- the calls

told-parts : (s : Strategy) (ts us : List Told) (t : Told) (gone rest : List Outcome) → IsPermutation us (ts ++ t ∷ []) → IsPermutation (gone ++ rest) (map (out s) (matched_after s ts)) → IsPermutation (gone ++ (rest ++ map (out s) (added_after s ts (t ∷ [])))) (map (out s) (matched_after s us))
told-parts s ts us t gone rest e h =
    subst (λ l. IsPermutation l (map (out s) (matched_after s us))) (append_assoc gone rest (map (out s) (added_after s ts (t ∷ []))))
    (IsPermutation-trans _ _ _ (IsPermutation-append_left (map (out s) (added_after s ts (t ∷ []))) (gone ++ rest) (map (out s) (matched_after s ts)) h)
    (IsPermutation-trans _ _ _ (perm-from (map (out s) (matched_after s ts) ++ map (out s) (added_after s ts (t ∷ []))) (map (out s) (matched_after s ts ++ added_after s ts (t ∷ []))) (sym (map-append (out s) (matched_after s ts) (added_after s ts (t ∷ [])))))
    (IsPermutation-map (out s) (matched_after s ts ++ added_after s ts (t ∷ [])) (matched_after s us)
    (IsPermutation-trans _ _ _ (IsPermutation-sym _ _ (tellings-add s ts (t ∷ []))) (tellings-in_any_order s (ts ++ t ∷ []) us (IsPermutation-sym _ _ e))))))

pub told-permutes : (ts us : List Told) → IsPermutation ts us → (p : Name) → IsPermutation (told_to ts p) (told_to us p)
told-permutes ts us h p = flat-permutes (λ t. if_so (same_name p t.leaf) t.item) (tellings ts) (tellings us) (IsPermutation-map telling ts us h)

nothing-permutes : {A : Type 0} (xs ys : List A) → IsPermutation xs ys → xs ≡ [] → ys ≡ []
nothing-permutes {A} xs ys h e = empty ys (length_permutation xs ys h ∙ ap length e)
  where
    empty : (ys : List A) → length ys ≡ 0 → ys ≡ []
    empty [] e = refl
    empty (y ∷ ys) e = absurd (omega (arith, e))

-- what can be told one after the other can be told whatever the order of what was told
pub can-tell_all-permutes : (ts : List Told) (m n : Matching) → n.mismatch ≡ m.mismatch → IsPermutation m.told n.told → CanTellAll m ts → CanTellAll n ts
can-tell_all-permutes [] m n e h c = tt
can-tell_all-permutes (t ∷ ts) m n e h c = (
  (subst (λ r. IsFit (number_of r) t) (sym e) c.0.0, nothing-permutes (at_place (told_place t) (told_to m.told (told_leaf t))) (at_place (told_place t) (told_to n.told (told_leaf t))) (flat-permutes (λ x. if_so (same_place (told_place t) x.place) x) (told_to m.told (told_leaf t)) (told_to n.told (told_leaf t)) (told-permutes m.told n.told h (told_leaf t))) c.0.1),
  can-tell_all-permutes ts (record m { told = m.told ++ t ∷ [] }) (record n { told = n.told ++ t ∷ [] }) e (IsPermutation-append_left (t ∷ []) m.told n.told h) c.1,
)

-- what can be told after others can still be told after the first of them
pub can-tell_all-after : (t : Told) (ts : List Told) (m n : Matching) → IsTold t m n → CanTellAll m (t ∷ ts) → CanTellAll n ts
can-tell_all-after t ts m n h c = can-tell_all-permutes ts (record m { told = m.told ++ t ∷ [] }) n h.mismatch_is (IsPermutation-sym _ _ h.told_is) c.1

pub start-is_matching : StartIsMatching
start-is_matching s mismatch m suits agree e =
    subst (λ r. AreMatching r m.mismatch m.told m.given) (sym e.strategy_is)
    (subst (λ r. AreMatching s r m.told m.given) (sym e.mismatch_is)
    (subst (λ r. AreMatching s mismatch r m.given) (sym e.told_is)
    (subst (λ r. AreMatching s mismatch [] r) (sym e.given_is)
    (record { suits = suits; agree = agree; fit = tt; once = λ p q. omega arith; rest = map (out s) (matched_after s []); parts = IsPermutation-refl _ }))))

pub telling-is_matching : TellingIsMatching
telling-is_matching t m n h c e =
    subst (λ r. AreMatching r n.mismatch n.told n.given) (sym e.strategy_is)
    (subst (λ r. AreMatching m.strategy r n.told n.given) (sym e.mismatch_is)
    (subst (λ r. AreMatching m.strategy m.mismatch n.told r) (sym e.given_is)
    (record {
      suits = h.suits;
      agree = h.agree;
      fit = each-permutes (IsFit (number_of m.mismatch)) (m.told ++ t ∷ []) n.told (IsPermutation-sym _ _ e.told_is) (each-append (IsFit (number_of m.mismatch)) m.told (t ∷ []) h.fit (c.0, tt));
      once = λ p. once-permutes (told_to (m.told ++ t ∷ []) p) (told_to n.told p) (told-permutes (m.told ++ t ∷ []) n.told (IsPermutation-sym _ _ e.told_is) p) (new-is_once m.told h.once t c.1 p);
      rest = h.rest ++ map (out m.strategy) (added_after m.strategy m.told (t ∷ []));
      parts = told-parts m.strategy m.told n.told t m.given h.rest e.told_is h.parts;
    })))

pub gives-only_rest : GivesOnlyRest
gives-only_rest o m n h e a =
    none (length m.given) (length h.rest) (length (all_out m)) (sym (length_permutation m.given (all_out m) a)) (sums ∙ sym (length_permutation (n.given ++ h.rest) (all_out m) same_all))
  where
    same_all : IsPermutation (n.given ++ h.rest) (all_out m)
    same_all = subst (λ r. IsPermutation (n.given ++ h.rest) (map (out r) (matched_after r m.told))) e.strategy_is (subst (λ r. IsPermutation (n.given ++ h.rest) (map (out n.strategy) (matched_after n.strategy r))) e.told_is h.parts)

    sums : (length m.given + 1) + length h.rest ≡ length (n.given ++ h.rest)
    sums = sym (ap (λ g. length (g ++ h.rest)) e.given_is ∙ length-append (m.given ++ o ∷ []) h.rest ∙ ap (λ k. k + length h.rest) (length-append m.given (o ∷ [])))

    none : (a b c : ℕ) → a ≡ c → (a + 1) + b ≡ c → ⊥
    none a b c e f = omega arith
