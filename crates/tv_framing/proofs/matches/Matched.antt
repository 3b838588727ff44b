-- What comes out of a step's matcher are the known items of its iteration, and each passed fault is the one at its leaf's part of the place.
use Rattle.std.specs.Prelude.{◌≡◌, refl, ℕ, zero, suc, Bool, true, false, get_or, if◌then◌else◌, List, [], ◌∷◌, map, Option, Some, None, option_and_then, option_map, IsPermutation}
use Rattle.std.proofs.Common.{sym, ap, ap₂, subst, ◌∙◌}
use Rattle.std.proofs.Math.Path.{fun_ext}
use Rattle.std.proofs.lemmas.List.Sorted.{IsPermutation-sym, IsPermutation-trans, IsPermutation-map}
use Rattle.std.proofs.lemmas.Simd.{map-map}
use Rattle.tv_lemmas.specs.Members.{Each, In}
use Rattle.tv_lemmas.proofs.Members.{each_in, in-map, in_each, of-map}
use Rattle.tv_value.specs.Nested.{leaf, list, Place, at, item_at}
use Rattle.tv_value.specs.Orders.{named}
use Rattle.tv_value.specs.Strategies.{Strategy}
use Rattle.tv_value.specs.Values.{ErrorDoc, JobName, Name, Scalar, Value, fault, text}
use Rattle.tv_flow.specs.Flows.{Flow, Step}
use Rattle.tv_strategy.specs.Conditions.{EachOnce, place_of}
use Rattle.tv_strategy.specs.Iterations.{Iteration, walk}
use Rattle.tv_strategy.specs.Measures.{leaf_names}
use Rattle.tv_strategy.specs.Origins.{Origin, Traced, plain}
use Rattle.tv_strategy.specs.Splits.{split}
use Rattle.tv_strategy.proofs.AtPlace.{item_at-map}
use Rattle.tv_model.specs.instance.Delivered.{Ported}
use Rattle.tv_model.specs.instance.Ranks.{is_among}
use Rattle.tv_model.specs.instance.Steps.{port_iteration, port_mismatch, strategy_of}
use Rattle.tv_matching.specs.Items.{Bound, Item, Kind, Stopped, closes, ends, item, kind_of, known_items, passes}
use Rattle.tv_matching.specs.Levels.{AreLeveled}
use Rattle.tv_matching.specs.Matched.{matched}
use Rattle.tv_matching.specs.Matchers.{Outcome, fault_at, kind_out, leaf_number, out}
use Rattle.tv_matching.specs.Members.{Once}
use Rattle.tv_matching.specs.Told.{Spot, Told, arrival, bound_there, close, faulty, map_kind, matched_after, item_there, stop_of, stop_there, telling, told_leaf, told_to}
use Rattle.tv_matching.proofs.FromScratch.{iteration-known}
use Rattle.tv_matching.proofs.Heard.{walk-comes}
use Rattle.tv_matching.proofs.Lists.{map-same}
use Rattle.tv_matching.proofs.Natural.{matched-maps}
use Rattle.tv_matching.proofs.Matchers.{PassesHave, matched-have}
use Rattle.tv_matching.proofs.Members.{in-permutes}
use Rattle.tv_matching.proofs.Permutes.{perm-from}
use Rattle.tv_model.specs.instance.ByResults.{InstanceStep}
use Rattle.tv_model.specs.instance.Events.{Events, known_by}
use Rattle.tv_framing.proofs.Frames.{known-stands}
use Rattle.tv_framing.specs.keeping.Told.{PortIsTold}
use Rattle.tv_framing.specs.matches.Items.{PassesFaultOf, part_at, standing, standing_kind, unnamed}
use Rattle.tv_framing.proofs.matches.Leaves.{PassesAt, among-in, at_leaves, in-among, leaf-in, leaves-permute, number-names, of-told, part-is, told-parted}
use Rattle.tv_framing.proofs.matches.Steps.{IsMadeOf, value_in, walk_in}
use Rattle.tv_framing.proofs.matches.Telling.{seen-leveled, seen-once}
use Rattle.tv_model.proofs.MemberLemmas.{named-in}

-- ---- places and kinds

standing-seen : (values : Name → Traced) (xs : List (Item Spot Spot)) → map standing (map (item_there values) xs) ≡ map standing xs
standing-seen values xs = map-map standing (item_there values) xs ∙ map-same (λ (x : Item Spot Spot). standing (item_there values x)) standing (λ x. by x.place x.kind) xs
  where
    by : (q : Place) (k : Kind Spot Spot) → standing_kind q (map_kind (bound_there values) (stop_there values) k) ≡ standing_kind q k
    by q (ends b) = refl
    by q (closes n) = refl
    by q (passes r) = refl

unnamed-out : (s : Strategy) (xs : List (Item Spot Spot)) → map unnamed (map (out s) xs) ≡ map standing xs
unnamed-out s xs = map-map unnamed (out s) xs ∙ map-same (λ (x : Item Spot Spot). unnamed (out s x)) standing (λ x. by x.place x.kind) xs
  where
    by : (q : Place) (k : Kind Spot Spot) → unnamed (kind_out s q k) ≡ standing_kind q k
    by q (ends b) = refl
    by q (closes n) = refl
    by q (passes r) = refl

-- ---- values

-- the value alone at a place
pub at-plain : (q : Place) (v : Traced) → at (plain v) q ≡ option_map plain (at v q)
at-plain [] v = refl
at-plain (i ∷ q) (leaf o a) = refl
at-plain (i ∷ q) (list o vs) = ap (option_and_then (λ (w : Value). at w q)) (item_at-map (λ (n : Origin). tt) (λ (b : Scalar). b) vs i) ∙ by (item_at vs i) (at-plain q)
  where
    by : (u : Option Traced) → ((w : Traced) → at (plain w) q ≡ option_map plain (at w q)) → option_and_then (λ (w : Value). at w q) (option_map plain u) ≡ option_map plain (option_and_then (λ (w : Traced). at w q) u)
    by None rec = refl
    by (Some w) rec = rec w

-- a fault stands there
pub record IsFault (o : Option Traced) : Type 0 where
  pub origin : Origin
  pub document : ErrorDoc
  pub is : o ≡ Some (leaf origin (fault document))

-- a passed fault of a walk is a fault of the value
walked-fault : (known : Origin → Bool) (p : Name) (k : ℕ) (v : Traced) (x : Item Bound Stopped) (z : Stopped) → x.kind ≡ passes z → In x (known_items known (walk p k v)) → IsFault (at v x.place)
walked-fault known p k v x z e i =
    let r = known-stands known (walk p k v) x i in
    let w = walk-comes p x.place k v r.0 r.1 in
    by w.left w.value r.0 w.is (sym e ∙ r.2) (at v x.place) w.there
  where
    by : (left : ℕ) (u : Traced) (t : Iteration) → t ≡ walk p left u → passes z ≡ kind_of t → (o : Option Traced) → o ≡ Some u → IsFault o
    by zero u t f g o h = let n : passes z ≡ kind_of (walk p 0 u) = g ∙ ap kind_of f in absurd (cc)
    by (suc m) (leaf a (text y)) t f g o h = let n : passes z ≡ kind_of (walk p (suc m) (leaf a (text y))) = g ∙ ap kind_of f in absurd (cc)
    by (suc m) (leaf a (fault d)) t f g o h = record { origin = a; document = d; is = h }
    by (suc m) (list a us) t f g o h = let n : passes z ≡ kind_of (walk p (suc m) (list a us)) = g ∙ ap kind_of f in absurd (cc)

-- ---- one step whose ports were told what is known of their walks

module _ (flow : Flow) (s : Name × Step) (f : InstanceStep) (made : IsMadeOf flow s f) (instance : JobName) (es : Events) (ts : List Told) (told : Each (PortIsTold instance es ts) f.step.inputs) where
  abbrev known : Origin → Bool
  known = known_by instance es

  abbrev leaves : List Name
  leaves = leaf_names (strategy_of s.1)

  abbrev values : Name → Traced
  values p = value_in (named p f.step.inputs)

  pub leaf-walks : (p : Name) (a : Ported) → named p f.step.inputs ≡ Some a → IsPermutation (map (item_there values) (told_to ts p)) (known_items known (walk p a.mismatch a.value))
  leaf-walks p a e = each_in (PortIsTold instance es ts) f.step.inputs told (p, a) (named-in p f.step.inputs a e) values (ap value_in e)

  leaf-told : (p : Name) → In p leaves → IsPermutation (map (item_there values) (told_to ts p)) (known_items known (port_iteration f.step.inputs p))
  leaf-told p i =
      let a = made.leaves p i in
      subst (λ t. IsPermutation (map (item_there values) (told_to ts p)) (known_items known t)) (sym (ap (walk_in p) a.1)) (leaf-walks p a.0 a.1)

  pub leaf-leveled : (p : Name) → In p leaves → AreLeveled (port_mismatch f.step.inputs p) (told_to ts p)
  leaf-leveled p i = seen-leveled values known (told_to ts p) (port_iteration f.step.inputs p) (leaf-told p i) (port_mismatch f.step.inputs p) (made.levels p)

  pub leaf-once : (p : Name) → In p leaves → Once (told_to ts p)
  leaf-once p i = seen-once values known (told_to ts p) (port_iteration f.step.inputs p) (leaf-told p i)

  -- what is matched is what is known of the iteration
  pub matched-known : IsPermutation (map (item_there values) (matched_after (strategy_of s.1) ts)) (known_items known f.step.iteration)
  matched-known =
      subst (λ t. IsPermutation (map (item_there values) (matched_after (strategy_of s.1) ts)) (known_items known t)) (sym made.iterates)
      (IsPermutation-trans _ _ _ (perm-from _ _ (sym (matched-maps (bound_there values) (stop_there values) (told_to ts) (strategy_of s.1))))
      (IsPermutation-trans _ _ _
      (leaves-permute (λ p. map (item_there values) (told_to ts p)) (λ p. known_items known (port_iteration f.step.inputs p)) (strategy_of s.1) leaf-told)
      (perm-from _ _ (sym (iteration-known known (port_iteration f.step.inputs) (port_mismatch f.step.inputs) made.levels (strategy_of s.1) made.dots)))))

  module _ (os : List Outcome) (outcomes : IsPermutation os (map (out (strategy_of s.1)) (matched_after (strategy_of s.1) ts))) where
    pub outcomes-known : IsPermutation (map unnamed os) (map standing (known_items known f.step.iteration))
    outcomes-known =
        IsPermutation-trans _ _ _ (IsPermutation-map unnamed os (map (out (strategy_of s.1)) (matched_after (strategy_of s.1) ts)) outcomes)
        (IsPermutation-trans _ _ _ (perm-from _ _ (unnamed-out (strategy_of s.1) (matched_after (strategy_of s.1) ts) ∙ sym (standing-seen values (matched_after (strategy_of s.1) ts))))
        (IsPermutation-map standing (map (item_there values) (matched_after (strategy_of s.1) ts)) (known_items known f.step.iteration) matched-known))

    -- an outcome is that of a known item
    pub item-of : (o : Outcome) → In o os → (x : Item Bound Stopped) × In x (known_items known f.step.iteration) × (unnamed o ≡ standing x)
    item-of o i =
        of-map standing (unnamed o) (known_items known f.step.iteration)
        (in-permutes (unnamed o) (map standing (known_items known f.step.iteration)) (map unnamed os) (IsPermutation-sym _ _ outcomes-known) (in-map unnamed o os i))

    -- and the other way
    pub outcome-of : (x : Item Bound Stopped) → In x (known_items known f.step.iteration) → (o : Outcome) × In o os × (standing x ≡ unnamed o)
    outcome-of x i =
        of-map unnamed (standing x) os
        (in-permutes (standing x) (map unnamed os) (map standing (known_items known f.step.iteration)) outcomes-known (in-map standing x (known_items known f.step.iteration) i))

    -- ---- faults

    abbrev Holds : Spot → Type 0
    Holds r = IsFault (at (values r.0) r.1)

    told-holds : (p : Name) → In p leaves → (x : Item Spot Spot) → In x (told_to ts p) → PassesHave Holds x.kind
    told-holds p j x i =
        let t = of-told ts p x i in
        let a = made.leaves p j in
        subst (λ (y : Item Spot Spot). PassesHave Holds y.kind) (sym t.3)
        (by t.0 t.2 (subst (λ (y : Item Spot Spot). In y (told_to ts p)) t.3 i) a.0 a.1)
      where
        by : (u : Told) → p ≡ told_leaf u → In (telling u).item (told_to ts p) → (a : Ported) → named p f.step.inputs ≡ Some a → PassesHave Holds (telling u).item.kind
        by (arrival n q false) e k a g = tt
        by (arrival n q true) e k a g =
            subst (λ m. Holds (m, q)) e
            (subst (λ v. IsFault (at v q)) (sym (ap value_in g))
            (walked-fault known p a.mismatch a.value (item q (passes (stop_there values (n, q)))) (stop_there values (n, q)) refl
            (in-permutes (item q (passes (stop_there values (n, q)))) (known_items known (walk p a.mismatch a.value)) (map (item_there values) (told_to ts p)) (IsPermutation-sym _ _ (leaf-walks p a g))
            (in-map (item_there values) (telling (arrival n q true)).item (told_to ts p) k))))
        by (faulty n q) e k a g = tt
        by (close n q m) e k a g = tt

    -- every fault that is matched is a fault of its value
    matched-holds : (x : Item Spot Spot) → In x (matched_after (strategy_of s.1) ts) → PassesHave Holds x.kind
    matched-holds x i =
        let told' : Name → List (Item Spot Spot) = at_leaves (port_mismatch f.step.inputs) ts (strategy_of s.1) leaf-leveled in
        each_in (λ (y : Item Spot Spot). PassesHave Holds y.kind) (matched told' (strategy_of s.1)) (matched-have Holds told' (λ p. in_each (λ (y : Item Spot Spot). PassesHave Holds y.kind) (told' p) (λ y j. of-leaf p y (is_among leaves p) refl j)) (strategy_of s.1)) x (in-permutes x (matched told' (strategy_of s.1)) (matched_after (strategy_of s.1) ts)
        (leaves-permute told' (told_to ts) (strategy_of s.1) (λ p j. perm-from (told' p) (told_to ts p) (ap (λ b. if b then told_to ts p else []) (in-among p leaves j))))
        i)
      where
        of-leaf : (p : Name) (y : Item Spot Spot) (b : Bool) → is_among leaves p ≡ b → In y (if b then told_to ts p else []) → PassesHave Holds y.kind
        of-leaf p y true e j = told-holds p (among-in p leaves e) y j
        of-leaf p y false e j = absurd j

    module _ (once : EachOnce leaves leaves) (q : Place) (l : ℕ) (i : In (fault_at q l) os) where
      spot-fault : (x : Item Spot Spot) → In x (matched_after (strategy_of s.1) ts) → (k : Kind Spot Spot) → x.kind ≡ k → fault_at q l ≡ kind_out (strategy_of s.1) x.place k → PassesFaultOf flow s.1 known f q l
      spot-fault x j (ends b) e g = absurd (cc)
      spot-fault x j (closes n) e g = absurd (cc)
      spot-fault x j (passes r) e g =
          let place : q ≡ x.place = cc in
          let number : l ≡ leaf_number leaves r.0 = cc in
          let h : IsFault (at (values r.0) r.1) = subst (PassesHave Holds) e (matched-holds x j) in
          let parts : In r (split (port_mismatch f.step.inputs) (strategy_of s.1) x.place) = subst (PassesAt (split (port_mismatch f.step.inputs) (strategy_of s.1)) x.place) e (told-parted (port_mismatch f.step.inputs) ts (strategy_of s.1) leaf-leveled made.dots x j) in
          let own : In r.0 leaves = leaf-in (port_mismatch f.step.inputs) (strategy_of s.1) x.place r parts in
          let a = made.leaves r.0 own in
          let leaf_is : get_or leaves l [] ≡ r.0 = ap (λ n. get_or leaves n []) number ∙ number-names leaves r.0 own in
          let part : part_at flow s.1 q l ≡ r.1 =
          ap (λ (m : Name → ℕ). place_of (split m (strategy_of s.1) q) (get_or leaves l [])) (fun_ext made.numbers)
          ∙ ap (λ y. place_of (split (port_mismatch f.step.inputs) (strategy_of s.1) y) (get_or leaves l [])) place
          ∙ ap (place_of (split (port_mismatch f.step.inputs) (strategy_of s.1) x.place)) leaf_is
          ∙ part-is (port_mismatch f.step.inputs) (strategy_of s.1) once x.place r parts
          in
          record {
            document = h.document;
            mark = h.origin.mark;
            item = subst (λ y. In y (known_items known f.step.iteration))
                (ap₂ (λ y z. item y z) (sym place) (ap (map_kind (bound_there values) (stop_there values)) e ∙ ap (λ o. passes (stop_of o)) h.is))
                (in-permutes (item_there values x) (known_items known f.step.iteration) (map (item_there values) (matched_after (strategy_of s.1) ts)) (IsPermutation-sym _ _ matched-known) (in-map (item_there values) x (matched_after (strategy_of s.1) ts) j));
            fault = record {
              port = a.0;
              input = ap (λ n. named n f.step.inputs) leaf_is ∙ a.1;
              there =
                  ap (at (plain a.0.value)) part ∙ at-plain r.1 a.0.value
                  ∙ ap (λ v. option_map plain (at v r.1)) (sym (ap value_in a.1))
                  ∙ ap (option_map plain) h.is;
            };
          }

      pub fault-stands : PassesFaultOf flow s.1 known f q l
      fault-stands =
          let r = of-map (out (strategy_of s.1)) (fault_at q l) (matched_after (strategy_of s.1) ts) (in-permutes (fault_at q l) (map (out (strategy_of s.1)) (matched_after (strategy_of s.1) ts)) os (IsPermutation-sym _ _ outcomes) i) in
          spot-fault r.0 r.1 r.0.kind refl r.2
