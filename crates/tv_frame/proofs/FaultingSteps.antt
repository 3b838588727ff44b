-- A fault that a step passes is known in the value of its port, and stands there from where the port's leaf begins.
use Rattle.std.specs.List.{list_all}
use Rattle.std.specs.Prelude.{◌≡◌, refl, ℕ, zero, suc, ◌+◌, ◌<◌, Bool, true, false, get_or, if◌then◌else◌, List, [], ◌∷◌, ◌++◌, drop, length, map, Option, Some, option_map, slice_get, IsPermutation}
use Rattle.std.proofs.Common.{arith, sym, ap, ap₂, subst, ◌∙◌, inl, inr}
use Rattle.std.proofs.Math.Path.{fun_ext}
use Rattle.std.proofs.lemmas.Bool.{and_parts, true≢false}
use Rattle.std.proofs.lemmas.List.{map-append}
use Rattle.std.proofs.lemmas.List.Sorted.{IsPermutation-sym}
use Rattle.tv_lemmas.specs.Members.{Each, In}
use Rattle.tv_lemmas.proofs.Members.{each_in, in-map, in_each, of-map}
use Rattle.tv_value.specs.Nested.{leaf, list, note, Place, at}
use Rattle.tv_value.specs.Orders.{named, same_name}
use Rattle.tv_value.specs.Strategies.{Strategy, Strategies, cross, dot, prefix, no_strategies, port, strategy}
use Rattle.tv_value.specs.Values.{ErrorDoc, JobName, Name, fault, text}
use Rattle.tv_value.proofs.NameLemmas.{same_name-refl}
use Rattle.tv_flow.specs.Flows.{Flow, Step}
use Rattle.tv_strategy.specs.Conditions.{EachOnce, number_of, place_of, times}
use Rattle.tv_strategy.specs.Iterations.{Iteration, walk}
use Rattle.tv_strategy.specs.Measures.{DotsAgree, all_leaf_names, leaf_names, strategy_depth}
use Rattle.tv_strategy.specs.Origins.{Origin, Traced, plain}
use Rattle.tv_strategy.specs.Splits.{split}
use Rattle.tv_model.specs.instance.Delivered.{Ported}
use Rattle.tv_model.specs.instance.Ranks.{is_among}
use Rattle.tv_model.specs.instance.Steps.{port_mismatch, strategy_of}
use Rattle.tv_matching.specs.Items.{Bound, Item, Kind, Stopped, closes, ends, item, kind_of, known_items, passes}
use Rattle.tv_matching.specs.Matched.{matched}
use Rattle.tv_matching.specs.Matchers.{Outcome, fault_at, kind_out, leaf_number, out}
use Rattle.tv_matching.specs.Told.{IsFit, Spot, Told, arrival, bound_there, close, faulty, map_kind, matched_after, item_there, stop_of, stop_there, telling, told_leaf, told_to}
use Rattle.tv_matching.proofs.Heard.{walk-comes}
use Rattle.tv_matching.proofs.Matchers.{PassesHave, matched-have}
use Rattle.tv_matching.proofs.Members.{in-permutes}
use Rattle.tv_matching.proofs.Permutes.{perm-from}
use Rattle.tv_check.specs.Ports.{mismatches}
use Rattle.tv_model.specs.instance.ByResults.{InstanceStep}
use Rattle.tv_model.specs.instance.Events.{Events, known_by}
use Rattle.tv_framing.proofs.Frames.{known-stands}
use Rattle.tv_framing.specs.keeping.Told.{PortIsTold}
use Rattle.tv_frame.specs.Starts.{cross_starts, dot_starts, starts}
use Rattle.tv_frame.proofs.Faults.{faults-stand}
use Rattle.tv_framing.specs.matches.Items.{IsFaultOf, part_at}
use Rattle.tv_framing.proofs.matches.Leaves.{among-in, at_leaves, in-among, leaf-in, leaves-permute, number-names, of-told, part-is, told-parted, PassesAt, each-once}
use Rattle.tv_framing.proofs.matches.Matched.{at-plain, leaf-leveled, matched-known, leaf-walks}
use Rattle.tv_framing.proofs.matches.Steps.{IsMadeOf, value_in}
use Rattle.tv_frame.specs.Tables.{step_starts}

-- ---- values

-- a fault stands there, and its origin is known
pub record IsKnownFault (known : Origin → Bool) (o : Option Traced) : Type 0 where
  pub origin : Origin
  pub document : ErrorDoc
  pub is : o ≡ Some (leaf origin (fault document))
  pub knows : known origin ≡ true

-- a fault that is passed of a walk is a known fault of the value, above all that the port binds
walked-fault : (known : Origin → Bool) (p : Name) (k : ℕ) (v : Traced) (x : Item Bound Stopped) (z : Stopped) → x.kind ≡ passes z → In x (known_items known (walk p k v)) → IsKnownFault known (at v x.place) × (length x.place < k)
walked-fault known p k v x z e i =
    let r = known-stands known (walk p k v) x i in
    let w = walk-comes p x.place k v r.0 r.1 in
    by w.left w.value r.0 w.is (sym e ∙ r.2) r.3 (at v x.place) w.there (λ m f. omega (arith, w.levels, f))
  where
    by : (left : ℕ) (u : Traced) (t : Iteration) → t ≡ walk p left u → passes z ≡ kind_of t → list_all known (note t) ≡ true → (o : Option Traced) → o ≡ Some u → ((m : ℕ) → left ≡ suc m → length x.place < k) → IsKnownFault known o × (length x.place < k)
    by zero u t f g n o h some = let c : passes z ≡ kind_of (walk p 0 u) = g ∙ ap kind_of f in absurd (cc)
    by (suc m) (leaf a (text y)) t f g n o h some = let c : passes z ≡ kind_of (walk p (suc m) (leaf a (text y))) = g ∙ ap kind_of f in absurd (cc)
    by (suc m) (leaf a (fault d)) t f g n o h some = (record { origin = a; document = d; is = h; knows = (and_parts (known a) true (sym (ap (λ (y : Iteration). list_all known (note y)) f) ∙ n)).0 }, some m refl)
    by (suc m) (list a us) t f g n o h some = let c : passes z ≡ kind_of (walk p (suc m) (list a us)) = g ∙ ap kind_of f in absurd (cc)

-- ---- where leaves begin

mutual
  pub starts-names : (ports : Name → ℕ) (b : ℕ) (s : Strategy) → map (λ (x : Name × ℕ). x.0) (starts ports b s) ≡ leaf_names s
  starts-names ports b (port p) = refl
  starts-names ports b (cross cs) = cross-names ports b cs
  starts-names ports b (dot cs) = dot-names ports b cs
  starts-names ports b (prefix l r) =
      map-append (λ (x : Name × ℕ). x.0) (starts ports b l) (starts ports b r)
      ∙ ap₂ (λ xs ys. xs ++ ys) (starts-names ports b l) (starts-names ports b r)

  cross-names : (ports : Name → ℕ) (b : ℕ) (cs : Strategies) → map (λ (x : Name × ℕ). x.0) (cross_starts ports b cs) ≡ all_leaf_names cs
  cross-names ports b no_strategies = refl
  cross-names ports b (strategy c cs) =
      map-append (λ (x : Name × ℕ). x.0) (starts ports b c) (cross_starts ports (b + strategy_depth ports c) cs)
      ∙ ap₂ (λ xs ys. xs ++ ys) (starts-names ports b c) (cross-names ports (b + strategy_depth ports c) cs)

  dot-names : (ports : Name → ℕ) (b : ℕ) (cs : Strategies) → map (λ (x : Name × ℕ). x.0) (dot_starts ports b cs) ≡ all_leaf_names cs
  dot-names ports b no_strategies = refl
  dot-names ports b (strategy c cs) =
      map-append (λ (x : Name × ℕ). x.0) (starts ports b c) (dot_starts ports b cs)
      ∙ ap₂ (λ xs ys. xs ++ ys) (starts-names ports b c) (dot-names ports b cs)

-- a name that stands once has what stands with it at its number
none-more : (n : Name) (a : ℕ) (xs : List (Name × ℕ)) → times n (map (λ (x : Name × ℕ). x.0) xs) ≡ 0 → In (n, a) xs → ⊥
none-more n a [] t i = i
none-more n a (x ∷ xs) t (inl e) = by (same_name n x.0) (ap (same_name n) (sym (ap (λ (y : Name × ℕ). y.0) e)) ∙ same_name-refl n) t
  where
    by : (b : Bool) → b ≡ true → (if b then suc (times n (map (λ (y : Name × ℕ). y.0) xs)) else times n (map (λ (y : Name × ℕ). y.0) xs)) ≡ 0 → ⊥
    by true f g = omega (arith, g)
    by false f g = cc
none-more n a (x ∷ xs) t (inr i) = by (same_name n x.0) t (λ g. none-more n a xs g i)
  where
    by : (b : Bool) → (if b then suc (times n (map (λ (y : Name × ℕ). y.0) xs)) else times n (map (λ (y : Name × ℕ). y.0) xs)) ≡ 0 → (times n (map (λ (y : Name × ℕ). y.0) xs) ≡ 0 → ⊥) → ⊥
    by true g rec = omega (arith, g)
    by false g rec = rec g

at-number : (n : Name) (a : ℕ) (xs : List (Name × ℕ)) → times n (map (λ (x : Name × ℕ). x.0) xs) ≡ 1 → In (n, a) xs → slice_get (map (λ (x : Name × ℕ). x.1) xs) (leaf_number (map (λ (x : Name × ℕ). x.0) xs) n) ≡ Some a
at-number n a [] t i = absurd i
at-number n a (x ∷ xs) t i = by (same_name n x.0) refl t i (λ g j. at-number n a xs g j)
  where
    ns : List Name
    ns = map (λ (x : Name × ℕ). x.0) xs

    one : (k : ℕ) → suc k ≡ 1 → k ≡ 0
    one k e = omega (arith, e)

    here : In (n, a) (x ∷ xs) → (In (n, a) xs → ⊥) → x.1 ≡ a
    here (inl e) gone = sym (ap (λ (y : Name × ℕ). y.1) e)
    here (inr j) gone = absurd (gone j)

    later : same_name n x.0 ≡ false → In (n, a) (x ∷ xs) → In (n, a) xs
    later f (inl e) = absurd (true≢false (sym (ap (same_name n) (sym (ap (λ (y : Name × ℕ). y.0) e)) ∙ same_name-refl n) ∙ f))
    later f (inr j) = j

    by : (b : Bool) → same_name n x.0 ≡ b → (if b then suc (times n ns) else times n ns) ≡ 1 → In (n, a) (x ∷ xs) → (times n ns ≡ 1 → In (n, a) xs → slice_get (map (λ (y : Name × ℕ). y.1) xs) (leaf_number ns n) ≡ Some a) → slice_get (x.1 ∷ map (λ (y : Name × ℕ). y.1) xs) (if b then 0 else suc (leaf_number ns n)) ≡ Some a
    by true f g j rec = ap (λ y. Some y) (here j (λ k. none-more n a xs (one (times n ns) g) k))
    by false f g j rec = rec g (later f j)

-- ---- one step whose ports were told what is known of their walks

-- the fault of a leaf at a place, in what its port is delivered
pub record IsKnownAt (flow : Flow) (s : Name × Step) (f : InstanceStep) (known : Origin → Bool) (q : Place) (l : ℕ) : Type 0 where
  pub name : Name
  pub number : l ≡ leaf_number (leaf_names (strategy_of s.1)) name
  pub leaf_is : get_or (leaf_names (strategy_of s.1)) l [] ≡ name
  pub port : Ported
  pub input : named name f.step.inputs ≡ Some port
  pub walks : 0 < port.mismatch
  pub start : ℕ
  pub start_is : slice_get (map (λ (x : Name × ℕ). x.1) (step_starts flow s)) l ≡ Some start
  pub fault : IsKnownFault known (at port.value (drop start q))
  pub is_of : IsFaultOf flow s.1 f q l fault.document
  pub above : length (drop start q) < port.mismatch
  -- it is what stands there in the step's iteration
  pub passed : In (item q (passes (fault.origin.mark, fault.document))) (known_items known f.step.iteration)

module _ (flow : Flow) (s : Name × Step) (f : InstanceStep) (made : IsMadeOf flow s f) (instance : JobName) (es : Events) (ts : List Told) (told : Each (PortIsTold instance es ts) f.step.inputs) (fit : Each (IsFit (number_of (mismatches flow s.1))) ts) where
  abbrev known : Origin → Bool
  known = known_by instance es

  abbrev leaves : List Name
  leaves = leaf_names (strategy_of s.1)

  abbrev values : Name → Traced
  values p = value_in (named p f.step.inputs)

  -- with the port of that name
  record Holds (r : Spot) : Type 0 where
    port : Ported
    input : named r.0 f.step.inputs ≡ Some port
    above : length r.1 < port.mismatch
    fault : IsKnownFault known (at port.value r.1)

  told-holds : (p : Name) → In p leaves → (x : Item Spot Spot) → In x (told_to ts p) → PassesHave Holds x.kind
  told-holds p j x i =
      let t = of-told ts p x i in
      let a = made.leaves p j in
      subst (λ (y : Item Spot Spot). PassesHave Holds y.kind) (sym t.3)
      (by t.0 t.2 (subst (λ (y : Item Spot Spot). In y (told_to ts p)) t.3 i) a.0 a.1)
    where
      by : (u : Told) → p ≡ told_leaf u → In (telling u).item (told_to ts p) → (a : Ported) → named p f.step.inputs ≡ Some a → PassesHave Holds (telling u).item.kind
      by (arrival n q false) e k a g = tt
      by (arrival n q true) e k a g =
          let r = walked-fault known p a.mismatch a.value (item q (passes (stop_there values (n, q)))) (stop_there values (n, q)) refl
          (in-permutes (item q (passes (stop_there values (n, q)))) (known_items known (walk p a.mismatch a.value)) (map (item_there values) (told_to ts p)) (IsPermutation-sym _ _ (leaf-walks flow s f made instance es ts told p a g))
          (in-map (item_there values) (telling (arrival n q true)).item (told_to ts p) k)) in
          subst (λ m. Holds (m, q)) e (record { port = a; input = g; above = r.1; fault = r.0 })
      by (faulty n q) e k a g = tt
      by (close n q m) e k a g = tt

  -- every fault that is matched is a known fault of its value
  matched-holds : (x : Item Spot Spot) → In x (matched_after (strategy_of s.1) ts) → PassesHave Holds x.kind
  matched-holds x i =
      let told' : Name → List (Item Spot Spot) = at_leaves (port_mismatch f.step.inputs) ts (strategy_of s.1) (leaf-leveled flow s f made instance es ts told) in
      each_in (λ (y : Item Spot Spot). PassesHave Holds y.kind) (matched told' (strategy_of s.1)) (matched-have Holds told' (λ p. in_each (λ (y : Item Spot Spot). PassesHave Holds y.kind) (told' p) (λ y j. of-leaf p y (is_among leaves p) refl j)) (strategy_of s.1)) x (in-permutes x (matched told' (strategy_of s.1)) (matched_after (strategy_of s.1) ts)
      (leaves-permute told' (told_to ts) (strategy_of s.1) (λ p j. perm-from (told' p) (told_to ts p) (ap (λ b. if b then told_to ts p else []) (in-among p leaves j))))
      i)
    where
      of-leaf : (p : Name) (y : Item Spot Spot) (b : Bool) → is_among leaves p ≡ b → In y (if b then told_to ts p else []) → PassesHave Holds y.kind
      of-leaf p y true e j = told-holds p (among-in p leaves e) y j
      of-leaf p y false e j = absurd j

  -- and is known of the step's iteration, with its mark
  seen-among : (x : Item Spot Spot) → In x (matched_after (strategy_of s.1) ts) → In (item_there values x) (known_items known f.step.iteration)
  seen-among x i =
      in-permutes (item_there values x) (known_items known f.step.iteration) (map (item_there values) (matched_after (strategy_of s.1) ts)) (IsPermutation-sym _ _ (matched-known flow s f made instance es ts told))
      (in-map (item_there values) x (matched_after (strategy_of s.1) ts) i)

  seen-as : (x : Item Spot Spot) (r : Spot) → x.kind ≡ passes r → (h : Holds r) → item_there values x ≡ item x.place (passes (h.fault.origin.mark, h.fault.document))
  seen-as x r e h =
      ap (λ k. item x.place (map_kind (bound_there values) (stop_there values) k)) e
      ∙ ap (λ (w : Stopped). item x.place (passes w)) (ap (λ (w : Option Ported). stop_of (at (value_in w) r.1)) h.input ∙ ap stop_of h.fault.is)

  module _ (once : EachOnce leaves leaves) (dots : DotsAgree (number_of (mismatches flow s.1)) (strategy_of s.1)) (os : List Outcome) (outcomes : IsPermutation os (map (out (strategy_of s.1)) (matched_after (strategy_of s.1) ts))) (q : Place) (l : ℕ) (i : In (fault_at q l) os) where
    spot-fault : (x : Item Spot Spot) → In x (matched_after (strategy_of s.1) ts) → (k : Kind Spot Spot) → x.kind ≡ k → fault_at q l ≡ kind_out (strategy_of s.1) x.place k → IsKnownAt flow s f known q l
    spot-fault x j (ends b) e g = absurd (cc)
    spot-fault x j (closes n) e g = absurd (cc)
    spot-fault x j (passes r) e g =
        let place : q ≡ x.place = cc in
        let number : l ≡ leaf_number leaves r.0 = cc in
        let h : Holds r = subst (PassesHave Holds) e (matched-holds x j) in
        let parts : In r (split (port_mismatch f.step.inputs) (strategy_of s.1) x.place) = subst (PassesAt (split (port_mismatch f.step.inputs) (strategy_of s.1)) x.place) e (told-parted (port_mismatch f.step.inputs) ts (strategy_of s.1) (leaf-leveled flow s f made instance es ts told) made.dots x j) in
        let own : In r.0 leaves = leaf-in (port_mismatch f.step.inputs) (strategy_of s.1) x.place r parts in
        let leaf_is : get_or leaves l [] ≡ r.0 = ap (λ n. get_or leaves n []) number ∙ number-names leaves r.0 own in
        let part : part_at flow s.1 q l ≡ r.1 =
        ap (λ (m : Name → ℕ). place_of (split m (strategy_of s.1) q) (get_or leaves l [])) (fun_ext made.numbers)
        ∙ ap (λ y. place_of (split (port_mismatch f.step.inputs) (strategy_of s.1) y) (get_or leaves l [])) place
        ∙ ap (place_of (split (port_mismatch f.step.inputs) (strategy_of s.1) x.place)) leaf_is
        ∙ part-is (port_mismatch f.step.inputs) (strategy_of s.1) once x.place r parts
        in
        let from = faults-stand (number_of (mismatches flow s.1)) (strategy_of s.1) dots ts fit x j r e in
        let rest : r.1 ≡ drop from.0 q = from.2 ∙ ap (drop from.0) (sym place) in
        let names : map (λ (y : Name × ℕ). y.0) (step_starts flow s) ≡ leaves = starts-names (number_of (mismatches flow s.1)) 0 (strategy_of s.1) in
        record {
          name = r.0;
          number = number;
          leaf_is = leaf_is;
          port = h.port;
          input = h.input;
          walks = let a = h.above in omega (arith, a);
          start = from.0;
          start_is =
              ap (slice_get (map (λ (y : Name × ℕ). y.1) (step_starts flow s))) (number ∙ ap (λ ns. leaf_number ns r.0) (sym names))
              ∙ at-number r.0 from.0 (step_starts flow s) (ap (times r.0) names ∙ each-once leaves leaves once r.0 own) from.1;
          fault = record {
            origin = h.fault.origin;
            document = h.fault.document;
            is = ap (at h.port.value) (sym rest) ∙ h.fault.is;
            knows = h.fault.knows;
          };
          is_of = record {
            port = h.port;
            input = ap (λ n. named n f.step.inputs) leaf_is ∙ h.input;
            there = ap (at (plain h.port.value)) part ∙ at-plain r.1 h.port.value ∙ ap (option_map plain) h.fault.is;
          };
          above = subst (λ p. length p < h.port.mismatch) rest h.above;
          passed = subst (λ y. In y (known_items known f.step.iteration)) (seen-as x r e h ∙ ap (λ p. item p (passes (h.fault.origin.mark, h.fault.document))) (sym place)) (seen-among x j);
        }

    pub fault-known : IsKnownAt flow s f known q l
    fault-known =
        let r = of-map (out (strategy_of s.1)) (fault_at q l) (matched_after (strategy_of s.1) ts) (in-permutes (fault_at q l) (map (out (strategy_of s.1)) (matched_after (strategy_of s.1) ts)) os (IsPermutation-sym _ _ outcomes) i) in
        spot-fault r.0 r.1 r.0.kind refl r.2
