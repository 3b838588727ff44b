-- What a feed delivers at a place is found there as soon as all its nodes are known.
use Rattle.std.specs.List.{list_all}
use Rattle.std.specs.Prelude.{◌≡◌, refl, ℕ, zero, suc, ◌+◌, pred, Bool, true, false, ◌&&◌, ◌||◌, if◌then◌else◌, is_some, List, [], ◌∷◌, ◌++◌, map, Option, Some, None, option_and_then, option_map, slice_get, unwrap_or}
use Rattle.std.proofs.Common.{arith, sym, ap, subst, ◌∙◌, append_assoc, append-nil}
use Rattle.std.proofs.lemmas.Bool.{and_parts, or_right, true≢false}
use Rattle.std.proofs.lemmas.Option.{none-some, same_Some}
use Rattle.tv_lemmas.proofs.Lists.{get-map}
use Rattle.tv_value.specs.Nested.{Place, Trees, all_notes, at, count, item_at, leaf, list, map_trees, no_trees, note, notes, tree, trees_of}
use Rattle.tv_value.specs.Values.{JobName, Name, Scalar, Value, list_value}
use Rattle.tv_flow.specs.Flows.{Feed, Flow, Link, constant, input, link, merge, output}
use Rattle.tv_strategy.specs.Iterations.{Iteration, Iterations, job, passed}
use Rattle.tv_strategy.specs.Origins.{Origin, Traced, fixed, from_job, plain, traced}
use Rattle.tv_strategy.specs.Outputs.{output_below, outputs_from}
use Rattle.tv_naming.specs.Naming.{feed_links, is_there}
use Rattle.tv_naming.specs.Numbers.{position}
use Rattle.tv_model.specs.instance.Delivered.{Delivered, feed_delivers, link_delivers}
use Rattle.tv_model.specs.instance.Steps.{spot}
use Rattle.tv_parts.specs.Partials.{Partial, closed, growing, item, known_at, part_at, shows, wanting}
use Rattle.tv_matching.specs.Items.{all_known}
use Rattle.tv_outputs.specs.FoundIn.{found_in}
use Rattle.tv_check.specs.Feeds.{feed_numbered, link_numbered, outputs_of}
use Rattle.tv_binding.specs.Constants.{constant_in}
use Rattle.tv_binding.specs.Found.{Known, all_found, feed_found, link_found}
use Rattle.tv_binding.proofs.Finding.{known-found}
use Rattle.tv_model.specs.Instances.{given_of}
use Rattle.tv_model.specs.instance.ByResults.{InstanceStep, Results, result_at, step_of}
use Rattle.tv_model.specs.instance.Events as events
use Rattle.tv_model.specs.instance.Events.{Events, Extends, closed_with, fault_set, gave, has_fault, has_level, has_result, is_spot, known_by, took}
use Rattle.tv_model.specs.instance.Legality.{AreLegal}
use Rattle.tv_framing.proofs.instances.Events.{level-known, result-known}
use Rattle.tv_framing.specs.Arriving.{part_so_far}
use Rattle.tv_framing.specs.Stated.{IsOfDepths}
use Rattle.tv_framing.specs.Views.{AreOfDepth, InAll, View, steps_with}
use Rattle.tv_framing.proofs.Tellings.{at-append}
use Rattle.tv_framing.specs.engine.WiredFlows.{IsWired}
use Rattle.tv_framing.proofs.engine.Pieces.{ShowsFrom, so_far-shows}
use Rattle.tv_framing.proofs.engine.Showing.{IsItemIf, IsListIf, StandsBy, told}
use Rattle.tv_framing.proofs.starts.Plain.{plain-traced}
use Rattle.tv_framing.proofs.matches.Matched.{at-plain}
use Rattle.tv_framing.proofs.feeds.Names.{is-named}
use Rattle.tv_framing.specs.faults.Known.{tree_of}
use Rattle.tv_frame.proofs.Feeds.{fit-step, input-plain, output-below, output-found, output-tree}
use Rattle.tv_frame.proofs.HoldTold.{same-names-has, same-names-position}

-- ---- lists and notes

module _ (known : Origin → Bool) where
  pub all-split : (xs ys : List Origin) → all_known known (xs ++ ys) ≡ true → (all_known known xs ≡ true) × (all_known known ys ≡ true)
  all-split [] ys h = (refl, h)
  all-split (o ∷ xs) ys h =
      let b = and_parts (known o) (all_known known (xs ++ ys)) h in
      let r = all-split xs ys b.1 in
      (ap (λ c. c && all_known known xs) b.0 ∙ r.0, r.1)

  top-note : (v : Traced) → all_known known (notes v) ≡ true → known (note v) ≡ true
  top-note (leaf o a) h = (and_parts (known o) true h).0
  top-note (list o ts) h = (and_parts (known o) (all_known known (all_notes ts)) h).0

  -- where all nodes are known, each is
  mutual
    note-at : (v : Traced) (q : Place) (u : Traced) → at v q ≡ Some u → all_known known (notes v) ≡ true → known (note u) ≡ true
    note-at v [] u e h = subst (λ (x : Traced). known (note x) ≡ true) (same_Some v u e) (top-note v h)
    note-at (leaf o a) (i ∷ q) u e h = absurd (none-some u e)
    note-at (list o ts) (i ∷ q) u e h = note-in ts i q u e (and_parts (known o) (all_known known (all_notes ts)) h).1

    note-in : (ts : Trees Origin Scalar) (i : ℕ) (q : Place) (u : Traced) → option_and_then (λ (x : Traced). at x q) (item_at ts i) ≡ Some u → all_known known (all_notes ts) ≡ true → known (note u) ≡ true
    note-in no_trees i q u e h = absurd (none-some u e)
    note-in (tree t ts) zero q u e h = note-at t q u e (all-split (notes t) (all_notes ts) h).0
    note-in (tree t ts) (suc i) q u e h = note-in ts i q u e (all-split (notes t) (all_notes ts) h).1

-- a value of one origin
mutual
  pub traced-note : (o : Origin) (v : Value) (y : Place) (u : Traced) → at (traced o v) y ≡ Some u → note u ≡ o
  traced-note o (leaf n a) [] u e = ap note (sym (same_Some (traced o (leaf n a)) u e))
  traced-note o (list n vs) [] u e = ap note (sym (same_Some (traced o (list n vs)) u e))
  traced-note o (leaf n a) (i ∷ y) u e = absurd (none-some u e)
  traced-note o (list n vs) (i ∷ y) u e = traced-notes o vs i y u e

  traced-notes : (o : Origin) (vs : Trees (Unit {0}) Scalar) (i : ℕ) (y : Place) (u : Traced) → option_and_then (λ (x : Traced). at x y) (item_at (map_trees (λ _. o) (λ a. a) vs) i) ≡ Some u → note u ≡ o
  traced-notes o no_trees i y u e = absurd (none-some u e)
  traced-notes o (tree v vs) zero y u e = traced-note o v y u e
  traced-notes o (tree v vs) (suc i) y u e = traced-notes o vs i y u e

-- ---- what is known of an output is shown in its tree

item-shows : (b : Bool) (p : Partial Value) (y : Place) → IsItemIf b p → b ≡ true → shows p y ≡ true
item-shows true wanting y h e = absurd h
item-shows true (item w) y h e = refl
item-shows true (growing ps) y h e = absurd h
item-shows true (closed ps) y h e = absurd h
item-shows false p y h e = absurd (true≢false (sym e))

list-shows : (o : Option ℕ) (c : ℕ) (p : Partial Value) → IsListIf o c p → is_some o ≡ true → shows p [] ≡ true
list-shows None c p h e = absurd (true≢false (sym e))
list-shows (Some n) c wanting h e = absurd h
list-shows (Some n) c (item v) h e = absurd h
list-shows (Some n) c (growing ps) h e = absurd h
list-shows (Some n) c (closed ps) h e = refl

part-shows : (i : ℕ) (y : Place) (p : Partial Value) → shows (part_at p i) y ≡ true → shows p (i ∷ y) ≡ true
part-shows i y wanting h = h
part-shows i y (item v) h = refl
part-shows i y (growing ps) h = h
part-shows i y (closed ps) h = h

pub level-parts : (es : Events) (s : Name) (q : Place) → has_level es s q ≡ (has_fault es s q || is_some (closed_with es s q))
level-parts [] s q = refl
level-parts (gave t r vs ∷ es) s q = level-parts es s q
level-parts (events.closed t r n ∷ es) s q = by (is_spot s q t r) (level-parts es s q)
  where
    by : (b : Bool) → has_level es s q ≡ (has_fault es s q || is_some (closed_with es s q)) → (b || has_level es s q) ≡ (has_fault es s q || is_some (if b then Some n else closed_with es s q))
    by true h = sym (or_right (has_fault es s q) true refl)
    by false h = h
level-parts (fault_set t r d ∷ es) s q = by (is_spot s q t r) (level-parts es s q)
  where
    by : (b : Bool) → has_level es s q ≡ (has_fault es s q || is_some (closed_with es s q)) → (b || has_level es s q) ≡ ((b || has_fault es s q) || is_some (closed_with es s q))
    by true h = refl
    by false h = h
level-parts (took t r ∷ es) s q = level-parts es s q

module _ (instance : JobName) (s : Name) (es : Events) (made : Place → Value) (declared : ℕ) where
  abbrev known : Origin → Bool
  known o = known_by instance es o

  abbrev out : Place → ℕ → Iteration → Traced
  out q l t = output_below (spot instance s) made declared q l t

  pub top-of : (q : Place) (t : Iteration) (p : Partial Value) → ShowsFrom es s q t p → StandsBy (told es s) q t p
  top-of q t p h = subst (λ y. StandsBy (told es s) y t p) (append-nil q) (h [] t refl)

  pub item-of : (q : Place) (r : List Origin) (ts : Iterations) (p : Partial Value) (j : ℕ) (u : Iteration) → ShowsFrom es s q (list r ts) p → item_at ts j ≡ Some u → ShowsFrom es s (q ++ j ∷ []) u (part_at p j)
  item-of q r ts p j u h e x v g = subst (λ y. StandsBy (told es s) y v (known_at x (part_at p j))) (sym (append_assoc q (j ∷ []) x)) (h (j ∷ x) v (ap (option_and_then (λ (y : Iteration). at y x)) e ∙ g))

  fault-then : (a b : Bool) → (a || b) ≡ true → b ≡ false → a ≡ true
  fault-then true b h e = refl
  fault-then false b h e = absurd (true≢false (sym h ∙ e))

  closed-then : (a b : Bool) → (a || b) ≡ true → a ≡ false → b ≡ true
  closed-then true b h e = absurd (true≢false e)
  closed-then false b h e = h

  mutual
    pub out-shows : (t : Iteration) (q : Place) (l : ℕ) (p : Partial Value) → ShowsFrom es s q t p → (y : Place) (u : Traced) → at (out q l t) y ≡ Some u → known (note u) ≡ true → shows p y ≡ true
    out-shows (leaf r (job b)) q l p h y u a k =
        item-shows (has_result es s q) p y (top-of q (leaf r (job b)) p h)
        (result-known instance es s q ∙ ap known (sym (traced-note (from_job (spot instance s q)) (made q) y u a)) ∙ k)
    out-shows (leaf r (passed m e)) q l p h [] u a k =
        let here = top-of q (leaf r (passed m e)) p h in
        let told_so : has_level es s q ≡ true = level-known instance es s q ∙ ap (λ (x : Traced). known (note x)) (same_Some (out q l (leaf r (passed m e))) u a) ∙ k in
        item-shows (has_fault es s q) p [] here.0
        (fault-then (has_fault es s q) (is_some (closed_with es s q)) (sym (level-parts es s q) ∙ told_so) (ap is_some here.1))
    out-shows (leaf r (passed m e)) q l p h (i ∷ y) u a k = absurd (none-some u a)
    out-shows (list r ts) q l p h [] u a k =
        let here = top-of q (list r ts) p h in
        let told_so : has_level es s q ≡ true = level-known instance es s q ∙ ap (λ (x : Traced). known (note x)) (same_Some (out q l (list r ts)) u a) ∙ k in
        list-shows (closed_with es s q) (count ts) p here.0
        (closed-then (has_fault es s q) (is_some (closed_with es s q)) (sym (level-parts es s q) ∙ told_so) here.1)
    out-shows (list r ts) q l p h (i ∷ y) u a k =
        part-shows i y p
        (outs-show ts q (pred l) 0 i i p (zero-plus i) (λ n v e c g. subst (λ m. ShowsFrom es s (q ++ m ∷ []) v (part_at p m)) (sym (g ∙ sym (zero-plus n))) (item-of q r ts p n v h e)) y u a k)
      where
        zero-plus : (n : ℕ) → n ≡ 0 + n
        zero-plus n = omega arith

    outs-show : (ts : Iterations) (q : Place) (l i m j : ℕ) (p : Partial Value) → j ≡ i + m → ((n : ℕ) (v : Iteration) → item_at ts n ≡ Some v → (c : ℕ) → c ≡ i + n → ShowsFrom es s (q ++ c ∷ []) v (part_at p c)) → (y : Place) (u : Traced)
        → option_and_then (λ (x : Traced). at x y) (item_at (outputs_from (spot instance s) made declared q l i ts) m) ≡ Some u → known (note u) ≡ true → shows (part_at p j) y ≡ true
    outs-show no_trees q l i m j p g h y u a k = absurd (none-some u a)
    outs-show (tree t ts) q l i zero j p g h y u a k =
        subst (λ n. shows (part_at p n) y ≡ true) (same i j g) (out-shows t (q ++ i ∷ []) l (part_at p i) (h 0 t refl i (none i)) y u a k)
      where
        none : (n : ℕ) → n ≡ n + 0
        none n = omega arith

        same : (b c : ℕ) → c ≡ b + 0 → b ≡ c
        same b c f = omega arith
    outs-show (tree t ts) q l i (suc m) j p g h y u a k =
        outs-show ts q l (suc i) m j p (next j i m g) (λ n v e c f. h (suc n) v e c (back c i n f)) y u a k
      where
        next : (b c d : ℕ) → b ≡ c + suc d → b ≡ suc c + d
        next b c d f = omega arith

        back : (b c d : ℕ) → b ≡ suc c + d → b ≡ c + suc d
        back b c d f = omega arith

-- ---- feeds

-- of the flow's inputs and of the outputs of its steps this is known
pub record IsKnownIn (levels : Name → ℕ) (w : View) (k : Known) : Type 0 where
  pub names : map (λ (y : Name × Value). y.0) w.inputs ≡ map (λ (y : Name × ℕ). y.0) w.flow.inputs
  pub inputs : k.inputs ≡ map (λ (y : Name × Value). y.1) w.inputs
  pub outputs : (t o : Name) → is_there w.flow (output t o) ≡ true → k.outputs (position t w.flow.steps) (position o (outputs_of w.flow t)) ≡ tree_of w.flow levels w.events t o

there-in : (o : Option Traced) → is_some (option_map plain o) ≡ true → (u : Traced) × (o ≡ Some u)
there-in None h = absurd (true≢false (sym h))
there-in (Some u) h = (u, refl)

module _ (flows : List (Name × Flow)) (levels : Name → ℕ) (w : View) (depths : IsOfDepths flows levels w) (wired : IsWired w.flow) (legal : InAll w (λ instance results fs. AreLegal instance fs w.events)) (instance : JobName) (results : Results) (depth : AreOfDepth w instance results) (x : Extends results w.events)
    (k : Known) (is : IsKnownIn levels w k) where
  abbrev all_its : List InstanceStep
  all_its = steps_with w instance results

  abbrev its : List (Name × Delivered)
  its = given_of w.flow w.inputs

  abbrev is_known : Origin → Bool
  is_known o = known_by instance w.events o

  plain-there : (v : Traced) (q : Place) (u : Traced) → at v q ≡ Some u → at (plain v) q ≡ Some (plain u)
  plain-there v q u e = at-plain q v ∙ ap (option_map plain) e

  link-is_found : (l : Link) → is_there w.flow l ≡ true → (q : Place) (u : Traced) → at (link_delivers step_of its all_its l).value q ≡ Some u → all_known is_known (notes u) ≡ true → link_found k (link_numbered w.flow l) q ≡ Some (plain u)
  link-is_found (input y) h q u a all =
      let st = is-named y w.inputs (same-names-has y w.inputs w.flow.inputs is.names ∙ h) in
      let here : slice_get k.inputs (position y w.flow.inputs) ≡ Some st.thing = ap (λ vs. slice_get vs (position y w.flow.inputs)) is.inputs ∙ ap (slice_get (map (λ (z : Name × Value). z.1) w.inputs)) (sym (same-names-position y w.inputs w.flow.inputs is.names)) ∙ get-map (λ (z : Name × Value). z.1) w.inputs (position y w.inputs) (y, st.thing) st.here in
      let value : plain (link_delivers step_of its all_its (input y)).value ≡ st.thing = input-plain flows levels w depths wired legal instance results depth x y h ∙ ap (λ o. unwrap_or o (list tt no_trees)) st.named_so in
      ap (option_and_then (λ v. at v q)) here
      ∙ ap (λ v. at v q) (sym value)
      ∙ plain-there (link_delivers step_of its all_its (input y)).value q u a
  link-is_found (output t o) h q u a all =
      let d = link_delivers step_of its all_its (output t o) in
      let f = output-found flows levels w depths wired legal instance results depth x t o h in
      let g = f.step in
      let tree_so : tree_of w.flow levels w.events t o ≡ part_so_far g.step.step f.out.0 f.out.2 f.out.1 w.events = output-tree flows levels w depths wired legal instance results depth x t o h in
      let shows_all = so_far-shows g f.out.0 f.out.2 f.out.1 w.events (fit-step flows levels w depths wired legal instance results depth x g f.among) in
      ap (found_in q) (is.outputs t o h)
      ∙ known-found q (tree_of w.flow levels w.events t o) (plain d.value) (plain u) (output-below flows levels w depths wired legal instance results depth x t o h) (plain-there d.value q u a)
      (λ r e.
      let v = there-in (at u r) (ap is_some (sym (at-plain r u)) ∙ e) in
      ap (λ p. shows p (q ++ r)) tree_so
      ∙ out-shows instance g.step.step w.events (result_at results g.step.step f.out.0) f.out.1 g.step.iteration [] f.out.2 (part_so_far g.step.step f.out.0 f.out.2 f.out.1 w.events) shows_all (q ++ r) v.0
      (ap (λ y. at y (q ++ r)) (sym f.out.3) ∙ at-append d.value q r u a ∙ v.1)
      (note-at is_known u r v.0 v.1 all))

  links-are_found : (ls : List Link) → list_all (is_there w.flow) ls ≡ true → all_known is_known (all_notes (trees_of (map (λ (y : Delivered). y.value) (map (link_delivers step_of its all_its) ls)))) ≡ true
      → option_map (λ vs. trees_of vs) (all_found (map (λ l. link_found k l []) (map (link_numbered w.flow) ls))) ≡ Some (map_trees (λ o. tt) (λ a. a) (trees_of (map (λ (y : Delivered). y.value) (map (link_delivers step_of its all_its) ls))))
  links-are_found [] h all = refl
  links-are_found (l ∷ ls) h all =
      let b = and_parts (is_there w.flow l) (list_all (is_there w.flow) ls) h in
      let v = (link_delivers step_of its all_its l).value in
      let p = all-split is_known (notes v) (all_notes (trees_of (map (λ (y : Delivered). y.value) (map (link_delivers step_of its all_its) ls)))) all in
      ap (λ o. option_map (λ vs. trees_of vs) (all_found (o ∷ map (λ m. link_found k m []) (map (link_numbered w.flow) ls)))) (link-is_found l b.0 [] v refl p.0)
      ∙ more (plain v) (all_found (map (λ m. link_found k m []) (map (link_numbered w.flow) ls)))
      ∙ ap (option_map (λ ts. tree (plain v) ts)) (links-are_found ls b.1 p.1)
    where
      more : (y : Value) (o : Option (List Value)) → option_map (λ vs. trees_of vs) (option_map (λ vs. y ∷ vs) o) ≡ option_map (λ ts. tree y ts) (option_map (λ vs. trees_of vs) o)
      more y None = refl
      more y (Some vs) = refl

  item-is_found : (ls : List Link) → list_all (is_there w.flow) ls ≡ true → (i : ℕ) (q : Place) (u : Traced) → option_and_then (λ (y : Traced). at y q) (item_at (trees_of (map (λ (y : Delivered). y.value) (map (link_delivers step_of its all_its) ls))) i) ≡ Some u → all_known is_known (notes u) ≡ true
      → option_and_then (λ l. link_found k l q) (slice_get (map (link_numbered w.flow) ls) i) ≡ Some (plain u)
  item-is_found [] h i q u a all = absurd (none-some u a)
  item-is_found (l ∷ ls) h zero q u a all = link-is_found l (and_parts (is_there w.flow l) (list_all (is_there w.flow) ls) h).0 q u a all
  item-is_found (l ∷ ls) h (suc i) q u a all = item-is_found ls (and_parts (is_there w.flow l) (list_all (is_there w.flow) ls) h).1 i q u a all

  -- THE FEEDS: what stands there with all its nodes known is found
  pub feed-is_found : (d : Feed) → list_all (is_there w.flow) (feed_links d) ≡ true → (q : Place) (u : Traced) → at (feed_delivers step_of its all_its d).value q ≡ Some u → all_known is_known (notes u) ≡ true → feed_found k (feed_numbered w.flow d) (constant_in d) q ≡ Some (plain u)
  feed-is_found (link l) h q u a all = link-is_found l (and_parts (is_there w.flow l) true h).0 q u a all
  feed-is_found (merge []) h [] u a all = ap (λ (y : Traced). Some (plain y)) (same_Some (list fixed no_trees) u a)
  feed-is_found (merge []) h (i ∷ q) u a all = absurd (none-some u a)
  feed-is_found (merge (l ∷ ls)) h [] u a all =
      let ts = trees_of (map (λ (y : Delivered). y.value) (map (link_delivers step_of its all_its) (l ∷ ls))) in
      let same : list fixed ts ≡ u = same_Some (list fixed ts) u a in
      lists (all_found (map (λ m. link_found k m []) (map (link_numbered w.flow) (l ∷ ls))))
      ∙ ap (option_map (λ ys. list tt ys)) (links-are_found (l ∷ ls) h (and_parts (is_known fixed) (all_known is_known (all_notes ts)) (ap (λ (y : Traced). all_known is_known (notes y)) same ∙ all)).1)
      ∙ ap (λ (y : Traced). Some (plain y)) same
    where
      lists : (o : Option (List Value)) → option_map (λ vs. list_value (trees_of vs)) o ≡ option_map (λ ys. list tt ys) (option_map (λ vs. trees_of vs) o)
      lists None = refl
      lists (Some vs) = refl
  feed-is_found (merge (l ∷ ls)) h (i ∷ q) u a all = item-is_found (l ∷ ls) h i q u a all
  feed-is_found (constant c) h q u a all = ap (λ v. at v q) (sym (plain-traced fixed c)) ∙ plain-there (traced fixed c) q u a
