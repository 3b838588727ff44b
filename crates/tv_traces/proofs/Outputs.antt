-- The outputs of a document: what stands in them used what the shapes of the main instance's steps tell.
use Rattle.std.specs.List.{cons_option}
use Rattle.std.specs.Option.{option_map_or}
use Rattle.std.specs.Prelude.{◌≡◌, refl, ℕ, suc, ◌+◌, Bool, true, false, filter_map, flat_map, if◌then◌else◌, is_some, length, List, [], ◌∷◌, ◌++◌, map, Option, Some, None, option_and_then, option_map, slice_get}
use Rattle.std.proofs.Common.{arith, sym, ap, ap₂, subst, ◌∙◌}
use Rattle.std.proofs.lemmas.List.{map-append}
use Rattle.std.proofs.lemmas.Option.{none-some, same_Some}
use Rattle.tv_value.specs.Nested.{Place, Trees, at, item_at, leaf, list, map_trees, nodes, nodes_below, nodes_from, no_trees, notes, tree}
use Rattle.tv_value.specs.Orders.{named, same_name}
use Rattle.tv_value.specs.Values.{Name, Scalar}
use Rattle.tv_gate.specs.Outcomes.{Giving}
use Rattle.tv_flow.specs.Flows.{Document, Feed, Flow}
use Rattle.tv_lineage.specs.Lineages as lineages
use Rattle.tv_lineage.specs.Touching as marks
use Rattle.tv_strategy.specs.Origins.{Origin, Traced, plain}
use Rattle.tv_naming.specs.Numbers.{position}
use Rattle.tv_model.specs.instance.Delivered.{feed_delivers}
use Rattle.tv_model.specs.instance.Ranks.{ranked}
use Rattle.tv_check.specs.Feeds.{feed_numbered}
use Rattle.tv_model.specs.instance.ByResults.{InstanceStep, step_of, steps_by}
use Rattle.tv_frame.proofs.instances.Results.{feed-map, itself, steps-by_results, steps-core}
use Rattle.tv_model.specs.Instances.{given_of}
use Rattle.tv_model.specs.Made.{Meaning, feed_value, step_in}
use Rattle.tv_model.specs.Meanings.{flow_meaning, instance_meaning, meaning, no_meaning}
use Rattle.tv_model.specs.records.Recorded.{leaf_of, leaves, marks_of, output_at}
use Rattle.tv_traces.specs.Feeds.{feed_marks}
use Rattle.tv_traces.specs.Leaves.{leaf_places, places_from}
use Rattle.tv_traces.specs.Shapes.{Shape}
use Rattle.tv_traces.specs.Staged.{main_made, main_results, steps_until}
use Rattle.tv_forest.specs.runs.Stated.{IsMainFlow}
use Rattle.tv_traces.specs.Standing.{AreShapesOf}
use Rattle.tv_traces.proofs.FeedLemmas.{feed-marks}
use Rattle.tv_traces.proofs.Stages.{all-stand, many}
use Rattle.tv_traces.proofs.Tables.{all-so}
use Rattle.tv_frame.proofs.matches.Matched.{at-plain}

-- ---- values and what they are made of

-- the items of a plain list
abbrev plains : Trees Origin Scalar → Trees (Unit {0}) Scalar
plains ts = map_trees (λ o. tt) (λ a. a) ts

-- a leaf at a place, with these marks
module _ (p : Name) (told : Place → List marks.Mark) where
  abbrev leaf_at : Place → lineages.Leaf
  leaf_at r = record { port = p; place = r; used = told r }

  abbrev Right : Place × Traced → Type 0
  Right x = marks_of x.1 ≡ told x.0

  mutual
    leaves-told : (v : Traced) (q : Place) → ((r : Place) (w : Traced) → at v r ≡ Some w → marks_of w ≡ told (q ++ r)) → filter_map (leaf_of p) (nodes_below q v) ≡ map leaf_at (leaf_places q (plain v))
    leaves-told (leaf o a) q h = ap (λ ms. record { port = p; place = q; used = ms } ∷ []) (h [] (leaf o a) refl ∙ ap told (none q))
      where
        none : (q : Place) → q ++ [] ≡ q
        none [] = refl
        none (i ∷ q) = ap (λ r. i ∷ r) (none q)
    leaves-told (list o ts) q h = items-told ts q 0 (λ i r w e. subst (λ j. marks_of w ≡ told (q ++ j ∷ r)) (from-none i) (h (i ∷ r) w e))
      where
        from-none : (i : ℕ) → i ≡ 0 + i
        from-none i = omega arith

    items-told : (ts : Trees Origin Scalar) (q : Place) (i : ℕ) → ((j : ℕ) (r : Place) (w : Traced) → option_and_then (λ u. at u r) (item_at ts j) ≡ Some w → marks_of w ≡ told (q ++ (i + j) ∷ r)) → filter_map (leaf_of p) (nodes_from q i ts) ≡ map leaf_at (places_from q i (plains ts))
    items-told no_trees q i h = refl
    items-told (tree t ts) q i h =
        filter-both (nodes_below (q ++ i ∷ []) t) (nodes_from q (suc i) ts)
        ∙ ap₂ (λ a b. a ++ b)
        (leaves-told t (q ++ i ∷ []) (λ r w e. h 0 r w e ∙ ap told (first q i r)))
        (items-told ts q (suc i) (λ j r w e. h (suc j) r w e ∙ ap (λ k. told (q ++ k ∷ r)) (later i j)))
        ∙ sym (map-append leaf_at (leaf_places (q ++ i ∷ []) (plain t)) (places_from q (suc i) (plains ts)))
      where
        later : (i j : ℕ) → i + suc j ≡ suc i + j
        later i j = omega arith

        zero-more : (i : ℕ) → i + 0 ≡ i
        zero-more i = omega arith

        after : (q : Place) (i : ℕ) (r : Place) → q ++ (i ∷ r) ≡ (q ++ i ∷ []) ++ r
        after [] i r = refl
        after (k ∷ q) i r = ap (λ l. k ∷ l) (after q i r)

        first : (q : Place) (i : ℕ) (r : Place) → q ++ ((i + 0) ∷ r) ≡ (q ++ i ∷ []) ++ r
        first q i r = ap (λ k. q ++ (k ∷ r)) (zero-more i) ∙ after q i r

        filter-both : (xs ys : List (Place × Traced)) → filter_map (leaf_of p) (xs ++ ys) ≡ filter_map (leaf_of p) xs ++ filter_map (leaf_of p) ys
        filter-both [] ys = refl
        filter-both (x ∷ xs) ys = by (leaf_of p x) (filter-both xs ys)
          where
            by : (o : Option lineages.Leaf) → filter_map (leaf_of p) (xs ++ ys) ≡ filter_map (leaf_of p) xs ++ filter_map (leaf_of p) ys → cons_option o (filter_map (leaf_of p) (xs ++ ys)) ≡ cons_option o (filter_map (leaf_of p) xs) ++ filter_map (leaf_of p) ys
            by None e = e
            by (Some z) e = ap (λ l. z ∷ l) e

-- ---- the outputs of a document

module _ (gives : Giving) (d : Document) (flow : Flow) (is : IsMainFlow d flow) where
  abbrev all : List InstanceStep
  all = steps_until gives d flow (length flow.steps)

  abbrev pub value : Feed → Traced
  value f = (feed_delivers step_of (given_of flow d.inputs) all f).value

  abbrev pub output : Name × Feed → Name × Traced
  output o = (o.0, value o.1)

  abbrev output_made : Name × Feed → Name × Traced
  output_made o = (o.0, (feed_value (given_of flow d.inputs) (main_made gives d flow) o.1).value)

  meaning-is : meaning gives d ≡ instance_meaning gives (flow_meaning gives d.flows 7) [] flow d.inputs
  meaning-is = ap (λ o. option_map_or (λ (g : Flow). instance_meaning gives (flow_meaning gives d.flows 7) [] g d.inputs) o no_meaning) is.is_main

  fed : (f : Feed) → feed_value (given_of flow d.inputs) (main_made gives d flow) f ≡ feed_delivers step_of (given_of flow d.inputs) all f
  fed f =
      feed-map step_in (given_of flow d.inputs) (main_made gives d flow) f
      ∙ ap (λ l. feed_delivers itself (given_of flow d.inputs) l f)
      (steps-core gives (flow_meaning gives d.flows 7) [] (given_of flow d.inputs) (main_results gives d flow) (main_made gives d flow) (steps_by [] (main_results gives d flow) (given_of flow d.inputs) [] (ranked flow.steps)) (steps-by_results gives (flow_meaning gives d.flows 7) [] flow d.inputs)
      ∙ ap (λ ss. map step_of (steps_by [] (main_results gives d flow) (given_of flow d.inputs) [] ss)) (sym (many gives d flow is)))
      ∙ sym (feed-map step_of (given_of flow d.inputs) all f)

  pub outputs-are : (meaning gives d).outputs ≡ map output flow.outputs
  outputs-are = ap (λ (m : Meaning). m.outputs) meaning-is ∙ each flow.outputs
    where
      each : (os : List (Name × Feed)) → map output_made os ≡ map output os
      each [] = refl
      each (o ∷ os) = ap₂ (λ x l. (o.0, x) ∷ l) (ap (λ (y : Rattle.tv_model.specs.instance.Delivered.Delivered). y.value) (fed o.1)) (each os)

  module _ (shapes : List Shape) (shown : AreShapesOf (λ o. true) flow all shapes) where
    abbrev told : Feed → Place → List marks.Mark
    told f q = feed_marks flow shapes (feed_numbered flow f) q

    told-is : (f : Feed) (q : Place) (w : Traced) → at (value f) q ≡ Some w → told f q ≡ marks_of w
    told-is f q w e = feed-marks (λ o. true) flow d.inputs all shapes (all-stand gives d flow is (length flow.steps)) shown f q w (all-so (notes w)) e

    -- at a place of an output
    pub place-told : (f : Feed) (q : Place) (b : Bool) → b ≡ is_some (at (plain (value f)) q) → (if b then Some (told f q) else None) ≡ option_map marks_of (at (value f) q)
    place-told f q b e = by (at (value f) q) refl b (e ∙ ap is_some (at-plain q (value f)))
      where
        by : (o : Option Traced) → at (value f) q ≡ o → (b : Bool) → b ≡ is_some (option_map plain o) → (if b then Some (told f q) else None) ≡ option_map marks_of o
        by None g true h = cc
        by None g false h = refl
        by (Some w) g true h = ap (λ l. Some l) (told-is f q w g)
        by (Some w) g false h = cc

    -- what the output of a name is
    pub named-output : (p : Name) (k : ℕ) (o : Name × Feed) → slice_get flow.outputs k ≡ Some o → position p flow.outputs ≡ k → (q : Place) → output_at (meaning gives d) p q ≡ at (value o.1) q
    named-output p k o e f q = ap (λ os. option_and_then (λ v. at v q) (named p os)) outputs-are ∙ ap (λ x. option_and_then (λ v. at v q) x) (by flow.outputs (ap (slice_get flow.outputs) f ∙ e))
      where
        by : (os : List (Name × Feed)) → slice_get os (position p os) ≡ Some o → named p (map output os) ≡ Some (value o.1)
        by [] h = absurd (none-some o h)
        by (x ∷ os) h = pick (same_name p x.0) h (by os)
          where
            pick : (b : Bool) → slice_get (x ∷ os) (if b then 0 else suc (position p os)) ≡ Some o → (slice_get os (position p os) ≡ Some o → named p (map output os) ≡ Some (value o.1)) → (if b then Some (value x.1) else named p (map output os)) ≡ Some (value o.1)
            pick true g rec = ap (λ (y : Name × Feed). Some (value y.1)) (same_Some x o g)
            pick false g rec = rec g

    -- no output of that name
    pub no-output : (p : Name) → position p flow.outputs ≡ length flow.outputs → (q : Place) → output_at (meaning gives d) p q ≡ None
    no-output p f q = ap (λ os. option_and_then (λ v. at v q) (named p os)) outputs-are ∙ ap (λ x. option_and_then (λ v. at v q) x) (by flow.outputs f)
      where
        by : (os : List (Name × Feed)) → position p os ≡ length os → named p (map output os) ≡ None
        by [] h = refl
        by (x ∷ os) h = pick (same_name p x.0) h (by os)
          where
            less : (a b : ℕ) → suc a ≡ suc b → a ≡ b
            less a b e = omega arith

            none : (a : ℕ) → 0 ≡ suc a → ⊥
            none a e = omega arith

            pick : (b : Bool) → (if b then 0 else suc (position p os)) ≡ suc (length os) → (position p os ≡ length os → named p (map output os) ≡ None) → (if b then Some (value x.1) else named p (map output os)) ≡ None
            pick true g rec = absurd (none (length os) g)
            pick false g rec = rec (less (position p os) (length os) g)

    -- all leaves, output by output
    abbrev pub leaves_told : Name × Feed → List lineages.Leaf
    leaves_told o = map (λ r. record { port = o.0; place = r; used = told o.1 r }) (leaf_places [] (plain (value o.1)))

    pub leaves-are : leaves (meaning gives d) ≡ flat_map leaves_told flow.outputs
    leaves-are = ap (flat_map (λ o. filter_map (leaf_of o.0) (nodes o.1))) outputs-are ∙ each flow.outputs
      where
        each : (os : List (Name × Feed)) → flat_map (λ (o : Name × Traced). filter_map (leaf_of o.0) (nodes o.1)) (map output os) ≡ flat_map leaves_told os
        each [] = refl
        each (o ∷ os) = ap₂ (λ a b. a ++ b) (leaves-told o.0 (told o.1) (value o.1) [] (λ r w e. sym (told-is o.1 r w e))) (each os)
