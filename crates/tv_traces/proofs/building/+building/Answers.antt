use Rattle.std.proofs.Common.{arith, sym, ap, ap₂, subst, refl, ◌≡◌, ◌∙◌, ◌++◌, ◌∷◌, [], length, map, ℕ, suc, ◌+◌, ◌-◌, Some}
use Rattle.tv_frame.specs.Views.{what_view}
use Rattle.std.proofs.lemmas.List.{length-map, map-append}
use Rattle.tv_lemmas.specs.Members.{Each}
use Rattle.tv_flow.specs.Views.{flow_view}
use Rattle.tv_lineage.specs.Kept.{IsBefore}
use Rattle.tv_lineage.specs.Views.{mark_view, part_view}
use Rattle.tv_traces.specs.OfNodes.{AreBuilt, IsBuilt}
use Rattle.tv_traces.specs.Feeds.{node_parts}
use Rattle.tv_traces.proofs.BuildingLemmas.{fault-built, job-built, list-built, none-built, none-of_list, one-more}
use Rattle.tv_traces.proofs.Groups.{all-grow}
use Rattle.tv_traces.specs.Building.{telling}
use Rattle.tv_traces.specs.Views.{node_view, shapes_view}
use Rattle.tv_traces.proofs.Noting.{at-level, next-level, told-is, told-none}
use Rattle.tv_traces.proofs.Nodes.{job-view, list-view, passed-view}
use Rattle.tv_traces.proofs.building.+building.Goals as goal

pub node_below-returns-then-levels-eq0 : goal.node_below-returns-then-levels-eq0
node_below-returns-then-levels-eq0 t c =
    at-level (telling c.args.walk.now) 0 c.args.levels c.args.place.now c.as_slice.result.now c.args.records.now c.note_job.new.records _ (sym c.if-levels-eq0.true) c.as_slice.ensures
    (job-built (telling c.args.walk.now) c.as_slice.result.now c.args.records.now c.note_job.new.records _ job-view c.in_ok-note_job.ensures)

pub node_below-returns-in_ok-fault_marks-in-Some-Passed : goal.node_below-returns-in_ok-fault_marks-in-Some-Passed
node_below-returns-in_ok-fault_marks-in-Some-Passed t c =
    let told = told-is c.in_ok-count.field-0 _ _ c.in-Some-Passed.is c.in_ok-count.ensures ∙ ap (λ x. Some (what_view x)) c.in-Some-Passed.field-0-is in
    let place : c.as_slice-in-Some-Passed.result.now ≡ c.as_slice-2.result.now = c.as_slice-in-Some-Passed.ensures ∙ sym c.as_slice-2.ensures in
    at-level (telling c.args.walk.now) (suc (c.args.levels - 1)) c.args.levels c.args.place.now c.as_slice-2.result.now c.args.records.now c.args.records.now _ (next-level c.args.levels c.if-levels-eq0.false) c.as_slice-2.ensures
    (fault-built (telling c.args.walk.now) (c.args.levels - 1) c.as_slice-2.result.now c.args.records.now c.in-Some-Passed.leaf _ (map mark_view c.in_ok-fault_marks-in-Some-Passed.field-0) (passed-view c.in_ok-fault_marks-in-Some-Passed.field-0) told
    (c.in_ok-fault_marks-in-Some-Passed.ensures ∙ ap (λ q. Rattle.tv_traces.specs.Walking.fault_marks (flow_view c.args.walk.now.shown.flow.now) (shapes_view c.args.walk.now.shown.shapes.now) c.args.walk.now.ports.now c.args.walk.now.starts.now c.in-Some-Passed.leaf q) place))

pub node_below-returns-in-None : goal.node_below-returns-in-None
node_below-returns-in-None t c =
    let told = told-none c.in_ok-count.field-0 _ c.in-None.is c.in_ok-count.ensures in
    at-level (telling c.args.walk.now) (suc (c.args.levels - 1)) c.args.levels c.args.place.now c.as_slice-2.result.now c.args.records.now c.args.records.now _ (next-level c.args.levels c.if-levels-eq0.false) c.as_slice-2.ensures
    (none-built (telling c.args.walk.now) (c.args.levels - 1) c.as_slice-2.result.now c.args.records.now _ (passed-view c.empty.result ∙ ap (λ ms. Rattle.tv_value.specs.Nested.leaf (Rattle.tv_lineage.specs.Kept.result []) (Rattle.tv_traces.specs.Shapes.passed_by (map mark_view ms))) c.empty.ensures) told)

pub list_below-loop-index-init : goal.list_below-loop-index-init
list_below-loop-index-init t c = record {
  built = subst (λ us. AreBuilt (telling c.args.walk.now) c.args.levels c.args.place.now c.args.records.now c.args.records.now us (map part_view c.new-parts.result.items)) (sym (ap (map node_view) c.new-items.ensures.items))
      (subst (λ ps. AreBuilt (telling c.args.walk.now) c.args.levels c.args.place.now c.args.records.now c.args.records.now [] ps) (sym (ap (map part_view) c.new-parts.ensures.items)) (none-of_list (telling c.args.walk.now) c.args.levels c.args.place.now c.args.records.now));
  many = ap length c.new-items.ensures.items;
}

pub list_below-node_below-requires : goal.list_below-node_below-requires
list_below-node_below-requires t c =
    (omega (arith, c.decreases), all-grow (flow_view c.args.walk.now.shown.flow.now) c.args.records.now.groups c.loop-index.records.groups (shapes_view c.args.walk.now.shown.shapes.now) c.loop-index.invariant.built.grows c.requires.grouped)

pub list_below-share-requires : goal.list_below-share-requires
list_below-share-requires t c = record {
  before = subst (λ xs. Each (IsBefore (length c.loop-index.records.groups)) (map part_view xs)) (sym c.of.ensures) c.loop-index.invariant.built.parts.before;
}

pub list_below-loop-index-preserved : goal.list_below-loop-index-preserved
list_below-loop-index-preserved t c =
    let w = telling c.args.walk.now in
    let q = c.args.place.now in
    let us = map node_view c.loop-index.items.items in
    let many : length us ≡ c.loop-index.index = length-map c.loop-index.items.items node_view ∙ c.loop-index.invariant.many in
    let inner : c.in_ok-inner.inner ≡ q ++ length us ∷ [] = c.in_ok-inner.ensures ∙ ap₂ (λ p i. p ++ i ∷ []) c.as_slice.ensures (sym many) in
    record {
      built =
          subst (λ xs. AreBuilt w c.args.levels q c.args.records.now c.node_below.new.records xs (map part_view c.push_node_parts.new.parts.items))
          (sym (ap (map node_view) c.in_ok-push.ensures.items ∙ map-append node_view c.loop-index.items.items (c.in_ok-node.node ∷ [])))
          (subst (λ ps. AreBuilt w c.args.levels q c.args.records.now c.node_below.new.records (us ++ node_view c.in_ok-node.node ∷ []) ps)
          (ap (λ p. map part_view c.loop-index.parts.items ++ node_parts c.args.walk.now.name.now p (node_view c.in_ok-node.node)) (sym inner ∙ sym c.as_slice-in-loop-index.ensures) ∙ sym c.in_ok-push_node_parts.ensures)
          (one-more w c.args.levels q c.args.records.now c.loop-index.records c.node_below.new.records us (map part_view c.loop-index.parts.items) (node_view c.in_ok-node.node) c.loop-index.invariant.built
          (subst (λ p. IsBuilt w c.args.levels p c.loop-index.records c.node_below.new.records (node_view c.in_ok-node.node)) inner c.in_ok-node.ensures)));
      many = ap length c.in_ok-push.ensures.items ∙ long c.loop-index.items.items c.in_ok-node.node ∙ ap suc c.loop-index.invariant.many ∙ one c.loop-index.index;
    }
  where
    one : (n : ℕ) → suc n ≡ n + 1
    one n = omega arith

    long : {A : Type 0} (xs : Rattle.std.proofs.Common.List A) (x : A) → length (xs ++ x ∷ []) ≡ suc (length xs)
    long [] x = refl
    long (y ∷ xs) x = ap suc (long xs x)

pub list_below-returns : goal.list_below-returns
list_below-returns t c =
    let w = telling c.args.walk.now in
    let us = map node_view c.loop-index.items.items in
    let many : length us ≡ c.loop-index.index = length-map c.loop-index.items.items node_view ∙ c.loop-index.invariant.many in
    let all : c.loop-index.index ≡ c.args.count = omega (arith, c.loop-index-test.false, c.loop-index.auto.index-end) in
    let parts : map part_view c.of.result ≡ map part_view c.loop-index.parts.items = ap (map part_view) c.of.ensures in
    at-level w (suc c.args.levels) (c.args.levels + 1) c.args.place.now c.args.place.now c.args.records.now c.share.new.self _ (one c.args.levels) refl
    (list-built w c.args.levels c.args.count c.args.place.now c.args.records.now c.loop-index.records c.share.new.self us (map part_view c.loop-index.parts.items) (part_view c.in_ok-part.part) _ c.requires.told c.loop-index.invariant.built (many ∙ all)
    (c.in_ok-part.ensures.ok ∙ ap (λ ps. Rattle.tv_lineage.specs.Views.with_group ps c.loop-index.records) parts) c.in_ok-part.ensures.records (c.in_ok-part.ensures.part ∙ ap (Rattle.tv_lineage.specs.Kept.all_marks c.loop-index.records.groups) parts) c.in_ok-part.ensures.number
    (list-view c.in_ok-part.part c.of-2.result ∙ ap (λ xs. Rattle.tv_value.specs.Nested.list (part_view c.in_ok-part.part) (Rattle.tv_value.specs.Nested.trees_of (map node_view xs))) c.of-2.ensures))
  where
    one : (n : ℕ) → suc n ≡ n + 1
    one n = omega arith
