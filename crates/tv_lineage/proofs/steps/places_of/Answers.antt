use Rattle.std.proofs.Common.{None, Some, ap, ◌∙◌}
use Rattle.std.specs.BTreeSet.{insert_key}
use Rattle.tv_value.specs.Orders.{place_cmp}
use Rattle.tv_lineage.proofs.Placing.{place-members, place-rises, places-all}
use Rattle.tv_lineage.proofs.steps.places_of.Goals as goal
use Rattle.tv_lineage.proofs.steps.places_of.Goals.{in-Some+in_ok-copy+in_ok-insert, in_default}

pub loop-entry-preserved : goal.loop-entry-preserved
loop-entry-preserved c =
    elim c.match-place_in.branch [
      | in-Some+in_ok-copy+in_ok-insert w ↦ (
          let o = Some w.in-Some.place.now in
          let f = w.in-Some.ensures in
          let g = ap (λ b. b.keys) w.places-is ∙ w.in_ok-insert.ensures.keys ∙ ap (insert_key place_cmp c.loop-entry.places.keys) w.in_ok-copy.ensures.ok in
          record {
            rises = place-rises c.args.step.now c.args.entries.now c.loop-entry.entry-index c.loop-entry.places.keys c.loop-entry.invariant.rises c.loop-entry.invariant.members c.entry-item.result c.loop-entry-test.true c.entry-item.is o f c.match-place_in.places.keys g;
            members = place-members c.args.step.now c.args.entries.now c.loop-entry.entry-index c.loop-entry.places.keys c.loop-entry.invariant.rises c.loop-entry.invariant.members c.entry-item.result c.loop-entry-test.true c.entry-item.is o f c.match-place_in.places.keys g;
          }
          )
      | in_default w ↦ (
          let g = ap (λ b. b.keys) w.places-is in
          record {
            rises = place-rises c.args.step.now c.args.entries.now c.loop-entry.entry-index c.loop-entry.places.keys c.loop-entry.invariant.rises c.loop-entry.invariant.members c.entry-item.result c.loop-entry-test.true c.entry-item.is None w.in_default.ensures c.match-place_in.places.keys g;
            members = place-members c.args.step.now c.args.entries.now c.loop-entry.entry-index c.loop-entry.places.keys c.loop-entry.invariant.rises c.loop-entry.invariant.members c.entry-item.result c.loop-entry-test.true c.entry-item.is None w.in_default.ensures c.match-place_in.places.keys g;
          }
          )
    ]

pub returns : goal.returns
returns c = places-all c.args.step.now c.args.entries.now c.loop-entry.entry-index c.loop-entry.places.keys c.loop-entry.invariant.rises c.loop-entry.invariant.members c.loop-entry-test.false
