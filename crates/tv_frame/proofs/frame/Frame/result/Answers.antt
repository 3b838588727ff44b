use Rattle.tv_cell.specs.PieceValues.{piece_values}
use Rattle.tv_intake.specs.Intaken.{waiting_things}
use Rattle.tv_model.specs.instance.Events.{gave}
use Rattle.tv_frame.proofs.EventLemmas.{can-turn, firsts-read, other-trees, turn-ready}
use Rattle.tv_frame.proofs.Results.{result-arrives, result-goes, result-room}
use Rattle.tv_frame.proofs.frame.Frame.result.Goals as goal

pub first_tree-first-requires : goal.first_tree-first-requires
first_tree-first-requires c =
    let r = c.requires.ready in
    firsts-read r.0 c.args.plan.now c.args.pool.now c.args.self.now r.1 c.args.step r.2 (gave r.2.0 c.args.place.now (piece_values c.args.outputs)) r.3

pub put-requires-clause-can : goal.put-requires-clause-can
put-requires-clause-can c =
    let r = c.requires.ready in
    result-arrives r.0 c.args.plan.now c.args.pool.now c.args.self.now r.1 c.args.step r.2 c.args.place.now (piece_values c.args.outputs) r.3 c.first_tree-first.result c.first_tree-first.ensures

pub put-requires-clause-room : goal.put-requires-clause-room
put-requires-clause-room c =
    let r = c.requires.ready in
    result-room r.0 c.args.plan.now c.args.pool.now c.args.self.now r.1 c.args.step r.2 c.args.place.now (piece_values c.args.outputs) r.3 c.first_tree-first.result c.first_tree-first.ensures

pub put-requires-clause-marked : goal.put-requires-clause-marked
put-requires-clause-marked c = c.requires.ready.3.counted

pub show-requires-clause-ends : goal.show-requires-clause-ends
show-requires-clause-ends c =
    let r = c.requires.ready in
    let f = c.args.self.now in
    turn-ready f c.put.new.self (waiting_things f.intakes) (other-trees f c.put.new.self c.put.ensures.others) c.args.plan.now.wiring c.args.step
    (can-turn r.0 c.args.plan.now c.args.pool.now f r.1 c.args.step r.2 (gave r.2.0 c.args.place.now (piece_values c.args.outputs)) r.3)

pub returns-clause-goes_on : goal.returns-clause-goes_on
returns-clause-goes_on c = λ flows v s r taken.
    result-goes flows c.args.plan.now c.args.pool.now c.args.self.now v c.args.step s c.args.place.now (piece_values c.args.outputs) r c.first_tree-first.result c.first_tree-first.ensures
    c.put.new.pool c.put.new.self c.show.new.self taken c.put.ensures.others c.put.ensures.regions c.put.ensures.stand c.put.ensures.depths c.put.ensures.known c.show.ensures
