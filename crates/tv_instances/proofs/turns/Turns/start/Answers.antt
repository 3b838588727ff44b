use Rattle.std.specs.Prelude.{length, ◌-◌}
use Rattle.std.proofs.Common.{arith, subst, sym}
use Rattle.tv_instances.specs.Turns.{AreTurns}
use Rattle.tv_instances.proofs.TurnLemmas.{all-filled, more-filled}
use Rattle.tv_instances.proofs.turns.Turns.start.Goals as goal

pub loop-done-preserved : goal.loop-done-preserved
loop-done-preserved c =
    more-filled c.args.order.now c.loop-done.self.positions.items c.args.steps c.loop-done.done c.loop-done-test.true c.requires
    c.loop-done.invariant

pub returns-clause-turns : goal.returns-clause-turns
returns-clause-turns c =
    subst (AreTurns c.args.order.now) (sym c.restart.ensures.positions)
    (all-filled c.args.order.now c.loop-done.self.positions.items c.args.steps (length c.args.order.now - c.loop-done.done)
    (let l = c.loop-done-test.false in omega (arith, l)) c.loop-done.invariant)
