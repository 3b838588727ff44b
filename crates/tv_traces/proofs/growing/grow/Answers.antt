use Rattle.std.proofs.Common.{arith, sym}
use Rattle.tv_traces.specs.Growing.{IsAroundOne, WithAround}
use Rattle.tv_traces.proofs.GrowingLemmas.{item-kept, item-updated}
use Rattle.tv_traces.proofs.growing.grow.Goals as goal

pub returns-then-is_long : goal.returns-then-is_long
returns-then-is_long c = λ js whole depth.
    item-kept c.args.grown.now c.in_ok-key.key c.args.step c.args.place.now c.args.index c.in-Some.count c.in_ok-key.ensures (omega (arith, c.in-Some.ensures)) (sym c.if-is_long.ensures) (WithAround (IsAroundOne js) c.args.step whole depth)

pub returns : goal.returns
returns c = λ js whole depth.
    item-updated c.args.grown.now c.insert.new.self c.in_ok-key.key c.args.step c.args.place.now c.args.index c.in-Some.count c.in_ok-key.ensures (omega (arith, c.in-Some.ensures)) (sym c.if-is_long.ensures) c.in_ok-insert.ensures.updates (WithAround (IsAroundOne js) c.args.step whole depth)
