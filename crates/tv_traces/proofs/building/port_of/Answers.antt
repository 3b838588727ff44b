use Rattle.std.proofs.Common.{sym}
use Rattle.std.specs.Prelude.{◌==◌}
use Rattle.std.proofs.lemmas.Bool.{eq-eqb, ne_eqb}
use Rattle.tv_check.specs.declared.ports.Port.{Port}
use Rattle.tv_traces.proofs.Looping.{found-at, none-at, none-all}
use Rattle.tv_traces.proofs.building.port_of.Goals as goal

pub returns-then-port-leaf : goal.returns-then-port-leaf
returns-then-port-leaf c = sym (found-at (λ (p : Port). p.leaf == c.args.leaf) c.args.ports.now c.loop-port.port-index c.port-item.result c.loop-port.invariant c.loop-port-test.true c.port-item.is (eq-eqb _ _ c.if-port-leaf.true))

pub loop-port-preserved : goal.loop-port-preserved
loop-port-preserved c = none-at (λ (p : Port). p.leaf == c.args.leaf) c.args.ports.now c.loop-port.port-index c.port-item.result c.loop-port.invariant c.loop-port-test.true c.port-item.is (ne_eqb _ _ c.if-port-leaf.false)

pub returns : goal.returns
returns c = sym (none-all (λ (p : Port). p.leaf == c.args.leaf) c.args.ports.now c.loop-port.port-index c.loop-port.invariant c.loop-port-test.false)
