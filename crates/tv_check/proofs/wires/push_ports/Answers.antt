use Rattle.tv_check.specs.Turned.{port_wires}
use Rattle.tv_check.proofs.Turning.{brought-more}
use Rattle.tv_check.proofs.wires.push_ports.Goals as goal

pub loop-number-preserved : goal.loop-number-preserved
loop-number-preserved c =
    brought-more (port_wires c.args.step) c.args.rows.now c.loop-number.rows c.push_port.new.rows c.args.ports.now c.loop-number.number c.index-ports-number.result c.loop-number-test.true c.index-ports-number.is c.loop-number.invariant c.in_ok-push_port.ensures
