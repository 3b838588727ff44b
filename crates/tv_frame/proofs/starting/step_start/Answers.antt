use Rattle.std.specs.Prelude.{◌++◌, ◌-◌, length, map}
use Rattle.std.proofs.Common.{arith, ◌∙◌, ap}
use Rattle.tv_lemmas.proofs.Lists.{get-read}
use Rattle.tv_cell.specs.PieceValues.{piece_values}
use Rattle.tv_match.specs.Seen.{told_view}
use Rattle.tv_binding.specs.Constants.{constant_of_port, constants_view}
use Rattle.tv_telling.specs.Openings.{numbered_port_start}
use Rattle.tv_frame.proofs.StartingLemmas.{fed-lent, fixed-lent, ports-all, ports-next}
use Rattle.tv_frame.proofs.starting.step_start.Goals as goal

pub port_start-requires : goal.port_start-requires
port_start-requires c =
    let constants = constant_of_port (constants_view c.args.constants.now) c.args.step in
    let number = length c.args.ports.now - 1 - c.loop-back.back in
    record {
      fed =
          fed-lent c.of_port-fixed.result (constants number) c.of_port-fixed.ensures (length c.args.inputs.now) c.index-ports-number.result.feed
          (c.requires.fed number c.index-ports-number.result (get-read c.args.ports.now number c.index-ports-number.result (omega (arith, c.loop-back-test.true)) c.index-ports-number.is));
      faulty = c.requires.faulty;
    }

pub loop-back-preserved : goal.loop-back-preserved
loop-back-preserved c s =
    let constants = constant_of_port (constants_view c.args.constants.now) c.args.step in
    let port = c.index-ports-number.result in
    let values = piece_values c.args.inputs.now in
    let fixed = fixed-lent c.of_port-fixed.result (constants (length c.args.ports.now - 1 - c.loop-back.back)) c.of_port-fixed.ensures in
    ports-next values constants c.args.ports.now c.loop-back.back port c.loop-back.tellings.items c.port_start.new.tellings.items c.loop-back-test.true c.index-ports-number.is c.loop-back.invariant
    (λ t. c.in_ok-port_start.ensures t ∙ ap (λ v. map (told_view t) c.loop-back.tellings.items ++ numbered_port_start values v t port) fixed) s

pub returns : goal.returns
returns c s =
    ap (map (told_view s)) c.of.ensures
    ∙ ports-all (piece_values c.args.inputs.now) (constant_of_port (constants_view c.args.constants.now) c.args.step) c.args.ports.now c.loop-back.back c.loop-back.tellings.items c.loop-back-test.false c.loop-back.invariant s
