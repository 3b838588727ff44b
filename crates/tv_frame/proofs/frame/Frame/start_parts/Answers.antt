use Rattle.std.specs.Prelude.{length, map}
use Rattle.std.proofs.Common.{ap, subst, ◌∙◌}
use Rattle.tv_value.specs.Values.{holds_fault}
use Rattle.tv_flow.specs.Views.{flow_view}
use Rattle.tv_cell.specs.PieceValues.{piece_values}
use Rattle.tv_frame.specs.Started.{HaveBegun, at_start, given_values}
use Rattle.tv_frame.proofs.FirstRooms.{endings-of}
use Rattle.tv_frame.proofs.frame.Frame.start_parts.Goals as goal

pub returns-clause-parts : goal.returns-clause-parts
returns-clause-parts c =
    let plan = c.args.plan.now in
    let e = endings-of plan c.as_slice.result.now c.restart.new.self c.as_slice.ensures c.in_ok-restart.ensures.sound c.in_ok-restart.ensures.whole in
    record {
      tables_are = c.requires.tables;
      marked = c.in_ok-find_faults.ensures ∙ ap (λ ps. map holds_fault (piece_values ps)) c.as_slice-inputs.ensures;
      endings_are = e.0;
      none_whole = e.1;
      begun =
          subst
          (λ ps. HaveBegun (flow_view plan.flow) (at_start (flow_view plan.flow) (given_values plan ps))
          (length (flow_view plan.flow).steps) c.start_steps.new.intakes c.start_steps.new.idle)
          c.as_slice-inputs.ensures c.in_ok-told.ensures;
    }
