use Rattle.std.proofs.Common.{◌≡◌, ◌≤◌, ◌+◌, ◌*◌, drop}
use Rattle.tv_flow.specs.Views.{each, flow_view, step_input_view}
use Rattle.tv_strategy.specs.Conditions.{number_of}
use Rattle.tv_strategy.specs.Measures.{sum_of_depths}
use Rattle.tv_model.specs.instance.Steps.{ports_of}
use Rattle.tv_check.specs.Tables.{table_mismatch}
use Rattle.tv_check.proofs.levels.cross_level.Given as goal

-- the depth so far and that of the rest are that of the whole
abbrev pub invariant-loop-input : goal.invariant-loop-input
invariant-loop-input l =
    let mismatch = number_of (each (table_mismatch (flow_view l.flow) l.levels) (each step_input_view l.inputs)) in
    record {
      sum : l.level + sum_of_depths mismatch (ports_of (drop l.input-index (each step_input_view l.inputs))) ≡ sum_of_depths mismatch (ports_of (each step_input_view l.inputs));
      small : l.level ≤ 32 * l.input-index;
    }
