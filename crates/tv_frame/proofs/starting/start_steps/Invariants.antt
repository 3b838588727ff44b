use Rattle.tv_flow.specs.Views.{flow_view}
use Rattle.tv_frame.specs.Started.{HaveBegun, at_start, given_values}
use Rattle.tv_frame.proofs.starting.start_steps.Given as goal

abbrev pub invariant-loop-number : goal.invariant-loop-number
invariant-loop-number l = HaveBegun (flow_view l.plan.flow) (at_start (flow_view l.plan.flow) (given_values l.plan l.inputs)) l.number l.intakes l.idle
