-- What a plan says of a step, as the search for what its jobs bind takes it.
use Rattle.std.specs.Prelude.{◌≡◌, ℕ, Some, slice_get}
use Rattle.tv_value.specs.Values.{Name}
use Rattle.tv_flow.specs.declared.document.Step.{Step as CodeStep}
use Rattle.tv_check.specs.declared.plans.FlowPlan.{FlowPlan}
use Rattle.tv_check.specs.declared.plans.StepPlan.{StepPlan}
use Rattle.tv_binding.specs.declared.jobs.StepPorts.{StepPorts}

-- it is of the n-th step
pub record ArePortsOf (plan : FlowPlan) (n : ℕ) (p : StepPorts) : Type 0 where
  pub number : p.number ≡ n
  pub planned : StepPlan
  pub at_plan : slice_get plan.steps n ≡ Some planned
  pub tree : p.tree.now ≡ planned.tree
  pub mismatch : p.mismatch.now ≡ planned.mismatch
  pub described : Name × CodeStep
  pub at_flow : slice_get plan.flow.steps n ≡ Some described
  pub inputs : p.inputs.now ≡ described.1.inputs
  pub delivered : p.delivered.now ≡ planned.delivered
  pub at_ports : slice_get plan.wiring.ports n ≡ Some p.ports.now
