use Rattle.tv_flow.specs.Views.{flow_view}
use Rattle.tv_frame.proofs.Order.{AreFilled}
use Rattle.tv_frame.proofs.TableLemmas.{plan-wired}
use Rattle.tv_frame.proofs.tables.order_of.Given as goal

abbrev pub invariant-loop-number : goal.invariant-loop-number
invariant-loop-number l = AreFilled (flow_view l.plan.flow) (plan-wired l.plan) l.order.items l.number
