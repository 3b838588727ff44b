-- A run at its start, and what a whole one gives.
use Rattle.std.specs.Prelude.{List, [], map, reverse, ◌≡◌}
use Rattle.std.proofs.Common.{ap, subst, ◌∙◌}
use Rattle.tv_history.proofs.Counts.{nothing-counted}
use Rattle.tv_value.specs.Values.{Name}
use Rattle.tv_value.specs.Views.{view}
use Rattle.tv_value.specs.declared.value.Value.{Value}
use Rattle.tv_gate.specs.Outcomes.{Giving}
use Rattle.tv_flow.specs.Flows.{Document}
use Rattle.tv_flow.specs.Views.{each}
use Rattle.tv_strategy.specs.Origins.{plain}
use Rattle.tv_model.specs.Jobs.{Job}
use Rattle.tv_model.specs.Totals as model
use Rattle.tv_model.specs.TotalsViews.{totals_view}
use Rattle.tv_model.specs.declared.totals.Totals.{Totals}
use Rattle.tv_history.specs.Entries.{is_out}
use Rattle.tv_history.specs.Calls.{out_now}
use Rattle.tv_history.specs.Runs.{Run, instances_of, meant, past_of, with_names}
use Rattle.tv_work.specs.Ran.{IsRun}

-- nothing is out where nothing was done
pub none-at_start : (gives : Giving) (r : Run) → r.entries ≡ [] → out_now gives r ≡ 0
none-at_start gives r e =
    nothing-counted (λ (j : Job). is_out (past_of r) j.name) (meant gives r).jobs (λ j i. ap (λ es. is_out (reverse (map (with_names r.document r.names (instances_of r.names es)) es)) j.name) e)

-- a run of the document, with the outputs and totals of its own
pub of-document : (gives : Giving) (d : Document) (r s : Run) (os : List (Name × Value)) (t : Totals) → r.document ≡ d → s.document ≡ r.document → each view os ≡ map (λ o. (o.0, plain o.1)) (meant gives s).outputs → totals_view t ≡ model.totals (meant gives s).jobs → IsRun gives d (os, t)
of-document gives d r s os t p q o n = subst (λ k. IsRun gives k (os, t)) (q ∙ p) (o, n)
