-- Events as the code has them.
use Rattle.std.specs.Prelude.{◌≡◌, refl, slice_get, unwrap_or}
use Rattle.std.proofs.Common.{ap}
use Rattle.tv_value.specs.Nested.{list, no_trees}
use Rattle.tv_value.specs.Values.{Name}
use Rattle.tv_flow.specs.Flows.{Flow}
use Rattle.tv_naming.specs.Numbers.{position}
use Rattle.tv_telling.specs.declared.ways.Happened.{Happened}
use Rattle.tv_telling.specs.declared.ways.Happened.TheVariants.{Gave, Closed, Passed}
use Rattle.tv_telling.specs.Views.{happening}
use Rattle.tv_telling.specs.WayTellings as ways
use Rattle.tv_check.specs.Feeds.{outputs_of}
use Rattle.tv_model.specs.instance.Events as events
use Rattle.tv_model.specs.instance.Events.{Event, event_step, fault_set, gave, took}
use Rattle.tv_framing.specs.ways.Stated.{happening_of}
use Rattle.tv_framing.specs.feeds.Fed.{given_at}
use Rattle.tv_framing.specs.feeds.Seen.{EventsAreSeen, Happens}

same-happening : (f : Flow) (o : Name) (e : Event) (h : Happened) → Happens e h → happening h (position o (outputs_of f (event_step e))) ≡ happening_of e (given_at f e o)
same-happening f o (gave s q vs) (Gave ps) k = ap (λ ws. ways.gave (unwrap_or (slice_get ws (position o (outputs_of f s))) (list tt no_trees))) k
same-happening f o (gave s q vs) (Closed m) k = absurd k
same-happening f o (gave s q vs) Passed k = absurd k
same-happening f o (events.closed s q n) (Gave ps) k = absurd k
same-happening f o (events.closed s q n) (Closed m) k = ap (λ x. ways.closed x) k
same-happening f o (events.closed s q n) Passed k = absurd k
same-happening f o (fault_set s q d) (Gave ps) k = absurd k
same-happening f o (fault_set s q d) (Closed m) k = absurd k
same-happening f o (fault_set s q d) Passed k = refl
same-happening f o (took s q) h k = absurd k

pub events-are_seen : EventsAreSeen
events-are_seen f e c is = record {
  place = is.place;
  whole_from = refl;
  happened = λ o there. same-happening f o e c.happened is.happened;
  faults_are = λ o there. refl;
}
