-- The laws as they are stated.
use Rattle.std.specs.Prelude.{[], refl}
use Rattle.tv_model.specs.instance.Endings.{IsOwn}
use Rattle.tv_framing.specs.instances.Stated.{EndedIsByEvents, EventsRise, LegalEventsFit, NodesAreOwn, OpenInstancesAreToldByEvents, WholeIsByEvents}
use Rattle.tv_framing.proofs.instances.Counted.{ended-by_events}
use Rattle.tv_framing.proofs.instances.Counting.{step-whole_by}
use Rattle.tv_framing.proofs.instances.Events.{hits, one-more, own-spot}
use Rattle.tv_framing.proofs.instances.Legal.{legal-fit}
use Rattle.tv_framing.proofs.instances.Nodes.{steps-all}
use Rattle.tv_framing.proofs.instances.Readiness.{ending-by_events, ready-by_events, settling-by_events}

pub nodes-are_own : NodesAreOwn
nodes-are_own instance results given ss h =
    steps-all (λ o. IsOwn instance o.known) tt instance (λ s q. (s, q, refl)) (λ s q k r. (s, q, refl)) results given h [] tt ss

pub events-rise : EventsRise
events-rise instance e es s =
    record { hits = hits instance e; known_or_hit = one-more instance e es; at_place = λ q u h. (own-spot instance e s q u h).1 }

pub whole-is_by_events : WholeIsByEvents
whole-is_by_events instance es levels f h = step-whole_by f instance es h.fit (levels f.step.step) h.counted

pub ended-is_by_events : EndedIsByEvents
ended-is_by_events instance results given es levels ss ns h = ended-by_events instance results given es levels ss ns h

pub legal_events-fit : LegalEventsFit
legal_events-fit instance fs f first es h = legal-fit instance fs f first es h

pub open_instances-are_told : OpenInstancesAreToldByEvents
open_instances-are_told gives m past instance es part now = record {
  ready = λ fs j s q sources after h. ready-by_events m past instance es part now fs j s q sources after h;
  settles = λ l s q h. settling-by_events m past instance es part now l s q h;
  ends = λ fs h. ending-by_events m past instance es part now fs h;
}
