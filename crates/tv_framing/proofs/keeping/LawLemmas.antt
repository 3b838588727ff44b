-- Which events may come next in a frame, and that taking a job tells nothing.
use Rattle.std.specs.Prelude.{◌≡◌, refl, Bool, true, List, ◌∷◌, map, IsPermutation}
use Rattle.std.proofs.Common.{sym, subst}
use Rattle.std.proofs.lemmas.Bool.{true≢false}
use Rattle.tv_value.specs.Nested.{Place}
use Rattle.tv_value.specs.Values.{JobName, Name}
use Rattle.tv_flow.specs.Flows.{Step}
use Rattle.tv_strategy.specs.Iterations.{walk}
use Rattle.tv_strategy.specs.Origins.{Known, Origin, at_start, by_job, by_level}
use Rattle.tv_strategy.proofs.Each.{each-weaken}
use Rattle.tv_model.specs.instance.Ranks.{ranked}
use Rattle.tv_matching.specs.Items.{known_items}
use Rattle.tv_matching.specs.Told.{item_there, told_to}
use Rattle.tv_model.specs.instance.Events as events
use Rattle.tv_model.specs.instance.Events.{Event, Events, fault_set, gave, is_known_by, is_telling, known_by, took}
use Rattle.tv_framing.specs.Answers.{is_settlement}
use Rattle.tv_framing.specs.Views.{AreGiven}
use Rattle.tv_framing.proofs.Arriving.{extends-parts}
use Rattle.tv_framing.proofs.Frames.{result-legal}
use Rattle.tv_framing.specs.keeping.Stated.{ResultsMayCome, SettlementsMayCome, TakingTellsNothing}
use Rattle.tv_framing.specs.keeping.Told.{PortIsTold}

pub results-may_come : ResultsMayCome
results-may_come flows levels v frame depths s q vs known new given = record {
  frame = frame;
  depths = depths;
  tells = refl;
  given = given;
  legal = λ instance results d x. result-legal v frame s q vs known new instance results d x.1;
}

settled-given : (steps : List (Name × Step)) (e : Event) (es : Events) → is_settlement e ≡ true → AreGiven steps es → AreGiven steps (e ∷ es)
settled-given steps (gave s q vs) es h g = absurd (true≢false (sym h))
settled-given steps (events.closed s q n) es h g = g
settled-given steps (fault_set s q d) es h g = g
settled-given steps (took s q) es h g = absurd (true≢false (sym h))

settled-tells : (e : Event) → is_settlement e ≡ true → is_telling e ≡ true
settled-tells (gave s q vs) h = refl
settled-tells (events.closed s q n) h = refl
settled-tells (fault_set s q d) h = refl
settled-tells (took s q) h = h

pub settlements-may_come : SettlementsMayCome
settlements-may_come flows levels v frame depths e can = record {
  frame = frame;
  depths = depths;
  tells = settled-tells e can.0;
  given = settled-given (ranked v.flow.steps) e v.events can.0 frame.given;
  legal = λ instance results d x. can.1 instance results d (extends-parts results e v.events x).1;
}

pub taken-known : (instance : JobName) (s : Name) (q : Place) (es : Events) (o : Origin) → known_by instance es o ≡ known_by instance (took s q ∷ es) o
taken-known instance s q es o = by o.known
  where
    by : (k : Known) → is_known_by instance es k ≡ is_known_by instance (took s q ∷ es) k
    by at_start = refl
    by (by_job n) = refl
    by (by_level n) = refl

pub taking-tells_nothing : TakingTellsNothing
taking-tells_nothing v s q new t ts was instance results depth told f there name =
    each-weaken (PortIsTold instance v.events ts) (PortIsTold instance (took s q ∷ v.events) ts)
    (λ d h values have. subst (λ (known : Origin → Bool). IsPermutation (map (item_there values) (told_to ts d.0)) (known_items known (walk d.0 d.1.mismatch d.1.value))) (λ i o. taken-known instance s q v.events o i) (h values have))
    f.step.inputs (was instance results depth told f there name)
