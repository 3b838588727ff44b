-- Laws of a frame: which events may come next, and that taking a job tells nothing.
use Rattle.std.specs.Prelude.{◌≡◌, ℕ, false, List, ◌∷◌}
use Rattle.tv_lemmas.specs.Members.{In}
use Rattle.tv_value.specs.Nested.{Place}
use Rattle.tv_value.specs.Values.{Name, Value}
use Rattle.tv_flow.specs.Flows.{Flow}
use Rattle.tv_model.specs.instance.Ranks.{ranked}
use Rattle.tv_matching.specs.Told.{Told}
use Rattle.tv_model.specs.instance.Events.{Event, gave, has_result, took}
use Rattle.tv_framing.specs.Answers.{CanSettle}
use Rattle.tv_framing.specs.Frames.{IsFrame, with_event}
use Rattle.tv_framing.specs.Stated.{IsOfDepths}
use Rattle.tv_framing.specs.Views.{AreGiven, View}
use Rattle.tv_framing.specs.keeping.NextEvents.{IsNextEvent}
use Rattle.tv_framing.specs.keeping.Told.{StepIsTold}

-- the result of a known job that has none, where its values are of the declared depths
abbrev pub ResultsMayCome : Type 0
ResultsMayCome =
    (flows : List (Name × Flow)) (levels : Name → ℕ) (v : View) → IsFrame v
    → IsOfDepths flows levels v
    → (s : Name) (q : Place) (vs : List Value) → In (s, q) v.jobs → has_result v.events s q ≡ false
    → AreGiven (ranked v.flow.steps) (gave s q vs ∷ v.events)
    → IsNextEvent flows levels v (gave s q vs)

-- a list or a fault that can settle
abbrev pub SettlementsMayCome : Type 0
SettlementsMayCome =
    (flows : List (Name × Flow)) (levels : Name → ℕ) (v : View) → IsFrame v
    → IsOfDepths flows levels v
    → (e : Event) → CanSettle v e → IsNextEvent flows levels v e

-- a job that is taken tells no step anything
abbrev pub TakingTellsNothing : Type 0
TakingTellsNothing =
    (v : View) (s : Name) (q : Place) (new : List (Name × Place)) (t : Name) (ts : List Told)
    → StepIsTold v t ts → StepIsTold (with_event v (took s q) new) t ts
