-- The laws: the first job in turn is the first ready one, and the steps by falling rank are steps of the flow.
use Rattle.std.specs.List.{list_all}
use Rattle.std.specs.Prelude.{◌≡◌, ◌<◌, ℕ, List, length, nat_lt, true, Option, Some}
use Rattle.tv_value.specs.Values.{Name}
use Rattle.tv_flow.specs.Flows.{Flow}
use Rattle.tv_check.specs.Wirings.{wiring}
use Rattle.tv_telling.specs.declared.endings.endings.Endings.{Endings}
use Rattle.tv_idle.specs.Idles.{StepIdle}
use Rattle.tv_framing.specs.Views.{View}
use Rattle.tv_framing.specs.engine.EndedSteps.{AreEndingsOf}
use Rattle.tv_framing.specs.engine.WiredFlows.{IsWired}
use Rattle.tv_framing.specs.turns.FirstReady.{IsFirstReady, by_falling_rank, spot_given}
use Rattle.tv_framing.specs.turns.IdleJobs.{AreIdleOf}
use Rattle.tv_telling.specs.endings.Turns.{first_in_turn, may_settle}

abbrev pub FirstInTurnIsFirstReady : Type 0
FirstInTurnIsFirstReady =
    (v : View) → IsWired v.flow → (levels : Name → ℕ) (e : Endings)
    → AreEndingsOf v.flow levels v.events e
    → (ss : List StepIdle) → AreIdleOf v ss
    → (after : Option ℕ) → ((m : ℕ) → after ≡ Some m → m < length v.jobs)
    → IsFirstReady levels v after
    (first_in_turn (may_settle (wiring v.flow) e) ss (by_falling_rank v.flow) (spot_given v after))

abbrev pub OrderIsOfSteps : Type 0
OrderIsOfSteps = (f : Flow) → IsWired f
    → list_all (λ k. nat_lt k (length (wiring f).after)) (by_falling_rank f) ≡ true
