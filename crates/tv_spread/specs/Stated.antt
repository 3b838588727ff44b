-- Laws of what is told, and of what is held and then shown.
use Rattle.std.specs.Prelude.{◌≡◌, ℕ, ◌==◌, ◌<◌, if◌then◌else◌, List, [], ◌++◌, Option, Some, None, length, map, slice_set}
use Rattle.tv_lemmas.specs.Members.{Each}
use Rattle.tv_value.specs.Nested.{Place}
use Rattle.tv_value.specs.Strategies.{Strategy}
use Rattle.tv_flow.specs.Flows.{Flow}
use Rattle.tv_matching.specs.Matchers.{Outcome}
use Rattle.tv_matching.specs.Told.{Told}
use Rattle.tv_match.specs.declared.matchers.Matcher.{Matcher}
use Rattle.tv_match.specs.Seen.{in_order, matching}
use Rattle.tv_telling.specs.declared.ways.Event.{Event}
use Rattle.tv_telling.specs.declared.ways.Whole.{Whole}
use Rattle.tv_check.specs.declared.ports.Port.{Port}
use Rattle.tv_check.specs.Wirings.{wiring}
use Rattle.tv_telling.specs.endings.Ends.{is_whole}
use Rattle.tv_telling.specs.endings.Feeds.{leaves_whole_with}
use Rattle.tv_intake.specs.declared.intakes.Intakes.{Intakes}
use Rattle.tv_intake.specs.Intaken.{brought_at, matcher_at}
use Rattle.tv_idle.specs.Idles.{Idles, of_step, without}
use Rattle.tv_spread.specs.declared.around.Around.{Around}
use Rattle.tv_spread.specs.Arounds.{AreWires, is_told, told_at, told_steps, wholes_among}
use Rattle.tv_spread.specs.Spreads.{CanShowAll, HoldTold, MakeAll, binds_fault, is_faulty_now}

-- the ports that have their whole values are those that `tv_telling` lists, where the event makes its step whole
abbrev pub WholesAreLeaves : Type 0
WholesAreLeaves =
    (a : Around) (s : ℕ) (e : Event) (ps : List Port)
    → map (λ (w : Whole). w.leaf) (wholes_among a s e ps)
    ≡ (if e.whole_from == 0 then leaves_whole_with (is_whole a.endings.now) s ps else [])

-- the wiring of a flow has the links of its ports, turned round
abbrev pub WiringsAreWired : Type 0
WiringsAreWired = (f : Flow) → AreWires (wiring f)

-- ---- an event that is held, and then shown

-- a matcher was told these too, and these follow by that
pub record IsTold (tellings : Strategy → List Told) (news : List Outcome)
    (m n : Matcher) : Type 0 where
  pub told : (matching n).told ≡ (matching m).told ++ tellings (matching m).strategy
  pub strategy : (matching n).strategy ≡ (matching m).strategy
  pub mismatch : (matching n).mismatch ≡ (matching m).mismatch
  pub follows : in_order n ≡ in_order m ++ news

abbrev pub IsToldAt : (Strategy → List Told) → List Outcome → Option Matcher → Option Matcher
    → Type 0
IsToldAt tellings news (Some m) (Some n) = IsTold tellings news m n
IsToldAt tellings news (Some m) None = ⊥
IsToldAt tellings news None (Some n) = ⊥
IsToldAt tellings news None None = Unit {0}

-- what a step brings with the event: nothing where it is told nothing, whatever it holds
abbrev pub brought_with : Around → ℕ → Event → Intakes → ℕ → List Outcome
brought_with a s e j c = if is_told a s e c then brought_at j c else []

-- each step was told what the event tells it, which may be nothing
abbrev pub AllAreTold : Type 0
AllAreTold =
    (a : Around) (s : ℕ) (e : Event) (i j k : Intakes) → HoldTold a s e i j
    → MakeAll (told_steps a s e) j k
    → (c : ℕ) → c < length a.wiring.now.ports
    → IsToldAt (told_at a s e c) (brought_with a s e j c) (matcher_at i c) (matcher_at k c)

-- of each job that becomes known it is told ahead whether it binds a fault
abbrev pub FlagsAreTold : Type 0
FlagsAreTold =
    (cs : List ℕ) (i j : Intakes) → MakeAll cs i j
    → Each (λ c. (q : Place) → is_faulty_now j (c, q) ≡ binds_fault i (c, q)) cs

-- ---- between

-- what is ready to be shown stays so while idle jobs go
abbrev pub ReadyStays : Type 0
ReadyStays =
    (cs : List ℕ) (i : Intakes) (idle new : Idles) (step number : ℕ)
    → new.steps ≡ slice_set idle.steps step (without number (of_step idle.steps step))
    → new.room ≡ idle.room
    → CanShowAll cs i idle → CanShowAll cs i new
