-- Which steps have ended: as counters have it, and as counting events says.
use Rattle.std.specs.List.{list_all}
use Rattle.std.specs.Prelude.{◌≡◌, ℕ, true, List, [], Some, map, slice_get}
use Rattle.tv_value.specs.Values.{Name}
use Rattle.tv_flow.specs.Flows.{Flow, Step}
use Rattle.tv_naming.specs.Naming.{has_name}
use Rattle.tv_naming.specs.Numbers.{position}
use Rattle.tv_model.specs.instance.Ranks.{ranked}
use Rattle.tv_check.specs.Wirings.{all_after}
use Rattle.tv_telling.specs.declared.endings.endings.Endings.{Endings}
use Rattle.tv_telling.specs.endings.Ends.{IsSound, have_ended, is_whole}
use Rattle.tv_model.specs.instance.ByResults.{last_first}
use Rattle.tv_model.specs.instance.Counting.{have_ended_by, whole_by}
use Rattle.tv_model.specs.instance.Events.{Events}
use Rattle.tv_framing.specs.engine.WiredFlows.{IsWired}

-- the counters of a flow's steps, of which those are marked whole that are so by counting events
pub record AreEndingsOf (f : Flow) (levels : Name → ℕ) (es : Events) (e : Endings) : Type 0 where
  pub sound : IsSound (all_after f) e
  pub marked :
      (n : ℕ) (s : Name × Step) → slice_get f.steps n ≡ Some s
      → is_whole e n ≡ whole_by es s.0 (levels s.0) []

-- of the steps that are named, all have ended by the counters where they have by counting events
abbrev pub EndingsAreByCounting : Type 0
EndingsAreByCounting =
    (f : Flow) → IsWired f → (levels : Name → ℕ) (es : Events) (e : Endings)
    → AreEndingsOf f levels es e
    → (ns : List Name) → list_all (has_name f.steps) ns ≡ true
    → have_ended e (map (λ n. position n f.steps) ns)
    ≡ have_ended_by es levels (last_first (ranked f.steps) []) ns

-- all steps have ended where all are marked whole
abbrev pub AllHaveEndedWhereWhole : Type 0
AllHaveEndedWhereWhole =
    (f : Flow) → IsWired f → (levels : Name → ℕ) (es : Events) (e : Endings)
    → AreEndingsOf f levels es e
    → list_all (λ b. b) e.whole.items
    ≡ have_ended_by es levels (last_first (ranked f.steps) []) (map (λ s. s.0) (ranked f.steps))
