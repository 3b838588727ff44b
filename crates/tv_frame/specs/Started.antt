-- What a frame has of its flow and inputs before any event.
use Rattle.std.specs.List.{range_with_len}
use Rattle.std.specs.Prelude.{◌≡◌, ◌≢◌, ℕ, ◌<◌, ◌==◌, true, false, List, [], ◌∷◌, IsPermutation, flat_map, if◌then◌else◌, length, map, Option, Some, None, replicate, slice_get}
use Rattle.tv_lemmas.specs.Members.{In}
use Rattle.tv_value.specs.Nested.{Place}
use Rattle.tv_value.specs.Values.{Name, Value, holds_fault}
use Rattle.tv_flow.specs.Flows.{Flow, Step}
use Rattle.tv_flow.specs.Views.{flow_view}
use Rattle.tv_cell.specs.declared.piece.Piece.{Piece}
use Rattle.tv_cell.specs.PieceValues.{piece_values}
use Rattle.tv_cell.specs.Soundness.{AreSound}
use Rattle.tv_check.specs.declared.plans.FlowPlan.{FlowPlan}
use Rattle.tv_model.specs.instance.Steps.{strategy_of}
use Rattle.tv_check.specs.Ports.{mismatches}
use Rattle.tv_matching.specs.Matchers.{Matching}
use Rattle.tv_matching.specs.Told.{Told}
use Rattle.tv_match.specs.declared.matchers.Matcher.{Matcher}
use Rattle.tv_match.specs.Seen.{matching}
use Rattle.tv_intake.specs.declared.intakes.Intakes.{Intakes}
use Rattle.tv_intake.specs.Intaken.{AreIntaken, followed_at, known_jobs, matcher_at, waiting_things}
use Rattle.tv_intake.specs.Sorting.{job_places, others_among}
use Rattle.tv_idle.specs.Idles.{Idles, of_step}
use Rattle.tv_idle.specs.Kept.{IsKept}
use Rattle.tv_spread.specs.Spreads.{is_faulty_now}
use Rattle.tv_framing.specs.Answers.{AreOutputs}
use Rattle.tv_framing.specs.Views.{View}
use Rattle.tv_framing.specs.engine.EndedSteps.{AreEndingsOf}
use Rattle.tv_framing.specs.turns.IdleJobs.{IsIdle}
use Rattle.tv_framing.specs.starts.Starts.{step_start}
use Rattle.tv_frame.specs.declared.frame.Frame.{Frame}
use Rattle.tv_frame.specs.Tables.{AreTables, levels_in}
use Rattle.tv_check.specs.Tables.{step_level}

-- the flow's inputs with these values
abbrev pub named_values : List (Name × ℕ) → List Value → List (Name × Value)
named_values [] vs = []
named_values (x ∷ xs) [] = []
named_values (x ∷ xs) (v ∷ vs) = (x.0, v) ∷ named_values xs vs

abbrev pub given_values : FlowPlan → List Piece → List (Name × Value)
given_values plan inputs = named_values (flow_view plan.flow).inputs (piece_values inputs)

-- ---- steps

-- the matcher of a step was told this, in whatever order
pub record IsToldBy (f : Flow) (s : Step) (ts : List Told) (m : Matching) : Type 0 where
  pub strategy_is : m.strategy ≡ strategy_of s
  pub mismatch_is : m.mismatch ≡ mismatches f s
  pub told : IsPermutation m.told ts
  pub held : m.held ≡ []

abbrev pub HasBegun : Flow → Step → List Told → Option Matcher → Type 0
HasBegun f s ts None = ⊥
HasBegun f s ts (Some m) = IsToldBy f s ts (matching m)

-- all known jobs are idle, each at its step with its number, and those that bind a fault apart
pub record AllAreIdle (intakes : Intakes) (idle : Idles) : Type 0 where
  pub known : idle.known ≡ length (known_jobs intakes)
  pub good_kept : (c : ℕ) → IsKept (λ n. false) idle.known (of_step idle.steps c).good
  pub faulty_kept : (c : ℕ) → IsKept (λ n. false) idle.known (of_step idle.steps c).faulty
  pub all : (n : ℕ) (x : ℕ × Place) → slice_get (known_jobs intakes) n ≡ Some x
      → IsIdle idle.steps x.0 (n, x.1)
  pub none_else : (k : ℕ) (j : ℕ × Place) → IsIdle idle.steps k j
      → slice_get (known_jobs intakes) j.0 ≡ Some (k, j.1)
  pub good : (n : ℕ) (j : ℕ × Place) → In j (of_step idle.steps n).good
      → is_faulty_now intakes (n, j.1) ≡ false
  pub faulty : (n : ℕ) (j : ℕ × Place) → In j (of_step idle.steps n).faulty
      → is_faulty_now intakes (n, j.1) ≡ true

-- what each step is told at the start
abbrev pub at_start : Flow → List (Name × Value) → ℕ → Step → List Told
at_start f values n s = step_start f values s

-- but nothing yet at one of them
abbrev pub but_at : ℕ → (ℕ → Step → List Told) → ℕ → Step → List Told
but_at k tells n s = if n == k then [] else tells n s

-- so many of the flow's steps were told that: all lists and faults that follow wait, and all jobs are idle
pub record HaveBegun (f : Flow) (tells : ℕ → Step → List Told) (count : ℕ) (intakes : Intakes)
    (idle : Idles) : Type 0 where
  pub intaken : AreIntaken intakes
  pub as_many : length intakes.matchers.items ≡ count
  pub matchers :
      (n : ℕ) (s : Name × Step) → n < count → slice_get f.steps n ≡ Some s
      → HasBegun f s.1 (tells n s.1) (matcher_at intakes n)
  pub jobs_are :
      known_jobs intakes
      ≡ flat_map (λ n. map (λ q. (n, q)) (job_places (followed_at intakes n)))
      (range_with_len 0 count)
  pub waiting_are :
      waiting_things intakes
      ≡ flat_map (λ n. map (λ o. (n, o)) (others_among (followed_at intakes n)))
      (range_with_len 0 count)
  pub steps : length idle.steps ≡ count
  pub levels :
      (n : ℕ) (s : Name × Step) → n < count → slice_get f.steps n ≡ Some s
      → (of_step idle.steps n).levels ≡ step_level f s.1
  pub idle_are : AllAreIdle intakes idle

-- ---- all of it

pub record AreParts (plan : FlowPlan) (f : Frame) : Type 0 where
  pub tables_are : AreTables (flow_view plan.flow) f.tables
  pub marked : f.faulty_inputs.items ≡ map holds_fault (piece_values f.inputs)
  pub endings_are : AreEndingsOf (flow_view plan.flow)
      (levels_in (flow_view plan.flow)) [] f.endings
  pub none_whole : f.endings.whole.items ≡ replicate (length (flow_view plan.flow).steps) false
  pub begun :
      HaveBegun (flow_view plan.flow) (at_start (flow_view plan.flow) (given_values plan f.inputs))
      (length (flow_view plan.flow).steps) f.intakes f.idle

-- the flow's outputs are there where it has no steps: an instance on these values has ended with them, told nothing
abbrev pub AreFirstOuts : FlowPlan → List Value → Option (List Piece) → Type 0
AreFirstOuts plan values None = length (flow_view plan.flow).steps ≢ 0
AreFirstOuts plan values (Some ps) =
    (length (flow_view plan.flow).steps ≡ 0)
    × AreSound ps
    × ((v : View) → v.flow ≡ flow_view plan.flow → map (λ x. x.1) v.inputs ≡ values
    → map (λ x. x.0) v.inputs ≡ map (λ x. x.0) v.flow.inputs → AreOutputs v (piece_values ps))
