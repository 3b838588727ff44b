-- What a frame keeps: of its instance it knows what it was told, the view, and all that it keeps is a function of that.
use Rattle.std.specs.Prelude.{◌≡◌, ℕ, ◌+◌, ◌==◌, ◌<◌, Bool, true, false, List, [], filter, map, IsPermutation, Option, Some, None, slice_get, slice_index_or, length}
use Rattle.std.specs.Option.{option_map_or}
use Rattle.tv_lemmas.specs.Members.{In}
use Rattle.tv_value.specs.Nested.{Place}
use Rattle.tv_value.specs.Values.{Name, Value, holds_fault}
use Rattle.tv_flow.specs.Flows.{Flow, Step}
use Rattle.tv_flow.specs.Views.{flow_view}
use Rattle.tv_model.specs.instance.Steps.{strategy_of}
use Rattle.tv_parts.specs.Partials.{Partial}
use Rattle.tv_pool.specs.Pool.{IsLive}
use Rattle.tv_cell.specs.declared.piece.Piece.{Piece}
use Rattle.tv_cell.specs.PieceValues.{piece_values}
use Rattle.tv_cell.specs.Soundness.{AreSound}
use Rattle.tv_check.specs.declared.plans.FlowPlan.{FlowPlan}
use Rattle.tv_check.specs.Ports.{mismatches}
use Rattle.tv_matching.specs.Matchers.{Outcome}
use Rattle.tv_match.specs.declared.matchers.Matcher.{Matcher}
use Rattle.tv_match.specs.Seen.{in_order, matching}
use Rattle.tv_outputs.specs.Known.{Nodes, depths, known, tree_in}
use Rattle.tv_outputs.specs.Kept.{Stand}
use Rattle.tv_intake.specs.declared.intakes.Intakes.{Intakes}
use Rattle.tv_intake.specs.Intaken.{AreIntaken, known_jobs, matcher_at, waiting_things}
use Rattle.tv_idle.specs.Idles.{Idles, of_step}
use Rattle.tv_spread.specs.Spreads.{is_faulty_now}
use Rattle.tv_framing.specs.Answers.{AreOutputs, has_ended_now}
use Rattle.tv_framing.specs.Arriving.{part_so_far}
use Rattle.tv_framing.specs.Frames.{IsFrame}
use Rattle.tv_framing.specs.Stated.{IsOfDepths}
use Rattle.tv_framing.specs.Views.{View}
use Rattle.tv_framing.specs.engine.EndedSteps.{AreEndingsOf}
use Rattle.tv_framing.specs.keeping.Told.{StepIsTold}
use Rattle.tv_framing.specs.matches.Steps.{IsStepAt}
use Rattle.tv_framing.specs.matches.Waiting.{waiting_of}
use Rattle.tv_framing.specs.faults.Telling.{TellsTruly}
use Rattle.tv_framing.specs.turns.IdleJobs.{AreIdleOf}
use Rattle.tv_frame.specs.declared.frame.Frame.{Frame}
use Rattle.tv_frame.specs.Tables.{AreTables, first_tree, levels_in, tree_depths, trees_of}

-- ---- inputs

-- the pieces stand for the values of the flow's inputs, in their order, and it is marked which of them hold a fault
pub record AreInputsOf (v : View) (pieces : List Piece) (faulty : List Bool) : Type 0 where
  pub names : map (λ x. x.0) v.inputs ≡ map (λ x. x.0) v.flow.inputs
  pub values : map (λ x. x.1) v.inputs ≡ piece_values pieces
  pub sound : AreSound pieces
  pub marked : faulty ≡ map holds_fault (piece_values pieces)

-- ---- trees

-- the declared depth of a step's k-th output
abbrev pub declared_at : Name × Step → ℕ → ℕ
declared_at s k = slice_index_or (map (λ o. o.1) s.1.outputs) k 0

-- each output's tree is what was told of it
abbrev pub AreTrees : View → List (Partial Value) → Type 0
AreTrees v trees =
    (n : ℕ) (s : Name × Step) → IsStepAt v n s → (k : ℕ) → k < trees_of s
    → tree_in trees (first_tree v.flow.steps n + k)
    ≡ part_so_far s.0 k (levels_in v.flow s.0) (declared_at s k) v.events

-- ---- matchers

-- the matcher of a step was told what is known of its ports
pub record IsMatcherOf (v : View) (s : Name × Step) (m : Matcher) : Type 0 where
  pub strategy_is : (matching m).strategy ≡ strategy_of s.1
  pub mismatch_is : (matching m).mismatch ≡ mismatches v.flow s.1
  pub told : StepIsTold v s.0 (matching m).told
  pub truly : TellsTruly v s.0 (matching m).told

abbrev pub HasMatcher : View → Name × Step → Option Matcher → Type 0
HasMatcher v s None = ⊥
HasMatcher v s (Some m) = IsMatcherOf v s m

abbrev pub AreMatchers : View → (ℕ → Option Matcher) → Type 0
AreMatchers v matchers =
    (n : ℕ) (s : Name × Step) → IsStepAt v n s → HasMatcher v s (matchers n)

-- ---- jobs, lists and faults

abbrev pub step_name : Flow → ℕ → Name
step_name f n = option_map_or (λ s. s.0) (slice_get f.steps n) []

-- a job by the name of its step
abbrev pub named_job : Flow → ℕ × Place → Name × Place
named_job f j = (step_name f j.0, j.1)

-- what follows at a step
abbrev pub followed_by : Option Matcher → List Outcome
followed_by m = option_map_or in_order m []

-- the things of step n
abbrev pub things_of : ℕ → List (ℕ × Outcome) → List Outcome
things_of n xs = map (λ x. x.1) (filter (λ x. x.0 == n) xs)

-- those that wait are the lists and faults that follow and of which nothing was told
abbrev pub AreWaiting : View → (ℕ → Option Matcher) → List (ℕ × Outcome) → Type 0
AreWaiting v matchers things =
    (n : ℕ) (s : Name × Step) → IsStepAt v n s
    → IsPermutation (things_of n things) (waiting_of v.events s.0 (followed_by (matchers n)))

-- ---- idle jobs

-- the idle jobs are the known ones that neither run nor have a result, for each step those that bind a fault apart
pub record AreIdle (v : View) (intakes : Intakes) (idle : Idles) : Type 0 where
  pub all : AreIdleOf v idle.steps
  pub known : idle.known ≡ length (known_jobs intakes)
  pub as_many : length idle.steps ≡ length v.flow.steps
  pub levels :
      (n : ℕ) (s : Name × Step) → IsStepAt v n s
      → (of_step idle.steps n).levels ≡ levels_in v.flow s.0
  pub good : (n : ℕ) (j : ℕ × Place) → In j (of_step idle.steps n).good
      → is_faulty_now intakes (n, j.1) ≡ false
  pub faulty : (n : ℕ) (j : ℕ × Place) → In j (of_step idle.steps n).faulty
      → is_faulty_now intakes (n, j.1) ≡ true

-- ---- the flow's outputs

-- they are there once the instance has ended
abbrev pub AreOuts : View → Bool → Option (List Piece) → Type 0
AreOuts v ended None = ended ≡ false
AreOuts v ended (Some ps) = (ended ≡ true) × AreSound ps × AreOutputs v (piece_values ps)

-- ---- all of it

-- the frame f of a plan, whose nodes stand in the pool, keeps of its instance what the view says
pub record Keeps (flows : List (Name × Flow)) (plan : FlowPlan) (pool : Nodes) (f : Frame)
    (v : View) : Type 0 where
  pub flow_is : v.flow ≡ flow_view plan.flow
  pub frame : IsFrame v
  pub of_depths : IsOfDepths flows (levels_in v.flow) v
  pub inputs_are : AreInputsOf v f.inputs f.faulty_inputs.items
  pub tables_are : AreTables v.flow f.tables
  pub live : IsLive pool f.region
  pub stand : Stand pool f.outputs f.region
  pub deep : depths f.outputs ≡ tree_depths v.flow
  pub trees_are : AreTrees v (known pool f.outputs)
  pub endings_are : AreEndingsOf v.flow (levels_in v.flow) v.events f.endings
  pub intaken : AreIntaken f.intakes
  pub as_many : length f.intakes.matchers.items ≡ length v.flow.steps
  pub matchers_are : AreMatchers v (matcher_at f.intakes)
  pub jobs_are : v.jobs ≡ map (named_job v.flow) (known_jobs f.intakes)
  pub waiting_are : AreWaiting v (matcher_at f.intakes) (waiting_things f.intakes)
  pub idle_are : AreIdle v f.intakes f.idle
  pub outs_are : AreOuts v (has_ended_now (levels_in v.flow) v) f.outs
