-- The laws: with each step by rank one more is done, and in the end all is told.
use Rattle.std.specs.Prelude.{◌≡◌, ℕ, suc, List, [], length, Option, Some, slice_get, slice_index_or, Bool, true}
use Rattle.tv_value.specs.Nested.{Place}
use Rattle.tv_value.specs.Values.{JobName, Name}
use Rattle.tv_gate.specs.Outcomes.{Giving}
use Rattle.tv_flow.specs.Flows.{Document, Flow, Step}
use Rattle.tv_lineage.specs.Kept.{Kept, records_of}
use Rattle.tv_lineage.specs.Members.{HaveSame}
use Rattle.tv_strategy.specs.Conditions.{number_of}
use Rattle.tv_strategy.specs.Measures.{strategy_depth}
use Rattle.tv_strategy.specs.Origins.{Origin}
use Rattle.tv_naming.specs.Numbers.{position}
use Rattle.tv_model.specs.instance.Delivered.{StepMeaning}
use Rattle.tv_model.specs.instance.Ranks.{ranked}
use Rattle.tv_model.specs.instance.Steps.{strategy_of}
use Rattle.tv_check.specs.Ports.{mismatches, ports_of}
use Rattle.tv_model.specs.instance.Events.{known_by}
use Rattle.tv_forest.specs.HistoryEntries.{History}
use Rattle.tv_forest.specs.Histories.{is_settled_name}
use Rattle.tv_frame.specs.FramingViews.{View}
use Rattle.tv_forest.specs.views.InRun.{IsInRun}
use Rattle.tv_model.specs.Meanings.{meaning}
use Rattle.tv_frame.specs.Levels.{AreLevels, Level, What}
use Rattle.tv_frame.specs.MainSteps.{main_steps}
use Rattle.tv_traces.specs.OfNodes.{IsWalked}
use Rattle.tv_traces.specs.KnownInRun.{AreJobsTold, AreLevelsTold}
use Rattle.tv_traces.specs.Seen.{AreKnownBy, AreSeen, Spot}
use Rattle.tv_traces.specs.Settled.{records_of_settled}
use Rattle.tv_traces.specs.Shapes.{Shape, no_shape}
use Rattle.tv_traces.specs.Staged.{IsStage}
use Rattle.tv_forest.specs.runs.Stated.{IsMainFlow}
use Rattle.tv_traces.specs.Tables.{AreDone, AreGrown, IsTableOf, told_or}
use Rattle.tv_traces.specs.Walking.{begins_of}

-- with what is worked out of the step of the next rank, from the shapes before and what is seen, one step more is done
abbrev pub StagesGoOn : Type 0
StagesGoOn =
    (gives : Giving) (d : Document) (flow : Flow) → IsMainFlow d flow
    → (known : Origin → Bool) (settled : JobName → Bool)
    (what : ℕ → Place → Option What) (done : ℕ → Place → Bool)
    → AreSeen known settled flow (main_steps (meaning gives d)) what done
    → (n r : ℕ) (s : Name × Step) → slice_get flow.steps n ≡ Some s
    → position s.0 (ranked flow.steps) ≡ r
    → (old now : Kept) (us more : List Shape) → IsStage gives d flow known settled r old us
    → (u : Shape)
    → IsWalked (record {
      flow = flow;
      shapes = us;
      ports = ports_of flow s.1;
      begins = begins_of flow s.1;
      what = what n;
      settled = done n;
      name = s.0;
    })
    s (strategy_depth (number_of (mismatches flow s.1)) (strategy_of s.1)) old now u
    → slice_index_or more n no_shape ≡ u
    → ((k : ℕ) → (k ≡ n → ⊥) → slice_index_or more k no_shape ≡ slice_index_or us k no_shape)
    → IsStage gives d flow known settled (suc r) now more

-- once all steps are done, the records are those of the main flow's settled jobs
abbrev pub RecordsAreOfMainJobs : Type 0
RecordsAreOfMainJobs =
    (gives : Giving) (d : Document) (flow : Flow) → IsMainFlow d flow
    → (known : Origin → Bool) (settled : JobName → Bool) (k : Kept) (us : List Shape)
    → IsStage gives d flow known settled (length flow.steps) k us
    → HaveSame (records_of k) (records_of_settled settled (meaning gives d))

-- ---- what is seen

-- all levels tell of all steps, with all nodes known and all jobs settled
abbrev pub WholeIsSeen : Type 0
WholeIsSeen =
    (flow : Flow) (fs : List StepMeaning) (ls : List Level) → AreLevels flow fs ls
    → (what : ℕ → Place → Option What) → IsTableOf ls what
    → AreSeen (λ o. true) (λ n. true) flow fs what (λ n q. true)

-- the levels and settled jobs so far tell of what is known, with lists that grow
abbrev pub SoFarIsSeen : Type 0
SoFarIsSeen =
    (known : Origin → Bool) (settled : JobName → Bool) (flow : Flow) (fs : List StepMeaning)
    (ls : List Level) (js : List Spot) → AreKnownBy known settled flow fs ls js
    → (what grown : ℕ → Place → Option What) (done : ℕ → Place → Bool)
    → IsTableOf ls what → AreGrown ls js grown → AreDone js done
    → AreSeen known settled flow fs (told_or what grown) done

-- what is told of the main instance while it is open is all that is known of it
abbrev pub MainIsKnown : Type 0
MainIsKnown =
    (gives : Giving) (d : Document) (past : History) (levels : Name → ℕ) (v : View)
    → IsInRun gives d past [] levels v → (ls : List Level) (js : List Spot) → AreLevelsTold v ls
    → AreJobsTold v js
    → AreKnownBy (known_by [] v.events) (is_settled_name (meaning gives d) past) v.flow
    (main_steps (meaning gives d)) ls js
