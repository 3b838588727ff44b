-- What is looked up of the flows of a document: of each step the tries, and the flow that its jobs open.
use Rattle.std.specs.Prelude.{List, None, Option, Some, length, map, option_map, slice_get, true, ℕ, ◌≡◌, ◌≤◌}
use Rattle.tv_flow.specs.Formed.{is_ascending}
use Rattle.tv_value.specs.Values.{Name}
use Rattle.tv_flow.specs.Flows.{Document, Flow, Step}
use Rattle.tv_flow.specs.Views.{each, flow_view}
use Rattle.tv_flow.specs.declared.document.Flow.{Flow as CodeFlow}
use Rattle.tv_dispatch.specs.Plans as plans
use Rattle.tv_dispatch.specs.declared.plan.Plan.{Plan}
use Rattle.tv_model.specs.Opening.{first_nested}
use Rattle.tv_frame.specs.Tables.{AreTables}
use Rattle.tv_run.specs.declared.plans.FlowLook.{FlowLook}
use Rattle.tv_run.specs.declared.plans.StepLook.{StepLook}

-- a step as its dispatch sees it
abbrev pub tries_of : Step → Plan
tries_of s = record { activities = map plans.kind_of s.activities; retries = s.retries }

-- ---- flows by number

-- it is of this flow
abbrev pub IsFlow : Document → ℕ → Flow → Type 0
IsFlow d k f = option_map (λ x. x.1) (slice_get d.flows k) ≡ Some f

-- the flow of that name has that number
pub record IsFlowNumber (d : Document) (name : Name) (k : ℕ) : Type 0 where
  pub flow : Flow
  pub there : slice_get d.flows k ≡ Some (name, flow)

-- the number of the flow that a step's jobs open, where they open one
abbrev pub OpensNumber : Document → Option Name → Option ℕ → Type 0
OpensNumber d None o = o ≡ None
OpensNumber d (Some g) None = (k : ℕ) → IsFlowNumber d g k → ⊥
OpensNumber d (Some g) (Some k) = IsFlowNumber d g k

-- the code's flows, in byte order of their names
pub record AreFlowsOf (d : Document) (flows : List (Name × CodeFlow)) : Type 0 where
  pub ascending : is_ascending (map (λ e. e.0) flows) ≡ true
  pub few : length flows ≤ 256
  pub same : d.flows ≡ each flow_view flows

-- ---- looks

pub record IsStepLook (d : Document) (s : Step) (l : StepLook) : Type 0 where
  pub tries : l.tries ≡ tries_of s
  pub opens : OpensNumber d (first_nested s.activities) l.opens

pub record AreStepLooks (d : Document) (f : Flow) (ls : List StepLook) : Type 0 where
  pub as_many : length ls ≡ length f.steps
  pub each :
      (k : ℕ) (s : Name × Step) (x : StepLook) → slice_get f.steps k ≡ Some s
      → slice_get ls k ≡ Some x
      → IsStepLook d s.1 x

pub record IsLook (d : Document) (f : Flow) (l : FlowLook) : Type 0 where
  pub steps : AreStepLooks d f l.steps.items
  pub tables : AreTables f l.tables

pub record AreLooks (d : Document) (looks : List FlowLook) : Type 0 where
  pub as_many : length looks ≡ length d.flows
  pub each :
      (k : ℕ) (f : Name × Flow) (l : FlowLook) → slice_get d.flows k ≡ Some f
      → slice_get looks k ≡ Some l
      → IsLook d f.1 l
