-- What the calls of a frame promise.
use Rattle.std.specs.Prelude.{◌≡◌, ℕ, ◌-◌, ◌<◌, Bool, List, [], ◌∷◌, length, map, Option, Some, None, slice_get}
use Rattle.std.specs.List.{list_any}
use Rattle.tv_lemmas.specs.Members.{Each, In}
use Rattle.tv_value.specs.Nested.{Place}
use Rattle.tv_value.specs.Values.{ErrorDoc, Name, Value, holds_fault}
use Rattle.tv_flow.specs.Flows.{Flow, Step}
use Rattle.tv_flow.specs.Views.{flow_view}
use Rattle.tv_pool.specs.Pool.{region_at}
use Rattle.tv_cell.specs.declared.piece.Piece.{Piece}
use Rattle.tv_cell.specs.PieceValues.{piece_values}
use Rattle.tv_cell.specs.Soundness.{AreSound}
use Rattle.tv_check.specs.declared.plans.FlowPlan.{FlowPlan}
use Rattle.tv_matching.specs.Matchers.{Outcome, fault_at, job_at, list_at}
use Rattle.tv_outputs.specs.Known.{Nodes}
use Rattle.tv_intake.specs.Intaken.{waiting_things}
use Rattle.tv_model.specs.instance.ByResults.{InstanceStep, PlacedJob}
use Rattle.tv_model.specs.instance.Events as events
use Rattle.tv_model.specs.instance.Events.{Event, fault_set, gave, known_by, took}
use Rattle.tv_model.specs.Agreeing.{FlowAgrees}
use Rattle.tv_model.specs.RightDepths.{HaveTheseDepths}
use Rattle.tv_framing.specs.Answers.{IsReadyJob, numbered}
use Rattle.tv_framing.specs.Frames.{Comes, new_jobs, with_event}
use Rattle.tv_framing.specs.Views.{InAll, View}
use Rattle.tv_frame.specs.declared.frame.Frame.{Frame}
use Rattle.tv_frame.specs.declared.events.Settled.{Settled}
use Rattle.tv_frame.specs.declared.events.Settled.TheVariants.{Closed, Passed}
use Rattle.tv_frame.specs.Kept.{Keeps}
use Rattle.tv_frame.specs.Prepared.{IsReadyFor, event_value}
use Rattle.tv_frame.specs.Tables.{levels_in, trees_of}

-- ---- the start

-- the flow of a plan agrees in its depths, and its inputs get values of the depths that they declare
pub record CanStart (flows : List (Name × Flow)) (plan : FlowPlan)
    (values : List Value) : Type 0 where
  pub agrees : FlowAgrees flows (flow_view plan.flow)
  pub right : HaveTheseDepths (map (λ x. x.1) (flow_view plan.flow).inputs) values

-- a frame that keeps the flow's instance on these inputs, told nothing
abbrev pub Starts : List (Name × Flow) → FlowPlan → List Value → Nodes → Frame → Type 0
Starts flows plan values pool f =
    (v : View) × (v.events ≡ []) × (map (λ x. x.1) v.inputs ≡ values) × Keeps flows plan pool f v

-- every region is what it was
abbrev pub SameRegions : Nodes → Nodes → Type 0
SameRegions pool after = (number : ℕ) → region_at after number ≡ region_at pool number

-- ---- an event

-- so many jobs become known with it, whatever isn't told
abbrev pub Brings : View → Event → ℕ → Type 0
Brings v e n =
    InAll (with_event v e []) (λ instance results fs.
    length (new_jobs (known_by instance v.events) (known_by instance (e ∷ v.events)) fs) ≡ n)

-- the frame has one event more
abbrev pub GoesOn : List (Name × Flow) → FlowPlan → Nodes → Frame → View → Event → Type 0
GoesOn flows plan pool f v e = (w : View) × (n : ℕ) × Comes v w e n × Brings v e n
    × Keeps flows plan pool f w

-- the frame is ready for these as the result of the ready job of that number, at place q of step n, which is s: it is bounced
pub record IsReadyToBounce (flows : List (Name × Flow)) (plan : FlowPlan) (pool : Nodes) (f : Frame)
    (v : View)
    (number n : ℕ) (s : Name × Step) (q : Place) (vs : List Value) : Type 0 where
  pub ready : IsReadyFor flows plan pool f v n s (gave s.0 q vs)
  pub job : numbered v number ≡ Some (s.0, q)
  pub free : IsReadyJob (levels_in v.flow) v (s.0, q)

-- ---- lists and faults

-- the thing that waits last
abbrev pub last_waiting : Frame → Option (ℕ × Outcome)
last_waiting f = slice_get (waiting_things f.intakes) (length (waiting_things f.intakes) - 1)

-- the event settles this outcome of step s
abbrev pub Settles : Name × Step → Event → Outcome → Type 0
Settles s e (job_at q) = ⊥
Settles s e (list_at q m) = e ≡ events.closed s.0 q m
Settles s e (fault_at q l) = (d : ErrorDoc) × (e ≡ fault_set s.0 q d)

-- the pieces of a passed fault, one for each tree of its step: the same document with the depth that the output has there
pub record ArePassed (v : View) (s : Name × Step) (q : Place) (d : ErrorDoc)
    (ps : List Piece) : Type 0 where
  pub sound : AreSound ps
  pub many : length ps ≡ trees_of s
  pub each : (k : ℕ) → k < trees_of s
      → slice_get (piece_values ps) k ≡ Some (event_value v s (fault_set s.0 q d) k)

-- what a room call has put aside for `settle`: the place, and of a fault the pieces
abbrev pub HasPieces : View → Name × Step → Event → Option (List Piece) → Type 0
HasPieces v s (gave t q vs) ps = Unit {0}
HasPieces v s (events.closed t q m) ps = Unit {0}
HasPieces v s (fault_set t q d) None = ⊥
HasPieces v s (fault_set t q d) (Some ps) = ArePassed v s q d ps
HasPieces v s (took t q) ps = Unit {0}

-- the frame is ready to settle the thing that waits last, of step n, which is s, by event e
pub record IsReadyToSettle (flows : List (Name × Flow)) (plan : FlowPlan) (pool : Nodes) (f : Frame)
    (v : View) (n : ℕ)
    (s : Name × Step) (e : Event) : Type 0 where
  pub ready : IsReadyFor flows plan pool f v n s e
  pub outcome : Outcome
  pub last : last_waiting f ≡ Some (n, outcome)
  pub settles : Settles s e outcome
  pub place : f.ahead.place ≡ Some (events.event_place e)
  pub pieces : HasPieces v s e f.ahead.pieces

-- it tells what was settled
abbrev pub Tells : Settled → ℕ → Event → Type 0
Tells (Closed t q m) n (events.closed s r k) = (t ≡ n) × (q ≡ r) × (m ≡ k)
Tells (Passed t q) n (fault_set s r d) = (t ≡ n) × (q ≡ r)
Tells x n e = ⊥

-- ---- jobs

-- whether the job binds a value that holds a fault
abbrev pub holds_error : PlacedJob → Bool
holds_error j = list_any (λ v. holds_fault v) j.inputs

abbrev pub HoldsErrorAt : Name × Place → Bool → PlacedJob → Type 0
HoldsErrorAt j b k = k.step ≡ j.0 → k.place ≡ j.1 → b ≡ holds_error k

-- so it is of the job in all instances
abbrev pub HoldsError : View → Name × Place → Bool → Type 0
HoldsError v j b =
    InAll v (λ instance results fs. Each (λ (f : InstanceStep). Each (HoldsErrorAt j b) f.jobs) fs)

-- a job at this place of the step of this name
pub record IsJobAmong (j : Name × Place) (fs : List InstanceStep) : Type 0 where
  pub step : InstanceStep
  pub among : In step fs
  pub job : PlacedJob
  pub of_step : In job step.jobs
  pub name : job.step ≡ j.0
  pub place : job.place ≡ j.1

-- it is one in all instances
abbrev pub IsJob : View → Name × Place → Type 0
IsJob v j = InAll v (λ instance results fs. IsJobAmong j fs)
