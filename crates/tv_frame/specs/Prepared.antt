-- A frame that is ready to show an event: the event is worked ahead, and all room is taken.
use Rattle.std.specs.List.{list_any}
use Rattle.std.specs.Prelude.{◌≡◌, ℕ, ◌+◌, ◌≤◌, ◌<◌, ◌==◌, Bool, true, false, List, [], ◌∷◌, ◌++◌, get_or, length, nat_lt, Option, Some, None, slice_get, slice_index_or, unwrap_or}
use Rattle.tv_lemmas.specs.Members.{In}
use Rattle.tv_value.specs.Nested.{Place}
use Rattle.tv_value.specs.Nested.{list, no_trees}
use Rattle.tv_value.specs.Values.{Name, Value, fault_value}
use Rattle.tv_flow.specs.Flows.{Flow, Step}
use Rattle.tv_naming.specs.Naming.{has_name}
use Rattle.tv_model.specs.instance.Steps.{declared_depths}
use Rattle.tv_check.specs.Feeds.{outputs_of}
use Rattle.tv_cell.specs.PieceValues.{piece_values}
use Rattle.tv_cell.specs.Soundness.{AreSound}
use Rattle.tv_check.specs.declared.plans.FlowPlan.{FlowPlan}
use Rattle.tv_matching.specs.Told.{Told}
use Rattle.tv_match.specs.declared.matchers.Matcher.{Matcher}
use Rattle.tv_match.specs.Seen.{matching}
use Rattle.tv_telling.specs.declared.ways.Event as code
use Rattle.tv_telling.specs.Views.{HasPiece, IsFaultless, happening}
use Rattle.tv_outputs.specs.Changes.{AreMarked}
use Rattle.tv_outputs.specs.Known.{Nodes, depths, needed}
use Rattle.tv_intake.specs.Intaken.{matcher_at}
use Rattle.tv_spread.specs.Spreads.{CanShowAll}
use Rattle.tv_model.specs.instance.Events as events
use Rattle.tv_model.specs.instance.Events.{Event, event_place, event_step, fault_set, gave, has_result, took}
use Rattle.tv_model.specs.RightDepths.{HaveTheseDepths}
use Rattle.tv_framing.specs.Answers.{has_ended_now}
use Rattle.tv_framing.specs.Arriving.{levels_below}
use Rattle.tv_framing.specs.Frames.{with_event}
use Rattle.tv_framing.specs.Views.{View}
use Rattle.tv_framing.specs.ways.Stated.{IsFrom}
use Rattle.tv_framing.specs.keeping.NextEvents.{IsNextEvent}
use Rattle.tv_framing.specs.keeping.Told.{StepIsTold}
use Rattle.tv_framing.specs.matches.Steps.{IsStepAt}
use Rattle.tv_framing.specs.engine.AlongWires.{IsSeenAs}
use Rattle.tv_framing.specs.feeds.Fed.{given_at, newly}
use Rattle.tv_framing.specs.faults.Known.{tree_of}
use Rattle.tv_parts.specs.Partials.{HoldsFaults}
use Rattle.tv_framing.specs.faults.Telling.{TellsTruly}
use Rattle.tv_frame.specs.declared.frame.Frame.{Frame}
use Rattle.tv_frame.specs.declared.outs.Change.{Change}
use Rattle.tv_frame.specs.declared.outs.Change.TheVariants.{Arrive, Close}
use Rattle.tv_frame.specs.declared.outs.Over.{Over}
use Rattle.tv_frame.specs.Kept.{AreOuts, Keeps, declared_at}
use Rattle.tv_frame.specs.Tables.{first_tree, levels_in, trees_of}

abbrev pub is_one_of : List ℕ → ℕ → Bool
is_one_of ns n = list_any (λ m. m == n) ns

-- a step was told, and truly, what is known after the event
pub record IsToldThat (v : View) (e : Event) (s : Name × Step) (ts : List Told) : Type 0 where
  pub told : StepIsTold (with_event v e []) s.0 ts
  pub truly : TellsTruly (with_event v e []) s.0 ts

-- one that holds tellings once these are made, and any other already
abbrev pub IsToldWith : View → Event → Name × Step → Bool → Option Matcher → Type 0
IsToldWith v e s holds None = ⊥
IsToldWith v e s true (Some m) = IsToldThat v e s ((matching m).told ++ (matching m).held)
IsToldWith v e s false (Some m) = IsToldThat v e s (matching m).told

-- these counts say which of the values that the event brings to the trees of its step hold a fault; where it passes one, each does
abbrev pub AreCounted : Name × Step → Event → List ℕ → Type 0
AreCounted s (gave t q vs) ns = AreMarked q vs ns
AreCounted s (events.closed t q m) ns = Unit {0}
AreCounted s (fault_set t q d) ns =
    (trees_of s ≤ length ns)
    × ((k : ℕ) → k < trees_of s → nat_lt (length q) (slice_index_or ns k 0) ≡ true)
AreCounted s (took t q) ns = Unit {0}

-- event e of step n, which is s, may come next, and showing it needs nothing more
pub record IsReadyFor (flows : List (Name × Flow)) (plan : FlowPlan) (pool : Nodes) (f : Frame)
    (v : View) (n : ℕ)
    (s : Name × Step) (e : Event) : Type 0 where
  pub keeps : Keeps flows plan pool f v
  pub next : IsNextEvent flows (levels_in v.flow) v e
  pub at : IsStepAt v n s
  pub named : event_step e ≡ s.0
  pub room : needed (depths f.outputs) (first_tree v.flow.steps n) (trees_of s) ≤ pool.spare
  pub from : ℕ
  pub turns : IsFrom (newly (levels_in v.flow) v e) (event_place e) from
  pub whole : f.ahead.whole ≡ (from == 0)
  pub told :
      (c : ℕ) (t : Name × Step) → IsStepAt v c t
      → IsToldWith v e t (is_one_of f.spread.touched.items c) (matcher_at f.intakes c)
  pub show : CanShowAll f.spread.touched.items f.intakes f.idle
  pub outs : AreOuts (with_event v e [])
      (has_ended_now (levels_in v.flow) (with_event v e [])) f.ahead.outs
  pub counted : AreCounted s e f.ahead.faults.items

-- the job at a place of a step may give these: it is known, gave nothing yet, and they have the declared depths
pub record MayGive (v : View) (s : Name × Step) (q : Place) (vs : List Value) : Type 0 where
  pub known : In (s.0, q) v.jobs
  pub new : has_result v.events s.0 q ≡ false
  pub right : HaveTheseDepths (declared_depths s.1) vs

-- ---- an event as the code has it

-- the code has event e, which may come next, as c: it happened at step n, which is s
pub record IsComing (flows : List (Name × Flow)) (v : View) (n : ℕ) (s : Name × Step) (e : Event)
    (c : code.Event)
    : Type 0 where
  pub next : IsNextEvent flows (levels_in v.flow) v e
  pub at : IsStepAt v n s
  pub named : event_step e ≡ s.0
  pub faults : Name → ℕ
  pub seen : IsSeenAs v.flow (given_at v.flow e) faults c.whole_from e c
  pub turns : IsFrom (newly (levels_in v.flow) v e) (event_place e) c.whole_from
  pub hold :
      (o : Name) → has_name (outputs_of v.flow (event_step e)) o ≡ true
      → HoldsFaults (event_place e)
      (tree_of v.flow (levels_in v.flow) (e ∷ v.events) (event_step e) o) (faults o)
  pub outputs : length c.faults.now ≡ length s.1.outputs
  pub pieces : (k : ℕ) → k < length s.1.outputs → HasPiece c.happened k
  pub faultless :
      (k : ℕ) → k < length s.1.outputs → get_or c.faults.now k 0 ≤ length c.place.now
      → IsFaultless (happening c.happened k)

-- the steps that are fed hold what they will be told of it, and there is room for what that brings
pub record IsHeld (v : View) (e : Event) (f : Frame) : Type 0 where
  pub told :
      (c : ℕ) (t : Name × Step) → IsStepAt v c t
      → IsToldWith v e t (is_one_of f.spread.touched.items c) (matcher_at f.intakes c)
  pub show : CanShowAll f.spread.touched.items f.intakes f.idle

-- the same but for what is held ahead and rooms
pub record HasSameParts (f g : Frame) : Type 0 where
  pub region : g.region ≡ f.region
  pub tables : g.tables ≡ f.tables
  pub inputs : g.inputs ≡ f.inputs
  pub faulty_inputs : g.faulty_inputs.items ≡ f.faulty_inputs.items
  pub outputs : g.outputs ≡ f.outputs
  pub endings : g.endings ≡ f.endings
  pub outs : g.outs ≡ f.outs

-- ---- an event laid over the trees

-- what the k-th tree of the event's step gets
abbrev pub event_value : View → Name × Step → Event → ℕ → Value
event_value v s (gave t q vs) k = unwrap_or (slice_get vs k) (list tt no_trees)
event_value v s (events.closed t q m) k = list tt no_trees
event_value v s (fault_set t q d) k =
    fault_value (record d { depth = levels_below (levels_in v.flow s.0) q + declared_at s k })
event_value v s (took t q) k = list tt no_trees

-- a change of the code is what the event brings to the trees of its step
abbrev pub IsChangeOf : View → Name × Step → Event → Change → Type 0
IsChangeOf v s (gave t q vs) (Arrive ps) = AreSound ps.now × (vs ≡ piece_values ps.now)
IsChangeOf v s (events.closed t q m) (Close n) = m ≡ n
IsChangeOf v s (fault_set t q d) (Arrive ps) =
    AreSound ps.now
    × ((k : ℕ) → k < length s.1.outputs
    → slice_get (piece_values ps.now) k ≡ Some (event_value v s (fault_set t q d) k))
IsChangeOf v s e c = ⊥

-- event e, which may come next, is laid over the trees of its step s, and prefixes of its place turn whole from that length on
pub record IsLaidOver (flows : List (Name × Flow)) (v : View) (s : Name × Step) (e : Event)
    (over : Over) (from : ℕ)
    : Type 0 where
  pub next : IsNextEvent flows (levels_in v.flow) v e
  pub at : IsStepAt v over.step s
  pub named : event_step e ≡ s.0
  pub place : over.place.now ≡ event_place e
  pub change : IsChangeOf v s e over.change
  pub turns : IsFrom (newly (levels_in v.flow) v e) (event_place e) from

-- what is held, and what is found ahead but the outputs, are the same
pub record HasSameHeld (f g : Frame) : Type 0 where
  pub intakes : g.intakes ≡ f.intakes
  pub idle : g.idle ≡ f.idle
  pub spread : g.spread ≡ f.spread
  pub whole : g.ahead.whole ≡ f.ahead.whole
  pub place : g.ahead.place ≡ f.ahead.place
  pub pieces : g.ahead.pieces ≡ f.ahead.pieces
