-- A job gives its result, or is bounced.
use Rattle.std.specs.Prelude.{◌≡◌, refl, ℕ, true, List, Some, length, map, slice_get}
use Rattle.std.proofs.Common.{inl, sym, ap, subst, ◌∙◌}
use Rattle.tv_value.specs.Nested.{Place}
use Rattle.tv_value.specs.Values.{Name, Value}
use Rattle.tv_flow.specs.Flows.{Document, Flow, Step}
use Rattle.tv_check.specs.declared.plans.FlowPlan.{FlowPlan}
use Rattle.tv_outputs.specs.Known.{Nodes}
use Rattle.tv_intake.specs.Intaken.{known_jobs}
use Rattle.tv_model.specs.instance.Events.{gave, is_taken}
use Rattle.tv_frame.specs.Answers.{IsReadyJob}
use Rattle.tv_frame.specs.FramingViews.{View}
use Rattle.tv_frame.specs.matches.Steps.{IsStepAt}
use Rattle.tv_frame.specs.Calls.{Brings, GoesOn, IsReadyToBounce}
use Rattle.tv_frame.specs.declared.frame.Frame.{Frame}
use Rattle.tv_frame.specs.Kept.{Keeps}
use Rattle.tv_frame.specs.Prepared.{IsReadyFor, MayGive}
use Rattle.tv_frame.specs.Tables.{levels_in}
use Rattle.tv_seats.specs.Seats.{Seat, Seated, with_stage}
use Rattle.tv_seats.specs.declared.stage.Stage.TheVariants as stage
use Rattle.tv_instances.specs.Events.{IsReadyToGive, IsTold, MayBeBounced, MayBeGiven}
use Rattle.tv_instances.specs.Seating.{AllSit, CanSit, IsKept}
use Rattle.tv_instances.specs.Standing.{IsOpen, job_of}
use Rattle.tv_instances.specs.Turns.{TakeIn}
use Rattle.tv_instances.specs.declared.turns.Turns.{Turns}
use Rattle.tv_instances.specs.declared.events.Spot.{Spot}
use Rattle.tv_instances.specs.declared.open.Open.{Open}
use Rattle.tv_instances.proofs.LevelLemmas.{still-kept}
use Rattle.tv_instances.proofs.OpenLemmas.{found-at, numbered-step, still-open}
use Rattle.tv_instances.proofs.Quiet.{of-staged}
use Rattle.tv_instances.proofs.Seats.{staged-jobs}
use Rattle.tv_instances.proofs.Telling.{then-can, then-kept, then-told}

-- ---- room is taken

-- what the call of the frame promises of the event, whatever it keeps
abbrev pub Prepares : FlowPlan → Nodes → Frame → Nodes → Frame → ℕ → Place → List Value → Type 0
Prepares plan pool f after g k q vs =
    (flows : List (Name × Flow)) (v : View) (s : Name × Step) → Keeps flows plan pool f v → IsStepAt v k s
    → MayGive v s q vs → IsReadyFor flows plan after g v k s (gave s.0 q vs)

abbrev pub Counts : FlowPlan → Nodes → Frame → ℕ → Place → List Value → ℕ → Type 0
Counts plan pool f k q vs more =
    (flows : List (Name × Flow)) (v : View) (s : Name × Step) → Keeps flows plan pool f v → IsStepAt v k s
    → MayGive v s q vs → Brings v (gave s.0 q vs) more

module _ (d : Document) (plan : FlowPlan) (pool : Nodes) (o : Open) (v : View) (io : IsOpen d plan pool o v) (n : ℕ)
    (s : Seat) (there : slice_get o.seats.seats n ≡ Some s) (t : Name × Step) (at : IsStepAt v s.step t) (vs : List Value)
    (may : MayGive v t s.place vs) (k : ℕ) (q : Place) (found : slice_get (known_jobs o.frame.intakes) n ≡ Some (k, q)) where
  same-step : s.step ≡ k
  same-step = (found-at d plan pool o v io n s there k q found).0

  same-place : s.place ≡ q
  same-place = (found-at d plan pool o v io n s there k q found).1

  pub at-found : IsStepAt v k t
  at-found = subst (λ m. IsStepAt v m t) same-step at

  pub may-found : MayGive v t q vs
  may-found = subst (λ p. MayGive v t p vs) same-place may

  module _ (after : Nodes) (p : Open)
      (same : (flows : List (Name × Flow)) (u : View) → Keeps flows plan pool o.frame u → Keeps flows plan after p.frame u)
      (seats : p.seats.seats ≡ o.seats.seats) (levels : p.seats.levels ≡ o.seats.levels) (turns : p.turns ≡ o.turns)
      (kept : p.levels.settled ≡ o.levels.settled)
      (x : Spot) (step : x.step ≡ k)
      (place : x.place ≡ q) (room : p.seats.room ≡ x.more) (prepares : Prepares plan pool o.frame after p.frame k q vs)
      (counts : Counts plan pool o.frame k q vs x.more) where
    pub ready-to_give : IsReadyToGive d plan after p v s t vs x
    ready-to_give = record {
      is_open = still-open d plan pool o v io after p (same d.flows v io.keeps) seats levels turns kept;
      step = step ∙ sym same-step;
      place = place ∙ sym same-place;
      ready =
          subst (λ m. IsReadyFor d.flows plan after p.frame v m t (gave t.0 s.place vs)) (sym same-step)
          (subst (λ a. IsReadyFor d.flows plan after p.frame v k t (gave t.0 a vs)) (sym same-place)
          (prepares d.flows v t io.keeps at-found may-found));
      brings =
          subst (λ a. Brings v (gave t.0 a vs) x.more) (sym same-place) (counts d.flows v t io.keeps at-found may-found);
      room = room;
    }

-- ---- it gives

module _ (d : Document) (plan : FlowPlan) (pool : Nodes) (o : Open) (v : View) (n : ℕ) (s : Seat) (t : Name × Step)
    (vs : List Value) (x : Spot) (r : IsReadyToGive d plan pool o v s t vs x) where
  pub ready-there : IsReadyFor d.flows plan pool o.frame v x.step t (gave t.0 x.place vs)
  ready-there =
      subst (λ m. IsReadyFor d.flows plan pool o.frame v m t (gave t.0 x.place vs)) (sym r.step)
      (subst (λ q. IsReadyFor d.flows plan pool o.frame v s.step t (gave t.0 q vs)) (sym r.place) r.ready)

  module _ (after : Nodes) (g : Frame) (on : GoesOn d.flows plan after g v (gave t.0 x.place vs)) (y : Seated)
      (seats : y.seats ≡ with_stage n stage.Settled o.seats.seats) (levels : y.levels ≡ o.seats.levels)
      (room : y.room ≡ o.seats.room) where
    on-there : GoesOn d.flows plan after g v (gave t.0 s.place vs)
    on-there = subst (λ q. GoesOn d.flows plan after g v (gave t.0 q vs)) r.place on

    jobs : map job_of y.seats ≡ map job_of o.seats.seats
    jobs = ap (map job_of) seats ∙ staged-jobs n stage.Settled o.seats.seats

    pub given-kept : IsKept g
    given-kept =
        then-kept d plan pool o v r.is_open (gave t.0 s.place vs) x.more r.brings after g on-there y jobs levels
        (room ∙ r.room)

    pub given-can : CanSit g y
    given-can =
        then-can d plan pool o v r.is_open (gave t.0 s.place vs) x.more r.brings after g on-there y jobs levels
        (room ∙ r.room)

    pub given-told : (z : Seated) → AllSit g y z → (u : Turns) → TakeIn o.turns u (length y.seats) z.seats
        → IsTold d plan after (record { frame = g; seats = z; turns = u; levels = o.levels }) v (gave t.0 s.place vs) x.more
        (with_stage n stage.Settled o.seats.seats)
    given-told z all u take =
        then-told d plan pool o v r.is_open (gave t.0 s.place vs) x.more r.brings after g on-there y jobs levels
        (room ∙ r.room) z all u take o.levels
        (still-kept v o.levels.settled r.is_open.kept (gave t.0 s.place vs) on-there.0 on-there.1 on-there.2 refl)
        (of-staged o.seats.seats y.seats o.turns.positions.items u.from n stage.Settled seats (inl refl))
        (with_stage n stage.Settled o.seats.seats) seats

-- one that runs is taken at its place
pub taken-there : (d : Document) (plan : FlowPlan) (pool : Nodes) (o : Open) (v : View) (n : ℕ) (s : Seat) (t : Name × Step)
    (vs : List Value) (x : Spot) → (m : MayBeGiven d plan pool o v n s t vs x)
    → is_taken v.events t.0 x.place ≡ true
taken-there d plan pool o v n s t vs x m = ap (is_taken v.events t.0) m.ready.place ∙ m.taken

-- ---- or is bounced

pub to-bounce : (d : Document) (plan : FlowPlan) (pool : Nodes) (o : Open) (v : View) (n : ℕ) (s : Seat) (t : Name × Step)
    (vs : List Value) (x : Spot) → MayBeBounced d plan pool o v n s t vs x
    → IsReadyToBounce d.flows plan pool o.frame v n x.step t x.place vs
to-bounce d plan pool o v n s t vs x m = record {
  ready = ready-there d plan pool o v n s t vs x m.ready;
  job =
      numbered-step d plan pool o v m.ready.is_open n s m.there t m.ready.ready.at ∙ ap (λ q. Some (t.0, q)) (sym m.ready.place);
  free = subst (λ q. IsReadyJob (levels_in v.flow) v (t.0, q)) (sym m.ready.place) m.free;
}
