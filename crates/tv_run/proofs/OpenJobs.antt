-- A known job of an open instance, by its number: its instance, seat and frame in the code.
use Rattle.std.specs.Prelude.{◌≡◌, ℕ, ◌<◌, List, [], ◌∷◌, Some, length, slice_get}
use Rattle.std.proofs.Common.{ap, subst, sym, ◌∙◌}
use Rattle.std.proofs.lemmas.Option.{same_Some, slice_get_within}
use Rattle.tv_value.specs.Values.{Name}
use Rattle.tv_flow.specs.Flows.{Flow, Step}
use Rattle.tv_flow.specs.Views.{flow_view}
use Rattle.tv_check.specs.RunViews.{run_view}
use Rattle.tv_check.specs.declared.plans.FlowPlan.{FlowPlan}
use Rattle.tv_instances.specs.FramingViews.{View}
use Rattle.tv_instances.specs.matches.Steps.{IsStepAt}
use Rattle.tv_seats.specs.Seats.{Seat, step_at}
use Rattle.std.specs.Option.{option_map_or}
use Rattle.tv_instances.specs.Forest.{Instance, Instances, IsAt}
use Rattle.tv_instances.specs.Standing.{IsOpen}
use Rattle.tv_instances.specs.declared.open.Open.{Open}
use Rattle.tv_run.specs.Following.{numbered_in}
use Rattle.tv_run.specs.Jobs.{IsOfOpen}
use Rattle.tv_run.specs.Standing.{Fits, IsOpenOf, numbered_as, seats_of}
use Rattle.tv_run.specs.declared.instances.Instance as code
use Rattle.tv_run.specs.declared.instances.Numbered.{Numbered}
use Rattle.tv_run.specs.declared.run.OpenRun.{OpenRun}
use Rattle.tv_run.proofs.JobLemmas.{IsKnownAs, code-seat, known-as, known-at, open-is, seats-open, view-is}
use Rattle.tv_lemmas.proofs.Lists.{get-map}

module _ (r : OpenRun) (xs : Instances) (fits : Fits r xs) (k i n : ℕ) (x : Instance) (s : Seat) (t : Name × Step)
    (w : IsKnownAs r xs k i n x s t) (m : Numbered) (e : slice_get r.jobs.items k ≡ Some m) where
  same : m ≡ numbered_in i n
  same = same_Some m (numbered_in i n) (sym e ∙ w.number)

  pub code-there : slice_get r.instances.items m.instance ≡ Some w.itself
  code-there = ap (λ (u : Numbered). slice_get r.instances.items u.instance) same ∙ w.is_itself

  pub code-low : m.instance < length r.instances.items
  code-low = slice_get_within r.instances.items m.instance w.itself code-there

  pub at-there : IsAt xs m.instance x
  at-there = ap (λ (u : Numbered). slice_get xs u.instance) same ∙ w.there

  pub at-low : m.instance < length xs
  at-low = slice_get_within xs m.instance x at-there

  pub seats-there : slice_get (seats_of w.itself) m.number ≡ Some s
  seats-there =
      ap (λ (u : Numbered). slice_get (seats_of w.itself) u.number) same ∙ code-seat r xs fits k i n x s t w

  pub seats-low : m.number < length (seats_of w.itself)
  seats-low = slice_get_within (seats_of w.itself) m.number s seats-there

  -- ---- its open instance

  module _ (v : View) (opened : IsOpenOf r w.itself x v) where
    -- there is one alone
    pub opened-as : (o : Open) (os : List Open) → w.itself.open.items ≡ o ∷ os → o ≡ opened.itself
    opened-as o os h =
        same_Some o opened.itself (ap (λ (l : List Open). slice_get l 0) (sym h ∙ opened.there))

    module _ (o : Open) (is : o ≡ opened.itself) where
      pub seat-in : slice_get o.seats.seats m.number ≡ Some s
      seat-in =
          ap (λ (u : Open). slice_get u.seats.seats m.number) is
          ∙ ap (λ (l : List Seat). slice_get l m.number) (sym (seats-open w.itself opened.itself [] opened.there))
          ∙ seats-there

      pub seat-low : m.number < length o.seats.seats
      seat-low = slice_get_within o.seats.seats m.number s seat-in

      pub step-in : step_at o.seats.seats m.number ≡ s.step
      step-in = ap (λ q. option_map_or (λ (u : Seat). u.step) q 0) seat-in

      pub is-open : (plan : FlowPlan) → flow_view plan.flow ≡ x.flow → IsOpen (run_view r.run) plan r.pool o v
      is-open plan f = subst (λ u. IsOpen (run_view r.run) plan r.pool u v) (sym is) (opened.is_open plan f)

    pub step-there : IsStepAt v s.step t
    step-there = ap (λ (f : Flow). slice_get f.steps s.step) opened.flow ∙ w.step

    pub step-low : s.step < length v.flow.steps
    step-low = slice_get_within v.flow.steps s.step t step-there

-- job k is of an open instance, told so much
pub record IsOpenKnown (r : OpenRun) (xs : Instances) (k : ℕ) : Type 0 where
  pub outer : ℕ
  pub number : ℕ
  pub instance : Instance
  pub seat : Seat
  pub step : Name × Step
  pub known : IsKnownAs r xs k outer number instance seat step
  pub view : View
  pub is_open : instance.view ≡ Some view
  pub opened : IsOpenOf r known.itself instance view

pub open-as : (r : OpenRun) (xs : Instances) → Fits r xs → (k : ℕ) → IsOfOpen r k → IsOpenKnown r xs k
open-as r xs fits k h =
    let w = known-at r xs fits k h.job h.there in
    let c : w.3.itself ≡ h.itself = same_Some w.3.itself h.itself (sym w.3.is_itself ∙ h.instance) in
    let v =
    view-is r h.job.instance w.3.itself w.0 h.opened [] w.3.kept
    (ap (λ (u : code.Instance). u.open.items) c ∙ h.is_open) in
    record {
      outer = h.job.instance;
      number = h.job.number;
      instance = w.0;
      seat = w.1;
      step = w.2;
      known = w.3;
      view = v.0;
      is_open = v.1;
      opened = v.2;
    }

-- the seat of an open instance has one
pub open-of : (r : OpenRun) (xs : Instances) → Fits r xs → (k : ℕ) (m : Numbered) (x : Instance) (v : View) (s : Seat)
    → slice_get r.jobs.items k ≡ Some m → IsAt xs m.instance x → x.view ≡ Some v → slice_get x.seats m.number ≡ Some s
    → (t : Name × Step) × (w : IsKnownAs r xs k m.instance m.number x s t) × IsOpenOf r w.itself x v
open-of r xs fits k m x v s there at is_open sits =
    let w = known-as r xs fits k m.instance m.number x s (get-map numbered_as r.jobs.items k m there) at sits in
    (w.0, w.1, open-is r m.instance w.1.itself x v w.1.kept is_open)
