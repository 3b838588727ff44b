-- The step of a known job, and its tries, as the code looks them up.
use Rattle.std.specs.Option.{option_map_or}
use Rattle.std.specs.Prelude.{◌≡◌, refl, ℕ, ◌<◌, List, [], None, Option, Some, length, map, option_map, slice_get}
use Rattle.std.proofs.Common.{ap, get_or, subst, sym, ◌∙◌}
use Rattle.std.proofs.lemmas.List.{length-map}
use Rattle.std.proofs.lemmas.Option.{none-some, same_Some, slice_get-map, slice_get_read, slice_get_within}
use Rattle.tv_value.specs.Values.{Name}
use Rattle.tv_flow.specs.Flows.{Document, Flow, Step}
use Rattle.tv_flow.specs.Views.{flow_view, step_view}
use Rattle.tv_flow.specs.declared.document.Step.{Step as CodeStep}
use Rattle.tv_dispatch.specs.declared.plan.Plan.{Plan}
use Rattle.tv_check.specs.RunViews.{run_view}
use Rattle.tv_check.specs.declared.plans.FlowPlan.{FlowPlan}
use Rattle.tv_seats.specs.Seats.{Seat, place_at, step_at}
use Rattle.tv_instances.specs.Forest.{Instance, Instances, IsAt}
use Rattle.tv_run.specs.Jobs.{named_step_of, seat_of, step_number_of, step_of}
use Rattle.tv_run.specs.Looks.{IsLook, IsStepLook, tries_of}
use Rattle.tv_run.specs.Standing.{Fits, seats_of}
use Rattle.tv_run.specs.declared.instances.Instance as code
use Rattle.tv_run.specs.declared.instances.Numbered.{Numbered}
use Rattle.tv_run.specs.declared.plans.FlowLook.{FlowLook}
use Rattle.tv_run.specs.declared.plans.StepLook.{StepLook}
use Rattle.tv_run.specs.declared.run.OpenRun.{OpenRun}
use Rattle.tv_run.proofs.JobLemmas.{IsKnownAs, code-seat, instance-low, known-at, named_step-is, seat-is, step-is, step_number-is}

abbrev pub seen_step : Name × CodeStep → Name × Step
seen_step x = (x.0, step_view x.1)

-- a step of the code by its number
pub step-seen : (steps : List (Name × CodeStep)) (n : ℕ) (x : Name × CodeStep) → slice_get steps n ≡ Some x
    → slice_get (map seen_step steps) n ≡ Some (seen_step x)
step-seen steps n x e = slice_get-map seen_step steps n ∙ ap (option_map seen_step) e

-- ---- a known job by what the code reads

module _ (r : OpenRun) (xs : Instances) (fits : Fits r xs) (k : ℕ) (m : Numbered) (e : slice_get r.jobs.items k ≡ Some m)
  where
    abbrev w : (x : Instance) × (s : Seat) × (t : Name × Step) × IsKnownAs r xs k m.instance m.number x s t
    w = known-at r xs fits k m e

    pub code-low : m.instance < length r.instances.items
    code-low = instance-low r xs fits k m.instance m.number w.0 w.1 w.2 w.3

    pub plan-there : (ys : Instances) × Fits r ys × (m.instance < length ys)
    plan-there = (xs, fits, slice_get_within xs m.instance w.0 w.3.there)

    module _ (c : code.Instance) (is : c ≡ get_or r.instances.items m.instance c) where
      pub itself-is : w.3.itself ≡ c
      itself-is =
          same_Some w.3.itself c
          (sym w.3.is_itself
          ∙ slice_get_read r.instances.items (length r.instances.items) m.instance c refl code-low is)

      pub seat-in : slice_get (seats_of c) m.number ≡ Some w.1
      seat-in =
          ap (λ (u : code.Instance). slice_get (seats_of u) m.number) (sym itself-is)
          ∙ code-seat r xs fits k m.instance m.number w.0 w.1 w.2 w.3

      pub seats-within : m.number < length (seats_of c)
      seats-within = slice_get_within (seats_of c) m.number w.1 seat-in

      pub step-read : step_number_of r k ≡ Some (step_at (seats_of c) m.number)
      step-read =
          step_number-is r xs fits k m.instance m.number w.0 w.1 w.2 w.3
          ∙ ap Some (sym (ap (λ (o : Option Seat). option_map_or (λ (u : Seat). u.step) o 0) seat-in))

      pub place-read : (s : Seat) → seat_of r k ≡ Some s → place_at (seats_of c) m.number ≡ s.place
      place-read s f =
          ap (λ (o : Option Seat). option_map_or (λ (u : Seat). u.place) o [])
          (seat-in ∙ sym (seat-is r xs fits k m.instance m.number w.0 w.1 w.2 w.3) ∙ f)

    -- its step in the code's plan of its flow
    module _ (plan : FlowPlan) (by : (x : Instance) → IsAt xs m.instance x → flow_view plan.flow ≡ x.flow) (n : ℕ)
        (number : step_number_of r k ≡ Some n) where
      step-same : n ≡ w.1.step
      step-same =
          same_Some n w.1.step (sym number ∙ step_number-is r xs fits k m.instance m.number w.0 w.1 w.2 w.3)

      pub step-at : slice_get w.0.flow.steps n ≡ Some w.2
      step-at = ap (slice_get w.0.flow.steps) step-same ∙ w.3.step

      step-there : slice_get (flow_view plan.flow).steps n ≡ Some w.2
      step-there = ap (λ (f : Flow). slice_get f.steps n) (by w.0 w.3.there) ∙ step-at

      pub code-within : n < length plan.flow.steps
      code-within =
          subst (λ l. n < l) (length-map plan.flow.steps seen_step)
          (slice_get_within (flow_view plan.flow).steps n w.2 step-there)

      pub code-step : (y : Name × CodeStep) → slice_get plan.flow.steps n ≡ Some y
          → named_step_of r k ≡ Some (y.0, step_view y.1)
      code-step y f =
          named_step-is r xs fits k m.instance m.number w.0 w.1 w.2 w.3
          ∙ sym step-there ∙ step-seen plan.flow.steps n y f

    -- and its tries
    module _ (n : ℕ) (number : step_number_of r k ≡ Some n) where
      pub tried-step : slice_get w.0.flow.steps n ≡ Some w.2
      tried-step =
          ap (slice_get w.0.flow.steps)
          (same_Some n w.1.step (sym number ∙ step_number-is r xs fits k m.instance m.number w.0 w.1 w.2 w.3))
          ∙ w.3.step

      pub tries-there : (ys : Instances) × (x : Instance) × Fits r ys × IsAt ys m.instance x × (n < length x.flow.steps)
      tries-there = (xs, w.0, fits, w.3.there, slice_get_within w.0.flow.steps n w.2 tried-step)

      pub tries-are : (p : Plan) → ((ys : Instances) (x : Instance) (s : Name × Step) → Fits r ys → IsAt ys m.instance x
          → slice_get x.flow.steps n ≡ Some s → p ≡ tries_of s.1)
          → option_map tries_of (step_of r k) ≡ Some p
      tries-are p is =
          ap (option_map tries_of) (step-is r xs fits k m.instance m.number w.0 w.1 w.2 w.3)
          ∙ ap Some (sym (is xs w.0 w.2 fits w.3.there tried-step))

-- ---- looks

module _ (r : OpenRun) (xs : Instances) (fits : Fits r xs) (i : ℕ) (x : Instance) (at : IsAt xs i x) (c : code.Instance)
    (here : slice_get r.instances.items i ≡ Some c) where
  abbrev d : Document
  d = run_view r.run

  pub flow-there : (f : Name × Flow) × (slice_get d.flows c.flow ≡ Some f) × (f.1 ≡ x.flow)
  flow-there = by (slice_get d.flows c.flow) refl (fits.kept i c x here at).flow
    where
      by : (o : Option (Name × Flow)) → slice_get d.flows c.flow ≡ o → option_map (λ f. f.1) o ≡ Some x.flow
          → (f : Name × Flow) × (slice_get d.flows c.flow ≡ Some f) × (f.1 ≡ x.flow)
      by None e h = absurd (none-some x.flow h)
      by (Some f) e h = (f, e, same_Some f.1 x.flow h)

  pub look-low : c.flow < length r.looks.items
  look-low =
      subst (λ n. c.flow < n) (sym fits.looks.as_many) (slice_get_within d.flows c.flow flow-there.0 flow-there.1)

  module _ (l : FlowLook) (there : slice_get r.looks.items c.flow ≡ Some l) where
    pub look-is : IsLook d x.flow l
    look-is = subst (λ f. IsLook d f l) flow-there.2 (fits.looks.each c.flow flow-there.0 l flow-there.1 there)

    pub step-low : (n : ℕ) → n < length x.flow.steps → n < length l.steps.items
    step-low n h = subst (λ a. n < a) (sym look-is.steps.as_many) h

    pub step-look : (n : ℕ) (s : Name × Step) (y : StepLook) → slice_get x.flow.steps n ≡ Some s
        → slice_get l.steps.items n ≡ Some y → IsStepLook d s.1 y
    step-look n s y e f = look-is.steps.each n s y e f
