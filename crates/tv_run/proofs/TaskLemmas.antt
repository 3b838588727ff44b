-- What the try of a ticket asks, where it is out: a service of its job's step, on what the job binds.
use Rattle.std.specs.Prelude.{◌≡◌, ◌<◌, List, Option, Some, length, map, option_and_then, option_map, slice_get}
use Rattle.std.proofs.Common.{ap, subst, sym, ◌∙◌}
use Rattle.std.proofs.lemmas.List.{length-map}
use Rattle.std.proofs.lemmas.Option.{same_Some, slice_get_within}
use Rattle.tv_value.specs.Activities.{Activity, nested, service}
use Rattle.tv_value.specs.Nested.{Place}
use Rattle.tv_value.specs.Orders.{named}
use Rattle.tv_value.specs.Values.{JobName, Name, Value}
use Rattle.tv_gate.specs.Outcomes.{Giving}
use Rattle.tv_flow.specs.Flows.{Document, Flow, Step}
use Rattle.tv_flow.specs.Views.{activity_view, step_view}
use Rattle.tv_flow.specs.declared.document.Activity.{Activity as CodeActivity}
use Rattle.tv_flow.specs.declared.document.Step.{Step as CodeStep}
use Rattle.tv_check.specs.RunViews.{run_view}
use Rattle.tv_dispatch.specs.Jobs.{Ask}
use Rattle.tv_model.specs.instance.Steps.{declared_depths}
use Rattle.tv_model.specs.Jobs.{Job}
use Rattle.tv_history.specs.Entries.{History}
use Rattle.tv_instances.specs.Answers.{AreInputs}
use Rattle.tv_frame.specs.Tables.{levels_in}
use Rattle.tv_frame.proofs.Binding.{named-there}
use Rattle.tv_instances.specs.seats.Seated.{spot_of}
use Rattle.tv_instances.proofs.stands.Told.{steps-rise}
use Rattle.tv_instances.proofs.views.LawLemmas.{inputs-are_told}
use Rattle.tv_instances.specs.Forest.{Instances}
use Rattle.tv_instances.proofs.forest_firsts.Flows.{flows-by_names}
use Rattle.tv_history.specs.Answers.{Question}
use Rattle.tv_history.specs.Calls.{IsOther, IsTask, try_if_out}
use Rattle.tv_history.specs.Declarations.{declared_for, declared_outputs}
use Rattle.tv_history.specs.Runs.{past_of}
use Rattle.tv_history.specs.declared.ticket.Ticket.{Ticket}
use Rattle.tv_run.specs.Following.{numbered_in}
use Rattle.tv_run.specs.Jobs.{IsOfOpen, step_of}
use Rattle.tv_run.specs.Standing.{IsOpenOf, Stands, run_of}
use Rattle.tv_run.specs.declared.run.OpenRun.{OpenRun}
use Rattle.tv_run.proofs.AskedOut.{IsAskedOut, ask-is, at-step, is-its, sit, step-there}
use Rattle.tv_run.proofs.JobLemmas.{open-is, spot-is}
use Rattle.tv_run.proofs.Numbers.{job-is}
use Rattle.tv_lemmas.proofs.Lists.{get-map}

abbrev name_of_service : Activity → Name
name_of_service (service n) = n
name_of_service (nested n) = n

module _ (gives : Giving) (r : OpenRun) (xs : Instances) (st : Stands gives r xs) (t : Ticket) (k : Ask)
    (out : try_if_out gives (run_of r) t ≡ Some k) (o : IsAskedOut gives r xs t k) where
  abbrev d : Document
  d = run_view r.run

  abbrev past : History
  past = past_of (run_of r)

  -- ---- its step

  -- the step that a look finds
  its-step : (s : Step) → step_of r t.job ≡ Some s → s ≡ o.step.1
  its-step s e = same_Some s o.step.1 (sym e ∙ step-there gives r xs st t k o)

  -- its activity is the service that is asked
  service-there : slice_get o.step.1.activities t.activity ≡ Some (service k.service)
  service-there =
      ap (slice_get o.step.1.activities) (sym o.try.activity) ∙ (ask-is gives r xs st t k o).is_service

  module _ (s : CodeStep) (e : step_of r t.job ≡ Some (step_view s)) where
    pub activity-within : t.activity < length s.activities
    activity-within =
        subst (λ m. t.activity < m) (length-map s.activities activity_view)
        (subst (λ (x : Step). t.activity < length x.activities) (sym (its-step (step_view s) e))
        (slice_get_within o.step.1.activities t.activity (service k.service) service-there))

    pub activity-is : (a : CodeActivity) → slice_get s.activities t.activity ≡ Some a
        → activity_view a ≡ service k.service
    activity-is a h =
        same_Some (activity_view a) (service k.service)
        (sym (get-map activity_view s.activities t.activity a h)
        ∙ ap (λ (x : Step). slice_get x.activities t.activity) (its-step (step_view s) e)
        ∙ service-there)

    pub service-is : (a : CodeActivity) → slice_get s.activities t.activity ≡ Some a → (n : Name)
        → activity_view a ≡ service n → n ≡ k.service
    service-is a h n f = ap name_of_service (sym f ∙ activity-is a h)

    -- its outputs are declared
    pub outputs-are : map (λ o. o.1) s.outputs ≡ k.outputs
    outputs-are = ap declared_depths (its-step (step_view s) e) ∙ sym (ask-is gives r xs st t k o).outputs

    pub declared-there : declared_for gives (run_of r) t.job ≡ Some s.outputs
    declared-there =
        ap (option_and_then (λ (j : Job). declared_outputs d j.instance j.step))
        (job-is gives r xs st t.job o.outer o.number o.instance o.seat o.job o.is_number)
        ∙ ap (λ (n : JobName). declared_outputs d n o.job.step) o.is_number.is_job.job.within
        ∙ ap
        (λ (f : Option Flow).
        option_map (λ (y : Step). y.outputs) (option_and_then (λ (g : Flow). named o.job.step g.steps) f))
        (flows-by_names gives d levels_in past xs st.stand o.outer o.instance o.known.there)
        ∙ ap (option_map (λ (y : Step). y.outputs)) (ap (λ n. named n o.instance.flow.steps) name ∙ own)
        ∙ ap (λ (y : Step). Some y.outputs) (sym (its-step (step_view s) e))
      where
        name : o.job.step ≡ o.step.0
        name =
            o.is_number.is_job.job.step
            ∙ ap (λ (p : Name × Place). p.0)
            (spot-is r xs st.fits t.job o.outer o.number o.instance o.seat o.step o.known)

        own : named o.step.0 o.instance.flow.steps ≡ Some o.step.1
        own =
            let w = sit gives r xs st t k o in
            subst (λ (f : Flow). named o.step.0 f.steps ≡ Some o.step.1) w.0
            (named-there o.view.flow.steps o.seat.step o.step
            (steps-rise gives d past o.instance.name (levels_in o.instance.flow) o.view o.instance.seats w.1)
            (at-step gives r xs st t k o))

  -- ---- what its job binds

  spot-same : spot_of o.view.flow.steps o.seat ≡ spot_of o.instance.flow.steps o.seat
  spot-same = ap (λ (f : Flow). spot_of f.steps o.seat) (sit gives r xs st t k o).0

  pub inputs-are : (vs : List Value) → AreInputs o.view (spot_of o.instance.flow.steps o.seat) vs → vs ≡ k.inputs
  inputs-are vs h =
      (
      inputs-are_told gives d past o.instance.name (levels_in o.instance.flow) o.view
      (sit gives r xs st t k o).1.in_run (spot_of o.view.flow.steps o.seat) o.job (is-its gives r xs st t k o)
      ).values vs (subst (λ p. AreInputs o.view p vs) (sym spot-same) h)
      ∙ sym (ask-is gives r xs st t k o).inputs

  -- its instance is open
  pub is-open : IsOpenOf r o.known.itself o.instance o.view
  is-open = open-is r o.outer o.known.itself o.instance o.view o.known.kept o.is_open

  pub of-open : IsOfOpen r t.job
  of-open = record {
    job = numbered_in o.outer o.number;
    there = o.known.number;
    itself = o.known.itself;
    instance = o.known.is_itself;
    opened = is-open.itself;
    is_open = is-open.there;
  }

  -- ---- answers

  -- what it asks, and what it doesn't
  pub is-task : (q : Question) → q.ticket ≡ t → q.service ≡ k.service → q.inputs ≡ k.inputs
      → map (λ o. o.1) q.outputs ≡ k.outputs → IsTask gives (run_of r) q
  is-task q of_ticket same inputs outputs = record {
    asked = k;
    out = ap (try_if_out gives (run_of r)) of_ticket ∙ out;
    service = same;
    inputs = inputs;
    outputs = outputs;
  }

  pub is-other : (q : Question) → q.ticket ≡ t
      → ((q.service ≡ k.service) × (q.inputs ≡ k.inputs) × (map (λ o. o.1) q.outputs ≡ k.outputs) → ⊥)
      → IsOther gives (run_of r) q
  is-other q of_ticket other = record {
    asked = k;
    out = ap (try_if_out gives (run_of r)) of_ticket ∙ out;
    other = other;
  }
