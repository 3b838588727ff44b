-- Whether an answer is what its try asks: by whether its job binds the inputs.
use Rattle.std.specs.Prelude.{◌≡◌, refl, Bool, IsTrue, true, false, List, [], Some, map, slice_get}
use Rattle.std.proofs.Common.{ap, subst, sym, ◌∙◌}
use Rattle.tv_value.specs.Nested.{Place}
use Rattle.tv_value.specs.Values.{Name, Value}
use Rattle.tv_gate.specs.Outcomes.{Giving}
use Rattle.tv_flow.specs.Flows.{Document, Flow}
use Rattle.tv_flow.specs.Views.{flow_view}
use Rattle.tv_check.specs.RunViews.{run_view}
use Rattle.tv_check.specs.declared.plans.FlowPlan.{FlowPlan}
use Rattle.tv_dispatch.specs.Jobs.{Ask}
use Rattle.tv_intake.specs.Intaken.{known_jobs}
use Rattle.tv_instances.specs.Answers.{AreInputs, numbered}
use Rattle.tv_instances.specs.FramingViews.{View}
use Rattle.tv_seats.specs.Seats.{Seat}
use Rattle.tv_instances.specs.seats.Seated.{spot_of}
use Rattle.tv_instances.specs.Forest.{Instance, Instances, IsAt}
use Rattle.tv_history.specs.Answers.{Question}
use Rattle.tv_history.specs.Calls.{try_if_out}
use Rattle.tv_history.specs.declared.ticket.Ticket.{Ticket}
use Rattle.tv_instances.specs.Standing.{IsOpen, job_of}
use Rattle.tv_instances.specs.declared.open.Open.{Open}
use Rattle.tv_run.specs.Accepting.{IsAnswerTo}
use Rattle.tv_run.specs.Standing.{Fits, Stands, run_of}
use Rattle.tv_run.specs.declared.instances.Numbered.{Numbered}
use Rattle.tv_run.specs.declared.run.OpenRun.{OpenRun}
use Rattle.tv_run.proofs.AskedOut.{IsAskedOut, at-step, sit}
use Rattle.tv_run.proofs.Bindings.{binds-some}
use Rattle.tv_run.proofs.JobLemmas.{seats-open}
use Rattle.tv_run.proofs.PlanLemmas.{plan-there}
use Rattle.tv_run.proofs.TaskLemmas.{inputs-are, is-open, is-other, is-task}
use Rattle.tv_lemmas.proofs.Lists.{get-map}

module _ (gives : Giving) (r : OpenRun) (xs : Instances) (st : Stands gives r xs) (t : Ticket) (k : Ask)
    (out : try_if_out gives (run_of r) t ≡ Some k) (o : IsAskedOut gives r xs t k) where
  abbrev d : Document
  d = run_view r.run

  abbrev its : Open
  its = (is-open gives r xs st t k out o).itself

  plan : (p : FlowPlan) × (flow_view p.flow ≡ o.instance.flow)
  plan = plan-there r.run o.known.itself.flow o.instance.flow o.known.kept.flow

  open-by : IsOpen d plan.0 r.pool its o.view
  open-by = (is-open gives r xs st t k out o).is_open plan.0 plan.1

  known-there : slice_get (known_jobs its.frame.intakes) o.number ≡ Some (o.seat.step, o.seat.place)
  known-there =
      ap (λ l. slice_get l o.number) (sym open-by.known)
      ∙ get-map job_of its.seats.seats o.number o.seat (ap (λ l. slice_get l o.number) seats ∙ o.known.seat)
    where
      seats : its.seats.seats ≡ o.instance.seats
      seats =
          sym (seats-open o.known.itself its [] (is-open gives r xs st t k out o).there) ∙ o.known.kept.seats

  spot-there : numbered o.view o.number ≡ Some (spot_of o.view.flow.steps o.seat)
  spot-there =
      ap (λ l. slice_get l o.number) (sym (sit gives r xs st t k o).1.jobs)
      ∙ get-map (spot_of o.view.flow.steps) o.instance.seats o.number o.seat o.known.seat

  -- its job binds what the try asks for
  binds-asked : AreInputs o.view (spot_of o.instance.flow.steps o.seat) k.inputs
  binds-asked =
      let b =
      binds-some d.flows plan.0 r.pool its.frame o.view open-by.keeps o.number o.seat.step o.seat.place known-there o.step
      (at-step gives r xs st t k o) (spot_of o.view.flow.steps o.seat) spot-there in
      let same = ap (λ (f : Flow). spot_of f.steps o.seat) (sit gives r xs st t k o).0 in
      let h = subst (λ p. AreInputs o.view p b.0) same b.1 in
      subst (AreInputs o.view (spot_of o.instance.flow.steps o.seat)) (inputs-are gives r xs st t k out o b.0 h) h

  -- of each seat of the job this is so
  abbrev AtSeat : (View → Name × Place → Type 0) → Type 0
  AtSeat P =
      (xs : Instances) (n : Numbered) (x : Instance) (v : View) (s : Seat) → Fits r xs
      → slice_get r.jobs.items t.job ≡ Some n → IsAt xs n.instance x → x.view ≡ Some v
      → slice_get x.seats n.number ≡ Some s → P v (spot_of x.flow.steps s)

  pub answers-by : (q : Question) → q.ticket ≡ t → q.service ≡ k.service → map (λ o. o.1) q.outputs ≡ k.outputs
      → (b : Bool)
      → (IsTrue b → AtSeat (λ v p. AreInputs v p q.inputs))
      → (b ≡ false → AtSeat (λ v p. (vs : List Value) → AreInputs v p vs → q.inputs ≡ vs → ⊥))
      → IsAnswerTo gives (run_of r) q b
  answers-by q of_ticket same outputs true binds others =
      is-task gives r xs st t k out o q of_ticket same
      (inputs-are gives r xs st t k out o q.inputs
      (binds refl xs _ o.instance o.view o.seat st.fits o.known.number o.known.there o.is_open o.known.seat))
      outputs
  answers-by q of_ticket same outputs false binds others =
      is-other gives r xs st t k out o q of_ticket
      (λ e. others refl xs _ o.instance o.view o.seat st.fits o.known.number o.known.there o.is_open o.known.seat
      k.inputs binds-asked e.1)
