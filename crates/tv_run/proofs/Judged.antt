-- How an outcome is judged, and what its judgment says of the job.
use Rattle.std.specs.Prelude.{◌≡◌, refl, ℕ, ◌<◌, ◌≤◌, ◌==◌, ◌^◌, Bool, true, false, if◌then◌else◌, List, [], Option, Some, None, Ok, Err, Result, is_ok, length, map, option_map, slice_get}
use Rattle.std.proofs.Common.{ap, arith, sym, subst, ◌∙◌}
use Rattle.std.proofs.lemmas.List.{length-map}
use Rattle.std.proofs.lemmas.Option.{same_Some}
use Rattle.tv_lemmas.specs.Members.{Each}
use Rattle.tv_lemmas.proofs.Members.{each_in, in-slice}
use Rattle.tv_value.specs.Values.{JobName, Name, Text, Value}
use Rattle.tv_gate.specs.Outcomes.{Giving, Outcome, good}
use Rattle.tv_flow.specs.Flows.{Flow, Step}
use Rattle.tv_check.specs.RunViews.{run_view}
use Rattle.tv_history.proofs.Lists.{named-each}
use Rattle.tv_model.specs.instance.Steps.{declared_depths}
use Rattle.tv_dispatch.specs.Jobs.{Ask, error_results, first_complaint, judged, ok_unless, outcome_of}
use Rattle.tv_dispatch.specs.Plans.{came_right, kind_of, next_after}
use Rattle.tv_dispatch.specs.Verdicts.{verdict_of}
use Rattle.tv_dispatch.specs.declared.judgment.Verdict.TheVariants as verdict
use Rattle.tv_dispatch.specs.declared.plan.Kind.TheVariants.{Service}
use Rattle.tv_dispatch.specs.declared.plan.Next.{Next}
use Rattle.tv_dispatch.specs.declared.plan.Next.TheVariants as next
use Rattle.tv_dispatch.specs.declared.plan.Plan.{Plan}
use Rattle.tv_model.proofs.Tests.{true≠false}
use Rattle.tv_history.proofs.activities.Read.{few-activities}
use Rattle.tv_instances.specs.Forest.{Instances}
use Rattle.tv_history.specs.Answers.{Question}
use Rattle.tv_history.specs.Calls.{try_if_out}
use Rattle.tv_history.specs.Refusals as refusals
use Rattle.tv_history.specs.declared.ticket.Ticket.{Ticket}
use Rattle.tv_run.specs.Accepting.{FailsThen, IsWrongFor, SettlesWith, is_next_after}
use Rattle.tv_run.specs.Jobs.{step_of}
use Rattle.tv_run.specs.Looks.{tries_of}
use Rattle.tv_run.specs.Standing.{Stands, names_of, run_of}
use Rattle.tv_run.specs.Turns.{IsAsked}
use Rattle.tv_run.specs.declared.run.OpenRun.{OpenRun}
use Rattle.tv_run.proofs.AskedOut.{IsAskedOut, asked-out, at-step, sit, step-there}
use Rattle.tv_run.proofs.Numbers.{job-named}
use Rattle.tv_run.proofs.Outcomes.{fails-otherwise, its-after, of-plan, settles-right, settles-wrong}

-- ---- judgments

-- the values of an outcome that is right are what it gives
judged-good : (ds : List ℕ) (vs : List Value) → is_ok (judged ds (good vs)) ≡ true → judged ds (good vs) ≡ Ok vs
judged-good ds vs h = by _ (length vs == length ds) (first_complaint 1 ds vs) h
  where
    by : (why : Text) (b : Bool) (c : Option Text) → is_ok (if b then ok_unless vs c else Err why) ≡ true
        → (if b then ok_unless vs c else Err why) ≡ Ok vs
    by why true None e = refl
    by why true (Some w) e = absurd (true≠false (sym e))
    by why false c e = absurd (true≠false (sym e))

right-verdict : (x : Result (List Value) Text) → verdict.Right ≡ verdict_of x → is_ok x ≡ true
right-verdict (Ok vs) h = refl
right-verdict (Err why) h = cc

wrong-verdict : (x : Result (List Value) Text) (why : Text) → verdict.Wrong why ≡ verdict_of x → x ≡ Err why
wrong-verdict (Ok vs) why h = cc
wrong-verdict (Err w) why h = let same : w ≡ why = cc in ap Err same

module _ (gives : Giving) (r : OpenRun) (xs : Instances) (st : Stands gives r xs) (t : Ticket) (q : Question)
    (oc : Outcome) (asked : IsAsked gives r t q oc) where
  abbrev pub k : Ask
  k = asked.task.asked

  pub its-out : IsAskedOut gives r xs t k
  its-out = asked-out gives r xs st t k (ap (try_if_out gives (run_of r)) (sym asked.of_ticket) ∙ asked.task.out)

  abbrev o : IsAskedOut gives r xs t k
  o = its-out

  abbrev step : Step
  step = o.step.1

  -- the judgment of the outcome is that of what the try asks
  judged-so : judged (map (λ p. p.1) q.outputs) oc ≡ outcome_of gives k
  judged-so =
      (λ i. judged (asked.task.outputs i) (asked.given i))
      ∙ (λ i. judged k.outputs (gives (asked.task.service i) (asked.task.inputs i) ((sym o.try.attempt) i)))

  pub right-so : refusals.is_right q oc ≡ came_right gives k
  right-so = ap is_ok judged-so

  -- ---- the judgment by the outputs of the job's step

  depths-are : (s : Step) → step_of r t.job ≡ Some s → map (λ p. p.1) s.outputs ≡ map (λ p. p.1) q.outputs
  depths-are s h =
      ap (λ (z : Step). map (λ p. p.1) z.outputs) (same_Some s step (sym h ∙ step-there gives r xs st t k o))
      ∙ sym (its-after gives r xs st t k o).of_step.outputs
      ∙ sym asked.task.outputs

  pub right-judged : (s : Step) → step_of r t.job ≡ Some s
      → verdict.Right ≡ verdict_of (judged (map (λ p. p.1) s.outputs) oc) → refusals.is_right q oc ≡ true
  right-judged s h e = ap (λ ds. is_ok (judged ds oc)) (sym (depths-are s h)) ∙ right-verdict _ e

  pub wrong-judged : (s : Step) → step_of r t.job ≡ Some s → (why : Text)
      → verdict.Wrong why ≡ verdict_of (judged (map (λ p. p.1) s.outputs) oc) → IsWrongFor q oc why
  wrong-judged s h why e = ap (λ ds. judged ds oc) (sym (depths-are s h)) ∙ wrong-verdict _ why e

  -- ---- what follows it

  pub right-settles : refusals.is_right q oc ≡ true → (vs : List Value) → oc ≡ good vs → SettlesWith gives r t true vs
  right-settles is vs e =
      settles-right gives r xs st t k o (sym right-so ∙ is) vs
      (sym judged-so
      ∙ ap (judged (map (λ p. p.1) q.outputs)) e
      ∙ judged-good (map (λ p. p.1) q.outputs) vs (ap (λ z. is_ok (judged (map (λ p. p.1) q.outputs) z)) (sym e) ∙ is))

  -- what comes to values is right, and its job gives them
  pub comes-right : (vs : List Value) → judged (map (λ p. p.1) q.outputs) oc ≡ Ok vs → refusals.is_right q oc ≡ true
  comes-right vs e = ap is_ok e

  pub comes-settles : (vs : List Value) → judged (map (λ p. p.1) q.outputs) oc ≡ Ok vs → SettlesWith gives r t true vs
  comes-settles vs e = settles-right gives r xs st t k o (sym right-so ∙ ap is_ok e) vs (sym judged-so ∙ e)

  pub wrong-asked : refusals.is_right q oc ≡ false → came_right gives k ≡ false
  wrong-asked wrong = sym right-so ∙ wrong

  module _ (why : Text) (wrong : IsWrongFor q oc why) where
    pub not-right : refusals.is_right q oc ≡ false
    not-right = ap is_ok wrong

    -- with what the code makes of its name and its step's outputs
    pub wrong-settles : FailsThen r t → (vs : List Value)
        → ((n : JobName) (s : Step) → slice_get (names_of r) t.job ≡ Some n → step_of r t.job ≡ Some s
        → vs ≡ error_results n why [] (declared_depths s))
        → SettlesWith gives r t false vs
    wrong-settles fails vs e =
        settles-wrong gives r xs st t k o (wrong-asked not-right) fails why (sym judged-so ∙ wrong) vs
        (e o.job.name step
        (job-named gives r xs st t.job o.outer o.number o.instance o.seat o.job o.is_number)
        (step-there gives r xs st t k o))

    pub else-fails : (x : Next) → is_next_after r t x → ((a u : ℕ) → x ≡ next.Ask a u → ⊥)
        → ((a : ℕ) → x ≡ next.Nest a → ⊥) → FailsThen r t
    else-fails x h n f = fails-otherwise gives r xs st t k o (wrong-asked not-right) x h n f

  -- ---- by the plan that the code looks up

  module _ (p : Plan) (h : option_map tries_of (step_of r t.job) ≡ Some p) where
    plan-is : tries_of step ≡ p
    plan-is =
        same_Some (tries_of step) p (ap (option_map tries_of) (sym (step-there gives r xs st t k o)) ∙ h)

    pub asks-service : slice_get p.activities t.activity ≡ Some Service
    asks-service =
        (λ i. slice_get (sym plan-is i).activities (sym o.try.activity i)) ∙ (of-plan gives r xs st t k o).is_service

    -- a step has few activities
    pub few-asked : length p.activities < 2 ^ 32
    few-asked =
        let sits = sit gives r xs st t k o in
        let in_run = sits.1.in_run in
        let most : length step.activities ≤ 8 =
        each_in (λ (s : Name × Step). length s.1.activities ≤ 8) o.view.flow.steps
        (named-each (λ (f : Name × Flow). Each (λ (s : Name × Step). length s.1.activities ≤ 8) f.1.steps)
        in_run.flow_name (run_view r.run).flows o.view.flow (few-activities (run_view r.run) in_run.formed)
        in_run.is_flow)
        o.step (in-slice o.view.flow.steps o.seat.step o.step (at-step gives r xs st t k o)) in
        let many = length-map step.activities kind_of in
        let same = ap (λ (z : Plan). length z.activities) plan-is in
        omega (arith, most, many, same)

    pub within-retries : t.attempt ≤ p.retries
    within-retries =
        subst (λ (z : Plan). t.attempt ≤ z.retries) plan-is
        (subst (λ n. n ≤ (tries_of step).retries) o.try.attempt (of-plan gives r xs st t k o).attempts)

    pub said-of : (x : Next) → x ≡ next_after p t.activity t.attempt false → is_next_after r t x
    said-of x e =
        ap (option_map (λ s. next_after (tries_of s) t.activity t.attempt false)) (step-there gives r xs st t k o)
        ∙ ap Some (ap (λ (z : Plan). next_after z t.activity t.attempt false) plan-is ∙ sym e)
