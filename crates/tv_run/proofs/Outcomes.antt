-- What follows the outcome of a try that is out: by the plan of its step its job goes on, has a flow next, or is settled.
use Rattle.std.specs.Prelude.{◌≡◌, refl, ℕ, Bool, true, false, ◌∷◌, List, Ok, Err, Result, is_ok, option_map}
use Rattle.std.specs.Option.{option_map_or}
use Rattle.std.specs.Prelude.{is_some, ◌==◌, []}
use Rattle.std.proofs.Common.{ap, eq-eqb, subst, sym, ◌∙◌}
use Rattle.std.proofs.lemmas.Option.{same_Some}
use Rattle.tv_value.specs.Values.{Text, Value}
use Rattle.tv_gate.specs.Outcomes.{Giving}
use Rattle.tv_flow.specs.Flows.{Document}
use Rattle.tv_check.specs.RunViews.{run_view}
use Rattle.tv_model.specs.instance.Steps.{declared_depths}
use Rattle.tv_dispatch.specs.Jobs.{Ask, error_results, outcome_of}
use Rattle.tv_dispatch.specs.Plans.{came_right, next_after}
use Rattle.tv_dispatch.specs.declared.plan.Next.{Next}
use Rattle.tv_dispatch.specs.declared.plan.Next.TheVariants as next
use Rattle.tv_dispatch.specs.declared.plan.Plan.{Plan}
use Rattle.tv_model.specs.Made.{Meaning}
use Rattle.tv_model.proofs.Tests.{both_true, true≠false}
use Rattle.tv_history.specs.Entries.{History, accepted}
use Rattle.tv_history.specs.Histories.{is_ask, is_legal_after, is_settled, next_ask}
use Rattle.tv_instances.specs.forest_tries.NextTries.{AsksNext, IsAfter, accepting, said_after}
use Rattle.tv_instances.specs.forest_tries.Steps.{IsOfPlan, IsPlanOf}
use Rattle.tv_instances.proofs.forest_tries.Flows.{flows-come_after_asks}
use Rattle.tv_instances.proofs.forest_tries.Next.{after-is}
use Rattle.tv_instances.proofs.forest_tries.Tries.{asks-plan}
use Rattle.tv_instances.specs.seats.Seated.{IsNextFlow, IsNextTry}
use Rattle.tv_instances.specs.Forest.{Instances}
use Rattle.tv_history.specs.Runs.{meant, past_of}
use Rattle.tv_history.specs.declared.ticket.Ticket.{Ticket}
use Rattle.tv_run.specs.Accepting.{FailsThen, GoesOnWith, NestsThen, SettlesWith, is_next_after}
use Rattle.tv_run.specs.Looks.{tries_of}
use Rattle.tv_run.specs.Standing.{Stands, run_of}
use Rattle.tv_run.specs.declared.run.OpenRun.{OpenRun}
use Rattle.tv_run.proofs.AskedOut.{IsAskedOut, own-step, step-there}

module _ (gives : Giving) (r : OpenRun) (xs : Instances) (st : Stands gives r xs) (t : Ticket) (k : Ask)
    (o : IsAskedOut gives r xs t k) where
  abbrev d : Document
  d = run_view r.run

  abbrev past : History
  past = past_of (run_of r)

  abbrev m : Meaning
  m = meant gives (run_of r)

  abbrev plan : Plan
  plan = tries_of o.step.1

  is-plan : IsPlanOf plan o.step.1
  is-plan = record { retries = refl; activities = refl }

  pub of-plan : IsOfPlan plan k
  of-plan = asks-plan gives d o.job o.step.1 (own-step gives r xs st t k o) past plan k is-plan o.try.asks

  pub its-after : IsAfter gives d past o.job o.step.1 plan k
  its-after =
      after-is gives d past st.stand.legal o.job o.step.1 (own-step gives r xs st t k o) k o.try.asks o.try.out plan
      is-plan

  pub next-is : (x : Next) → is_next_after r t x → next_after plan t.activity t.attempt false ≡ x
  next-is x h =
      same_Some (next_after plan t.activity t.attempt false) x
      (ap (option_map (λ s. next_after (tries_of s) t.activity t.attempt false)) (sym (step-there gives r xs st t k o)) ∙ h)

  -- ---- its outcome, which is right or not

  module _ (right : Bool) (is : came_right gives k ≡ right) where
    abbrev now : History
    now = accepted o.job.name t.activity t.attempt right ∷ past

    pub accepts-it : accepting gives o.job k ≡ accepted o.job.name t.activity t.attempt right
    accepts-it = λ i. accepted o.job.name (o.try.activity i) (o.try.attempt i) (is i)

    pub now-is : accepting gives o.job k ∷ past ≡ now
    now-is = ap (λ e. e ∷ past) accepts-it

    pub legal-now : is_legal_after gives m past (accepted o.job.name t.activity t.attempt right) ≡ true
    legal-now = ap (is_legal_after gives m past) (sym accepts-it) ∙ its-after.legal

    pub said-now : said_after gives plan k ≡ next_after plan t.activity t.attempt right
    said-now = λ i. next_after plan (o.try.activity i) (o.try.attempt i) (is i)

  -- ---- it is right

  pub settles-right : came_right gives k ≡ true → (vs : List Value) → outcome_of gives k ≡ Ok vs
      → SettlesWith gives r t true vs
  settles-right is vs h =
      let w = its-after.right (said-now true is) in
      record {
        instances = xs;
        stands = st;
        outer = o.outer;
        number = o.number;
        instance = o.instance;
        seat = o.seat;
        job = o.job;
        is_number = o.is_number;
        out = o.stands;
        legal = legal-now true is;
        settled = ap (λ p. is_settled p o.job) (sym (now-is true is)) ∙ w.over.settled;
        result = ok-same (outcome_of gives k) vs o.job.result h w.result;
      }
    where
      ok-same : (z : Result (List Value) Text) (us ys : List Value) → z ≡ Ok us → z ≡ Ok ys → us ≡ ys
      ok-same z us ys e f = cc

  -- ---- it isn't

  module _ (is : came_right gives k ≡ false) where
    abbrev then : History
    then = accepted o.job.name t.activity t.attempt false ∷ past

    pub said-next : (x : Next) → is_next_after r t x → said_after gives plan k ≡ x
    said-next x h = said-now false is ∙ next-is x h

    never-done : said_after gives plan k ≡ next.Done → ⊥
    never-done h = true≠false (ap is_ok (sym (its-after.right h).result) ∙ is)

    -- where no try and no flow is next, none is left
    pub fails-else : ((a u : ℕ) → said_after gives plan k ≡ next.Ask a u → ⊥)
        → ((a : ℕ) → said_after gives plan k ≡ next.Nest a → ⊥) → said_after gives plan k ≡ next.Failed
    fails-else no_ask no_flow = by (said_after gives plan k) refl
      where
        by : (y : Next) → said_after gives plan k ≡ y → y ≡ next.Failed
        by next.Bounce e = absurd (its-after.not_bounced e)
        by (next.Ask a u) e = absurd (no_ask a u e)
        by (next.Nest a) e = absurd (no_flow a e)
        by next.Done e = absurd (never-done e)
        by next.Failed e = refl

    -- of what the code was told
    pub fails-otherwise : (x : Next) → is_next_after r t x → ((a u : ℕ) → x ≡ next.Ask a u → ⊥)
        → ((a : ℕ) → x ≡ next.Nest a → ⊥) → FailsThen r t
    fails-otherwise x h no_ask no_flow =
        let said = said-next x h in
        subst (is_next_after r t)
        (sym said ∙ fails-else (λ a u e. no_ask a u (sym said ∙ e)) (λ a e. no_flow a (sym said ∙ e))) h

    -- nor is one where its job is settled
    pub fails-settled : is_settled then o.job ≡ true → said_after gives plan k ≡ next.Failed
    fails-settled settled =
        let over = ap (λ p. is_settled p o.job) (now-is false is) ∙ settled in
        fails-else (λ a u e. true≠false (sym over ∙ (its-after.asks a u e).unsettled))
        (λ a e. true≠false (sym over ∙ its-after.unsettled a e))

    pub settles-wrong : FailsThen r t → (why : Text) → outcome_of gives k ≡ Err why → (vs : List Value)
        → vs ≡ error_results o.job.name why [] (declared_depths o.step.1) → SettlesWith gives r t false vs
    settles-wrong f why h vs e =
        let w = its-after.wrong (said-next next.Failed f) in
        record {
          instances = xs;
          stands = st;
          outer = o.outer;
          number = o.number;
          instance = o.instance;
          seat = o.seat;
          job = o.job;
          is_number = o.is_number;
          out = o.stands;
          legal = legal-now false is;
          settled = ap (λ p. is_settled p o.job) (sym (now-is false is)) ∙ w.over.settled;
          result =
              e
              ∙ ap (λ x. error_results o.job.name x [] (declared_depths o.step.1))
              (err-same (outcome_of gives k) why w.why h w.reason)
              ∙ sym w.result;
        }
      where
        err-same : (z : Result (List Value) Text) (x y : Text) → z ≡ Err x → z ≡ Err y → x ≡ y
        err-same z x y e f = cc

    -- ---- its next try

    module _ (a u : ℕ) (goes : GoesOnWith r t a u) where
      further : AsksNext then o.job o.step.1 a u
      further =
          subst (λ p. AsksNext p o.job o.step.1 a u) (now-is false is)
          (its-after.asks a u (said-next (next.Ask a u) goes))

      pub tried-unsettled : is_settled then o.job ≡ false
      tried-unsettled = further.unsettled

      pub next-try : IsNextTry then o.job a u
      next-try =
          ap (λ y. option_map_or (is_ask a u) y false) further.is_next
          ∙ both_true (a == further.ask.activity) (u == further.ask.attempt)
          (eq-eqb a further.ask.activity (sym further.of_step.activity))
          (eq-eqb u further.ask.attempt (sym further.of_step.attempt))

    -- ---- its flow

    module _ (a : ℕ) (nests : NestsThen r t a) where
      said-nest : said_after gives plan k ≡ next.Nest a
      said-nest = said-next (next.Nest a) nests

      pub nest-unsettled : is_settled then o.job ≡ false
      nest-unsettled = ap (λ p. is_settled p o.job) (sym (now-is false is)) ∙ its-after.unsettled a said-nest

      pub next-flow : IsNextFlow then o.job a
      next-flow =
          let f = its-after.nests a said-nest in
          let opens = ap is_some f.opens in
          let comes =
          flows-come_after_asks gives d past o.job o.step.1 plan (own-step gives r xs st t k o) is-plan opens in
          record {
            no_ask = ap (λ p. next_ask p o.job) (sym (now-is false is)) ∙ f.no_ask;
            opens = opens;
            activity =
                comes.later k a o.try.asks (ap (λ b. next_after plan k.activity k.attempt b) (sym is) ∙ said-nest);
          }
