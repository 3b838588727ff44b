-- The next try of a job on offer: that of its seat where it is idle, and else what its step's plan says comes first.
use Rattle.std.specs.List.{list_any}
use Rattle.std.specs.Option.{option_map_or}
use Rattle.std.specs.Prelude.{◌≡◌, ℕ, true, false, ◌==◌, ◌⊎◌, Option, None, Some, is_some, option_map, slice_get}
use Rattle.std.proofs.Common.{ap, eq-eqb, inl, inr, refl, subst, sym, ◌∙◌}
use Rattle.std.proofs.lemmas.Option.{none-some, same_Some}
use Rattle.tv_lemmas.proofs.Cases.{on_either}
use Rattle.tv_value.specs.Values.{Name}
use Rattle.tv_gate.specs.Outcomes.{Giving}
use Rattle.tv_flow.specs.Flows.{Document, Flow, Step}
use Rattle.tv_dispatch.specs.Plans.{first_next}
use Rattle.tv_dispatch.specs.declared.plan.Next.{Next}
use Rattle.tv_dispatch.specs.declared.plan.Next.TheVariants as next
use Rattle.tv_dispatch.specs.declared.plan.Plan.{Plan}
use Rattle.tv_check.specs.RunViews.{run_view}
use Rattle.tv_model.specs.Jobs.{Job}
use Rattle.tv_model.specs.Meanings.{meaning}
use Rattle.tv_model.specs.Turns.{is_bounced}
use Rattle.tv_model.proofs.Tests.{both_true, true≠false}
use Rattle.tv_history.specs.Entries.{History, is_begun_entry}
use Rattle.tv_history.specs.Histories.{is_ask, is_settled, next_ask}
use Rattle.tv_instances.specs.FramingViews.{View}
use Rattle.tv_frame.specs.Tables.{levels_in}
use Rattle.tv_seats.specs.Seats.{Seat}
use Rattle.tv_seats.specs.Stages.{is_idle, is_waiting}
use Rattle.tv_seats.specs.declared.stage.Stage.{Stage}
use Rattle.tv_seats.specs.declared.stage.Stage.TheVariants as stage
use Rattle.tv_instances.specs.forest_tries.NextTries.{IsFirst}
use Rattle.tv_instances.proofs.forest_tries.Jobs.{tried-job}
use Rattle.tv_instances.proofs.forest_tries.Next.{first-is}
use Rattle.tv_instances.specs.seats.Seated.{IsNextTry, IsStage}
use Rattle.tv_instances.proofs.stands.Next.{none-accepted}
use Rattle.tv_instances.proofs.stands.Offers.{own-step}
use Rattle.tv_instances.proofs.stands.States.{not-begun}
use Rattle.tv_instances.specs.Forest.{Instance, Instances}
use Rattle.tv_history.specs.Runs.{past_of}
use Rattle.tv_instances.specs.declared.firsts.Seeking.TheVariants as seeking
use Rattle.tv_run.specs.Jobs.{stage_of, step_of}
use Rattle.tv_run.specs.Looks.{tries_of}
use Rattle.tv_run.specs.Standing.{Stands, run_of}
use Rattle.tv_run.specs.Walking.{IsNumber, IsOnOffer, WaitsIn, passes}
use Rattle.tv_run.specs.declared.run.OpenRun.{OpenRun}
use Rattle.tv_run.proofs.JobLemmas.{IsKnownAs, step-is}
use Rattle.tv_run.proofs.Numbers.{known-number, settled-there, stage-at, stage-is}
use Rattle.tv_run.proofs.WalkGoing.{idle-waits, offered-either, offered-next}
use Rattle.tv_run.proofs.WalkOpen.{same-flow, sit-there, viewed}

-- a ticket is for what comes first, which is a try
abbrev pub IsTriedFirst : History → Job → Next → Type 0
IsTriedFirst past j (next.Ask a t) = IsNextTry past j a t
IsTriedFirst past j x = ⊥

pub not-tried : (past : History) (j : Job) (x : Next) → ((a t : ℕ) → x ≡ next.Ask a t → ⊥) → IsTriedFirst past j x → ⊥
not-tried past j (next.Ask a t) f w = f a t refl
not-tried past j (next.Nest a) f w = w
not-tried past j next.Failed f w = w
not-tried past j next.Done f w = w
not-tried past j next.Bounce f w = w

neither : (x : Stage) → (x ≡ stage.Waiting → ⊥) → ((a t : ℕ) → x ≡ stage.Idle a t → ⊥)
    → (is_idle x ≡ true) ⊎ (is_waiting x ≡ true) → ⊥
neither stage.Waiting f g h = f refl
neither (stage.Out a t) f g h = on_either h (λ e. true≠false (sym e)) (λ e. true≠false (sym e))
neither (stage.Idle a t) f g h = g a t refl
neither (stage.Aside a) f g h = on_either h (λ e. true≠false (sym e)) (λ e. true≠false (sym e))
neither (stage.Nested i) f g h = on_either h (λ e. true≠false (sym e)) (λ e. true≠false (sym e))
neither stage.Settled f g h = on_either h (λ e. true≠false (sym e)) (λ e. true≠false (sym e))

module _ (gives : Giving) (r : OpenRun) (xs : Instances) (st : Stands gives r xs) (k : ℕ) where
  abbrev d : Document
  d = run_view r.run

  abbrev past : History
  past = past_of (run_of r)

  module _ (i n : ℕ) (x : Instance) (s : Seat) (j : Job) (is : IsNumber gives r xs k i n x s j) where
    stage-same : (y : Stage) → stage_of r k ≡ Some y → s.stage ≡ y
    stage-same y e = same_Some s.stage y (sym (stage-at gives r xs st k i n x s j is) ∙ e)

    -- an idle job goes on with the try that its seat tells
    pub next-idle : (a t : ℕ) → stage_of r k ≡ Some (stage.Idle a t) → IsNextTry past j a t
    next-idle a t e =
        (subst (IsStage past j) (stage-same (stage.Idle a t) e) (stage-is gives r xs st k i n x s j is)).1

    -- ---- one that waits, of an open instance

    module _ (v : View) (told : x.view ≡ Some v) (offered : passes gives r seeking.Offers j ≡ true) where
      abbrev its_step : (t : Name × Step) × IsKnownAs r xs k i n x s t
      its_step = known-number gives r xs st k i n x s j is

      at-step : slice_get v.flow.steps s.step ≡ Some its_step.0
      at-step =
          ap (λ (f : Flow). slice_get f.steps s.step) (same-flow gives r xs st i x v is.is_job.instance told)
          ∙ its_step.1.step

      pub idle-or_waits : (is_idle s.stage ≡ true) ⊎ ((is_waiting s.stage ≡ true) × (is_bounced j.ending ≡ false))
      idle-or_waits =
          offered-either gives r xs st i x v is.is_job.instance told n s j is.is_job its_step.0 at-step offered

      some-next : is_some (next_ask past j) ≡ true
      some-next = offered-next gives r xs st i x v is.is_job.instance told n s j is.is_job its_step.0 at-step offered

      module _ (waits : stage_of r k ≡ Some stage.Waiting) where
        waiting : is_waiting s.stage ≡ true
        waiting = ap is_waiting (stage-same stage.Waiting waits)

        sound : is_bounced j.ending ≡ false
        sound = on_either idle-or_waits (λ e. absurd (idle-waits s.stage e waiting)) (λ w. w.1)

        none-taken : list_any (is_begun_entry j.name) past ≡ false
        none-taken =
            let h = subst (IsStage past j) (stage-same stage.Waiting waits) (stage-is gives r xs st k i n x s j is) in
            not-begun (list_any (is_begun_entry j.name) past) (is_settled past j) h.runs h.unsettled

        first-by : IsFirst past j its_step.0.1 (tries_of its_step.0.1)
        first-by =
            let t = its_step.0 in
            let own = own-step gives d past x.name (levels_in v.flow) v x.seats
            (sit-there gives r xs st i x v is.is_job.instance told) n s j is.is_job.seat
            (viewed gives r xs st i x v is.is_job.instance told n s j is.is_job) t at-step in
            first-is gives d past st.stand.legal j t.1 own (tried-job gives d j t.1 own sound) st.stand.formed
            (none-accepted gives (meaning gives d) past j.name st.stand.legal none-taken) (tries_of t.1)
            (record { retries = refl; activities = refl })

        tried-of : IsTriedFirst past j (first_next (tries_of its_step.0.1) false)
        tried-of = by (first_next (tries_of its_step.0.1) false) refl
          where
            f : IsFirst past j its_step.0.1 (tries_of its_step.0.1)
            f = first-by

            by : (y : Next) → first_next (tries_of its_step.0.1) false ≡ y → IsTriedFirst past j y
            by (next.Ask a u) e =
                let w = f.asks a u e in
                ap (λ o. option_map_or (is_ask a u) o false) w.is_next
                ∙ both_true (a == w.ask.activity) (u == w.ask.attempt) (eq-eqb a w.ask.activity (sym w.of_step.activity))
                (eq-eqb u w.ask.attempt (sym w.of_step.attempt))
            by (next.Nest a) e = true≠false (sym some-next ∙ ap is_some (f.nests a e).no_ask)
            by next.Failed e = f.not_failed e
            by next.Done e = f.not_done e
            by next.Bounce e = f.not_bounced e

    -- the first try of one that waits, by the tries of its step
    pub tried-first : passes gives r seeking.Offers j ≡ true → WaitsIn r k → (p : Plan)
        → option_map tries_of (step_of r k) ≡ Some p → IsTriedFirst past j (first_next p false)
    tried-first offered waits p tries = by x.view refl
      where
        t : Name × Step
        t = (known-number gives r xs st k i n x s j is).0

        plan : tries_of t.1 ≡ p
        plan =
            same_Some (tries_of t.1) p
            (sym
            (ap (option_map tries_of)
            (step-is r xs st.fits k i n x s t (known-number gives r xs st k i n x s j is).1))
            ∙ tries)

        by : (o : Option View) → x.view ≡ o → IsTriedFirst past j (first_next p false)
        by None e =
            absurd
            (true≠false
            (sym (ap is_waiting (stage-same stage.Waiting waits))
            ∙ ap is_waiting (settled-there gives r xs st k i n x s j is e)))
        by (Some v) e = subst (λ q. IsTriedFirst past j (first_next q false)) plan (tried-of v e offered waits)

  -- ---- on offer

  -- it is known
  pub offer-stage : IsOnOffer gives r xs k → stage_of r k ≡ None → ⊥
  offer-stage w e =
      let b = w.1 in
      none-some b.seat.stage (sym e ∙ stage-at gives r xs st k b.outer b.number b.instance b.seat w.0 b.is_number)

  -- it waits or is idle
  pub offer-either : IsOnOffer gives r xs k → (x : Stage) → stage_of r k ≡ Some x → (x ≡ stage.Waiting → ⊥)
      → ((a t : ℕ) → x ≡ stage.Idle a t → ⊥) → ⊥
  offer-either w x e f g =
      let b = w.1 in
      neither x f g
      (subst (λ y. (is_idle y ≡ true) ⊎ (is_waiting y ≡ true))
      (stage-same b.outer b.number b.instance b.seat w.0 b.is_number x e)
      (on_either
      (idle-or_waits b.outer b.number b.instance b.seat w.0 b.is_number b.view b.is_open w.2) (λ q. inl q) (λ q. inr q.0)))
