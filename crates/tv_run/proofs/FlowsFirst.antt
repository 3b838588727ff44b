-- The first job that goes on: it opens its flow next, or where it asks something, or none goes on, nothing is left to settle.
use Rattle.std.specs.Prelude.{◌≡◌, refl, ℕ, ◌<◌, true, false, None, Option, Some, find, is_some, length, option_map}
use Rattle.std.proofs.Common.{ap, ap₂, subst, sym, ◌∙◌}
use Rattle.std.proofs.lemmas.Option.{none-some, same_Some}
use Rattle.tv_lemmas.proofs.Members.{found-in}
use Rattle.tv_gate.specs.Outcomes.{Giving}
use Rattle.tv_dispatch.specs.declared.plan.Plan.{Plan}
use Rattle.tv_check.specs.RunViews.{run_view}
use Rattle.tv_model.specs.Jobs.{Job}
use Rattle.tv_model.proofs.Tests.{true≠false}
use Rattle.tv_history.specs.Entries as history
use Rattle.tv_history.specs.Histories.{next_ask}
use Rattle.tv_history.specs.order.Moments.{all_jobs, goes_on}
use Rattle.tv_seats.specs.declared.stage.Stage.{Stage}
use Rattle.tv_instances.specs.forest_firsts.Opening.{SettlesNothing}
use Rattle.tv_instances.proofs.forest_firsts.Histories.{nothing-left}
use Rattle.tv_history.specs.Calls.{NothingSettles}
use Rattle.tv_history.specs.Runs.{Run, past_of}
use Rattle.tv_instances.specs.declared.firsts.Seeking.TheVariants as seeking
use Rattle.tv_run.specs.Jobs.{stage_of, step_of}
use Rattle.tv_run.specs.Looks.{tries_of}
use Rattle.tv_run.specs.Settlements.{GoesOnFirst, IsQuietRun, OpensFirst, has_flow_next}
use Rattle.tv_run.specs.Standing.{StandsOpen, run_of}
use Rattle.tv_run.specs.Turns.{SettlesTo, StaysAs}
use Rattle.tv_run.specs.Walking.{IsFound}
use Rattle.tv_run.specs.declared.run.OpenRun.{OpenRun}
use Rattle.tv_run.proofs.FlowsNext as next
use Rattle.tv_run.proofs.JobLemmas.{low, step-is}
use Rattle.tv_run.proofs.Numbers.{stage-at}

-- every kind of settlement
nothing-settles : (gives : Giving) (r : Run) → SettlesNothing gives r.document (past_of r) → NothingSettles gives r
nothing-settles gives r n (history.bounced m) h = n.none_bounces m
nothing-settles gives r n (history.closed m k) h = n.none_closes m k
nothing-settles gives r n (history.fault_passed m) h = n.none_passes m
nothing-settles gives r n (history.opened m) h = n.none_opens m
nothing-settles gives r n (history.ended m) h = n.none_ends m
nothing-settles gives r n e h = absurd (true≠false (sym h))

module _ (gives : Giving) (r : OpenRun) (so : StandsOpen gives r) (quiet : IsQuietRun gives r) where
  stays-itself : StaysAs gives r r
  stays-itself = record { stands = so; same = refl; regions = λ n. refl }

  settles-none :
      ((j : Job) → find (goes_on gives (run_view r.run) (past_of (run_of r))) (all_jobs gives (run_view r.run)) ≡ Some j
      → is_some (next_ask (past_of (run_of r)) j) ≡ true)
      → SettlesTo gives r r false
  settles-none asks = (
    stays-itself,
    nothing-settles gives (run_of r)
        (nothing-left gives (run_view r.run) (past_of (run_of r)) so.1.stand.legal quiet asks),
  )

  -- it is found, or none goes on
  pub goes-first : (k : ℕ) → IsFound gives r so.0 seeking.All (Some k) → GoesOnFirst gives r k
  goes-first k f = record {
    instances = so.0;
    stands = so.1;
    going = so.2;
    quiet = quiet;
    job = f.0;
    first = f.1;
    may = f.2;
  }

  pub nothing-goes : IsFound gives r so.0 seeking.All None → SettlesTo gives r r false
  nothing-goes none = settles-none (λ j e. absurd (none-some j (sym none ∙ e)))

module _ (gives : Giving) (r : OpenRun) (k : ℕ) (q : GoesOnFirst gives r k) where
  abbrev pub so : StandsOpen gives r
  so = (q.instances, q.stands, q.going)

  pub known-low : k < length r.jobs.items
  known-low =
      low r q.instances q.stands.fits k q.may.outer q.may.number q.may.instance q.may.seat
      (next.step gives r q.instances q.stands k q.job q.may) (next.known gives r q.instances q.stands k q.job q.may)

  goes : goes_on gives (run_view r.run) (past_of (run_of r)) q.job ≡ true
  goes =
      (found-in (goes_on gives (run_view r.run) (past_of (run_of r))) (all_jobs gives (run_view r.run)) q.job q.first).1

  -- ---- by what the code finds

  module _ (p : Plan) (tries : option_map tries_of (step_of r k) ≡ Some p) where
    tries-so : p ≡ tries_of (next.step gives r q.instances q.stands k q.job q.may).1
    tries-so =
        sym
        (same_Some (tries_of (next.step gives r q.instances q.stands k q.job q.may).1) p
        (sym
        (ap (option_map tries_of)
        (step-is r q.instances q.stands.fits k q.may.outer q.may.number q.may.instance q.may.seat
        (next.step gives r q.instances q.stands k q.job q.may)
        (next.known gives r q.instances q.stands k q.job q.may)))
        ∙ tries))

    pub some-tries : 0 < length p.activities
    some-tries =
        subst (λ (a : Plan). 0 < length a.activities) (sym tries-so)
        (next.activities gives r q.instances q.stands k q.job q.may)

    module _ (o : Option Stage) (stage : o ≡ stage_of r k) where
      next-so :
          has_flow_next p o
          ≡ has_flow_next (tries_of (next.step gives r q.instances q.stands k q.job q.may).1) (Some q.may.seat.stage)
      next-so =
          ap₂ has_flow_next tries-so
          (stage
          ∙ stage-at gives r q.instances q.stands k q.may.outer q.may.number q.may.instance q.may.seat q.job
          q.may.is_number)

      pub asks-first : has_flow_next p o ≡ false → SettlesTo gives r r false
      asks-first h =
          settles-none gives r so q.quiet
          (λ j e.
          subst (λ (a : Job). is_some (next_ask (past_of (run_of r)) a) ≡ true) (same_Some q.job j (sym q.first ∙ e))
          (next.asks-next gives r q.instances q.stands k q.job q.may goes (sym next-so ∙ h)))

      pub opens-first : has_flow_next p o ≡ true → OpensFirst gives r k
      opens-first h = record {
        goes = q;
        no_ask = next.none-next gives r q.instances q.stands k q.job q.may goes (sym next-so ∙ h);
      }
