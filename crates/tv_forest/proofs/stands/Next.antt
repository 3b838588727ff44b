-- What the job of a seat has next: an ask, or a flow.
use Rattle.std.specs.Prelude.{◌≡◌, refl, ℕ, Bool, true, false, List, [], ◌∷◌, ◌||◌, Option, Some, None, is_some, map, slice_get}
use Rattle.std.specs.List.{list_any}
use Rattle.std.specs.Option.{option_map_or}
use Rattle.std.proofs.Common.{ap, subst, sym, ◌∙◌}
use Rattle.std.proofs.lemmas.Bool.{false_from_ne_true, or_parts}
use Rattle.std.specs.Cmp.{first_so, second_so}
use Rattle.tv_lemmas.proofs.Tests.{from-false_true}
use Rattle.tv_value.specs.Activities.{Activity, nested, service}
use Rattle.tv_value.specs.Orders.{same_job}
use Rattle.tv_value.specs.Values.{JobName, Name}
use Rattle.tv_value.proofs.JobNameLemmas.{same_job_decides}
use Rattle.tv_gate.specs.Outcomes.{Giving}
use Rattle.tv_flow.specs.Flows.{Document, Step}
use Rattle.tv_dispatch.specs.Jobs.{Ask}
use Rattle.tv_dispatch.specs.Plans.{kind_of, next_try, turns}
use Rattle.tv_dispatch.specs.declared.plan.Next.{Next}
use Rattle.tv_model.specs.Jobs.{Job}
use Rattle.tv_model.specs.Made.{Meaning}
use Rattle.tv_model.specs.Meanings.{meaning}
use Rattle.tv_model.specs.Turns.{is_bounced}
use Rattle.tv_model.proofs.Tests.{true≠false}
use Rattle.tv_history.specs.Entries.{Entry, History, accepted, is_accepted, is_begun_entry, is_out}
use Rattle.tv_history.specs.Histories.{is_ask, is_legal, is_legal_after, is_settled, next_ask}
use Rattle.tv_history.proofs.Running.{out-begun}
use Rattle.tv_framing.specs.Views.{View}
use Rattle.tv_seats.specs.Seats.{Seat}
use Rattle.tv_seats.specs.Stages.{is_aside, is_idle, is_waiting}
use Rattle.tv_seats.specs.declared.stage.Stage.{Stage}
use Rattle.tv_seats.specs.declared.stage.Stage.TheVariants as stage
use Rattle.tv_forest.specs.tries.NextTries.{IsFirst}
use Rattle.tv_forest.proofs.tries.Jobs.{tried-job}
use Rattle.tv_forest.proofs.tries.Next.{first-is}
use Rattle.tv_forest.proofs.tries.Turns.{plan_of}
use Rattle.tv_forest.specs.seats.Seated.{GoesAs, IsNextTry, IsStage, Sit}
use Rattle.tv_forest.specs.stands.Offers.{HasNextBySeat, NextBySeat, begins_with_service, is_service_first}
use Rattle.tv_forest.specs.stands.Seats.{IsJobOf}
use Rattle.tv_forest.proofs.stands.Offers.{own-step}
use Rattle.tv_forest.proofs.stands.States.{not-begun}

-- of a job that hasn't begun no outcome was accepted
pub none-accepted : (gives : Giving) (m : Meaning) (past : History) (n : JobName) → is_legal gives m past ≡ true
    → list_any (is_begun_entry n) past ≡ false → list_any (is_accepted n) past ≡ false
none-accepted gives m [] n l h = refl
none-accepted gives m (e ∷ past) n l h =
    by e (second_so (is_legal gives m past) (is_legal_after gives m past e) l)
    (or_parts (is_begun_entry n e) (list_any (is_begun_entry n) past) h).1
    (none-accepted gives m past n (first_so (is_legal gives m past) (is_legal_after gives m past e) l)
    (or_parts (is_begun_entry n e) (list_any (is_begun_entry n) past) h).1)
  where
    by : (e : Entry) → is_legal_after gives m past e ≡ true → list_any (is_begun_entry n) past ≡ false
        → list_any (is_accepted n) past ≡ false → list_any (is_accepted n) (e ∷ past) ≡ false
    by (accepted k a t r) now unbegun rec =
        let other : same_job n k ≡ false =
        false_from_ne_true (same_job n k)
        (λ q.
        let out = subst (λ i. is_out past i ≡ true) (sym ((same_job_decides n k).0 q)) (first_so (is_out past k) _ now) in
        true≠false (sym (out-begun past n out) ∙ unbegun))
        in
        ap (λ b. b || list_any (is_accepted n) past) other ∙ rec
    by e now unbegun rec = rec

some-next : (past : History) (j : Job) (a t : ℕ) → IsNextTry past j a t → is_some (next_ask past j) ≡ true
some-next past j a t h = by (next_ask past j) h
  where
    by : (o : Option Ask) → option_map_or (is_ask a t) o false ≡ true → is_some o ≡ true
    by None k = absurd (true≠false (sym k))
    by (Some ask) k = refl

module _ (gives : Giving) (d : Document) (past : History) (I : JobName) (levels : Name → ℕ) (v : View)
    (ss : List Seat) (sit : Sit gives d past I levels v ss) (n : ℕ) (s : Seat) (j : Job)
    (there : slice_get ss n ≡ Some s) (it : IsJobOf gives d I v j s) (t : Name × Step)
    (at_step : slice_get v.flow.steps s.step ≡ Some t) where
  abbrev m : Meaning
  m = meaning gives d

  abbrev HasFirst : Bool → Type 0
  HasFirst b = (is_some (next_ask past j) ≡ b) × (b ≡ false → is_some j.opens ≡ true)

  -- what its plan says comes first is there
  first-by : IsFirst past j t.1 (plan_of t.1) → HasFirst (begins_with_service t.1)
  first-by is = by t.1.activities refl
    where
      -- where these are the activities of the step
      says : List Activity → Next
      says as' = next_try (turns t.1.retries 0 (map kind_of as'))

      by : (as' : List Activity) → t.1.activities ≡ as' → HasFirst (is_service_first as')
      by [] e = absurd (is.not_failed (ap says e))
      by (service f ∷ as') e =
          let asks = is.asks 0 0 (ap says e) in
          (ap is_some asks.is_next, λ h. absurd (true≠false h))
      by (nested f ∷ as') e =
          let opens = is.nests 0 (ap says e) in
          (ap is_some opens.no_ask, λ h. ap is_some opens.opens)

  waits : GoesAs past j false false false → is_bounced j.ending ≡ false → HasFirst (begins_with_service t.1)
  waits h sound =
      let own = own-step gives d past I levels v ss sit n s j there it t at_step in
      let begun = not-begun (list_any (is_begun_entry j.name) past) (is_settled past j) h.runs h.unsettled in
      let none = none-accepted gives m past j.name sit.in_run.legal begun in
      first-by
      (first-is gives d past sit.in_run.legal j t.1 own (tried-job gives d j t.1 own sound) sit.in_run.formed none
      (plan_of t.1) (record { retries = refl; activities = refl }))

  abbrev NextAt : Stage → Type 0
  NextAt x =
      (is_idle x ≡ true → is_some (next_ask past j) ≡ true)
      × (is_aside x ≡ true → (next_ask past j ≡ None) × (is_some j.opens ≡ true))
      × (is_waiting x ≡ true → is_bounced j.ending ≡ false → HasFirst (begins_with_service t.1))

  at-stage : (x : Stage) → IsStage past j x → NextAt x
  at-stage stage.Waiting h = (λ e. from-false_true e, λ e. from-false_true e, λ e sound. waits h sound)
  at-stage (stage.Out a u) h = (λ e. from-false_true e, λ e. from-false_true e, λ e. from-false_true e)
  at-stage (stage.Idle a u) h = (λ e. some-next past j a u h.1, λ e. from-false_true e, λ e. from-false_true e)
  at-stage (stage.Aside a) h = (λ e. from-false_true e, λ e. (h.1.no_ask, h.1.opens), λ e. from-false_true e)
  at-stage (stage.Nested i) h = (λ e. from-false_true e, λ e. from-false_true e, λ e. from-false_true e)
  at-stage stage.Settled h = (λ e. from-false_true e, λ e. from-false_true e, λ e. from-false_true e)

  pub next-by : HasNextBySeat past s t.1 j
  next-by =
      let r = at-stage s.stage (sit.stages n s j there it) in
      record { idle = r.0; aside = r.1; waits = r.2 }

pub next-by_seat : NextBySeat
next-by_seat gives d past I levels v ss sit n s j there it t at_step =
    next-by gives d past I levels v ss sit n s j there it t at_step
