-- A ready job of an open instance that binds a fault: it can be bounced, what it gives then, and how the instances go on with that.
use Rattle.std.specs.List.{list_any}
use Rattle.std.specs.Option.{option_map_or}
use Rattle.std.specs.Prelude.{◌≡◌, refl, ℕ, ◌||◌, true, List, [], ◌∷◌, ◌++◌, Some}
use Rattle.std.specs.Prelude.{codes, if◌then◌else◌, is_none, is_some, map, slice_get}
use Rattle.std.proofs.Common.{ap, subst, sym, ◌∙◌}
use Rattle.std.specs.Cmp.{first_so}
use Rattle.tv_value.specs.Nested.{Place}
use Rattle.tv_value.specs.Values.{JobName, Name, Value}
use Rattle.tv_gate.specs.Outcomes.{Giving}
use Rattle.tv_flow.specs.Flows.{Document, Flow, Step}
use Rattle.tv_strategy.specs.Origins.{plain}
use Rattle.tv_dispatch.specs.Jobs.{error_results, fault_makers}
use Rattle.tv_model.specs.instance.Steps.{declared_depths}
use Rattle.tv_model.specs.instance.Events.{gave, has_result}
use Rattle.tv_model.specs.Jobs.{Job}
use Rattle.tv_model.specs.Made.{Meaning}
use Rattle.tv_model.specs.Meanings.{meaning}
use Rattle.tv_model.specs.RightDepths.{HaveTheseDepths}
use Rattle.tv_model.specs.Turns.{is_bounced}
use Rattle.tv_model.proofs.Results.{errors-have}
use Rattle.tv_history.specs.Entries.{History, bounced, is_bounced_entry, is_ended_entry}
use Rattle.tv_history.specs.Histories.{is_legal_after, is_ready, is_settled, next_ask}
use Rattle.tv_history.proofs.Tests.{same-itself}
use Rattle.tv_instances.specs.Answers.{AreInputs, IsReadyJob, numbered}
use Rattle.tv_instances.specs.FramingViews.{View}
use Rattle.tv_instances.specs.views.InRun.{IsJobThere}
use Rattle.tv_instances.specs.views.Stated.{IsBoundAsTold}
use Rattle.tv_instances.proofs.views.LawLemmas.{inputs-are_told, ready-is_told}
use Rattle.tv_instances.specs.forest_tries.Steps.{IsBouncedJob, IsOwnStep}
use Rattle.tv_instances.proofs.forest_tries.Jobs.{bounced-none}
use Rattle.tv_history.proofs.offers.Ends.{bounce-legal}
use Rattle.tv_frame.specs.Prepared.{MayGive}
use Rattle.tv_frame.specs.Tables.{levels_in}
use Rattle.tv_seats.specs.Seats.{Seat, with_stage}
use Rattle.tv_seats.specs.Stages.{is_waiting}
use Rattle.tv_seats.specs.declared.stage.Stage.TheVariants as stage
use Rattle.tv_instances.specs.seats.GoingOn.{GoesOn, MaySettle}
use Rattle.tv_instances.specs.seats.Seated.{Sit, spot_of}
use Rattle.tv_instances.proofs.stands.Offers.{ready-waits, steps-of_seats}
use Rattle.tv_instances.proofs.stands.Seats.{seat-job}
use Rattle.tv_instances.proofs.stands.Stages.{over-is, runs-is}
use Rattle.tv_instances.specs.Entries.{with_view, with_instance}
use Rattle.tv_instances.specs.Forest.{Instance, Instances, IsJobAt, Stand}
use Rattle.tv_instances.proofs.Entries.{settling}
use Rattle.tv_instances.proofs.Instances.{sits}
use Rattle.tv_instances.specs.Firsts.{BindsFault, IsReadySeat}
use Rattle.tv_run.proofs.Tellings.{waits-alone}
use Rattle.tv_lemmas.proofs.Members.{in-slice}

-- ---- a job of an open instance

module _ (gives : Giving) (d : Document) (past : History) (xs : Instances) (stand : Stand gives d levels_in past xs)
    (i n : ℕ) (x : Instance) (s : Seat) (j : Job) (v : View) (is : IsJobAt gives d xs i n x s j)
    (is_open : x.view ≡ Some v) where
  abbrev m : Meaning
  m = meaning gives d

  pub same-flow : v.flow ≡ x.flow
  same-flow = (sits gives d levels_in past xs stand i x v is.instance is_open).0

  pub sit : Sit gives d past x.name (levels_in v.flow) v x.seats
  sit =
      subst (λ (f : Flow). Sit gives d past x.name (levels_in f) v x.seats) (sym same-flow)
      (sits gives d levels_in past xs stand i x v is.instance is_open).1

  pub it : IsJobThere gives d x.name j (spot_of v.flow.steps s)
  it = subst (λ (f : Flow). IsJobThere gives d x.name j (spot_of f.steps s)) (sym same-flow) is.job

  pub known : numbered v n ≡ Some (spot_of v.flow.steps s)
  known = (seat-job gives d past x.name (levels_in v.flow) v x.seats sit n s is.seat).known

  pub at-step : (t : Name × Step) × (slice_get v.flow.steps s.step ≡ Some t)
  at-step = sit.steps n s is.seat

  bound : IsBoundAsTold v j (spot_of v.flow.steps s)
  bound = inputs-are_told gives d past x.name (levels_in v.flow) v sit.in_run (spot_of v.flow.steps s) j it

  -- values that it binds are the run's
  pub inputs-are : (vs : List Value) → AreInputs v (spot_of x.flow.steps s) vs → vs ≡ map plain j.inputs
  inputs-are vs h =
      bound.values vs (subst (λ (f : Flow). AreInputs v (spot_of f.steps s) vs) (sym same-flow) h)

  -- at its step
  module _ (t : Name × Step) (at_step : slice_get v.flow.steps s.step ≡ Some t) where
    pub spot-is : spot_of v.flow.steps s ≡ (t.0, s.place)
    spot-is = ap (λ o. (option_map_or (λ (u : Name × Step). u.0) o [], s.place)) at_step

    pub own : IsOwnStep gives d j t.1
    own = steps-of_seats gives d past x.name (levels_in v.flow) v x.seats sit n s j is.seat it t at_step

  -- ---- that is ready and binds a fault

  module _ (ready : IsReadySeat v s) (faulty : BindsFault v s true) where
    is-bounced : is_bounced j.ending ≡ true
    is-bounced = sym bound.bounced ∙ sym (bound.fault true faulty)

    is-ready : is_ready m past j ≡ true
    is-ready =
        (ready-is_told gives d past x.name (levels_in v.flow) v sit.in_run (spot_of v.flow.steps s) j it).ready
        (in-slice v.jobs n (spot_of v.flow.steps s) known) ready

    pub is-waiting : is_waiting s.stage ≡ true
    is-waiting =
        let now = sit.stages n s j is.seat it in
        first_so (is_waiting s.stage) (is_ready m past j)
        (sym (ready-waits m past j s.stage (runs-is past j s.stage now) (over-is past j s.stage now)) ∙ is-ready)

    pub legal-bounce : is_legal_after gives m past (bounced j.name) ≡ true
    legal-bounce = bounce-legal gives d past j it.listed is-ready is-bounced

    settled-now : is_settled (bounced j.name ∷ past) j ≡ true
    settled-now =
        ap
        (λ c.
        if c then list_any (is_bounced_entry j.name) (bounced j.name ∷ past)
        else (if is_some j.opens then list_any (is_ended_entry j.name) past else is_none (next_ask past j)))
        is-bounced
        ∙ ap (λ c. c || list_any (is_bounced_entry j.name) past) (same-itself j.name)

    module _ (t : Name × Step) (at_step : slice_get v.flow.steps s.step ≡ Some t) where
      error : IsBouncedJob t.1 j
      error = bounced-none gives d j t.1 (own t at_step) is-bounced

      -- the error document of what it binds, by its name
      pub result-is :
          (at : JobName) → at ≡ j.name → (ins : List Value) → AreInputs v (spot_of x.flow.steps s) ins
          → (outs : List (Name × ℕ)) → outs ≡ t.1.outputs
          → error_results at (codes "bounced") (fault_makers ins) (map (λ o. o.1) outs) ≡ j.result
      result-is at called ins are outs e =
          let bind = inputs-are ins are in
          (λ i. error_results (called i) (codes "bounced") (fault_makers (bind i)) (map (λ o. o.1) (e i)))
          ∙ sym error.result

      pub may-give : MayGive v t s.place j.result
      may-give = record {
        known = in-slice v.jobs n (t.0, s.place) (known ∙ ap Some (spot-is t at_step));
        new = ap (λ (y : Name × Place). has_result v.events y.0 y.1) (sym (spot-is t at_step)) ∙ ready.without_result;
        right =
            subst (HaveTheseDepths (declared_depths t.1)) (sym error.result)
            (errors-have j.name (codes "bounced") (fault_makers (map plain j.inputs)) (declared_depths t.1));
      }

      pub free : IsReadyJob (levels_in v.flow) v (t.0, s.place)
      free = subst (IsReadyJob (levels_in v.flow) v) (spot-is t at_step) ready

    -- the instances once it is
    pub stand-bounced : (w : View) (ns : List Seat)
        → GoesOn d (levels_in x.flow) v w (gave (spot_of x.flow.steps s).0 s.place j.result) ns
        → Stand gives d levels_in (bounced j.name ∷ past)
        (with_instance xs i (with_view x w (with_stage n stage.Settled x.seats ++ ns)))
    stand-bounced w ns on =
        settling gives d levels_in past xs stand i n x s j v is is_open (bounced j.name) w ns
        (subst (λ y. MaySettle j y (bounced j.name)) (sym (waits-alone s.stage is-waiting)) refl) (λ k. refl) legal-bounce
        settled-now on
