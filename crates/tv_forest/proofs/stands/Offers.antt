-- Which job goes on, by its seat.
use Rattle.std.specs.Prelude.{◌≡◌, refl, ℕ, Bool, true, false, not, nat_lt, ◌&&◌, ◌||◌, List, [], Some, count_by, length, slice_get}
use Rattle.std.specs.Option.{option_map_or}
use Rattle.std.proofs.Common.{ap, ap₂, subst, sym, ◌∙◌}
use Rattle.std.proofs.lemmas.Option.{same_Some}
use Rattle.std.specs.Cmp.{first_so, second_so}
use Rattle.std.proofs.Math.Bool.{and-false}
use Rattle.tv_lemmas.specs.Members.{Each}
use Rattle.tv_lemmas.proofs.Members.{each_in, in-slice}
use Rattle.tv_value.specs.Orders.{named, same_job, same_name}
use Rattle.tv_value.specs.Values.{JobName, Name}
use Rattle.tv_gate.specs.Outcomes.{Giving}
use Rattle.tv_flow.specs.Flows.{Document, Step}
use Rattle.tv_model.specs.instance.Ranks.{ranked}
use Rattle.tv_history.proofs.Lists.{named-each}
use Rattle.tv_model.specs.Jobs.{Job}
use Rattle.tv_model.specs.Made.{Meaning}
use Rattle.tv_model.specs.Meanings.{flow_meaning, meaning}
use Rattle.tv_model.specs.Turns.{is_bounced}
use Rattle.tv_model.proofs.Whole.{rank-each}
use Rattle.tv_history.specs.Entries.{History}
use Rattle.tv_history.specs.Histories as histories
use Rattle.tv_history.specs.Histories.{all_known, has_place, is_open, is_ready, is_running, is_settled}
use Rattle.tv_history.specs.order.Parts.{IsInstance}
use Rattle.tv_framing.specs.Views.{View}
use Rattle.tv_seats.specs.Seats.{Seat, running_count}
use Rattle.tv_seats.specs.Stages.{is_aside, is_idle, is_waiting, runs}
use Rattle.tv_seats.specs.declared.stage.Stage.{Stage}
use Rattle.tv_seats.specs.declared.stage.Stage.TheVariants as stage
use Rattle.tv_forest.proofs.views.OwnDepths.{AreNamed, formed-flow, formed-named}
use Rattle.tv_forest.specs.tries.Steps.{IsOwnStep}
use Rattle.tv_forest.proofs.tries.Jobs.{job-of, limit-of}
use Rattle.tv_forest.proofs.tries.Made.{jobs-of}
use Rattle.tv_history.proofs.offers.Ends.{bounce-legal}
use Rattle.tv_forest.specs.seats.Seated.{Sit}
use Rattle.tv_forest.specs.stands.Offers.{BouncesBySeat, GoesOnBySeat, GoingBySeat}
use Rattle.tv_forest.specs.stands.Seats.{IsJobOf, is_over}
use Rattle.tv_forest.specs.stands.Stated.{StepsOfSeats}
use Rattle.tv_forest.proofs.stands.Stages.{idle-is, over-is, runs-is}
use Rattle.tv_forest.proofs.stands.Told.{running-at}

-- a ready job waits
module _ (m : Meaning) (past : History) (j : Job) where
  abbrev ready_if : Bool → Bool → Bool
  ready_if r s = is_open past j.instance && not r && not s && all_known m past j.waits

  runs-none : is_running past j ≡ true → is_ready m past j ≡ false
  runs-none h =
      ap (λ r. ready_if r (is_settled past j)) h
      ∙ ap (λ b. b && not (is_settled past j) && all_known m past j.waits) (and-false (is_open past j.instance))

  over-none : is_settled past j ≡ true → is_ready m past j ≡ false
  over-none h =
      ap (λ s. ready_if (is_running past j) s) h
      ∙ ap (λ b. b && all_known m past j.waits) (and-false (is_open past j.instance && not (is_running past j)))

  pub ready-waits : (x : Stage) → is_running past j ≡ runs x → is_settled past j ≡ is_over x
      → is_ready m past j ≡ (is_waiting x && is_ready m past j)
  ready-waits stage.Waiting r s = refl
  ready-waits (stage.Out a t) r s = runs-none r
  ready-waits (stage.Idle a t) r s = runs-none r
  ready-waits (stage.Aside a) r s = runs-none r
  ready-waits (stage.Nested i) r s = runs-none r
  ready-waits stage.Settled r s = over-none s

module _ (gives : Giving) (d : Document) (past : History) (I : JobName) (levels : Name → ℕ) (v : View)
    (ss : List Seat) (sit : Sit gives d past I levels v ss) where
  abbrev m : Meaning
  m = meaning gives d

  -- ---- the step of a job

  -- each step is the one of its name
  steps-named : AreNamed v.flow.steps
  steps-named =
      formed-named v.flow
      (formed-flow d sit.in_run.formed sit.in_run.flow_name v.flow sit.in_run.is_flow)

  abbrev IsOwn : Name × Step → Type 0
  IsOwn s = named s.0 v.flow.steps ≡ Some s.1

  ranked-named : Each IsOwn (ranked v.flow.steps)
  ranked-named =
      rank-each gives (λ n. Unit {0}) IsOwn (length v.flow.steps) [] v.flow.steps steps-named

  module _ (n : ℕ) (s : Seat) (j : Job) (there : slice_get ss n ≡ Some s) (it : IsJobOf gives d I v j s)
      (t : Name × Step) (at_step : slice_get v.flow.steps s.step ≡ Some t) where
    pub step-name : j.step ≡ t.0
    step-name = it.step ∙ ap (λ o. option_map_or (λ (w : Name × Step). w.0) o []) at_step

    abbrev nesting : ℕ
    nesting = sit.in_run.view.levels

    part : IsInstance gives d.flows m j.instance nesting v.flow v.inputs
    part = subst (λ J. IsInstance gives d.flows m J nesting v.flow v.inputs) (sym it.within) sit.in_run.view.part

    -- its step has a rank
    pub step-ranked : named j.step (ranked v.flow.steps) ≡ Some t.1
    step-ranked =
        let u = part.jobs j it.listed refl in
        let r = jobs-of gives (flow_meaning gives d.flows nesting) j.instance v.flow v.inputs u.0 u.1 in
        let name : j.step ≡ r.0 =
        ap (λ (k : Job). k.step) u.2
        ∙ (job-of gives r.1 (flow_meaning gives d.flows nesting) j.instance r.0 u.0 r.3).step in
        let found = named-each IsOwn r.0 (ranked v.flow.steps) r.1 ranked-named r.2 in
        let own = each_in IsOwn v.flow.steps steps-named t (in-slice v.flow.steps s.step t at_step) in
        let same = same_Some r.1 t.1 (sym found ∙ ap (λ k. named k v.flow.steps) (sym name ∙ step-name) ∙ own) in
        ap (λ k. named k (ranked v.flow.steps)) name ∙ r.2 ∙ ap Some same

    pub own-step : IsOwnStep gives d j t.1
    own-step = record {
      listed = it.listed;
      part = record { levels = nesting; flow = v.flow; inputs = v.inputs; part = part; is_step = step-ranked };
    }

    -- ---- its stage

    runs-by : is_running past j ≡ runs s.stage
    runs-by = runs-is past j s.stage (sit.stages n s j there it)

    over-by : is_settled past j ≡ is_over s.stage
    over-by = over-is past j s.stage (sit.stages n s j there it)

    idle-by : histories.is_idle past j ≡ (is_idle s.stage || is_aside s.stage)
    idle-by = idle-is past j s.stage (sit.stages n s j there it)

    place-by : has_place m past j ≡ nat_lt (running_count s.step ss) t.1.jobs
    place-by =
        ap₂
        (λ J k. nat_lt (count_by (λ i. same_job i.instance J && same_name i.step k && is_running past i) m.jobs) j.limit)
        it.within step-name
        ∙ ap₂ nat_lt (running-at gives d past I levels v ss sit s.step t at_step) (limit-of gives d j t.1 own-step)

    ready-by : is_ready m past j ≡ (is_waiting s.stage && is_ready m past j)
    ready-by = ready-waits m past j s.stage runs-by over-by

    pub going-by : GoesOnBySeat gives d past ss s t.1 j
    going-by = record {
      goes_on = λ i. idle-by i || (ready-by i && not (is_bounced j.ending) && place-by i);
      bounces = ap (λ r. r && is_bounced j.ending) ready-by;
    }

pub steps-of_seats : StepsOfSeats
steps-of_seats gives d past I levels v ss sit n s j there it t at_step =
    own-step gives d past I levels v ss sit n s j there it t at_step

pub going-by_seat : GoingBySeat
going-by_seat gives d past I levels v ss sit n s j there it t at_step =
    going-by gives d past I levels v ss sit n s j there it t at_step

pub bounces-by_seat : BouncesBySeat
bounces-by_seat gives d past I levels v ss sit n s j there it h =
    let m = meaning gives d in
    bounce-legal gives d past j it.listed (first_so (is_ready m past j) (is_bounced j.ending) h)
    (second_so (is_ready m past j) (is_bounced j.ending) h)
