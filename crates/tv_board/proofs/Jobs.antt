-- A settled job of an open instance has a seat there, and the instance's frame was told of the job's result.
use Rattle.std.specs.Option.{option_map_or}
use Rattle.std.specs.Prelude.{◌≡◌, ℕ, true, [], Some, slice_get}
use Rattle.std.proofs.Common.{ap, ap₂, subst, sym, ◌∙◌}
use Rattle.std.proofs.lemmas.Option.{same_Some}
use Rattle.tv_lemmas.specs.Members.{In}
use Rattle.tv_value.specs.Nested.{Place}
use Rattle.tv_value.specs.Values.{JobName, Name}
use Rattle.tv_gate.specs.Outcomes.{Giving}
use Rattle.tv_flow.specs.Flows.{Document, Flow, Step}
use Rattle.tv_model.specs.instance.Steps.{spot}
use Rattle.tv_model.specs.instance.Events.{has_result}
use Rattle.tv_model.specs.Jobs.{Job}
use Rattle.tv_model.specs.Meanings.{meaning}
use Rattle.tv_history.specs.Entries.{History}
use Rattle.tv_history.specs.Histories.{is_open, is_settled}
use Rattle.tv_run.specs.FramingViews.{View}
use Rattle.tv_run.specs.views.InRun.{IsJobThere}
use Rattle.tv_run.proofs.views.LawLemmas.{taken-is_running}
use Rattle.tv_seats.specs.Seats.{Seat}
use Rattle.tv_run.specs.seats.Seated.{spot_of}
use Rattle.tv_run.specs.Forest.{Instance, Instances, IsJobAt, Stand}
use Rattle.tv_run.proofs.ForestInstances.{sits}
use Rattle.tv_run.proofs.forest_firsts.Instances.{open-there, seats-of, settled-anywhere}
use Rattle.tv_run.specs.InstancesStanding.{job_of}
use Rattle.tv_run.specs.nodes.Stated.{HasResult}

-- the name of the job of a step and a place in an instance
abbrev name_in : Instance → ℕ × Place → JobName
name_in x p = spot x.name (option_map_or (λ t. t.0) (slice_get x.flow.steps p.0) []) p.1

module _ (gives : Giving) (d : Document) (levels : Flow → Name → ℕ) (past : History) (xs : Instances)
    (stand : Stand gives d levels past xs) where
  -- the job's seat in its open instance, whose view has the job's result
  pub record Lives (j : Job) : Type 0 where
    pub number : ℕ
    pub instance : Instance
    pub view : View
    pub seat_number : ℕ
    pub seat : Seat
    pub is_its : IsJobAt gives d xs number seat_number instance seat j
    pub told : instance.view ≡ Some view
    pub has : HasResult view (job_of seat)
    pub at_step : slice_get instance.flow.steps seat.step ≡ Some has.step

  pub lives : (j : Job) → In j (meaning gives d).jobs → is_open past j.instance ≡ true
      → is_settled past j ≡ true → Lives j
  lives j i is_open settled =
      let t = open-there gives d levels past xs stand j.instance is_open in
      let w =
      (seats-of gives d levels past xs stand t.number t.instance t.there).have j i (sym t.named)
      (settled-anywhere (meaning gives d) past j settled) in
      let flow = (sits gives d levels past xs stand t.number t.instance t.view t.there t.told).0 in
      let step = t.sit.steps w.number w.seat w.there in
      let viewed =
      taken-is_running gives d past t.instance.name (levels t.instance.flow) t.view t.sit.in_run
      (spot_of t.view.flow.steps w.seat) j
      (subst (λ (f : Flow). IsJobThere gives d t.instance.name j (spot_of f.steps w.seat)) (sym flow) w.is_its) in
      record {
        number = t.number;
        instance = t.instance;
        view = t.view;
        seat_number = w.number;
        seat = w.seat;
        is_its = record { instance = t.there; seat = w.there; job = w.is_its };
        told = t.told;
        has = record {
          step = step.0;
          there = step.1;
          given =
              ap
              (λ o. has_result t.view.events (option_map_or (λ (s : Name × Step). s.0) o []) w.seat.place)
              (sym step.1)
              ∙ sym viewed.settled
              ∙ settled;
        };
        at_step = ap (λ (f : Flow). slice_get f.steps w.seat.step) (sym flow) ∙ step.1;
      }

  -- at one step and place of one instance stands one job
  pub one-name : (j k : Job) (a : Lives j) (b : Lives k) → a.number ≡ b.number → job_of a.seat ≡ job_of b.seat
      → j.name ≡ k.name
  one-name j k a b e f =
      let same =
      same_Some a.instance b.instance (sym a.is_its.instance ∙ ap (slice_get xs) e ∙ b.is_its.instance) in
      a.is_its.job.name ∙ ap₂ name_in same f ∙ sym b.is_its.job.name
