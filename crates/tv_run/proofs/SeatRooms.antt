-- The room of an open instance's seats: that it is taken changes nothing, and what it is of a job that is out.
use Rattle.std.specs.Option.{option_map_or}
use Rattle.std.specs.Prelude.{◌≡◌, ℕ, ◌<◌, true, false, Some, length, map, slice_get, slice_index_or}
use Rattle.std.proofs.Common.{ap, subst, sym, ◌∙◌}
use Rattle.std.proofs.lemmas.List.{length-map}
use Rattle.std.proofs.lemmas.Option.{same_Some}
use Rattle.tv_value.specs.Values.{Name}
use Rattle.tv_flow.specs.Flows.{Flow, Step}
use Rattle.tv_flow.specs.Views.{flow_view}
use Rattle.tv_check.specs.RunViews.{run_view}
use Rattle.tv_check.specs.declared.plans.FlowPlan.{FlowPlan}
use Rattle.tv_intake.specs.Intaken.{known_jobs}
use Rattle.tv_outputs.specs.Known.{Nodes}
use Rattle.tv_instances.specs.FramingViews.{View}
use Rattle.tv_frame.specs.Kept.{Keeps}
use Rattle.tv_frame.specs.Tables.{levels_in}
use Rattle.tv_frame.specs.declared.frame.Frame.{Frame}
use Rattle.tv_seats.specs.Seats.{Seat, back_room, room_at, stands, step_at}
use Rattle.tv_seats.specs.Stages.{is_out}
use Rattle.tv_instances.specs.Forest.{Instance, Instances}
use Rattle.tv_instances.specs.Standing.{IsOpen, job_of}
use Rattle.tv_instances.specs.Tries.{IsSameButRooms}
use Rattle.tv_instances.proofs.TrieLemmas.{kept-with, quiet-roomy}
use Rattle.tv_instances.specs.declared.open.Open.{Open}
use Rattle.tv_run.specs.Accepting.{HasAsideRoom, HasBackRoom}
use Rattle.tv_run.specs.Changes.{IsOpenHere}
use Rattle.tv_run.specs.Rooms.{IsAsBefore}
use Rattle.tv_run.specs.declared.instances.Instance as code
use Rattle.tv_run.specs.declared.run.OpenRun.{OpenRun}
use Rattle.tv_run.proofs.OpenSet.{HasOpen, others-set, set-there}
use Rattle.tv_run.proofs.PlanLemmas.{plan-there}
use Rattle.tv_run.proofs.Prepared.{prepared}
use Rattle.tv_run.proofs.Taking.{IsItself, its-code, open-read, seats-are}

module _ (r : OpenRun) (i : ℕ) (xs : Instances) (x : Instance) (v : View) (here : IsOpenHere r xs i x v) where
  abbrev its : IsItself r i xs x v here
  its = its-code r i xs x v here

  abbrev o : Open
  o = its.opened.itself

  plan : (p : FlowPlan) × (flow_view p.flow ≡ x.flow)
  plan = plan-there r.run its.itself.flow x.flow its.kept.flow

  opened : IsOpen (run_view r.run) plan.0 r.pool o v
  opened = its.opened.is_open plan.0 plan.1

  -- each step has its levels
  level-low : (step : ℕ) → step < length x.flow.steps → step < length o.seats.levels
  level-low step low =
      subst (λ n. step < n)
      (sym
      (ap length opened.levels
      ∙ length-map v.flow.steps (λ (s : Name × Step). levels_in v.flow s.0)
      ∙ ap (λ (f : Flow). length f.steps) its.opened.flow))
      low

  -- ---- by what the code reads

  module _ (c : code.Instance) (read : c ≡ slice_index_or r.instances.items i c) (q : Open)
      (q_is : q ≡ slice_index_or c.open.items 0 q) where
    pub same-open : q ≡ o
    same-open = open-read r i xs x v here c read q q_is

    pub level-there : (step : ℕ) → step < length x.flow.steps → step < length q.seats.levels
    level-there step low = subst (λ p. step < length p.seats.levels) (sym same-open) (level-low step low)

    -- with more room it is as before
    pub roomier : (s : OpenRun) (p : Open) → IsSameButRooms q p → HasOpen r s i its.itself p → s.due ≡ r.due
        → IsAsBefore r s
    roomier s p more set due =
        prepared r s i o p
        (record {
          run = set.run;
          looks = set.looks;
          regions = ap (λ (n : Nodes). n.regions) set.pool;
          busy = set.busy;
          jobs = set.jobs;
          entries = set.entries;
          due = due;
          failed = set.failed;
          outs = set.outs;
          before = its.itself;
          was = its.there;
          after = set.after;
          there = set-there r s i its.itself p set its.there;
          others = others-set r s i its.itself p set;
          flow = set.flow;
          opener = set.opener;
          numbers = set.numbers;
          is_busy = set.is_busy;
          opened = its.opened.there;
          is_open = set.is_open;
          seats = same.seats;
          region = ap (λ (f : Frame). f.region) same.frame;
        })
        plan.0
        (λ d w k.
        subst (λ n. IsOpen d plan.0 n p w) (sym set.pool)
        (record {
          keeps = subst (λ f. Keeps d.flows plan.0 r.pool f w) (sym same.frame) k.keeps;
          known =
              ap (map job_of) same.seats ∙ k.known ∙ ap (λ (f : Frame). known_jobs f.intakes) (sym same.frame);
          levels = same.levels ∙ k.levels;
          quiet = quiet-roomy w o p same k.quiet;
          kept = kept-with w o p same.kept k.kept;
        }))
        (λ f h. plan.1 ∙ same_Some x.flow f (sym its.kept.flow ∙ h))
      where
        same : IsSameButRooms o p
        same = subst (λ z. IsSameButRooms z p) same-open more

    -- ---- of a job that is out

    module _ (n : ℕ) (s : Seat) (seat : slice_get x.seats n ≡ Some s) (out : is_out s.stage ≡ true) where
      seats-so : q.seats.seats ≡ x.seats
      seats-so = ap (λ (p : Open). p.seats.seats) same-open ∙ seats-are r i xs x v here

      pub stands-out : stands is_out q.seats.seats n ≡ true
      stands-out =
          ap (λ ss. stands is_out ss n) seats-so
          ∙ ap (λ y. option_map_or (λ (z : Seat). is_out z.stage) y false) seat
          ∙ out

      step-so : step_at q.seats.seats n ≡ s.step
      step-so =
          ap (λ ss. step_at ss n) seats-so ∙ ap (λ y. option_map_or (λ (z : Seat). z.step) y 0) seat

      pub back-room : HasBackRoom r i s.step → 0 < back_room q.seats.back_rooms (step_at q.seats.seats n)
      back-room room =
          subst (λ m. 0 < back_room q.seats.back_rooms m) (sym step-so)
          (subst (λ (p : Open). 0 < back_room p.seats.back_rooms s.step) (sym same-open)
          (room.each its.itself o its.there its.opened.there))

      pub aside-room : HasAsideRoom r i s.step → 0 < room_at q.seats.aside_rooms (step_at q.seats.seats n)
      aside-room room =
          subst (λ m. 0 < room_at q.seats.aside_rooms m) (sym step-so)
          (subst (λ (p : Open). 0 < room_at p.seats.aside_rooms s.step) (sym same-open)
          (room.each its.itself o its.there its.opened.there))
