-- An open instance takes the room for one more open flow: the run is as it was, and has the room as long as the instance stays open so.
use Rattle.std.specs.Option.{option_map_or}
use Rattle.std.specs.Prelude.{◌≡◌, refl, ℕ, ◌<◌, [], Some, length, map, option_map, slice_get, slice_index_or}
use Rattle.std.specs.Vec.{with_item}
use Rattle.std.proofs.Common.{ap, arith, subst, sym, ◌∙◌}
use Rattle.std.proofs.lemmas.List.{length-map}
use Rattle.std.proofs.lemmas.Option.{same_Some, slice_get_within}
use Rattle.tv_value.specs.Values.{Name}
use Rattle.tv_flow.specs.Flows.{Document, Flow, Step}
use Rattle.tv_check.specs.RunViews.{run_view}
use Rattle.tv_check.specs.declared.plans.FlowPlan.{FlowPlan}
use Rattle.tv_intake.specs.Intaken.{known_jobs}
use Rattle.tv_outputs.specs.Known.{Nodes}
use Rattle.tv_instances.specs.FramingViews.{View}
use Rattle.tv_frame.specs.Kept.{Keeps}
use Rattle.tv_frame.specs.Tables.{levels_in}
use Rattle.tv_seats.specs.Seats.{Seat, room_at, step_at}
use Rattle.tv_instances.specs.Forest.{Instance, Instances}
use Rattle.tv_instances.proofs.Lists.{one-at}
use Rattle.tv_instances.specs.Standing.{IsOpen, job_of}
use Rattle.tv_instances.specs.Tries.{IsSameButRooms}
use Rattle.tv_instances.proofs.TrieLemmas.{kept-with, quiet-roomy}
use Rattle.tv_instances.specs.declared.open.Open.{Open}
use Rattle.tv_run.specs.Changes.{AddsTo, HasNestRoom, IsOpenHere}
use Rattle.tv_run.specs.Rooms.{IsAsBefore}
use Rattle.tv_run.specs.declared.instances.Instance as code
use Rattle.tv_run.specs.declared.run.OpenRun.{OpenRun}
use Rattle.tv_run.proofs.Itself.{IsCalled, called-there, its, its-code, o, open-read, open-set, seats-are, took-room, with_open}
use Rattle.tv_run.proofs.Opens.{first-open}
use Rattle.tv_run.proofs.PlanLemmas.{plan-there}
use Rattle.tv_run.proofs.Prepared.{prepared}

-- an open instance with other rooms is open as it was
roomy-open : (d : Document) (plan : FlowPlan) (pool : Nodes) (a b : Open) (v : View) → IsSameButRooms a b
    → IsOpen d plan pool a v → IsOpen d plan pool b v
roomy-open d plan pool a b v same k = record {
  keeps = subst (λ f. Keeps d.flows plan pool f v) (sym same.frame) k.keeps;
  known =
      ap (map job_of) same.seats ∙ k.known ∙ ap (λ f. known_jobs f.intakes) (sym same.frame);
  levels = same.levels ∙ k.levels;
  quiet = quiet-roomy v a b same k.quiet;
  kept = kept-with v a b same.kept k.kept;
}

-- the run with this Open there
abbrev pub with_room : OpenRun → ℕ → code.Instance → Open → OpenRun
with_room r i c p = record r { instances = with_item r.instances i (with_open c p) }

called : (r : OpenRun) (i : ℕ) (c : code.Instance) (p : Open) → IsCalled r (with_room r i c p) i c p
called r i c p = record {
  run = refl;
  looks = refl;
  busy = refl;
  jobs = refl;
  entries = refl;
  failed = refl;
  outs = refl;
  instances = refl;
}

module _ (r : OpenRun) (i : ℕ) (xs : Instances) (x : Instance) (v : View) (here : IsOpenHere r xs i x v)
    (c : code.Instance) (read : c ≡ slice_index_or r.instances.items i c) (a : Open)
    (read_open : a ≡ slice_index_or c.open.items 0 a) where
  is-its : a ≡ o r i xs x v here
  is-its = open-read r i xs x v here c read a read_open

  -- each step has its levels
  pub step-leveled : (n : ℕ) (t : Name × Step) → slice_get x.flow.steps n ≡ Some t → n < length a.seats.levels
  step-leveled n t at =
      let plan = plan-there r.run (its r i xs x v here).flow x.flow (its-code r i xs x v here).kept.flow in
      let is_open = (its-code r i xs x v here).opened.is_open plan.0 plan.1 in
      let low : n < length v.flow.steps =
      slice_get_within v.flow.steps n t
      (ap (λ (f : Flow). slice_get f.steps n) (its-code r i xs x v here).opened.flow ∙ at) in
      let long : length a.seats.levels ≡ length v.flow.steps =
      ap (λ (p : Open). length p.seats.levels) is-its
      ∙ ap length is_open.levels
      ∙ length-map v.flow.steps (λ (s : Name × Step). levels_in v.flow s.0) in
      omega (arith, low, long)

  module _ (p : Open) (same : IsSameButRooms a p) where
    abbrev t : OpenRun
    t = with_room r i c p

    seats-same : p.seats.seats ≡ (o r i xs x v here).seats.seats
    seats-same = same.seats ∙ ap (λ (q : Open). q.seats.seats) is-its

    pub roomy : IsAsBefore r t
    roomy =
        let code-its = its-code r i xs x v here in
        let plan = plan-there r.run code-its.itself.flow x.flow code-its.kept.flow in
        let w =
        took-room r i xs x v here c read t p (called r i c p) refl refl seats-same
        (ap (λ f. f.region) (same.frame ∙ ap (λ (q : Open). q.frame) is-its)) in
        let before = one-at r.instances.items i w.before code-its.itself w.was code-its.there in
        prepared r t i (o r i xs x v here) p w plan.0
        (λ d u k.
        roomy-open d plan.0 r.pool a p u same (subst (λ q. IsOpen d plan.0 r.pool q u) (sym is-its) k))
        (λ f e.
        plan.1
        ∙ same_Some x.flow f
        (sym code-its.kept.flow
        ∙ sym
        (ap (λ (g : code.Instance). option_map (λ (h : Name × Flow). h.1) (slice_get (run_view r.run).flows g.flow)) before)
        ∙ e))

    -- the room is there after an instance was added too
    pub nest-room : (n : ℕ) (s : Seat) → slice_get x.seats n ≡ Some s → (k : ℕ) → s.step ≡ k
        → 0 < room_at p.seats.nested_rooms k → (u : OpenRun) (ys : Instances) → AddsTo t u ys → HasNestRoom u i n
    nest-room n s sits k step room u ys adds = record {
      each = λ e q at is_open.
          let there = called-there r i xs x v here c read t p (called r i c p) in
          let same_open = ap (λ l. l.items) (adds.opened i (with_open c p) e there at) in
          let first : q ≡ p =
          first-open q p [] [] e.open.items is_open (same_open ∙ open-set r i xs x v here c read p) in
          let its-step : step_at q.seats.seats n ≡ k =
          ap (λ (g : Open). step_at g.seats.seats n) first
          ∙ ap (λ l. step_at l n) (seats-same ∙ seats-are r i xs x v here)
          ∙ ap (λ g. option_map_or (λ (h : Seat). h.step) g 0) sits
          ∙ step in
          subst (λ (g : Open). 0 < room_at g.seats.nested_rooms (step_at q.seats.seats n)) (sym first)
          (subst (λ g. 0 < room_at p.seats.nested_rooms g) (sym its-step) room);
    }
