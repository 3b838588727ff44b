-- The ready jobs of a step, as the frame finds them, by their seats.
use Rattle.std.specs.Option.{option_map_or}
use Rattle.std.specs.Prelude.{◌≡◌, ℕ, ◌<◌, ◌≤◌, Bool, false, List, [], Option, None, Some, get_or, length, slice_get}
use Rattle.std.proofs.Common.{ap, arith, subst, sym, ◌∙◌}
use Rattle.std.proofs.lemmas.List.{length-map}
use Rattle.tv_lemmas.specs.Members.{Each}
use Rattle.tv_lemmas.proofs.Members.{each_in}
use Rattle.tv_lemmas.proofs.Lists.{get-map}
use Rattle.tv_value.specs.Nested.{Place}
use Rattle.tv_value.specs.Values.{Name}
use Rattle.tv_flow.specs.Flows.{Document, Step}
use Rattle.tv_flow.specs.Views.{flow_view, step_view}
use Rattle.tv_flow.specs.declared.document.Step.{Step as CodeStep}
use Rattle.tv_naming.proofs.Told.{got-in}
use Rattle.tv_check.specs.declared.plans.FlowPlan.{FlowPlan}
use Rattle.tv_outputs.specs.Known.{Nodes}
use Rattle.tv_frame.specs.Spreads.{is_faulty_now}
use Rattle.tv_model.specs.instance.ByResults.{InstanceStep}
use Rattle.tv_frame.specs.Answers.{IsReadyJob}
use Rattle.tv_frame.specs.FramingViews.{View, steps_with}
use Rattle.tv_frame.proofs.Possible.{some-possible}
use Rattle.tv_model.specs.JobOrder.{place_before}
use Rattle.tv_frame.specs.matches.Steps.{IsStepAt}
use Rattle.tv_frame.specs.Calls.{HoldsError, HoldsErrorAt, holds_error}
use Rattle.tv_frame.specs.Ready.{IsFirstOfStep, IsReadyWith}
use Rattle.tv_frame.specs.Tables.{levels_in}
use Rattle.tv_frame.proofs.JobLemmas.{job-is, said-holds}
use Rattle.tv_seats.specs.Seats.{Seat, running_count}
use Rattle.tv_forest.specs.seats.Seated.{spot_of}
use Rattle.tv_instances.specs.Firsts.{BindsFault, CanBegin, IsFirstAt, IsReadySeat, step_limit}
use Rattle.tv_instances.specs.Standing.{IsOpen}
use Rattle.tv_instances.specs.declared.open.Open.{Open}
use Rattle.tv_instances.proofs.OpenLemmas.{in-view, its-step-at, known-at, numbered-step, seat-at, spot-at}

module _ (d : Document) (plan : FlowPlan) (pool : Nodes) (o : Open) (v : View) (io : IsOpen d plan pool o v) where
  -- ---- whether a job binds a fault

  module _ (n : ℕ) (s : Seat) (there : slice_get o.seats.seats n ≡ Some s) where
    -- it does where the frame has marked it so
    pub binds-said : BindsFault v s (is_faulty_now o.frame.intakes (s.step, s.place))
    binds-said =
        let t = its-step-at d plan pool o v io n s there in
        subst (λ x. HoldsError v x (is_faulty_now o.frame.intakes (s.step, s.place)))
        (sym (spot-at v.flow.steps s t.0 t.1))
        (said-holds d.flows plan pool o.frame v io.keeps s.step t.0 t.1 s.place (in-view d plan pool o v io n s there t.0 t.1))

    -- it does or doesn't
    pub binds-once : (b c : Bool) → BindsFault v s b → BindsFault v s c → b ≡ c
    binds-once b c h k =
        let r = some-possible v [] io.keeps.frame.given in
        let j =
        job-is d.flows plan pool o.frame v io.keeps n s.step s.place (known-at d plan pool o v io n s there) [] r.0 r.1 r.2 in
        let at : (e : Bool) → BindsFault v s e → e ≡ holds_error j.job =
        λ e p.
        each_in (HoldsErrorAt (spot_of v.flow.steps s) e) j.step.jobs (each_in (λ (f : InstanceStep). Each (HoldsErrorAt (spot_of v.flow.steps s) e) f.jobs) (steps_with v [] r.0) (p [] r.0 r.1 r.2) j.step j.among) j.job j.of_step j.name j.place in
        at b h ∙ sym (at c k)

    pub said-is : (b : Bool) → BindsFault v s b → is_faulty_now o.frame.intakes (s.step, s.place) ≡ b
    said-is b h = binds-once (is_faulty_now o.frame.intakes (s.step, s.place)) b binds-said h

  -- ---- of one step

  module _ (k : ℕ) (t : Name × Step) (at : IsStepAt v k t) where
    abbrev says : Place → Bool
    says q = is_faulty_now o.frame.intakes (k, q)

    -- a ready job of the frame has a seat
    pub record IsSeatOf (n : ℕ) (q : Place) (b : Bool) : Type 0 where
      pub seat : Seat
      pub there : slice_get o.seats.seats n ≡ Some seat
      pub of_step : seat.step ≡ k
      pub place : seat.place ≡ q
      pub ready : IsReadySeat v seat
      pub binds : BindsFault v seat b

    pub seat-ready : (n : ℕ) (q : Place) (b : Bool) → IsReadyWith (levels_in v.flow) v says t.0 b n q → IsSeatOf n q b
    seat-ready n q b w =
        let s = seat-at d plan pool o v io n k t q at w.job in
        let spot = spot-at v.flow.steps s.0 t (ap (slice_get v.flow.steps) s.2 ∙ at) ∙ ap (λ p. (t.0, p)) s.3 in
        record {
          seat = s.0;
          there = s.1;
          of_step = s.2;
          place = s.3;
          ready = subst (λ x. IsReadyJob (levels_in v.flow) v x) (sym spot) w.ready;
          binds =
              subst (BindsFault v s.0)
              ((λ i. is_faulty_now o.frame.intakes (s.2 i, s.3 i)) ∙ w.said)
              (binds-said n s.0 s.1);
        }

    -- and a ready seat of the step is one of the frame's ready jobs
    pub ready-seat : (n : ℕ) (s : Seat) (b : Bool) → slice_get o.seats.seats n ≡ Some s → s.step ≡ k → IsReadySeat v s
        → is_faulty_now o.frame.intakes (s.step, s.place) ≡ b → IsReadyWith (levels_in v.flow) v says t.0 b n s.place
    ready-seat n s b there same ready said =
        let here : IsStepAt v s.step t = ap (slice_get v.flow.steps) same ∙ at in
        record {
          job = numbered-step d plan pool o v io n s there t here;
          ready = subst (λ x. IsReadyJob (levels_in v.flow) v x) (spot-at v.flow.steps s t here) ready;
          said = ap (λ m. is_faulty_now o.frame.intakes (m, s.place)) (sym same) ∙ said;
        }

    -- ---- the first that may begin

    module _ (limit : ℕ) (few : running_count k o.seats.seats < limit) where
      pub begins-first : (u : Option ℕ) → IsFirstOfStep (levels_in v.flow) v says t.0 false u
          → IsFirstAt o.seats.seats (CanBegin v o.seats.seats limit) k u
      begins-first None none =
          λ n s there same can.
          none n s.place (ready-seat n s false there same can.1 (said-is n s there false can.2))
      begins-first (Some n) f =
          let w = seat-ready n f.place false f.is in
          record {
            seat = w.seat;
            there = w.there;
            of_step = w.of_step;
            does = (subst (λ m. running_count m o.seats.seats < limit) (sym w.of_step) few, w.ready, w.binds);
            first = λ m s there same can.
                subst (λ q. place_before s.place q ≡ false) (sym w.place)
                (f.first m s.place (ready-seat m s false there same can.1 (said-is m s there false can.2)));
          }

    -- where as many run, none may
    pub none-begins : (limit : ℕ) → limit ≤ running_count k o.seats.seats
        → IsFirstAt o.seats.seats (CanBegin v o.seats.seats limit) k None
    none-begins limit many =
        λ n s there same can.
        let few = subst (λ m. running_count m o.seats.seats < limit) same can.0 in
        absurd (omega (arith, few, many))

-- ---- how many may run

-- the code's step of that number says it
pub limit-is : (plan : FlowPlan) (seen : List (Name × CodeStep)) → seen ≡ plan.flow.steps → (n : ℕ)
    → n < length (flow_view plan.flow).steps → (x : Name × CodeStep) → x ≡ get_or seen n x
    → (get_or seen n x).1.jobs ≡ step_limit (flow_view plan.flow) n
limit-is plan seen all n low x is =
    let listed : n < length plan.flow.steps =
    subst (λ l. n < l) (length-map plan.flow.steps (λ (y : Name × CodeStep). (y.0, step_view y.1))) low in
    let there = got-in seen plan.flow.steps n x all (subst (λ l. n < l) (sym (ap length all)) listed) is in
    ap (λ (y : Name × CodeStep). y.1.jobs) (sym is)
    ∙ sym
    (ap (λ o. option_map_or (λ (s : Name × Step). s.1.jobs) o 0)
    (get-map (λ (y : Name × CodeStep). (y.0, step_view y.1)) plan.flow.steps n x there))
