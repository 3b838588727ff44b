-- The list or passed fault that waits last is right as a level in all instances.
use Rattle.std.specs.Prelude.{◌≡◌, true, drop, ℕ, zero, suc, ◌-◌, ◌<◌, Bool, get_or, find, List, [], ◌∷◌, length, map, Option, None, Some, option_and_then, slice_get}
use Rattle.std.proofs.Common.{arith, sym, ap, ap₂, subst, ◌∙◌}
use Rattle.std.proofs.Math.Path.{fun_ext}
use Rattle.std.proofs.lemmas.Option.{none-some, same_Some, slice_get_within}
use Rattle.tv_lemmas.specs.Members.{In}
use Rattle.tv_value.specs.Nested.{Place, at, leaf, list}
use Rattle.tv_value.specs.Orders.{named, same_name}
use Rattle.tv_value.specs.Values.{ErrorDoc, JobName, Name, Scalar, fault}
use Rattle.tv_flow.specs.Flows.{Flow, Step}
use Rattle.tv_strategy.specs.Iterations.{Iteration, job, passed}
use Rattle.tv_strategy.specs.Origins.{Mark, Origin, Traced}
use Rattle.tv_model.specs.instance.Delivered.{Ported}
use Rattle.tv_model.specs.instance.Steps.{port_mismatch, strategy_of}
use Rattle.tv_check.specs.declared.plans.FlowPlan.{FlowPlan}
use Rattle.tv_frame.specs.Starts.{starts}
use Rattle.tv_match.specs.declared.kinds.Kind as kinds
use Rattle.tv_match.specs.Seen.{outcome_kind}
use Rattle.tv_matching.specs.Items.{Bound, Kind, Stopped, item, kind_of, passes}
use Rattle.tv_matching.specs.Matchers.{Outcome, fault_at}
use Rattle.tv_outputs.specs.Known.{Nodes}
use Rattle.tv_intake.specs.Intaken.{matcher_at, waiting_things}
use Rattle.tv_model.specs.instance.ByResults.{InstanceStep, Results}
use Rattle.tv_model.specs.instance.Events as events
use Rattle.tv_model.specs.instance.Events.{Event, event_place, known_by}
use Rattle.tv_model.specs.instance.Fitting.{FitsNode}
use Rattle.tv_model.specs.instance.Legality.{IsLegalNext, node_of}
use Rattle.tv_framing.proofs.Frames.{in-finds, known-stands, steps-distinct}
use Rattle.tv_framing.specs.Views.{InAll, View, steps_with}
use Rattle.tv_framing.specs.matches.Stated.{OfStep}
use Rattle.tv_framing.specs.matches.Waiting.{waiting_of}
use Rattle.tv_framing.proofs.matches.Steps.{IsMadeOf}
use Rattle.tv_frame.specs.Levels.{CameFrom, FitsThere, Level, What, came, closed}
use Rattle.tv_frame.specs.declared.frame.Frame.{Frame}
use Rattle.tv_frame.specs.Calls.{IsReadyToSettle, Settles}
use Rattle.tv_frame.specs.Kept.{Keeps, followed_by}
use Rattle.tv_frame.specs.LastLevels.{IsLevelOf, IsListOrFault, IsWhat}
use Rattle.tv_frame.specs.Tables.{step_starts}
use Rattle.tv_frame.proofs.Faulting.{known-at, made-at}
use Rattle.tv_frame.proofs.FaultingSteps.{IsKnownAt, starts-names}
use Rattle.tv_frame.proofs.Waiting.{waiting-at}

-- ---- a passed fault

pair-at : (xs : List (Name × ℕ)) (l : ℕ) (n : Name) (a : ℕ) → slice_get (map (λ (x : Name × ℕ). x.1) xs) l ≡ Some a → get_or (map (λ (x : Name × ℕ). x.0) xs) l [] ≡ n → slice_get xs l ≡ Some (n, a)
pair-at [] l n a e h = absurd (none-some a e)
pair-at (x ∷ xs) zero n a e h = ap₂ (λ (m : Name) (b : ℕ). Some (m, b)) h (same_Some x.1 a e)
pair-at (x ∷ xs) (suc l) n a e h = pair-at xs l n a e h

abbrev stopped : Stopped → Kind Bound Stopped
stopped z = passes z

same-stop : (y z : Stopped) → stopped y ≡ stopped z → y ≡ z
same-stop y z h = cc

same-mark : (m n : Option Mark) (d e : ErrorDoc) → stopped (m, d) ≡ stopped (n, e) → m ≡ n
same-mark m n d e h = ap (λ (z : Stopped). z.0) (same-stop (m, d) (n, e) h)

module _ (flow : Flow) (s : Name × Step) (f : InstanceStep) (made : IsMadeOf flow s f) (known : Origin → Bool) (q : Place) (l : ℕ) (k : IsKnownAt flow s f known q l) where
  begins-so : slice_get (starts (port_mismatch f.step.inputs) 0 (strategy_of s.1)) l ≡ Some (k.name, k.start)
  begins-so =
      ap (λ ports. slice_get (starts ports 0 (strategy_of s.1)) l) (sym (fun_ext made.numbers))
      ∙ pair-at (step_starts flow s) l k.name k.start k.start_is (ap (λ ns. get_or ns l []) (starts-names _ 0 (strategy_of s.1)) ∙ k.leaf_is)

  came-from : (m : Option Mark) → k.fault.origin.mark ≡ m → CameFrom s.1 f.step q l m
  came-from m e = record {
    port = k.name;
    start = k.start;
    begins = begins-so;
    ported = k.port;
    is_port = k.input;
    origin = k.fault.origin;
    document = k.fault.document;
    stands = k.fault.is;
    above = k.above;
    mark = e;
  }

  -- wherever it came from by its leaf, that is known
  pub came-known : (m : Option Mark) (c : CameFrom s.1 f.step q l m) → known c.origin ≡ true
  came-known m c =
      let same : ◌≡◌ {A = Name × ℕ} (k.name, k.start) (c.port, c.start) = same_Some (k.name, k.start) (c.port, c.start) (sym begins-so ∙ c.begins) in
      let port : k.port ≡ c.ported = same_Some k.port c.ported (sym k.input ∙ ap (λ (x : Name × ℕ). named x.0 f.step.inputs) same ∙ c.is_port) in
      let stands : ◌≡◌ {A = Option Traced} (Some (leaf k.fault.origin (fault k.fault.document))) (Some (leaf c.origin (fault c.document))) =
      sym k.fault.is ∙ ap₂ (λ (p : Ported) (x : Name × ℕ). at p.value (drop x.1 q)) port same ∙ c.stands
      in
      subst (λ o. known o ≡ true) (same-origin stands) k.fault.knows
    where
      same-origin : {a b : Origin} {x y : Scalar} → ◌≡◌ {A = Option Traced} (Some (leaf a x)) (Some (leaf b y)) → a ≡ b
      same-origin h = cc

  -- it stands in the step's iteration, and came from its leaf
  pub came-there : FitsThere s.1 f.step q (came l) (at f.step.iteration q)
  came-there = let st = known-stands known f.step.iteration (item q (passes (k.fault.origin.mark, k.fault.document))) k.passed in by st.0 st.1 st.2
    where
      by : (t : Iteration) → at f.step.iteration q ≡ Some t → passes (k.fault.origin.mark, k.fault.document) ≡ kind_of t → FitsThere s.1 f.step q (came l) (at f.step.iteration q)
      by (leaf r (job b)) e g = absurd (cc)
      by (leaf r (passed m d)) e g = subst (FitsThere s.1 f.step q (came l)) (sym e) (came-from m (same-mark k.fault.origin.mark m k.fault.document d g))
      by (list r ts) e g = absurd (cc)

-- ---- a closed list

-- what a list was closed with is its length
pub closed-there : (instance : JobName) (fs : List InstanceStep) (es : events.Events) (s : Name × Step) (q : Place) (m : ℕ) → IsLegalNext instance fs es (events.closed s.0 q m) → (f : InstanceStep) → find (λ (g : InstanceStep). same_name f.step.step g.step.step) fs ≡ Some f → f.step.step ≡ s.0 → FitsThere s.1 f.step q (closed m) (at f.step.iteration q)
closed-there instance fs es s q m legal f finds e = by (at f.step.iteration q) (subst (FitsNode (events.closed s.0 q m)) here legal.fits)
  where
    here : node_of fs (events.closed s.0 q m) ≡ at f.step.iteration q
    here =
        ap (λ (n : Name). option_and_then (λ (g : InstanceStep). at g.step.iteration q) (find (λ (g : InstanceStep). same_name n g.step.step) fs)) (sym e)
        ∙ ap (option_and_then (λ (g : InstanceStep). at g.step.iteration q)) finds

    by : (o : Option Iteration) → FitsNode (events.closed s.0 q m) o → FitsThere s.1 f.step q (closed m) o
    by None h = h
    by (Some (leaf r x)) h = h
    by (Some (list r ts)) h = h

-- ---- the thing that waits last

abbrev thing_of : ℕ → Outcome → ℕ × Outcome
thing_of n o = (n, o)

module _ (flows : List (Name × Flow)) (plan : FlowPlan) (pool : Nodes) (f : Frame) (v : View) (n : ℕ) (s : Name × Step) (e : Event) (ready : IsReadyToSettle flows plan pool f v n s e) where
  abbrev keeps : Keeps flows plan pool f v
  keeps = ready.ready.keeps

  abbrev last : ℕ
  last = length (waiting_things f.intakes) - 1

  pub some-waits : 0 < length (waiting_things f.intakes)
  some-waits = let l = slice_get_within (waiting_things f.intakes) last (n, ready.outcome) ready.last in omega (arith, l)

  waits-here : (o : Outcome) → ready.outcome ≡ o → In o (waiting_of v.events s.0 (followed_by (matcher_at f.intakes n)))
  waits-here o h =
      let w = waiting-at flows plan pool f v keeps last n o (ready.last ∙ ap (λ y. Some (thing_of n y)) h) in
      subst (λ (t : Name × Step). In o (waiting_of v.events t.0 (followed_by (matcher_at f.intakes n)))) (same_Some w.step s (sym w.at ∙ ready.ready.at)) w.waits

  module _ (at_last m : ℕ) (q : Place) (kind : kinds.Kind) (is_last : at_last ≡ last) (thing : slice_get (waiting_things f.intakes) at_last ≡ Some (m, outcome_kind q kind)) where
    same : thing_of n ready.outcome ≡ thing_of m (outcome_kind q kind)
    same = same_Some (thing_of n ready.outcome) (thing_of m (outcome_kind q kind)) (sym ready.last ∙ ap (slice_get (waiting_things f.intakes)) (sym is_last) ∙ thing)

    outcome-is : ready.outcome ≡ outcome_kind q kind
    outcome-is = ap (λ (x : ℕ × Outcome). x.1) same

    settles-it : Settles s e (outcome_kind q kind)
    settles-it = subst (Settles s e) outcome-is ready.settles

    pub no-job : IsListOrFault kind
    no-job = by kind settles-it
      where
        by : (k : kinds.Kind) → Settles s e (outcome_kind q k) → IsListOrFault k
        by (kinds.Kind.Job b) h = h
        by (kinds.Kind.Closed j) h = tt
        by (kinds.Kind.Passed l) h = tt

    pub last-is_level : (l : Level) → l.step ≡ m → l.place ≡ q → IsWhat kind l.what → IsLevelOf v n s e l
    last-is_level l step place what = by kind settles-it outcome-is what
      where
        of_step : l.step ≡ n
        of_step = step ∙ sym (ap (λ (x : ℕ × Outcome). x.0) same)

        there : (w : What) → l.what ≡ w → InAll v (λ instance results fs. OfStep s.0 fs (λ g. FitsThere s.1 g.step q w (at g.step.iteration q))) → InAll v (λ instance results fs. OfStep s.0 fs (λ g. FitsThere s.1 g.step l.place l.what (at g.step.iteration l.place)))
        there w is h instance results depth x g i named =
            subst (λ p. FitsThere s.1 g.step p l.what (at g.step.iteration p)) (sym place)
            (subst (λ u. FitsThere s.1 g.step q u (at g.step.iteration q)) (sym is) (h instance results depth x g i named))

        not-came : (j k : ℕ) → closed j ≡ came k → ⊥
        not-came j k h = cc

        same_leaf : (j k : ℕ) → came j ≡ came k → j ≡ k
        same_leaf j k h = cc

        by : (k : kinds.Kind) → Settles s e (outcome_kind q k) → ready.outcome ≡ outcome_kind q k → IsWhat k l.what → IsLevelOf v n s e l
        by (kinds.Kind.Job b) h o w = absurd h
        by (kinds.Kind.Closed j) h o w = record {
          of_step = of_step;
          place = place ∙ sym (ap event_place h);
          fits =
              there (closed j) w
              (λ instance results depth x g i named.
              let fs = steps_with v instance results in
              closed-there instance fs v.events s q j (subst (IsLegalNext instance fs v.events) h (ready.ready.next.legal instance results depth (closed-extends results x))) g
              (in-finds fs (steps-distinct v instance results) g i) named);
          known = λ instance results depth x g i named k y m c. absurd (not-came j k (sym w ∙ y));
        }
          where
            closed-extends : (results : Results) → events.Extends results v.events → events.Extends results (e ∷ v.events)
            closed-extends results x = subst (λ y. events.Extends results (y ∷ v.events)) (sym h) x
        by (kinds.Kind.Passed k) h o w = record {
          of_step = of_step;
          place = place ∙ sym (ap event_place h.1);
          fits =
              there (came k) w
              (λ instance results depth x g i named.
              came-there v.flow s g (made-at flows plan pool f v n s keeps ready.ready.at q k (waits-here (fault_at q k) o) instance results depth g i named)
              (known_by instance v.events) q k
              (known-at flows plan pool f v n s keeps ready.ready.at q k (waits-here (fault_at q k) o) instance results depth x g i named));
          known = λ instance results depth x g i named j y m.
              subst (λ p. (c : CameFrom s.1 g.step p j m) → known_by instance v.events c.origin ≡ true) (sym place)
              (subst (λ a. (c : CameFrom s.1 g.step q a m) → known_by instance v.events c.origin ≡ true) (same_leaf k j (sym w ∙ y))
              (came-known v.flow s g (made-at flows plan pool f v n s keeps ready.ready.at q k (waits-here (fault_at q k) o) instance results depth g i named)
              (known_by instance v.events) q k
              (known-at flows plan pool f v n s keeps ready.ready.at q k (waits-here (fault_at q k) o) instance results depth x g i named) m));
        }
