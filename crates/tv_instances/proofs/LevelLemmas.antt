-- What is kept of lists and passed faults stays right with each event, and is all that there is once the instance has ended.
use Rattle.std.specs.Prelude.{◌≡◌, refl, ℕ, ◌<◌, ◌&&◌, ◌||◌, ◌++◌, ◌∷◌, [], Bool, false, List, None, Option, Some, length, map, slice_get, true}
use Rattle.std.specs.Cmp.Lexicographic.{bytes_decides}
use Rattle.std.proofs.Common.{inl, sym, ap, subst, ◌∙◌}
use Rattle.std.proofs.lemmas.Bool.{and_parts, or_right, true≢false}
use Rattle.std.proofs.lemmas.Option.{same_Some, slice_get_within}
use Rattle.tv_lemmas.specs.Members.{In}
use Rattle.tv_lemmas.proofs.Members.{each_in, in-append, in-left, in-right, of-map}
use Rattle.tv_lemmas.proofs.Cases.{on_either}
use Rattle.tv_value.specs.Nested.{Place, at, leaf, list}
use Rattle.tv_value.specs.Orders.{same_name}
use Rattle.tv_value.specs.Values.{JobName, Name, Value}
use Rattle.tv_flow.specs.Flows.{Flow, Step}
use Rattle.tv_strategy.specs.Iterations.{Iteration, job, passed}
use Rattle.tv_strategy.specs.Origins.{Origin}
use Rattle.tv_model.specs.instance.Delivered.{StepMeaning}
use Rattle.tv_model.specs.instance.Steps.{spot}
use Rattle.tv_naming.specs.Numbers.{position}
use Rattle.tv_naming.proofs.FormedParts.{steps-ascend}
use Rattle.tv_cell.specs.declared.piece.Piece.{Piece}
use Rattle.tv_check.specs.declared.plans.FlowPlan.{FlowPlan}
use Rattle.tv_outputs.specs.Known.{Nodes}
use Rattle.tv_model.specs.instance.ByResults.{InstanceStep, Results, step_of}
use Rattle.tv_model.specs.instance.Counting.{whole_by}
use Rattle.tv_model.specs.instance.Events as events
use Rattle.tv_model.specs.instance.Events.{Event, Events, Extends, event_place, event_step, fault_set, gave, has_level, known_by, levels_at, took}
use Rattle.tv_model.specs.instance.Wholeness.{all_whole, is_whole, origin_at}
use Rattle.tv_model.proofs.Rising.{whole-inside}
use Rattle.tv_frame.proofs.instances.Events.{hits, level-known, one-more as one-known}
use Rattle.tv_frame.specs.Answers.{has_ended_now, is_settlement}
use Rattle.tv_frame.specs.Frames.{Comes}
use Rattle.tv_frame.specs.FramingViews.{AreOfDepth, View, steps_with}
use Rattle.tv_frame.proofs.Arriving.{extends-parts}
use Rattle.tv_frame.proofs.Endings.{whole-in_all}
use Rattle.tv_frame.specs.matches.Steps.{IsStepAt}
use Rattle.tv_frame.proofs.turns.Ranks.{number-of}
use Rattle.tv_frame.specs.Levels.{FaultsAreKnown, Fit, FitsThere, IsAmong, IsFromKnown, IsNoJob, Level}
use Rattle.tv_frame.specs.declared.frame.Frame.{Frame}
use Rattle.tv_frame.specs.Kept.{AreOuts, Keeps}
use Rattle.tv_frame.specs.LastLevels.{IsLevelOf}
use Rattle.tv_frame.specs.Tables.{levels_in}
use Rattle.tv_frame.proofs.Found.{ended-whole}
use Rattle.tv_frame.proofs.Keeping.{kept-ranked, kept-wired}
use Rattle.tv_instances.specs.Levels.{AreItsLevels, AreKept}

-- ---- the view

-- the known jobs make no difference
abbrev bare : Flow → List (Name × Value) → Events → View
bare f is es = record { flow = f; inputs = is; events = es; jobs = [] }

kept-so : (f g : Flow) (is js : List (Name × Value)) (ds es : Events) (ls : List Level) → g ≡ f → js ≡ is → es ≡ ds → AreKept (bare f is ds) ls
    → AreKept (bare g js es) ls
kept-so f g is js ds es ls a b c k =
    subst (λ x. AreKept (bare x js es) ls) (sym a)
    (subst (λ x. AreKept (bare f x es) ls) (sym b) (subst (λ x. AreKept (bare f is x) ls) (sym c) k))

moved : (v w : View) (es : Events) (ls : List Level) → w.flow ≡ v.flow → w.inputs ≡ v.inputs → w.events ≡ es
    → AreKept (record v { events = es }) ls → AreKept w ls
moved v w es ls flow inputs events k =
    let x = kept-so v.flow w.flow v.inputs w.inputs es w.events ls flow inputs events (record { fit = k.fit; faults = k.faults; all = k.all }) in
    record { fit = x.fit; faults = x.faults; all = x.all }

-- ---- at the start

pub none-kept : (v : View) → v.events ≡ [] → AreKept v []
none-kept v untold = record {
  fit = λ instance results depth x. record { of_step = λ l i. absurd i; there = λ l s f i. absurd i };
  faults = λ instance results depth x l s f i. absurd i;
  all = λ n s q at h. absurd (true≢false (sym h ∙ ap (λ es. has_level es s.0 q) untold));
}

-- ---- with an event

untold : (e : Event) (s : Name) (q : Place) (b : Bool) → is_settlement e ≡ false → (levels_at s q e || b) ≡ true → b ≡ true
untold (gave t r vs) s q b none h = h
untold (events.closed t r n) s q b none h = absurd (true≢false none)
untold (fault_set t r d) s q b none h = absurd (true≢false none)
untold (took t r) s q b none h = h

spot-told : (s t : Name) (q r : Place) → (same_name s t && same_name q r) ≡ true → (s ≡ t) × (q ≡ r)
spot-told s t q r h =
    let p = and_parts (same_name s t) (same_name q r) h in ((bytes_decides s t).0 p.0, (bytes_decides q r).0 p.1)

told-there : (e : Event) (s : Name) (q : Place) → levels_at s q e ≡ true → (s ≡ event_step e) × (q ≡ event_place e)
told-there (gave t r vs) s q h = absurd (true≢false (sym h))
told-there (events.closed t r n) s q h = spot-told s t q r h
told-there (fault_set t r d) s q h = spot-told s t q r h
told-there (took t r) s q h = absurd (true≢false (sym h))

module _ (v : View) (ls : List Level) (k : AreKept v ls) (e : Event) where
  abbrev es : Events
  es = e ∷ v.events

  older : (results : Results) → Extends results es → Extends results v.events
  older results x = (extends-parts results e v.events x).1

  later-known : (instance : JobName) (o : Origin) → known_by instance v.events o ≡ true → known_by instance es o ≡ true
  later-known instance o h = one-known instance e v.events o ∙ or_right (hits instance e o) (known_by instance v.events o) h

  -- one that settles nothing
  pub still-kept : (w : View) (more : ℕ) → Comes v w e more → is_settlement e ≡ false → AreKept w ls
  still-kept w more c none =
      moved v w es ls c.flow c.inputs c.events
      (record {
        fit = λ instance results depth x. k.fit instance results depth (older results x);
        faults = λ instance results depth x l s f i here among name a w m c.
            later-known instance c.origin (k.faults instance results depth (older results x) l s f i here among name a w m c);
        all = λ n s q at h. k.all n s q at (untold e s.0 q (has_level v.events s.0 q) none h);
      })

  -- one that settles this
  module _ (n : ℕ) (s : Name × Step) (l : Level) (is : IsLevelOf v n s e l) (at_n : IsStepAt v n s) (named : event_step e ≡ s.0)
      (number : position s.0 v.flow.steps ≡ n)
      (numbers : (m : ℕ) (t : Name × Step) → IsStepAt v m t → position t.0 v.flow.steps ≡ m) where
    abbrev pub one-more : List Level
    one-more = ls ++ l ∷ []

    fits-more : (instance : JobName) (results : Results) → AreOfDepth v instance results → Extends results es
        → Fit v.flow (map step_of (steps_with v instance results)) one-more
    fits-more instance results depth x =
        let fs = steps_with v instance results in
        let before = k.fit instance results depth (older results x) in
        record {
          of_step = λ m i.
              on_either (in-append m ls (l ∷ []) i) (before.of_step m)
              (λ j. on_either j (λ same. subst (λ a. a < length v.flow.steps) (sym (ap (λ (y : Level). y.step) same ∙ is.of_step))
              (slice_get_within v.flow.steps n s at_n)) (λ z. absurd z));
          there = λ m t f i here among name.
              on_either (in-append m ls (l ∷ []) i) (λ j. before.there m t f j here among name)
              (λ j. on_either j
              (λ same. new fs (is.fits instance results depth (older results x)) m same t here f among name) (λ z. absurd z));
        }
      where
        new : (fs : List InstanceStep)
            → ((g : InstanceStep) → In g fs → g.step.step ≡ s.0 → FitsThere s.1 g.step l.place l.what (at g.step.iteration l.place))
            → (m : Level) → m ≡ l → (t : Name × Step) → slice_get v.flow.steps m.step ≡ Some t → (f : StepMeaning)
            → In f (map step_of fs) → f.step ≡ t.0 → FitsThere t.1 f m.place m.what (at f.iteration m.place)
        new fs fits m same t here f among name =
            let own : t ≡ s = same_Some t s (sym here ∙ ap (slice_get v.flow.steps) (ap (λ (y : Level). y.step) same ∙ is.of_step) ∙ at_n) in
            let g = of-map step_of f fs among in
            subst (λ (u : Step). FitsThere u f m.place m.what (at f.iteration m.place)) (sym (ap (λ (y : Name × Step). y.1) own))
            (subst (λ (y : Level). FitsThere s.1 f y.place y.what (at f.iteration y.place)) (sym same)
            (subst (λ (y : StepMeaning). FitsThere s.1 y l.place l.what (at y.iteration l.place)) (sym g.2)
            (fits g.0 g.1 (ap (λ (y : StepMeaning). y.step) (sym g.2) ∙ name ∙ ap (λ (y : Name × Step). y.0) own))))

    faults-more : (instance : JobName) (results : Results) → AreOfDepth v instance results → Extends results es
        → FaultsAreKnown (known_by instance es) v.flow (map step_of (steps_with v instance results)) one-more
    faults-more instance results depth x m t f i here among name a w p c =
        later-known instance c.origin
        (on_either (in-append m ls (l ∷ []) i) (λ j. k.faults instance results depth (older results x) m t f j here among name a w p c)
        (λ j. on_either j
        (λ same. new (steps_with v instance results) (is.known instance results depth (older results x)) m same t here f among name a w p c) (λ z. absurd z)))
      where
        new : (fs : List InstanceStep)
            → ((g : InstanceStep) → In g fs → g.step.step ≡ s.0 → IsFromKnown (known_by instance v.events) s.1 g.step l.place l.what)
            → (m : Level) → m ≡ l → (t : Name × Step) → slice_get v.flow.steps m.step ≡ Some t → (f : StepMeaning)
            → In f (map step_of fs) → f.step ≡ t.0 → IsFromKnown (known_by instance v.events) t.1 f m.place m.what
        new fs knows m same t here f among name =
            let own : t ≡ s = same_Some t s (sym here ∙ ap (slice_get v.flow.steps) (ap (λ (y : Level). y.step) same ∙ is.of_step) ∙ at_n) in
            let g = of-map step_of f fs among in
            subst (λ (u : Step). IsFromKnown (known_by instance v.events) u f m.place m.what) (sym (ap (λ (y : Name × Step). y.1) own))
            (subst (λ (y : Level). IsFromKnown (known_by instance v.events) s.1 f y.place y.what) (sym same)
            (subst (λ (y : StepMeaning). IsFromKnown (known_by instance v.events) s.1 y l.place l.what) (sym g.2)
            (knows g.0 g.1 (ap (λ (y : StepMeaning). y.step) (sym g.2) ∙ name ∙ ap (λ (y : Name × Step). y.0) own))))

    among-more : (m : ℕ) (t : Name × Step) (q : Place) → IsStepAt v m t → has_level es t.0 q ≡ true → IsAmong one-more m q
    among-more m t q here h = by (levels_at t.0 q e) refl h
      where
        by : (b : Bool) → levels_at t.0 q e ≡ b → (b || has_level v.events t.0 q) ≡ true → IsAmong one-more m q
        by true a h =
            let p = told-there e t.0 q a in
            record {
              level = l;
              among = in-right l ls (l ∷ []) (inl refl);
              of_step = is.of_step ∙ sym number ∙ ap (λ (y : Name). position y v.flow.steps) (sym (p.0 ∙ named)) ∙ numbers m t here;
              place = is.place ∙ sym p.1;
            }
        by false a h =
            let o = k.all m t q here h in
            record { level = o.level; among = in-left o.level ls (l ∷ []) o.among; of_step = o.of_step; place = o.place }

    pub kept-more : (w : View) (more : ℕ) → Comes v w e more → AreKept w one-more
    kept-more w more c = moved v w es one-more c.flow c.inputs c.events (record { fit = fits-more; faults = faults-more; all = among-more })

-- ---- at the end

-- where it has ended by one view it has by another
pub ended-too : (v w : View) (o : Option (List Piece)) (a b : Bool) → AreOuts v a o → a ≡ true → AreOuts w b o → b ≡ true
ended-too v w None a b h e k = absurd (true≢false (sym e ∙ h))
ended-too v w (Some ps) a b h e k = k.0

module _ (flows : List (Name × Flow)) (plan : FlowPlan) (pool : Nodes) (f : Frame) (v : View) (keeps : Keeps flows plan pool f v) where
  -- a step has the number of its name
  pub own-number : (m : ℕ) (t : Name × Step) → IsStepAt v m t → position t.0 v.flow.steps ≡ m
  own-number m t here = number-of v.flow.steps m t (steps-ascend v.flow (kept-ranked flows plan pool f v keeps).formed) here

  module _ (ended : has_ended_now (levels_in v.flow) v ≡ true) where
    known-there : (instance : JobName) (s : Name) (q : Place) (t : Iteration)
        → is_whole (spot instance s) (known_by instance v.events) q t ≡ true → IsNoJob t → has_level v.events s q ≡ true
    known-there instance s q (leaf r (job b)) h u = absurd u
    known-there instance s q (leaf r (passed m d)) h u = level-known instance v.events s q ∙ h
    known-there instance s q (list r ts) h u =
        level-known instance v.events s q
        ∙ (and_parts (known_by instance v.events (origin_at (spot instance s) q (list r ts)))
        (all_whole (spot instance s) (known_by instance v.events) q 0 ts) h).0

    told-all : (instance : JobName) (results : Results) → AreOfDepth v instance results → Extends results v.events
        → (n : ℕ) (s : Name × Step) (g : InstanceStep) (q : Place) (t : Iteration) → IsStepAt v n s
        → In g (steps_with v instance results) → g.step.step ≡ s.0 → at g.step.iteration q ≡ Some t → IsNoJob t
        → has_level v.events s.0 q ≡ true
    told-all instance results depth x n s g q t here among named there u =
        let known : Origin → Bool = known_by instance v.events in
        let whole : is_whole (spot instance g.step.step) known [] g.step.iteration ≡ true =
        each_in (λ (y : InstanceStep). is_whole (spot instance y.step.step) known [] y.step.iteration ≡ whole_by v.events y.step.step (levels_in v.flow y.step.step) []) (steps_with v instance results) (whole-in_all flows v keeps.frame keeps.of_depths.flow keeps.of_depths.inputs (levels_in v.flow) keeps.of_depths.levels_are instance results depth x) g among
        ∙ ap (λ y. whole_by v.events y (levels_in v.flow y) []) named
        ∙ ended-whole v (kept-wired flows plan pool f v keeps) ended n s here in
        ap (λ y. has_level v.events y q) (sym named)
        ∙ known-there instance g.step.step q t (whole-inside (spot instance g.step.step) known g.step.iteration [] q t there whole) u

    pub all-kept : (ls : List Level) → AreKept v ls → AreItsLevels v ls
    all-kept ls k instance results depth x = record {
      fit = k.fit instance results depth x;
      all = λ n s m q t here among named there u.
          let g = of-map step_of m (steps_with v instance results) among in
          k.all n s q here
          (told-all instance results depth x n s g.0 q t here g.1 (ap (λ (y : StepMeaning). y.step) (sym g.2) ∙ named)
          (ap (λ (y : StepMeaning). at y.iteration q) (sym g.2) ∙ there) u);
    }
