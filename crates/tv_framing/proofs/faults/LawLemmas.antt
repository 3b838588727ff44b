-- The laws as they are stated.
use Rattle.std.specs.List.{list_all, list_any}
use Rattle.std.specs.Prelude.{◌≡◌, refl, ℕ, suc, ◌-◌, true, false, List, [], ◌∷◌, ◌++◌, find, map, Some, slice_get}
use Rattle.std.proofs.Common.{arith, sym, ap, subst, ◌∙◌}
use Rattle.std.proofs.lemmas.List.Sorted.{IsPermutation-sym}
use Rattle.std.proofs.lemmas.Option.{same_Some}
use Rattle.tv_lemmas.specs.Members.{Each, In}
use Rattle.tv_lemmas.proofs.Members.{each_in, get-in, in-map, in_each, of-all}
use Rattle.tv_value.specs.Nested.{Place}
use Rattle.tv_value.specs.Orders.{same_name}
use Rattle.tv_value.specs.Values.{JobName, Name, holds_fault}
use Rattle.tv_flow.specs.Flows.{Flow, Step, StepInput}
use Rattle.tv_strategy.specs.Conditions.{EachOnce}
use Rattle.tv_strategy.specs.Measures.{leaf_names}
use Rattle.tv_strategy.specs.Origins.{Traced}
use Rattle.tv_strategy.proofs.Sources.{each-append}
use Rattle.tv_strategy.proofs.Each.{each-weaken}
use Rattle.tv_naming.proofs.FormedParts.{passes}
use Rattle.tv_model.specs.instance.Delivered.{Delivered, Ported, feed_delivers, at_port, wrapped}
use Rattle.tv_model.specs.instance.Steps.{endings_of, strategy_of}
use Rattle.tv_model.specs.Instances.{given_of}
use Rattle.tv_matching.specs.Items.{Bound, Item, Stopped, known_items}
use Rattle.tv_matching.specs.Matchers.{leaf_name}
use Rattle.tv_matching.specs.Told.{TellsFaults, Told, faulty_at}
use Rattle.tv_matching.proofs.Lists.{each-map}
use Rattle.tv_matching.proofs.Members.{each-permutes, in-permutes}
use Rattle.tv_matching.proofs.Onces.{each-flat}
use Rattle.tv_telling.specs.declared.ways.Event as code
use Rattle.tv_telling.specs.declared.ways.Whole.{Whole}
use Rattle.tv_telling.specs.Views.{whole_telling}
use Rattle.tv_check.specs.Ports.{levels_of}
use Rattle.tv_model.specs.instance.ByResults.{InstanceStep, PlacedJob, Results, iteration_on, ports_on, step_of}
use Rattle.tv_model.specs.instance.Events.{Event, Extends, event_step, known_by}
use Rattle.tv_framing.specs.Frames.{IsFrame, known_jobs}
use Rattle.tv_framing.specs.Insides.{Delivers}
use Rattle.tv_framing.specs.Stated.{IsOfDepths}
use Rattle.tv_framing.specs.Views.{AreOfDepth, View, steps_with}
use Rattle.tv_framing.proofs.Arriving.{extends-parts}
use Rattle.tv_framing.proofs.Frames.{in-finds, job-end, steps-distinct}
use Rattle.tv_framing.proofs.engine.Told.{wires-tell}
use Rattle.tv_framing.proofs.engine.Wires.{leaf-named}
use Rattle.tv_framing.specs.engine.AlongWires.{IsPortOf, of_leaf, told_along}
use Rattle.tv_framing.specs.engine.WiredFlows.{IsWired}
use Rattle.tv_framing.specs.keeping.NextEvents.{IsNextEvent}
use Rattle.tv_framing.specs.keeping.Told.{PortIsTold, StepIsTold}
use Rattle.tv_framing.proofs.starts.Instances.{IsStepOf, inputs-rise, ports-are, step-of}
use Rattle.tv_framing.proofs.starts.Leaves.{named-own}
use Rattle.tv_framing.proofs.starts.Starts.{at_first, feed-starts}
use Rattle.tv_framing.proofs.starts.Steps.{IsPlaced, all_depths, steps-placed}
use Rattle.tv_framing.specs.starts.Starts.{port_start, step_start}
use Rattle.tv_framing.specs.faults.Known.{IsTrueEvent, IsTrueWhole}
use Rattle.tv_framing.specs.feeds.Fed.{given_at}
use Rattle.tv_framing.specs.faults.Stated.{JobsHoldWhatIsSaid, StartIsTrue, TruthGoesOn, TruthStays}
use Rattle.tv_framing.specs.faults.Telling.{TellsTruly}
use Rattle.tv_framing.proofs.faults.Begins.{start-truly, wrapped-faults}
use Rattle.tv_framing.proofs.faults.Events.{event-feeds, feed-holds, port-truly}
use Rattle.tv_framing.proofs.faults.Jobs.{delivered, job-holds, node-job, values}
use Rattle.tv_framing.proofs.faults.Values.{bound-truly}
use Rattle.tv_framing.proofs.faults.Wires.{by-ports}

-- ---- what a port of a step is delivered

module _ (flows : List (Name × Flow)) (levels : Name → ℕ) (v : View) (depths : IsOfDepths flows levels v) (wired : IsWired v.flow) (n : ℕ) (s : Name × Step) (there : slice_get v.flow.steps n ≡ Some s) (instance : JobName) (results : Results) where
  abbrev all_steps : List InstanceStep
  all_steps = steps_with v instance results

  abbrev IsStep : InstanceStep → Type 0
  IsStep f = IsStepOf v.flow levels instance results v.inputs flows all_steps f s

  abbrev feed_of : List InstanceStep → Name × StepInput → Delivered
  feed_of before i = feed_delivers step_of (given_of v.flow v.inputs) before i.1.from

  port-value : (f : InstanceStep) (w : IsStep f) (values : Name → Traced) → Delivers f values → (i : Name × StepInput) → In i s.1.inputs → values i.0 ≡ (at_port i.1.depth (feed_of w.before i)).value
  port-value f w values d i g =
      each_in (λ (x : Name × Ported). values x.0 ≡ x.1.value) (ports_on (feed_delivers step_of (given_of v.flow v.inputs) w.before) s.1.inputs) (subst (Each (λ (x : Name × Ported). values x.0 ≡ x.1.value)) (ports-are v.flow levels instance results v.inputs flows all_steps f s w) d) (i.0, at_port i.1.depth (feed_of w.before i)) (in-map (λ (j : Name × StepInput). (j.0, at_port j.1.depth (feed_of w.before j))) i s.1.inputs g)

  leaf-of : (i : Name × StepInput) → In i s.1.inputs → list_any (same_name i.0) (leaf_names (strategy_of s.1)) ≡ true
  leaf-of i g =
      of-all (λ (j : Name × StepInput). list_any (same_name j.0) (leaf_names (strategy_of s.1))) s.1.inputs
      (passes (λ (t : Name × Step). list_all (λ (j : Name × StepInput). list_any (same_name j.0) (leaf_names (strategy_of t.1))) t.1.inputs) v.flow.steps n s wired.leaves there) i g

-- ---- the start

pub start-is_true : StartIsTrue
start-is_true flows levels v b n s there ts h instance results depth x f i e values d =
    let w = step-of flows levels v b.depths b.wired n s there instance results depth f i e in
    each-permutes (TellsFaults values) (step_start v.flow v.inputs s.1) ts (IsPermutation-sym ts (step_start v.flow v.inputs s.1) h)
    (each-flat (TellsFaults values) (port_start v.flow v.inputs) s.1.inputs
    (in_each (λ (j : Name × StepInput). Each (TellsFaults values) (port_start v.flow v.inputs j)) s.1.inputs
    (λ j g.
    let p = w.ports j g in
    start-truly (at_first instance) refl v.inputs values j.0 j.1.depth (feed_delivers step_of (given_of v.flow v.inputs) w.before j.1.from) j.1.from
    (feed-starts v.flow levels instance results v.inputs w.before w.made j.1.from p.found)
    (port-value flows levels v b.depths b.wired n s there instance results f w values d j g)
    (levels_of v.flow j.1) p.planned)))

-- ---- an event

pub truth-stays : TruthStays
truth-stays v s ts h e new instance results depth x = h instance results depth (extends-parts results e v.events x).1

module _ (flows : List (Name × Flow)) (levels : Name → ℕ) (v : View) (e : Event) (next : IsNextEvent flows levels v e) (wired : IsWired v.flow) (n : ℕ) (s : Name × Step) (there : slice_get v.flow.steps n ≡ Some s) (faults : Name → ℕ) (from : ℕ) (c : code.Event) (seen : IsTrueEvent levels v e faults from c) (ws : List Whole) (whole : Each (IsTrueWhole v.flow levels v.inputs (e ∷ v.events) s.1) ws) (instance : JobName) (results : Results) (depth : AreOfDepth v instance results) (x : Extends results (e ∷ v.events)) (f : InstanceStep) (w : IsStepOf v.flow levels instance results v.inputs flows (steps_with v instance results) f s) (values : Name → Traced) (d : Delivers f values) where
  abbrev feed_in : Name × StepInput → Delivered
  feed_in i = feed_delivers step_of (given_of v.flow v.inputs) w.before i.1.from

  its-value : (i : Name × StepInput) → In i s.1.inputs → values i.0 ≡ (at_port i.1.depth (feed_in i)).value
  its-value i g = port-value flows levels v next.depths wired n s there instance results f w values d i g

  -- a port that walks some levels isn't wrapped
  unwrapped : (i : Name × StepInput) (g : In i s.1.inputs) (m : ℕ) → levels_of v.flow i.1 ≡ suc m → values i.0 ≡ (feed_in i).value
  unwrapped i g m k =
      let none : i.1.depth - (feed_in i).depth ≡ 0 = less i.1.depth (feed_in i).depth m (sym (w.ports i g).planned ∙ k) in
      its-value i g ∙ ap (λ l. wrapped l (feed_in i).value) none
    where
      less : (a b c : ℕ) → b - a ≡ suc c → a - b ≡ 0
      less a b c h = omega (arith, h)

  along-port : (i : Name × StepInput) → In i s.1.inputs → Each (TellsFaults values) (of_leaf i.0 (told_along v.flow n s.1 (event_step e) c))
  along-port i g =
      let number = get-in i s.1.inputs g in
      let port : IsPortOf v.flow n s i = record { step = there; number = number.0; port = number.1 } in
      subst (Each (TellsFaults values))
      (sym (wires-tell v.flow n s i (given_at v.flow e) faults from e c (record { wired = wired; port = port; feeding = event-feeds flows levels v e next wired instance results depth x; event = seen.seen }) false))
      (port-truly flows levels v e next instance results depth x w.before w.stay faults from seen.whole_from seen.hold values i.0 (levels_of v.flow i.1) i.1.from (w.ports i g).found false (unwrapped i g))

  along : Each (TellsFaults values) (told_along v.flow n s.1 (event_step e) c)
  along =
      by-ports v.flow n s there (λ i g. leaf-of flows levels v next.depths wired n s there instance results i g) (event_step e) (event-feeds flows levels v e next wired instance results depth x) c (TellsFaults values) along-port

  one-whole : (y : Whole) → IsTrueWhole v.flow levels v.inputs (e ∷ v.events) s.1 y → TellsFaults values (whole_telling (strategy_of s.1) y)
  one-whole y h =
      let i = h.port in
      let name : leaf_name (strategy_of s.1) y.leaf ≡ i.0 = ap (leaf_name (strategy_of s.1)) h.leaf ∙ leaf-named i.0 (leaf_names (strategy_of s.1)) (leaf-of flows levels v next.depths wired n s there instance results i h.among) in
      let holds : holds_fault (values i.0) ≡ y.faulty =
      ap holds_fault (its-value i h.among)
      ∙ wrapped-faults (i.1.depth - (feed_in i).depth) (feed_in i).value
      ∙ feed-holds flows levels v e next instance results depth x w.before w.stay i.1.from (w.ports i h.among).found h.known
      ∙ sym h.faulty in
      bound-truly values (leaf_name (strategy_of s.1) y.leaf) [] y.faulty (subst (λ p. holds_fault (values p) ≡ y.faulty) (sym name) holds)

  pub event-truly : Each (TellsFaults values) (told_along v.flow n s.1 (event_step e) c ++ map (whole_telling (strategy_of s.1)) ws)
  event-truly =
      each-append (TellsFaults values) (told_along v.flow n s.1 (event_step e) c) (map (whole_telling (strategy_of s.1)) ws) along
      (each-map (TellsFaults values) (whole_telling (strategy_of s.1)) ws (each-weaken (IsTrueWhole v.flow levels v.inputs (e ∷ v.events) s.1) (λ y. TellsFaults values (whole_telling (strategy_of s.1) y)) one-whole ws whole))

pub truth-goes_on : TruthGoesOn
truth-goes_on flows levels v e next wired n s there ts h faults from c seen ws whole after p new instance results depth x f i name values d =
    let w = step-of flows levels v next.depths wired n s there instance results depth f i name in
    let more = told_along v.flow n s.1 (event_step e) c ++ map (whole_telling (strategy_of s.1)) ws in
    each-permutes (TellsFaults values) (ts ++ more) after (IsPermutation-sym after (ts ++ more) p)
    (each-append (TellsFaults values) ts more (h instance results depth (extends-parts results e v.events x).1 f i name values d)
    (event-truly flows levels v e next wired n s there faults from c seen ws whole instance results depth x f w values d))

-- ---- jobs

module _ (flows : List (Name × Flow)) (levels : Name → ℕ) (v : View) (frame : IsFrame v) (depths : IsOfDepths flows levels v) (wired : IsWired v.flow) (n : ℕ) (s : Name × Step) (there : slice_get v.flow.steps n ≡ Some s) (once : EachOnce (leaf_names (strategy_of s.1)) (leaf_names (strategy_of s.1))) (ts : List Told) (told : StepIsTold v s.0 ts) (truly : TellsTruly v s.0 ts) (q : Place) (known_job : In (s.0, q) v.jobs) (instance : JobName) (results : Results) (depth : AreOfDepth v instance results) (x : Extends results v.events) where
  abbrev its_steps : List InstanceStep
  its_steps = steps_with v instance results

  abbrev own_given : List (Name × Delivered)
  own_given = given_of v.flow v.inputs

  -- a job is one of its step
  job-name : (f : InstanceStep) → In f its_steps → (j : PlacedJob) → In j f.jobs → j.step ≡ f.step.step
  job-name f i j g =
      let own = (each_in (IsPlaced v.flow levels instance results own_given flows (all_depths flows levels v depths wired) its_steps) its_steps (steps-placed flows levels v depths wired instance results depth) f i).own in
      subst (λ (h : InstanceStep). In j h.jobs → j.step ≡ h.step.step) (sym own.is)
      (λ k. (node-job own.name own.step (endings_of step_of own.before own.step.after) (iteration_on (feed_delivers step_of own_given own.before) own.step) j k).name) g

  -- the known job is an item of the step's iteration
  job-known : (f : InstanceStep) → In f its_steps → f.step.step ≡ s.0 → (y : Item Bound Stopped) × In y (known_items (known_by instance v.events) f.step.iteration) × (y.place ≡ q)
  job-known f i e =
      let r = job-end (known_by instance v.events) its_steps s.0 q (in-permutes (s.0, q) (known_jobs (known_by instance v.events) its_steps) v.jobs (IsPermutation-sym v.jobs (known_jobs (known_by instance v.events) its_steps) (frame.known instance results depth x)) known_job) in
      let finds = λ (g : InstanceStep) (k : In g its_steps). in-finds its_steps (steps-distinct v instance results) g k in
      let same : r.0 ≡ f = same_Some r.0 f (sym (finds r.0 r.1) ∙ ap (λ m. find (λ (h : InstanceStep). same_name m h.step.step) its_steps) (r.2 ∙ sym e) ∙ finds f i) in
      (r.3, subst (λ (h : InstanceStep). In r.3 (known_items (known_by instance v.events) h.step.iteration)) same r.4, r.5)

  one-job : (f : InstanceStep) → In f its_steps → (j : PlacedJob) → In j f.jobs → j.step ≡ s.0 → j.place ≡ q → faulty_at (strategy_of s.1) ts q ≡ list_any (λ y. holds_fault y) j.inputs
  one-job f i j g a b =
      let name : f.step.step ≡ s.0 = sym (job-name f i j g) ∙ a in
      let w = step-of flows levels v depths wired n s there instance results depth f i name in
      let ports = ports-are v.flow levels instance results v.inputs flows its_steps f s w in
      let rise = λ (k : Name × StepInput) (m : In k s.1.inputs). named-own (λ (h : Name × StepInput). at_port h.1.depth (feed_delivers step_of own_given w.before h.1.from)) s.1.inputs (inputs-rise flows levels v depths wired n s there) k m in
      let node = node-job s.0 s.1 (endings_of step_of w.before s.1.after) (iteration_on (feed_delivers step_of own_given w.before) s.1) j (subst (λ (h : InstanceStep). In j h.jobs) w.is g) in
      let vs = values v.flow levels instance results v.inputs flows its_steps f s w rise v.events ts in
      let all_delivered = delivered v.flow levels instance results v.inputs flows its_steps f s w rise v.events ts in
      let true_of = truly instance results depth x f i name vs (subst (Each (λ (d : Name × Ported). vs d.0 ≡ d.1.value)) (sym ports) all_delivered) in
      let told_of = subst (Each (PortIsTold instance v.events ts)) ports (told instance results depth x f i name) in
      let y = job-known f i name in
      let known_there = subst (λ (h : InstanceStep). In y.0 (known_items (known_by instance v.events) h.step.iteration)) w.is y.1 in
      ap (faulty_at (strategy_of s.1) ts) (sym b)
      ∙ job-holds v.flow levels instance results v.inputs flows its_steps f s w rise v.events ts told_of true_of once j node y.0 known_there (y.2 ∙ sym b)

pub jobs-hold_what_is_said : JobsHoldWhatIsSaid
jobs-hold_what_is_said flows levels v frame depths wired n s there once ts told truly q known_job instance results depth x =
    let fs = steps_with v instance results in
    in_each (λ (f : InstanceStep). Each (λ (j : PlacedJob). j.step ≡ s.0 → j.place ≡ q → faulty_at (strategy_of s.1) ts q ≡ list_any (λ y. holds_fault y) j.inputs) f.jobs) fs
    (λ f i. in_each (λ (j : PlacedJob). j.step ≡ s.0 → j.place ≡ q → faulty_at (strategy_of s.1) ts q ≡ list_any (λ y. holds_fault y) j.inputs) f.jobs
    (λ j g a b. one-job flows levels v frame depths wired n s there once ts told truly q known_job instance results depth x f i j g a b))
