-- One step of an instance, made after those before it: its ports, outputs and jobs.
use Rattle.std.specs.Prelude.{◌≡◌, refl, ℕ, suc, ◌+◌, List, [], ◌∷◌, map, Some}
use Rattle.std.proofs.Common.{sym, ap, subst, ◌∙◌}
use Rattle.tv_lemmas.specs.Members.{Each}
use Rattle.tv_lemmas.proofs.Members.{each_in, in_each, of-flat}
use Rattle.tv_value.specs.Orders.{named}
use Rattle.tv_value.specs.Values.{HasDepth, JobName, Name, Value}
use Rattle.tv_value.specs.Nested.{Place, nodes}
use Rattle.tv_flow.specs.Flows.{Flow, Step, StepInput}
use Rattle.tv_strategy.specs.Iterations.{Iteration}
use Rattle.tv_strategy.specs.Levels.{HasLevels}
use Rattle.tv_strategy.specs.Measures.{DotsAgree, strategy_depth}
use Rattle.tv_strategy.proofs.Each.{each-weaken}
use Rattle.tv_gate.specs.Outcomes.{Giving}
use Rattle.tv_model.specs.instance.Delivered.{Delivered, Ported, at_port}
use Rattle.tv_model.specs.instance.Steps.{port_mismatch, strategy_of}
use Rattle.tv_model.specs.instance.CheckedDepths.{StepDepths, feed_depth, port_depth, steps_depths}
use Rattle.tv_model.specs.Agreeing.{ActivitiesAgree, ActivitiesNest, FindThemselves, InputsAgree, NestsWithin, StepAgrees}
use Rattle.tv_model.specs.RightDepths.{AreRight}
use Rattle.tv_model.specs.Instances.{node_jobs, step_made}
use Rattle.tv_model.specs.Made.{Made, Meaning, Opened, delivered_outputs, endings, feed_value}
use Rattle.tv_model.proofs.Fed.{step_iteration, step_ports}
use Rattle.tv_model.proofs.Results.{Delivers, IsFit}
use Rattle.tv_model.proofs.Delivers.{depths_of, feed-depth, feed-right, forget, mismatches, ported-depth}
use Rattle.tv_model.proofs.Depths.{Fit, Gives, Takes, all-bind, all-fit, all-levels, all-there, outputs-right}
use Rattle.tv_history.specs.agreement.PlannedDepths.{OutputsGive, PortsTake}
use Rattle.tv_model.proofs.Opening.{IsAt, node_job-is}
use Rattle.tv_model.proofs.Feeds.{Feeds, ports-settled, step-settled}

abbrev pub AnyMeaning : Meaning → Type 0
AnyMeaning m = Unit {0}

-- the delivered depths of a step's inputs, as its plan has them
abbrev pub delivered_depths : List (Name × ℕ) → List StepDepths → List (Name × StepInput) → List (Name × ℕ)
delivered_depths given all is = map (λ i. (i.0, feed_depth given all i.1.from)) is

-- the ports of a step, where each delivers the depth that all steps together give it
ports-take : (given : List (Name × Delivered)) (ms : List Made) (all : List StepDepths) → (is : List (Name × StepInput)) → Each (λ i. HasDepth (feed_value given ms i.1.from).value (feed_value given ms i.1.from).depth) is → Each (λ i. feed_depth (depths_of given) all i.1.from ≡ feed_depth (depths_of given) (map forget ms) i.1.from) is → PortsTake (delivered_depths (depths_of given) all is) is (map (λ i. (i.0, at_port i.1.depth (feed_value given ms i.1.from))) is)
ports-take given ms all [] h e = tt
ports-take given ms all (i ∷ is) h e =
    let v = feed_value given ms i.1.from in
    let same : v.depth ≡ feed_depth (depths_of given) all i.1.from = feed-depth given ms i.1.from ∙ sym e.0 in
    (refl, refl, record { value = v.value; deep = subst (HasDepth v.value) same h.0; port_is = ap (λ n. at_port i.1.depth (record { depth = n; value = v.value })) same }, ports-take given ms all is h.1 e.1)

-- outputs that are right, by the levels of the strategy
outputs-give : (I : JobName) (n : Name) (js : List Opened) (levels whole : ℕ) (it : Iteration) (k : ℕ) (ps : List (Name × ℕ)) → levels ≡ whole → AreRight (delivered_outputs I n js levels it k ps) → OutputsGive whole ps (delivered_outputs I n js levels it k ps)
outputs-give I n js levels whole it k [] e h = tt
outputs-give I n js levels whole it k (p ∷ ps) e h = (refl, ap (λ l. l + p.1) e, h.0, outputs-give I n js levels whole it (suc k) ps e h.1)

module _ (gives : Giving) (flows : List (Name × Flow)) (inside : Name → JobName → List (Name × Value) → Meaning) (k : ℕ) (inside_is : Delivers flows AnyMeaning inside k) (I : JobName) where
  -- a job of the step s
  pub record JobIs (n : Name) (s : Step) (o : Opened) : Type 0 where
    pub place : Place
    pub at : IsAt gives inside I n s place o
    pub fit : IsFit gives inside I flows AnyMeaning k inside_is s n o

  -- a step that was made, by the flow's own step of its name; `all` are the depths of all steps
  pub record MadeIs (steps : List (Name × Step)) (given : List (Name × ℕ)) (all : List StepDepths) (m : Made) : Type 0 where
    pub step : Step
    pub is_step : named m.step.step steps ≡ Some step
    pub instance : m.step.instance ≡ I
    pub once : FindThemselves step.inputs step.inputs
    pub activities : ActivitiesAgree flows step step.activities
    pub nests : ActivitiesNest (NestsWithin flows k) step.activities
    pub inputs : PortsTake (delivered_depths given all step.inputs) step.inputs m.step.inputs
    pub outputs : OutputsGive (strategy_depth (port_depth given all step) (strategy_of step)) step.outputs m.step.outputs
    pub jobs : Each (JobIs m.step.step step) m.jobs

  module _ (given : List (Name × Delivered)) (given_right : AreRight given) (ms : List Made) (made_right : Each (λ m. AreRight m.step.outputs) ms) (n : Name) (s : Step) (agree : StepAgrees flows (depths_of given) (map forget ms) s) (nest : ActivitiesNest (NestsWithin flows k) s.activities) where
    abbrev fed : StepInput → Ported
    fed i = at_port i.depth (feed_value given ms i.from)

    abbrev new : Made
    new = step_made gives inside I given ms (n, s)

    abbrev IsFed : Name × StepInput → Type 0
    IsFed i = HasDepth (feed_value given ms i.1.from).value (feed_value given ms i.1.from).depth

    fed-each : (is : List (Name × StepInput)) → InputsAgree (depths_of given) (map forget ms) is → Each IsFed is
    fed-each [] h = tt
    fed-each (i ∷ is) h = (feed-right given given_right ms made_right i.1.from h.0, fed-each is h.1)

    takes : Each (Takes fed) s.inputs
    takes = each-weaken IsFed (Takes fed) (λ i h. ported-depth i.1.depth (feed_value given ms i.1.from) h) s.inputs (fed-each s.inputs agree.feeds)

    dots : DotsAgree (port_mismatch (step_ports given ms s)) (strategy_of s)
    dots = subst (λ g. DotsAgree g (strategy_of s)) (sym (mismatches given ms s)) agree.dots

    stands : HasLevels (step_iteration given ms s) (strategy_depth (port_mismatch (step_ports given ms s)) (strategy_of s))
    stands = all-levels fed s.inputs takes (strategy_of s) dots

    abbrev Fits : Opened → Type 0
    Fits o = Fit gives inside I flows AnyMeaning k inside_is n s (endings ms s.after) o

    fits : Each Fits new.jobs
    fits =
        all-fit gives inside I flows AnyMeaning k inside_is n s (endings ms s.after) agree.once agree.bound agree.activities nest (step_iteration given ms s)
        (all-bind fed s.inputs takes (strategy_of s) dots agree.ports)

    pub results : Each (Gives s) new.jobs
    results = each-weaken Fits (Gives s) (λ o w. w.result) new.jobs fits

    right : AreRight new.step.outputs
    right =
        outputs-right I n s new.jobs results (step_iteration given ms s)
        (all-there gives inside I flows AnyMeaning k inside_is n s (endings ms s.after) (step_iteration given ms s))
        (strategy_depth (port_mismatch (step_ports given ms s)) (strategy_of s)) stands 0 s.outputs refl

    jobs-are : Each (JobIs n s) new.jobs
    jobs-are = in_each (JobIs n s) new.jobs (λ o h. let r = of-flat (node_jobs gives inside I n s (endings ms s.after)) o (nodes (step_iteration given ms s)) h in record { place = r.0.0; at = node_job-is gives inside I n s (endings ms s.after) r.0 o r.2; fit = each_in Fits new.jobs fits o h })

    pub made-is : (steps : List (Name × Step)) → named n steps ≡ Some s → (ss : List (Name × Step)) → Feeds s ss → MadeIs steps (depths_of given) (steps_depths (depths_of given) (map forget ms) ss) new
    made-is steps there ss apart = record {
      step = s;
      is_step = there;
      instance = refl;
      once = agree.once;
      activities = agree.activities;
      nests = nest;
      inputs = ports-take given ms (steps_depths (depths_of given) (map forget ms) ss) s.inputs (fed-each s.inputs agree.feeds) (step-settled (depths_of given) s (map forget ms) ss apart);
      outputs =
          outputs-give I n new.jobs (strategy_depth (port_mismatch (step_ports given ms s)) (strategy_of s)) (strategy_depth (port_depth (depths_of given) (steps_depths (depths_of given) (map forget ms) ss) s) (strategy_of s)) (step_iteration given ms s) 0 s.outputs
          (ap (λ g. strategy_depth g (strategy_of s)) (mismatches given ms s ∙ sym (ports-settled (depths_of given) s (map forget ms) ss apart))) right;
      jobs = jobs-are;
    }
