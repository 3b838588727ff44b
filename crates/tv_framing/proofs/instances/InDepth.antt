-- Where the depths of a flow agree, the steps of an instance have their levels and their outputs their depths, whatever results of the declared depths its jobs give.
use Rattle.std.specs.Prelude.{◌≡◌, refl, ℕ, suc, ◌+◌, List, [], ◌∷◌, map}
use Rattle.std.proofs.Common.{sym, ap, ap₂, subst, ◌∙◌}
use Rattle.tv_lemmas.specs.Members.{Each}
use Rattle.tv_value.specs.Nested.{Place}
use Rattle.tv_value.specs.Values.{HasDepth, JobName, Name, Value}
use Rattle.tv_flow.specs.Flows.{Feed, Flow, Step, StepInput}
use Rattle.tv_strategy.specs.Iterations.{Iteration, iteration}
use Rattle.tv_strategy.specs.Levels.{HasLevels}
use Rattle.tv_strategy.specs.Measures.{DotsAgree, strategy_depth}
use Rattle.tv_strategy.proofs.AtDepth.{output-depth}
use Rattle.tv_model.specs.instance.Delivered.{Delivered, Ported, feed_delivers, at_port}
use Rattle.tv_model.specs.instance.Ranks.{ranked}
use Rattle.tv_model.specs.instance.Steps.{port_iteration, port_mismatch, spot, strategy_of}
use Rattle.tv_model.specs.instance.CheckedDepths.{StepDepths, port_depth, step_depths}
use Rattle.tv_model.specs.Agreeing.{FlowAgrees, InputsAgree, InputsHave, StepAgrees, StepsAgree}
use Rattle.tv_model.specs.Instances.{given_of}
use Rattle.tv_model.specs.RightDepths.{AreRight}
use Rattle.tv_model.specs.Made.{Made, feed_value, step_in}
use Rattle.tv_model.proofs.Delivers.{depths_of, feed-right, forget, given-depths, given-right, mismatches, ported-depth}
use Rattle.tv_model.proofs.Fed.{step_iteration, step_ports}
use Rattle.tv_model.proofs.Depths.{Takes, all-levels}
use Rattle.tv_model.specs.instance.ByResults.{InstanceStep, Results, outputs_by, ports_on, result_at, step_by, step_of}
use Rattle.tv_model.specs.instance.OwnDepths.{AllJobsGive, JobsGive}
use Rattle.tv_framing.proofs.instances.Results.{feed-map, itself}

-- ---- the laws of depth that are known of steps as a meaning makes them

abbrev pub as_made : InstanceStep → Made
as_made f = record { step = f.step; jobs = [] }

abbrev pub forgotten : InstanceStep → StepDepths
forgotten f = forget (as_made f)

pub steps-all : (fs : List InstanceStep) → map step_in (map as_made fs) ≡ map step_of fs
steps-all [] = refl
steps-all (f ∷ fs) = ap (λ l. f.step ∷ l) (steps-all fs)

pub right-all : (fs : List InstanceStep) → Each (λ (f : InstanceStep). AreRight f.step.outputs) fs → Each (λ (m : Made). AreRight m.step.outputs) (map as_made fs)
right-all [] h = tt
right-all (f ∷ fs) h = (h.0, right-all fs h.1)

module _ (flows : List (Name × Flow)) (instance : JobName) (results : Results) (given : List (Name × Delivered)) (given_right : AreRight given) where
  -- the levels that a step iterates, from the depths alone
  abbrev pub levels_of : List StepDepths → Step → ℕ
  levels_of so_far s = strategy_depth (port_depth (depths_of given) so_far s) (strategy_of s)

  outputs-right : (f : InstanceStep) (levels : ℕ) → HasLevels f.step.iteration levels → (k : ℕ) (ps : List (Name × ℕ)) → JobsGive results f k ps → AreRight (outputs_by instance f.step.step (result_at results f.step.step) levels f.step.iteration k ps)
  outputs-right f levels l k [] h = tt
  outputs-right f levels l k (p ∷ ps) h =
      (output-depth (λ q. HasDepth (result_at results f.step.step k q) p.1) (spot instance f.step.step) (result_at results f.step.step k) p.1 (λ q w. w) f.step.iteration [] levels (levels + p.1) refl l h.0, outputs-right f levels l (suc k) ps h.1)

  outputs-depths : (n : Name) (made : ℕ → Place → Value) (levels : ℕ) (it : Iteration) (k : ℕ) (ps : List (Name × ℕ)) → depths_of (outputs_by instance n made levels it k ps) ≡ map (λ p. (p.0, levels + p.1)) ps
  outputs-depths n made levels it k [] = refl
  outputs-depths n made levels it k (p ∷ ps) = ap (λ l. (p.0, levels + p.1) ∷ l) (outputs-depths n made levels it (suc k) ps)

  module _ (fs : List InstanceStep) (right : Each (λ (f : InstanceStep). AreRight f.step.outputs) fs) where
    abbrev ms : List Made
    ms = map as_made fs

    same-feeds : feed_value given ms ≡ feed_delivers step_of given fs
    same-feeds = λ i d. (feed-map step_in given ms d ∙ ap (λ l. feed_delivers itself given l d) (steps-all fs) ∙ sym (feed-map step_of given fs d)) i

    takes-each : (is : List (Name × StepInput)) → InputsAgree (depths_of given) (map forget ms) is → Each (Takes (λ (i : StepInput). at_port i.depth (feed_value given ms i.from))) is
    takes-each [] h = tt
    takes-each (i ∷ is) h = (ported-depth i.1.depth (feed_value given ms i.1.from) (feed-right given given_right ms (right-all fs right) i.1.from h.0), takes-each is h.1)

    module _ (n : Name) (s : Step) (agree : StepAgrees flows (depths_of given) (map forget ms) s) where
      abbrev fed_ports : (Feed → Delivered) → List (Name × Ported)
      fed_ports fed = ports_on fed s.inputs

      made-stands : HasLevels (step_iteration given ms s) (strategy_depth (port_mismatch (step_ports given ms s)) (strategy_of s))
      made-stands =
          all-levels (λ (i : StepInput). at_port i.depth (feed_value given ms i.from)) s.inputs (takes-each s.inputs agree.feeds) (strategy_of s) (subst (λ g. DotsAgree g (strategy_of s)) (sym (mismatches given ms s)) agree.dots)

      stands : HasLevels (iteration (port_iteration (fed_ports (feed_delivers step_of given fs))) (strategy_of s)) (strategy_depth (port_mismatch (fed_ports (feed_delivers step_of given fs))) (strategy_of s))
      stands = subst (λ g. HasLevels (iteration (port_iteration (fed_ports g)) (strategy_of s)) (strategy_depth (port_mismatch (fed_ports g)) (strategy_of s))) same-feeds made-stands

      measured : strategy_depth (port_mismatch (fed_ports (feed_delivers step_of given fs))) (strategy_of s) ≡ levels_of (map forget ms) s
      measured = sym (ap (λ g. strategy_depth (port_mismatch (fed_ports g)) (strategy_of s)) same-feeds) ∙ ap (λ f. strategy_depth f (strategy_of s)) (mismatches given ms s)

      -- the levels of the step's iteration, whatever its jobs give
      pub step-levels : HasLevels (step_by instance results given fs (n, s)).step.iteration (levels_of (map forget ms) s)
      step-levels = subst (λ d. HasLevels (step_by instance results given fs (n, s)).step.iteration d) measured stands

      pub step-right : JobsGive results (step_by instance results given fs (n, s)) 0 s.outputs → AreRight (step_by instance results given fs (n, s)).step.outputs
      step-right h = outputs-right (step_by instance results given fs (n, s)) (strategy_depth (port_mismatch (fed_ports (feed_delivers step_of given fs))) (strategy_of s)) stands 0 s.outputs h

      forgotten-step : forgotten (step_by instance results given fs (n, s)) ≡ step_depths (depths_of given) (map forget ms) (n, s)
      forgotten-step =
          ap (λ l. record { step = n; outputs = l }) (outputs-depths n (result_at results n) (strategy_depth (port_mismatch (fed_ports (feed_delivers step_of given fs))) (strategy_of s)) (iteration (port_iteration (fed_ports (feed_delivers step_of given fs))) (strategy_of s)) 0 s.outputs
          ∙ ap (λ d. map (λ p. (p.0, d + p.1)) s.outputs) measured)

  -- each step has its levels, and each output its depth
  abbrev pub HaveLevels : List InstanceStep → List StepDepths → List (Name × Step) → Type 0
  HaveLevels fs so_far [] = Each (λ (f : InstanceStep). AreRight f.step.outputs) fs
  HaveLevels fs so_far (s ∷ ss) = HasLevels (step_by instance results given fs s).step.iteration (levels_of so_far s.1) × HaveLevels (step_by instance results given fs s ∷ fs) (step_depths (depths_of given) so_far s ∷ so_far) ss

  pub steps-levels : (fs : List InstanceStep) → Each (λ (f : InstanceStep). AreRight f.step.outputs) fs → (so_far : List StepDepths) → map forget (map as_made fs) ≡ so_far → (ss : List (Name × Step)) → StepsAgree flows (depths_of given) so_far ss → AllJobsGive instance results given fs ss → HaveLevels fs so_far ss
  steps-levels fs right so_far e [] a h = right
  steps-levels fs right so_far e ((n, s) ∷ ss) a h =
      let agree = subst (λ x. StepAgrees flows (depths_of given) x s) (sym e) a.0 in (
        subst (λ x. HasLevels (step_by instance results given fs (n, s)).step.iteration (levels_of x s)) e (step-levels fs right n s agree),
        steps-levels (step_by instance results given fs (n, s) ∷ fs) (step-right fs right n s agree h.0, right) (step_depths (depths_of given) so_far (n, s) ∷ so_far) (ap₂ (λ a b. a ∷ b) (forgotten-step fs right n s agree ∙ ap (λ x. step_depths (depths_of given) x (n, s)) e) e) ss a.1 h.1,
      )

-- of a flow whose depths agree
pub flow-levels : (flows : List (Name × Flow)) (flow : Flow) → FlowAgrees flows flow → (vs : List (Name × Value)) (have : InputsHave flow.inputs vs) (instance : JobName) (results : Results) → AllJobsGive instance results (given_of flow vs) [] (ranked flow.steps) → HaveLevels flows instance results (given_of flow vs) (given-right vs flow.inputs have) [] [] (ranked flow.steps)
flow-levels flows flow agree vs have instance results depth =
    steps-levels flows instance results (given_of flow vs) (given-right vs flow.inputs have) [] tt [] refl (ranked flow.steps)
    (subst (λ x. StepsAgree flows x [] (ranked flow.steps)) (sym (given-depths vs flow.inputs)) agree.steps)
    depth
