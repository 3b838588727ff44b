-- A run in which a frame is, of any meaning: what is so of the instance by the results of its own jobs.
use Rattle.std.specs.Prelude.{◌≡◌, ℕ, List, [], true}
use Rattle.std.specs.Cmp.Derive.{one_truth}
use Rattle.tv_lemmas.specs.Members.{In}
use Rattle.tv_value.specs.Values.{JobName, Name}
use Rattle.tv_gate.specs.Outcomes.{Giving}
use Rattle.tv_flow.specs.Flows.{Document, Flow}
use Rattle.tv_model.specs.instance.ByResults.{InstanceStep, Results}
use Rattle.tv_model.specs.instance.Events.{Extends}
use Rattle.tv_model.specs.Jobs.{Job}
use Rattle.tv_model.specs.Made.{Meaning}
use Rattle.tv_model.specs.Meanings.{flow_meaning, meaning}
use Rattle.tv_model.proofs.Whole.{AnyNumber, IsWhole, StepsHave, meaning-whole}
use Rattle.tv_history.specs.Entries.{History}
use Rattle.tv_history.specs.Histories.{is_open, is_settled, is_settled_name}
use Rattle.tv_history.proofs.Ready.{all-sound, are-jobs}
use Rattle.tv_history.proofs.Running.{settled_of_name}
use Rattle.tv_history.proofs.Stuck.{settled-name}
use Rattle.tv_history.specs.order.Parts.{IsInstance}
use Rattle.tv_framing.specs.instances.InHistory.{IsPartOf}
use Rattle.tv_framing.proofs.instances.Meant.{own_results-are_of_depth}
use Rattle.tv_framing.specs.Frames.{IsFrame}
use Rattle.tv_framing.specs.Stated.{IsOfDepths}
use Rattle.tv_framing.specs.Views.{AreOfDepth, InAll, View}
use Rattle.tv_forest.specs.views.InRun.{IsInRun}
use Rattle.tv_forest.proofs.views.Steps.{own_results, own_steps}
use Rattle.tv_forest.proofs.views.OwnDepths.{AreNamed, formed-flow, formed-named, jobs-give}
use Rattle.tv_strategy.proofs.Each.{each-all}

-- the meaning is any, so that a document's isn't unfolded
pub record Runs (gives : Giving) (flows : List (Name × Flow)) (m : Meaning) (past : History) (I : JobName) (levels : Name → ℕ) (v : View) : Type 0 where
  pub nesting : ℕ
  pub part : IsInstance gives flows m I nesting v.flow v.inputs
  pub whole : IsWhole gives AnyNumber m []
  pub steps : AreNamed v.flow.steps
  pub is_open : is_open past I ≡ true
  pub told : IsPartOf m past I v.events
  pub frame : IsFrame v
  pub depths : IsOfDepths flows levels v
  pub right : AreOfDepth v I (own_results gives (flow_meaning gives flows nesting) I v.flow v.inputs)
  pub gave : Extends (own_results gives (flow_meaning gives flows nesting) I v.flow v.inputs) v.events

pub runs : (gives : Giving) (d : Document) (past : History) (I : JobName) (levels : Name → ℕ) (v : View)
    → IsInRun gives d past I levels v → Runs gives d.flows (meaning gives d) past I levels v
runs gives d past I levels v r =
    let w = r.view in
    record {
      nesting = w.levels;
      part = w.part;
      whole = meaning-whole gives AnyNumber d (each-all (λ f. StepsHave gives AnyNumber f.1) (λ f. each-all (λ s. AnyNumber s.1.jobs) (λ s. tt) f.1.steps) d.flows);
      steps = formed-named v.flow (formed-flow d r.formed r.flow_name v.flow r.is_flow);
      is_open = w.is_open;
      told = w.told;
      frame = r.frame;
      depths = r.depths;
      right =
          own_results-are_of_depth gives (flow_meaning gives d.flows w.levels) I v.flow v.inputs
          (jobs-give gives d r.formed r.accepted w.levels v.flow w.nests r.depths.flow I v.inputs r.depths.inputs);
      gave = w.gave;
    }

module _ (gives : Giving) (flows : List (Name × Flow)) (m : Meaning) (past : History) (I : JobName) (levels : Name → ℕ) (v : View) (r : Runs gives flows m past I levels v) where
  -- the instance's steps by its own results
  abbrev pub steps_here : List InstanceStep
  steps_here = own_steps gives (flow_meaning gives flows r.nesting) I v.flow v.inputs

  abbrev pub results_here : Results
  results_here = own_results gives (flow_meaning gives flows r.nesting) I v.flow v.inputs

  -- what is so of all instances is so of this one
  pub in-all : (P : JobName → Results → List InstanceStep → Type 0) → InAll v P → P I results_here steps_here
  in-all P h = h I results_here r.right r.gave

  -- a job is settled where the job of its name is
  pub settled-same : (j : Job) → In j m.jobs → is_settled_name m past j.name ≡ is_settled past j
  settled-same j h =
      one_truth (is_settled_name m past j.name) (is_settled past j)
      (settled_of_name gives m (all-sound gives AnyNumber m [] r.whole) (are-jobs gives AnyNumber m [] r.whole) past j h)
      (settled-name gives AnyNumber m r.whole past j h)
