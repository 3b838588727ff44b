-- The lists and passed faults of the main instance are those that the document means.
use Rattle.std.specs.Prelude.{◌≡◌, ℕ, List, [], Some, map}
use Rattle.std.proofs.Common.{subst, sym, ◌∙◌}
use Rattle.std.proofs.lemmas.Option.{same_Some}
use Rattle.tv_lemmas.specs.Members.{In}
use Rattle.tv_lemmas.proofs.Members.{in-map}
use Rattle.tv_value.specs.Orders.{named}
use Rattle.tv_value.specs.Values.{JobName, Name}
use Rattle.tv_gate.specs.Outcomes.{Giving}
use Rattle.tv_flow.specs.Flows.{Document, Flow}
use Rattle.tv_model.specs.instance.Delivered.{StepMeaning}
use Rattle.tv_model.specs.Made.{Meaning}
use Rattle.tv_model.specs.Meanings.{meaning}
use Rattle.tv_history.specs.Entries.{History}
use Rattle.tv_model.specs.instance.ByResults.{step_of}
use Rattle.tv_instances.specs.FramingViews.{View}
use Rattle.tv_instances.specs.views.InRun.{IsInRun}
use Rattle.tv_instances.proofs.views.Endings.{listed-step}
use Rattle.tv_instances.proofs.views.Runs.{Runs, in-all, runs, steps_here}
use Rattle.tv_frame.specs.Levels.{AreLevels, Level}
use Rattle.tv_frame.specs.MainSteps.{main_steps}
use Rattle.tv_instances.specs.Levels.{AreItsLevels}
use Rattle.tv_run.specs.Ended.{AreMainLevels}
use Rattle.tv_traces.proofs.Records.{outermost}
use Rattle.tv_traces.proofs.Known.{of-main}

-- of any meaning, so that a document's isn't unfolded
levels-in : (gives : Giving) (flows : List (Name × Flow)) (m : Meaning) (past : History) (levels : Name → ℕ) (v : View)
    → Runs gives flows m past [] levels v → (ls : List Level) → AreItsLevels v ls → AreLevels v.flow (main_steps m) ls
levels-in gives flows m past levels v r ls are = record {
  fit = record {
    of_step = its.fit.of_step;
    there = λ l s f i at among name. its.fit.there l s f i at (own f among) name;
  };
  all = λ n s f q t at among name here u. its.all n s f q t at (own f among) name here u;
}
  where
    its : AreLevels v.flow (map step_of (steps_here gives flows m past [] levels v r)) ls
    its = in-all gives flows m past [] levels v r (λ instance results fs. AreLevels v.flow (map step_of fs) ls) are

    own : (f : StepMeaning) → In f (main_steps m) → In f (map step_of (steps_here gives flows m past [] levels v r))
    own f among =
        let i = of-main f m.steps among in
        let g = listed-step gives flows m past [] levels v r f i.0 (outermost f.instance i.1) in
        subst (λ s. In s (map step_of (steps_here gives flows m past [] levels v r))) (sym g.2)
        (in-map step_of g.0 (steps_here gives flows m past [] levels v r) g.1)

pub levels-are_meant : (gives : Giving) (d : Document) (past : History) (I : JobName) (levels : Name → ℕ) (v : View)
    → IsInRun gives d past I levels v → I ≡ [] → named d.main d.flows ≡ Some v.flow → (ls : List Level)
    → AreItsLevels v ls → AreMainLevels gives d ls
levels-are_meant gives d past I levels v w main is ls are f named_so =
    let r : Runs gives d.flows (meaning gives d) past [] levels v =
    subst (λ J. Runs gives d.flows (meaning gives d) past J levels v) main (runs gives d past I levels v w) in
    subst (λ g. AreLevels g (main_steps (meaning gives d)) ls) (same_Some v.flow f (sym is ∙ named_so))
    (levels-in gives d.flows (meaning gives d) past levels v r ls are)
