-- An open instance by any plan of its flow, and beside others in the pool.
use Rattle.std.specs.Prelude.{◌≡◌, ℕ, List, [], ◌∷◌, None, Option, Some, option_and_then, option_map, slice_get}
use Rattle.std.proofs.Common.{ap, subst, sym, ◌∙◌}
use Rattle.std.proofs.lemmas.Option.{none-some, same_Some}
use Rattle.tv_value.specs.Values.{Name}
use Rattle.tv_flow.specs.Flows.{Document, Flow}
use Rattle.tv_flow.specs.Views.{flow_view}
use Rattle.tv_check.specs.RunViews.{run_view}
use Rattle.tv_check.specs.declared.plans.FlowPlan.{FlowPlan}
use Rattle.tv_outputs.specs.Known.{Nodes}
use Rattle.tv_instances.specs.FramingViews.{View}
use Rattle.tv_frame.specs.Kept.{Keeps}
use Rattle.tv_frame.specs.declared.frame.Frame.{Frame}
use Rattle.tv_frame_laws.specs.Beside.{SameRegion}
use Rattle.tv_frame_laws.proofs.Frames.{keeps-beside}
use Rattle.tv_instances.specs.Forest.{Instance}
use Rattle.tv_instances.specs.Standing.{IsOpen}
use Rattle.tv_instances.specs.declared.open.Open.{Open}
use Rattle.tv_run.specs.Standing.{IsLife, frame_at}
use Rattle.tv_run.specs.declared.instances.Instance as code
use Rattle.tv_run.specs.declared.run.OpenRun.{OpenRun}

-- ---- one

-- by any plan of its flow
pub keeps-any : (flows : List (Name × Flow)) (plan other : FlowPlan) (pool : Nodes) (f : Frame) (v : View)
    → flow_view other.flow ≡ v.flow → Keeps flows plan pool f v → Keeps flows other pool f v
keeps-any flows plan other pool f v h k = record {
  flow_is = sym h;
  frame = k.frame;
  of_depths = k.of_depths;
  inputs_are = k.inputs_are;
  tables_are = k.tables_are;
  live = k.live;
  stand = k.stand;
  deep = k.deep;
  trees_are = k.trees_are;
  endings_are = k.endings_are;
  intaken = k.intaken;
  as_many = k.as_many;
  matchers_are = k.matchers_are;
  jobs_are = k.jobs_are;
  waiting_are = k.waiting_are;
  idle_are = k.idle_are;
  outs_are = k.outs_are;
}

pub open-any : (d : Document) (plan other : FlowPlan) (pool : Nodes) (o : Open) (v : View) → flow_view other.flow ≡ v.flow
    → IsOpen d plan pool o v → IsOpen d other pool o v
open-any d plan other pool o v h k = record {
  keeps = keeps-any d.flows plan other pool o.frame v h k.keeps;
  known = k.known;
  levels = k.levels;
  quiet = k.quiet;
  kept = k.kept;
}

-- where its region is what it was
pub open-beside : (d : Document) (plan : FlowPlan) (pool after : Nodes) (o : Open) (v : View) → SameRegion pool after o.frame
    → IsOpen d plan pool o v → IsOpen d plan after o v
open-beside d plan pool after o v same k = record {
  keeps = keeps-beside d.flows plan pool after o.frame v k.keeps same;
  known = k.known;
  levels = k.levels;
  quiet = k.quiet;
  kept = k.kept;
}

-- ---- in a run

-- the Open of instance i
pub frame-is : (r : OpenRun) (i : ℕ) (c : code.Instance) (o : Open) (os : List Open) → slice_get r.instances.items i ≡ Some c
    → c.open.items ≡ o ∷ os → frame_at r i ≡ Some o.frame
frame-is r i c o os at e =
    ap (option_and_then (λ (x : code.Instance). option_map (λ (p : Open). p.frame) (slice_get x.open.items 0))) at
    ∙ ap (λ l. option_map (λ (p : Open). p.frame) (slice_get l 0)) e

-- it is the same one
pub first-open : (o p : Open) (os ps : List Open) (l : List Open) → l ≡ o ∷ os → l ≡ p ∷ ps → o ≡ p
first-open o p os ps l e f = same_Some o p (ap (λ k. slice_get k 0) (sym e ∙ f))

pub nothing-open : (o : Open) (os : List Open) (l : List Open) → l ≡ [] → l ≡ o ∷ os → ⊥
nothing-open o os l e f = none-some o (ap (λ k. slice_get k 0) (sym e ∙ f))

-- one that stays where its region is what it was
pub life-beside : (r s : OpenRun) (c : code.Instance) (x : Instance) (w : Option View) → s.run ≡ r.run
    → ((o : Open) → c.open.items ≡ o ∷ [] → SameRegion r.pool s.pool o.frame)
    → IsLife r c x w → IsLife s c x w
life-beside r s c x None run same life = life
life-beside r s c x (Some v) run same life = record {
  itself = life.itself;
  there = life.there;
  flow = life.flow;
  is_open = λ plan h.
      subst (λ d. IsOpen (run_view d) plan s.pool life.itself v) (sym run)
      (open-beside (run_view r.run) plan r.pool s.pool life.itself v (same life.itself life.there) (life.is_open plan h));
  still = life.still;
}
