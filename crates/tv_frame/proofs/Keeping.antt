-- What a frame keeps: more room in its pool is no matter, and its flow stands in an accepted document.
use Rattle.std.specs.Prelude.{◌≡◌, ℕ, ◌<◌, List, Some, length, slice_get, slice_index_or}
use Rattle.std.specs.Option.{option_map_or}
use Rattle.std.proofs.Common.{ap, subst, sym, ◌∙◌}
use Rattle.std.proofs.lemmas.List.{length-map}
use Rattle.std.proofs.lemmas.List.FromFn.{length-map-range_with_len}
use Rattle.std.proofs.lemmas.Option.{slice_get_within}
use Rattle.tv_value.specs.Values.{Name}
use Rattle.tv_flow.specs.Flows.{Flow, Step}
use Rattle.tv_flow.specs.Views.{flow_view, step_view}
use Rattle.tv_pool.specs.Pool.{IsLive}
use Rattle.tv_pool.specs.declared.handles.Region.{Region}
use Rattle.tv_check.specs.declared.plans.FlowPlan.{FlowPlan}
use Rattle.tv_outputs.specs.Known.{Nodes, known}
use Rattle.tv_outputs.specs.Kept.{Stand}
use Rattle.tv_framing.specs.Views.{View}
use Rattle.tv_framing.specs.engine.WiredFlows.{IsWired}
use Rattle.tv_framing.proofs.engine.Accepted.{accepted-wired}
use Rattle.tv_framing.proofs.starts.Steps.{stands-at}
use Rattle.tv_framing.specs.matches.Steps.{IsOfRankedFlow, IsStepAt}
use Rattle.tv_frame.specs.declared.frame.Ahead.{Ahead}
use Rattle.tv_frame.specs.declared.frame.Frame.{Frame}
use Rattle.tv_frame.specs.Kept.{AreTrees, Keeps}
use Rattle.tv_frame.specs.Tables.{first_tree, levels_in}
use Rattle.tv_check.specs.Tables.{step_level}
use Rattle.tv_frame.proofs.Trees.{first-read}

-- a frame keeps what it keeps where its pool has the same regions
pub keeps-room :
    (flows : List (Name × Flow)) (plan : FlowPlan) (pool after : Nodes) (f : Frame) (v : View) → after.regions ≡ pool.regions
    → known after f.outputs ≡ known pool f.outputs → ((r : Region) → Stand pool f.outputs r → Stand after f.outputs r)
    → Keeps flows plan pool f v → Keeps flows plan after f v
keeps-room flows plan pool after f v regions same stand k = record {
  flow_is = k.flow_is;
  frame = k.frame;
  of_depths = k.of_depths;
  inputs_are = k.inputs_are;
  tables_are = k.tables_are;
  live = subst (λ rs. IsLive (record pool { regions = rs }) f.region) (sym regions) k.live;
  stand = stand f.region k.stand;
  deep = k.deep;
  trees_are = subst (AreTrees v) (sym same) k.trees_are;
  endings_are = k.endings_are;
  intaken = k.intaken;
  as_many = k.as_many;
  matchers_are = k.matchers_are;
  jobs_are = k.jobs_are;
  waiting_are = k.waiting_are;
  idle_are = k.idle_are;
  outs_are = k.outs_are;
}

-- nor is what it found ahead
pub keeps-ahead : (flows : List (Name × Flow)) (plan : FlowPlan) (pool : Nodes) (f : Frame) (v : View) (a : Ahead) → Keeps flows plan pool f v → Keeps flows plan pool (record f { ahead = a }) v
keeps-ahead flows plan pool f v a k = record {
  flow_is = k.flow_is;
  frame = k.frame;
  of_depths = k.of_depths;
  inputs_are = k.inputs_are;
  tables_are = k.tables_are;
  live = k.live;
  stand = k.stand;
  deep = k.deep;
  trees_are = k.trees_are;
  endings_are = k.endings_are;
  intaken = k.intaken;
  as_many = k.as_many;
  matchers_are = k.matchers_are;
  jobs_are = k.jobs_are;
  waiting_are = k.waiting_are;
  idle_are = k.idle_are;
  outs_are = k.outs_are;
}

pub kept-wired : (flows : List (Name × Flow)) (plan : FlowPlan) (pool : Nodes) (f : Frame) (v : View) → Keeps flows plan pool f v → IsWired v.flow
kept-wired flows plan pool f v k = subst IsWired (sym k.flow_is) (accepted-wired _ plan.kept.1)

pub kept-ranked : (flows : List (Name × Flow)) (plan : FlowPlan) (pool : Nodes) (f : Frame) (v : View) → Keeps flows plan pool f v → IsOfRankedFlow flows (levels_in v.flow) v
kept-ranked flows plan pool f v k =
    let w = kept-wired flows plan pool f v k in
    record { depths = k.of_depths; formed = w.formed; ranked = w.ranked }

-- the levels of a step, by its name and by itself
pub levels-are : (f : Flow) → IsWired f → (n : ℕ) (s : Name × Step) → slice_get f.steps n ≡ Some s → levels_in f s.0 ≡ step_level f s.1
levels-are f wired n s e = ap (λ o. option_map_or (step_level f) o 0) (stands-at f wired n s e)

-- ---- what a step's number finds

module _ (flows : List (Name × Flow)) (plan : FlowPlan) (pool : Nodes) (f : Frame) (v : View) (n : ℕ) (s : Name × Step) (k : Keeps flows plan pool f v) (at : IsStepAt v n s) where
  -- in the plan
  pub step-there : slice_get (flow_view plan.flow).steps n ≡ Some s
  step-there = subst (λ (g : Flow). slice_get g.steps n ≡ Some s) k.flow_is at

  pub step-within : n < length plan.flow.steps
  step-within = subst (λ m. n < m) (length-map plan.flow.steps (λ e. (e.0, step_view e.1))) (slice_get_within (flow_view plan.flow).steps n s step-there)

  -- in the table of first trees
  pub firsts-within : n < length f.tables.firsts.items
  firsts-within =
      subst (λ m. n < m) (sym (ap length k.tables_are.firsts_are ∙ length-map-range_with_len (first_tree v.flow.steps) 0 (length v.flow.steps)))
      (slice_get_within v.flow.steps n s at)

  pub first-is : (x : ℕ) → x ≡ slice_index_or f.tables.firsts.items n x → x ≡ first_tree v.flow.steps n
  first-is x e = e ∙ first-read v.flow.steps f.tables.firsts.items k.tables_are.firsts_are n s at x
