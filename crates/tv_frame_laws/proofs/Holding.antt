-- The tree of an output is what was told of it, which is below its value.
use Rattle.std.specs.Option.{option_map_or}
use Rattle.std.specs.Prelude.{◌≡◌, ℕ, ◌<◌, true, List, [], length, map, Option, slice_index_or, unwrap_or}
use Rattle.std.proofs.Common.{sym, ap, subst, ◌∙◌}
use Rattle.tv_lemmas.proofs.Lists.{index-map}
use Rattle.tv_value.specs.Values.{Name}
use Rattle.tv_flow.specs.Flows.{Flow, Step, output}
use Rattle.tv_strategy.specs.Origins.{plain}
use Rattle.tv_naming.specs.Naming.{is_there}
use Rattle.tv_naming.specs.Numbers.{position}
use Rattle.tv_naming.proofs.ByPosition.{there}
use Rattle.tv_model.specs.instance.Delivered.{link_delivers}
use Rattle.tv_parts.specs.Below.{Below}
use Rattle.tv_check.specs.Feeds.{outputs_of}
use Rattle.tv_check.specs.declared.plans.FlowPlan.{FlowPlan}
use Rattle.tv_outputs.specs.Known.{Nodes}
use Rattle.tv_model.specs.Instances.{given_of}
use Rattle.tv_model.specs.instance.ByResults.{step_of}
use Rattle.tv_frame.specs.Arriving.{part_so_far}
use Rattle.tv_frame.specs.FramingViews.{View, steps_with}
use Rattle.tv_frame.proofs.framing_feeds.Names.{is-named}
use Rattle.tv_frame.specs.faults.Known as truly
use Rattle.tv_frame.proofs.framing_faults.Numbers.{step-there}
use Rattle.tv_frame.specs.declared.frame.Frame.{Frame}
use Rattle.tv_frame.specs.Kept.{Keeps, declared_at}
use Rattle.tv_frame.specs.Tables.{levels_in}
use Rattle.tv_frame.proofs.Feeds.{output-below}
use Rattle.tv_frame.proofs.HoldAround.{fewer-trees}
use Rattle.tv_frame.proofs.Keeping.{kept-wired}
use Rattle.tv_frame_laws.specs.values.Known.{tree_of}
use Rattle.tv_frame_laws.specs.values.Stated.{OutputsAreBelow}

module _ (flows : List (Name × Flow)) (plan : FlowPlan) (pool : Nodes) (f : Frame) (v : View)
    (keeps : Keeps flows plan pool f v) (t o : Name) (there_is : is_there v.flow (output t o) ≡ true) where
  abbrev levels : Name → ℕ
  levels = levels_in v.flow

  pub tree-is : tree_of pool f v.flow t o ≡ truly.tree_of v.flow levels v.events t o
  tree-is =
      let b = step-there v.flow t o there_is in
      let st = is-named t v.flow.steps b.0 in
      let n = position t v.flow.steps in
      let its = ap (λ (r : Option Step). option_map_or (λ (u : Step). u.outputs) r []) st.named_so in
      let out = is-named o (outputs_of v.flow t) b.1 in
      let k = position o (outputs_of v.flow t) in
      let few : k < length st.thing.outputs = subst (λ (ps : List (Name × ℕ)). k < length ps) its (there o (outputs_of v.flow t) b.1).below in
      let declared : declared_at (t, st.thing) k ≡ out.thing = ap (λ (ps : List (Name × ℕ)). slice_index_or (map (λ (p : Name × ℕ). p.1) ps) k 0) (sym its) ∙ index-map (λ (p : Name × ℕ). p.1) (outputs_of v.flow t) k (o, out.thing) 0 out.here in
      keeps.trees_are n (t, st.thing) st.here k (fewer-trees (t, st.thing) k few)
      ∙ ap (λ d. part_so_far t k (levels t) d v.events) (declared ∙ ap (λ r. unwrap_or r 0) (sym out.named_so))

pub outputs-below : OutputsAreBelow
outputs-below flows plan pool f v keeps t o there_is instance results depth x =
    subst (λ r. Below r (plain (link_delivers step_of (given_of v.flow v.inputs) (steps_with v instance results) (output t o)).value))
    (sym (tree-is flows plan pool f v keeps t o there_is))
    (output-below flows (levels_in v.flow) v keeps.of_depths (kept-wired flows plan pool f v keeps) keeps.frame.legal instance results depth x t o there_is)
