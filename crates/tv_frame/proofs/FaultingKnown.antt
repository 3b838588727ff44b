-- What a frame's sources tell is all that is known of inputs and outputs, the feeds of ports are counted, and tables are read.
use Rattle.std.specs.Option.{option_map_or}
use Rattle.std.specs.Prelude.{◌≡◌, refl, ℕ, zero, suc, ◌+◌, ◌<◌, true, List, [], ◌∷◌, length, map, Option, Some, slice_get, slice_index_or, unwrap_or}
use Rattle.std.proofs.Common.{sym, ap, subst, ◌∙◌}
use Rattle.std.proofs.lemmas.Option.{get_or_from_slice_get, slice_get_within}
use Rattle.tv_lemmas.proofs.Lists.{get-map, get-map_range, index-map}
use Rattle.tv_value.specs.Nested.{list, no_trees}
use Rattle.tv_value.specs.Values.{Name, Value}
use Rattle.tv_flow.specs.Flows.{Flow, Step, output}
use Rattle.tv_naming.specs.Naming.{has_name, is_there}
use Rattle.tv_naming.specs.Numbers.{position}
use Rattle.tv_naming.proofs.ByPosition.{there}
use Rattle.tv_check.specs.Feeds.{outputs_of}
use Rattle.tv_outputs.specs.Known.{Nodes, known, tree_in}
use Rattle.tv_cell.specs.PieceValues.{piece_values}
use Rattle.tv_binding.specs.declared.sources.Sources.{Sources}
use Rattle.tv_binding.specs.Sourced.{known_by, tree_from}
use Rattle.tv_check.specs.declared.plans.FlowPlan.{FlowPlan}
use Rattle.tv_model.specs.Instances.{value_given}
use Rattle.tv_framing.specs.Arriving.{part_so_far}
use Rattle.tv_framing.specs.Views.{View}
use Rattle.tv_framing.proofs.feeds.Names.{is-named}
use Rattle.tv_framing.specs.faults.Known.{tree_of}
use Rattle.tv_framing.proofs.faults.Numbers.{step-there}
use Rattle.tv_frame.specs.declared.frame.Frame.{Frame}
use Rattle.tv_frame.specs.Kept.{Keeps, declared_at}
use Rattle.tv_frame.specs.Tables.{first_tree, levels_in}
use Rattle.tv_frame.proofs.FaultingFeeds.{KnowsAll}
use Rattle.tv_frame.proofs.HoldAround.{fewer-trees}
use Rattle.tv_frame.proofs.HoldTold.{same-names-has, same-names-position}

module _ (flows : List (Name × Flow)) (plan : FlowPlan) (pool : Nodes) (f : Frame) (v : View) (keeps : Keeps flows plan pool f v) (a : Sources) (inputs_are : a.inputs.now ≡ f.inputs) (outputs_are : a.outputs.now ≡ f.outputs) (nodes_are : a.pool.now ≡ pool) (firsts_are : a.firsts.now ≡ f.tables.firsts.items) where
  abbrev levels : Name → ℕ
  levels = levels_in v.flow

  input-so : (y : Name) → has_name v.flow.inputs y ≡ true → slice_get (piece_values a.inputs.now) (position y v.flow.inputs) ≡ Some (value_given v.inputs y)
  input-so y h =
      let st = is-named y v.inputs (same-names-has y v.inputs v.flow.inputs keeps.inputs_are.names ∙ h) in
      ap (λ ps. slice_get (piece_values ps) (position y v.flow.inputs)) inputs_are
      ∙ ap (λ vs. slice_get vs (position y v.flow.inputs)) (sym keeps.inputs_are.values)
      ∙ ap (slice_get (map (λ (z : Name × Value). z.1) v.inputs)) (sym (same-names-position y v.inputs v.flow.inputs keeps.inputs_are.names))
      ∙ get-map (λ (z : Name × Value). z.1) v.inputs (position y v.inputs) (y, st.thing) st.here
      ∙ ap (λ o. Some (unwrap_or o (list tt no_trees))) (sym st.named_so)

  tree-so : (t o : Name) → is_there v.flow (output t o) ≡ true → tree_from (known a.pool.now a.outputs.now) (slice_get a.firsts.now (position t v.flow.steps)) (position o (outputs_of v.flow t)) ≡ tree_of v.flow levels v.events t o
  tree-so t o h =
      let b = step-there v.flow t o h in
      let st = is-named t v.flow.steps b.0 in
      let n = position t v.flow.steps in
      let its = ap (λ (r : Option Step). option_map_or (λ (u : Step). u.outputs) r []) st.named_so in
      let out = is-named o (outputs_of v.flow t) b.1 in
      let k = position o (outputs_of v.flow t) in
      let few : k < length st.thing.outputs = subst (λ (ps : List (Name × ℕ)). k < length ps) its (there o (outputs_of v.flow t) b.1).below in
      let declared : declared_at (t, st.thing) k ≡ out.thing = ap (λ (ps : List (Name × ℕ)). slice_index_or (map (λ (p : Name × ℕ). p.1) ps) k 0) (sym its) ∙ index-map (λ (p : Name × ℕ). p.1) (outputs_of v.flow t) k (o, out.thing) 0 out.here in
      ap (λ ns. tree_from (known a.pool.now a.outputs.now) (slice_get ns n) k) (firsts_are ∙ keeps.tables_are.firsts_are)
      ∙ ap (λ r. tree_from (known a.pool.now a.outputs.now) r k) (get-map_range (first_tree v.flow.steps) (length v.flow.steps) n (slice_get_within v.flow.steps n (t, st.thing) st.here))
      ∙ ap (λ p. tree_in (known p a.outputs.now) (first_tree v.flow.steps n + k)) nodes_are
      ∙ ap (λ q. tree_in (known pool q) (first_tree v.flow.steps n + k)) outputs_are
      ∙ keeps.trees_are n (t, st.thing) st.here k (fewer-trees (t, st.thing) k few)
      ∙ ap (λ d. part_so_far t k (levels t) d v.events) (declared ∙ ap (λ r. unwrap_or r 0) (sym out.named_so))

  pub knows-all : KnowsAll levels v (known_by a)
  knows-all = record { inputs = input-so; outputs = tree-so }

-- ---- tables

pub index-mapped : {A B : Type 0} (g : A → B) (xs : List A) (n : ℕ) (d : A) → slice_index_or (map g xs) n (g d) ≡ g (slice_index_or xs n d)
index-mapped g [] n d = refl
index-mapped g (x ∷ xs) zero d = refl
index-mapped g (x ∷ xs) (suc n) d = index-mapped g xs n d

-- what is read at a number is there
pub read-there : {A : Type 0} (xs : List A) (n : ℕ) (d x : A) → slice_get xs n ≡ Some x → slice_index_or xs n d ≡ x
read-there xs n d x e = get_or_from_slice_get xs n x d e
