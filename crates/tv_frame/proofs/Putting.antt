-- An event that may come next can be put into the trees that a frame keeps of the event's step.
use Rattle.std.specs.Prelude.{◌≡◌, refl, ℕ, zero, suc, ◌+◌, ◌<◌, ◌≤◌, List, ◌∷◌, length, Option, Some, None, slice_index_or, unwrap_or}
use Rattle.std.proofs.Common.{sym, ap, subst, ◌∙◌, arith, eq-eqb}
use Rattle.std.proofs.lemmas.List.{length-map}
use Rattle.tv_value.specs.Nested.{Place}
use Rattle.tv_value.specs.Values.{Name, Value}
use Rattle.tv_flow.specs.Flows.{Flow, Step}
use Rattle.tv_naming.specs.Numbers.{position}
use Rattle.tv_naming.proofs.FormedParts.{steps-ascend}
use Rattle.tv_parts.specs.Changes.{CanArrive, CanClose}
use Rattle.tv_parts.specs.Partials.{Partial}
use Rattle.tv_check.specs.declared.plans.FlowPlan.{FlowPlan}
use Rattle.tv_stream.specs.Trees.{least_whole}
use Rattle.tv_outputs.specs.Changes.{AllCanArrive, AllCanClose, least_or_past}
use Rattle.tv_outputs.specs.Known.{Nodes, depth_in, depths, known, known_of, tree_in}
use Rattle.tv_model.specs.instance.Events.{Event, event_place, event_step}
use Rattle.tv_framing.specs.Arriving.{part_so_far}
use Rattle.tv_framing.specs.Views.{View}
use Rattle.tv_framing.specs.ways.Stated.{IsFrom}
use Rattle.tv_framing.specs.engine.TurningTrees.{CanPut, HasRightLength, whole_from}
use Rattle.tv_framing.proofs.engine.Endings.{position-of}
use Rattle.tv_framing.specs.keeping.NextEvents.{IsNextEvent}
use Rattle.tv_framing.specs.matches.Steps.{IsStepAt}
use Rattle.tv_framing.specs.feeds.Coming.{IsPutInto, put_here}
use Rattle.tv_framing.specs.feeds.Fed.{event_number, newly}
use Rattle.tv_framing.proofs.feeds.Coming.{events-are_in_trees, trees-go_on}
use Rattle.tv_frame.specs.declared.frame.Frame.{Frame}
use Rattle.tv_frame.specs.Kept.{Keeps, declared_at}
use Rattle.tv_frame.specs.Tables.{at_least_one, first_tree, levels_in, trees_of}
use Rattle.tv_check.specs.Tables.{step_level}
use Rattle.tv_frame.proofs.Keeping.{kept-wired, levels-are}
use Rattle.tv_frame.proofs.Trees.{tree-depth, trees-within}

pub one-tree : (n : ℕ) → 0 < at_least_one n
one-tree zero = omega arith
one-tree (suc n) = omega arith

-- the outputs are among the trees
pub outputs-few : (n : ℕ) → n ≤ at_least_one n
outputs-few zero = omega arith
outputs-few (suc n) = omega arith

-- the trees of a step in a frame
module _ (flows : List (Name × Flow)) (plan : FlowPlan) (pool : Nodes) (f : Frame) (v : View) (n : ℕ) (s : Name × Step) (k : Keeps flows plan pool f v) (at : IsStepAt v n s) where
  abbrev first : ℕ
  first = first_tree v.flow.steps n

  abbrev trees : List (Partial Value)
  trees = known pool f.outputs

  abbrev levels : Name → ℕ
  levels = levels_in v.flow

  as-many : length trees ≡ length (depths f.outputs)
  as-many = length-map f.outputs.trees.items (known_of pool) ∙ sym (length-map f.outputs.trees.items (λ t. t.depth))

  pub depths-there : first + trees_of s ≤ length (depths f.outputs)
  depths-there = subst (λ ds. first + trees_of s ≤ length ds) (sym k.deep) (trees-within (λ t. step_level v.flow t.1) v.flow.steps n s at)

  pub trees-there : first + trees_of s ≤ length trees
  trees-there = subst (λ l. first + trees_of s ≤ l) (sym as-many) depths-there

  pub depth-here : (i : ℕ) → i < trees_of s → depth_in (depths f.outputs) (first + i) ≡ levels s.0
  depth-here i h =
      ap (λ ds. slice_index_or ds (first + i) 0) k.deep
      ∙ tree-depth (λ t. step_level v.flow t.1) v.flow.steps n s at i h
      ∙ sym (levels-are v.flow (kept-wired flows plan pool f v k) n s at)

  -- an event of the step
  module _ (e : Event) (next : IsNextEvent flows (levels_in v.flow) v e) (named : event_step e ≡ s.0) where
    put-into : (i declared : ℕ) → IsPutInto levels v e i declared
    put-into i declared = events-are_in_trees flows levels v e next (kept-wired flows plan pool f v k) i declared

    pub can-put : (i : ℕ) → i < trees_of s → CanPut e (tree_in trees (first + i))
    can-put i h =
        subst (CanPut e) (sym (k.trees_are n s at i h))
        (subst (λ t. CanPut e (part_so_far t i (levels t) (declared_at s i) v.events)) named (put-into i (declared_at s i)).put)

    pub right-length : HasRightLength (levels s.0) e
    right-length = subst (λ t. HasRightLength (levels t) e) named (put-into 0 0).stands

    -- with the event a tree is this
    pub tree-after : (i declared : ℕ) → part_so_far s.0 i (levels s.0) declared (e ∷ v.events) ≡ put_here i (levels s.0) declared e (part_so_far s.0 i (levels s.0) declared v.events)
    tree-after i declared =
        let w = kept-wired flows plan pool f v k in
        let e1 : n ≡ event_number v e = sym (ap (λ t. position t v.flow.steps) named ∙ position-of v.flow.steps n s (steps-ascend v.flow w.formed) at) in
        (trees-go_on flows levels v e next w n s at i declared).own (eq-eqb n (event_number v e) e1)

    pub turns-at : (from : ℕ) → whole_from (event_place e) (put_here 0 (levels s.0) (declared_at s 0) e (tree_in trees (first + 0))) ≡ from → IsFrom (newly levels v e) (event_place e) from
    turns-at from h =
        let d = declared_at s 0 in
        let zero-in : 0 < trees_of s = one-tree (length s.1.outputs) in
        subst (IsFrom (newly levels v e) (event_place e)) h
        (subst (λ p. IsFrom (newly levels v e) (event_place e) (whole_from (event_place e) (put_here 0 (levels s.0) d e p))) (sym (k.trees_are n s at 0 zero-in))
        (subst (λ p. IsFrom (newly levels v e) (event_place e) (whole_from (event_place e) p)) (tree-after 0 d)
        (subst (λ t. IsFrom (newly levels v e) (event_place e) (whole_from (event_place e) (part_so_far t 0 (levels t) d (e ∷ v.events)))) named (put-into 0 d).turns)))

-- ---- in the words of the calls

-- each tree of these can take what arrives
pub all-arrive :
    (first count all levels : ℕ) (q : Place) (ds : List ℕ) (trees : List (Partial Value)) → count ≤ all → first + all ≤ length trees
    → ((i : ℕ) → i < all → depth_in ds (first + i) ≡ levels) → length q ≤ levels
    → ((i : ℕ) → i < all → CanArrive q (tree_in trees (first + i))) → AllCanArrive first count q ds trees
all-arrive first count all levels q ds trees few there deep short can = record {
  there = omega arith;
  short = λ i h. subst (λ d. length q ≤ d) (sym (deep i (omega arith))) short;
  can = λ i h. can i (omega arith);
}

-- and of these may be closed
pub all-close :
    (first count all levels size : ℕ) (q : Place) (ds : List ℕ) (trees : List (Partial Value)) → count ≤ all → first + all ≤ length trees
    → ((i : ℕ) → i < all → depth_in ds (first + i) ≡ levels) → length q < levels
    → ((i : ℕ) → i < all → CanClose q size (tree_in trees (first + i))) → AllCanClose first count q size ds trees
all-close first count all levels size q ds trees few there deep short can = record {
  there = omega arith;
  short = λ i h. subst (λ d. length q < d) (sym (deep i (omega arith))) short;
  can = λ i h. can i (omega arith);
}

pub past-is_from : {A : Type 0} (q : Place) (p : Partial A) → least_or_past q (least_whole q p) ≡ whole_from q p
past-is_from q p = by (least_whole q p)
  where
    by : (o : Option ℕ) → least_or_past q o ≡ unwrap_or o (suc (length q))
    by None = omega arith
    by (Some l) = refl
