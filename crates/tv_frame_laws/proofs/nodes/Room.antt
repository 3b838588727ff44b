-- The region of a frame has no more nodes than the outputs and iterations of the frame's steps, whatever isn't told.
use Rattle.std.specs.Cmp.Lexicographic.{bytes_decides}
use Rattle.std.specs.List.{sum_by}
use Rattle.std.specs.Prelude.{◌≡◌, ◌≢◌, refl, ℕ, suc, ◌+◌, ◌≤◌, Bool, true, false, if◌then◌else◌, List, [], ◌∷◌, length, map, Some, slice_get, unwrap_or}
use Rattle.std.proofs.Common.{arith, ap, inr, subst, sym, ◌∙◌}
use Rattle.std.proofs.lemmas.List.{length-map}
use Rattle.std.proofs.lemmas.List.Sums.{sum_by-cons}
use Rattle.std.proofs.lemmas.Option.{get_or_from_slice_get, slice_get_within}
use Rattle.tv_lemmas.specs.Members.{In}
use Rattle.tv_lemmas.proofs.Members.{in-slice}
use Rattle.tv_value.specs.Nested.{Place, list, no_trees, notes}
use Rattle.tv_value.specs.Orders.{same_name}
use Rattle.tv_value.specs.Values.{JobName, Name, Value}
use Rattle.tv_value.proofs.NameLemmas.{same_name-refl}
use Rattle.tv_flow.specs.Flows.{Flow, Step}
use Rattle.tv_strategy.specs.Iterations.{Iteration}
use Rattle.tv_strategy.specs.Origins.{plain}
use Rattle.tv_strategy.specs.Outputs.{output_below}
use Rattle.tv_naming.proofs.ByPosition.{position-at}
use Rattle.tv_naming.proofs.FormedParts.{steps-ascend}
use Rattle.tv_naming.specs.Numbers.{position}
use Rattle.tv_check.proofs.Ranked.{all-ranked}
use Rattle.tv_model.specs.instance.Delivered.{Delivered, feed_delivers}
use Rattle.tv_model.specs.instance.Ranks.{ranked}
use Rattle.tv_model.specs.instance.Steps.{declared_depths, spot}
use Rattle.tv_stream.specs.NodeCounts.{tree_nodes}
use Rattle.tv_check.specs.declared.plans.FlowPlan.{FlowPlan}
use Rattle.tv_outputs.specs.Known.{Nodes, all_nodes, known, known_of, tree_in}
use Rattle.tv_outputs.specs.Stated.{node_count}
use Rattle.tv_outputs.proofs.ValueLemmas.{all-nodes, no-more}
use Rattle.tv_model.specs.instance.ByResults.{InstanceStep, Results, levels_on, outputs_by, result_at, step_of}
use Rattle.tv_model.specs.instance.Events as events
use Rattle.tv_model.specs.instance.Events.{Events, Extends, fault_set, gave, took}
use Rattle.tv_model.specs.instance.Fitting.{FitStep}
use Rattle.tv_frame.proofs.instances.Legal.{legal-fit}
use Rattle.tv_model.specs.Instances.{given_of}
use Rattle.tv_frame.specs.Histories.{size_of, step_room}
use Rattle.tv_frame.specs.Arriving.{part_so_far}
use Rattle.tv_frame.specs.FramingViews.{AreGiven, AreOfDepth, View, steps_with}
use Rattle.tv_frame.proofs.Arriving.{so-far-below}
use Rattle.tv_frame.proofs.Frames.{in-finds, steps-distinct}
use Rattle.tv_frame.specs.engine.WiredFlows.{IsWired}
use Rattle.tv_frame.proofs.framing_starts.Instances.{step-of, step-there}
use Rattle.tv_frame.specs.matches.Steps.{IsStepAt}
use Rattle.tv_frame.specs.declared.frame.Frame.{Frame}
use Rattle.tv_frame.specs.Kept.{Keeps, declared_at}
use Rattle.tv_frame.specs.Tables.{at_least_one, first_tree, levels_in, trees_of}
use Rattle.tv_check.specs.Tables.{step_level}
use Rattle.tv_frame.proofs.Coming.{as-declared}
use Rattle.tv_frame.proofs.Keeping.{kept-wired}
use Rattle.tv_frame_laws.specs.nodes.Stated.{NodesFitSteps}
use Rattle.tv_frame_laws.proofs.nodes.ByStep.{by-steps, nodes-by_number, sum-same, sum_to, total, total-is}
use Rattle.tv_frame_laws.proofs.nodes.Covering.{covered, one-where, sum-all, sum_where}
use Rattle.tv_frame_laws.proofs.nodes.Sizes.{any-depth, ones-size, plain-size}

-- ---- numbers and names of steps

one-number : (f : Flow) → IsWired f → (n m : ℕ) (s t : Name × Step) → slice_get f.steps n ≡ Some s → slice_get f.steps m ≡ Some t → s.0 ≡ t.0 → n ≡ m
one-number f wired n m s t a b e = sym (at n s a) ∙ ap (λ k. position k f.steps) e ∙ at m t b
  where
    at : (k : ℕ) (u : Name × Step) → slice_get f.steps k ≡ Some u → position u.0 f.steps ≡ k
    at k u h =
        ap (λ (x : Name × Step). position x.0 f.steps) (sym (get_or_from_slice_get f.steps k u u h))
        ∙ position-at f.steps k u (steps-ascend f wired.formed) (slice_get_within f.steps k u h)

-- ---- a step without outputs

-- its jobs gave nothing
abbrev with_none : Name → Results → Results
with_none s results t q = if same_name s t then [] else results t q

extends-none : (ss : List (Name × Step)) (s : Name × Step) → In s ss → s.1.outputs ≡ [] → (results : Results) (es : Events)
    → AreGiven ss es → Extends results es → Extends (with_none s.0 results) es
extends-none ss s i none results [] g x = tt
extends-none ss s i none results (gave t q vs ∷ es) g x = (by (same_name s.0 t) refl, extends-none ss s i none results es g.2 x.1)
  where
    nil : (l : List Value) → length l ≡ 0 → [] ≡ l
    nil [] h = refl
    nil (v ∷ l) h = absurd (never (length l) h)
      where
        never : (n : ℕ) → suc n ≡ 0 → ⊥
        never n h = omega arith

    by : (b : Bool) → same_name s.0 t ≡ b → (if b then [] else results t q) ≡ vs
    by true e =
        nil vs
        (as-declared (declared_depths s.1) vs (g.0 s i ((bytes_decides s.0 t).0 e))
        ∙ ap (λ (ps : List (Name × ℕ)). length (map (λ (o : Name × ℕ). o.1) ps)) none)
    by false e = x.0
extends-none ss s i none results (events.closed t q n ∷ es) g x = extends-none ss s i none results es g x
extends-none ss s i none results (fault_set t q d ∷ es) g x = extends-none ss s i none results es g x
extends-none ss s i none results (took t q ∷ es) g x = extends-none ss s i none results es g x

-- ---- the outputs of a step, one after another

-- each has at least as many nodes as a number says
outputs-few : (instance : JobName) (s : Name) (gives : ℕ → Place → Value) (levels d l : ℕ) (it : Iteration) (ps : List (Name × ℕ)) (k : ℕ) (h : ℕ → ℕ)
    → ((j : ℕ) → h j ≤ size_of (output_below (spot instance s) (gives (k + j)) d [] l it))
    → sum_to h (length ps) ≤ sum_by (λ p. size_of p.1.value) (outputs_by instance s gives levels it k ps)
outputs-few instance s gives levels d l it [] k h few = omega arith
outputs-few instance s gives levels d l it (p ∷ ps) k h few =
    both (h 0) (sum_to (λ j. h (suc j)) (length ps)) (size_of (output_below (spot instance s) (gives k) p.1 [] levels it))
    (sum_by (λ o. size_of o.1.value) (outputs_by instance s gives levels it (suc k) ps)) _
    (subst (λ n. h 0 ≤ n) (any-depth (spot instance s) (gives k) d p.1 it [] l levels) (subst (λ m. h 0 ≤ size_of (output_below (spot instance s) (gives m) d [] l it)) (none k) (few 0)))
    (outputs-few instance s gives levels d l it ps (suc k) (λ j. h (suc j)) (λ j. subst (λ m. h (suc j) ≤ size_of (output_below (spot instance s) (gives m) d [] l it)) (next k j) (few (suc j))))
    (sum_by-cons (λ (o : Name × Delivered). size_of o.1.value) (p.0, record { depth = levels + p.1; value = output_below (spot instance s) (gives k) p.1 [] levels it }) (outputs_by instance s gives levels it (suc k) ps))
  where
    none : (k : ℕ) → k + 0 ≡ k
    none k = omega arith

    next : (k j : ℕ) → k + suc j ≡ suc k + j
    next k j = omega arith

    both : (a b c d n : ℕ) → a ≤ c → b ≤ d → n ≡ c + d → a + b ≤ n
    both a b c d n h k e = omega arith

module _ (flows : List (Name × Flow)) (plan : FlowPlan) (pool : Nodes) (f : Frame) (v : View) (keeps : Keeps flows plan pool f v)
    (instance : JobName) (results : Results) (depth : AreOfDepth v instance results) (x : Extends results v.events) where
  abbrev fs : List InstanceStep
  fs = steps_with v instance results

  wired : IsWired v.flow
  wired = kept-wired flows plan pool f v keeps

  -- what is known of the k-th output of a step has so many nodes
  abbrev nodes_of : Name × Step → ℕ → ℕ
  nodes_of s k = tree_nodes (part_so_far s.0 k (levels_in v.flow s.0) (declared_at s k) v.events)

  abbrev step_nodes : Name × Step → ℕ
  step_nodes s = sum_to (nodes_of s) (trees_of s)

  -- ---- one step

  module _ (n : ℕ) (s : Name × Step) (at : IsStepAt v n s) where
    made : (g : InstanceStep) × In g fs × (g.step.step ≡ s.0)
    made = step-there v wired n s at instance results

    abbrev g : InstanceStep
    g = made.0

    fit : FitStep g v.events
    fit = legal-fit instance fs g (in-finds fs (steps-distinct v instance results) g made.1) v.events (keeps.frame.legal instance results depth x)

    -- what is known of an output is below it, and so has no more nodes
    tree-few : (others : Results) → Extends others v.events → (k : ℕ)
        → nodes_of s k ≤ size_of (output_below (spot instance s.0) (result_at others s.0 k) (declared_at s k) [] (levels_in v.flow s.0) g.step.iteration)
    tree-few others y k =
        subst (λ m. tree_nodes (part_so_far m k (levels_in v.flow s.0) (declared_at s k) v.events) ≤ size_of (output_below (spot instance m) (result_at others m k) (declared_at s k) [] (levels_in v.flow s.0) g.step.iteration)) made.2
        (subst (λ c. tree_nodes (part_so_far g.step.step k (levels_in v.flow s.0) (declared_at s k) v.events) ≤ c) (plain-size (output_below (spot instance g.step.step) (result_at others g.step.step k) (declared_at s k) [] (levels_in v.flow s.0) g.step.iteration))
        (no-more (part_so_far g.step.step k (levels_in v.flow s.0) (declared_at s k) v.events) (plain (output_below (spot instance g.step.step) (result_at others g.step.step k) (declared_at s k) [] (levels_in v.flow s.0) g.step.iteration))
        (so-far-below instance others g (record { depth = 0; value = output_below (spot instance g.step.step) (result_at others g.step.step k) (declared_at s k) [] (levels_in v.flow s.0) g.step.iteration }) (k, declared_at s k, levels_in v.flow s.0, refl) v.events y fit)))

    -- of a step without outputs the tree has no more than the iteration
    few-none : s.1.outputs ≡ [] → step_nodes s ≤ size_of g.step.iteration
    few-none none =
        subst (λ (ps : List (Name × ℕ)). sum_to (nodes_of s) (at_least_one (length ps)) ≤ size_of g.step.iteration) (sym none)
        (one (nodes_of s 0) (size_of g.step.iteration)
        (subst (λ c. nodes_of s 0 ≤ c) (ones-size (spot instance s.0) (result_at (with_none s.0 results) s.0 0) (declared_at s 0) ones g.step.iteration [] (levels_in v.flow s.0)) (tree-few (with_none s.0 results) y 0)))
      where
        y : Extends (with_none s.0 results) v.events
        y =
            let r = all-ranked v.flow.steps (steps-ascend v.flow wired.formed) wired.ranked s (n, at) in
            extends-none (ranked v.flow.steps) s (in-slice (ranked v.flow.steps) r.0 s r.1) none results v.events keeps.frame.given x

        ones : (q : Place) → length (notes (result_at (with_none s.0 results) s.0 0 q)) ≡ 1
        ones q = ap (λ b. length (notes (unwrap_or (slice_get (if b then [] else results s.0 q) 0) (list tt no_trees)))) (same_name-refl s.0)

        one : (a b : ℕ) → a ≤ b → a + 0 ≤ b
        one a b h = omega arith

    -- the outputs of another have no fewer than the trees
    few-outputs : (p : Name × ℕ) (ps : List (Name × ℕ)) → s.1.outputs ≡ p ∷ ps → step_nodes s ≤ sum_by (λ o. size_of o.1.value) g.step.outputs
    few-outputs p ps some_are =
        let w = step-of flows (levels_in v.flow) v keeps.of_depths wired n s at instance results depth g made.1 made.2 in
        let levels = levels_on (feed_delivers step_of (given_of v.flow v.inputs) w.before) s.1 in
        let outputs : g.step.outputs ≡ outputs_by instance s.0 (result_at results s.0) levels g.step.iteration 0 s.1.outputs
        = ap (λ (h : InstanceStep). h.step.outputs) w.is ∙ ap (λ (h : InstanceStep). outputs_by instance s.0 (result_at results s.0) levels h.step.iteration 0 s.1.outputs) (sym w.is) in
        subst (λ os. step_nodes s ≤ sum_by (λ o. size_of o.1.value) os) (sym outputs)
        (subst (λ m. sum_to (nodes_of s) m ≤ sum_by (λ o. size_of o.1.value) (outputs_by instance s.0 (result_at results s.0) levels g.step.iteration 0 s.1.outputs)) (sym many)
        (outputs-few instance s.0 (result_at results s.0) levels 0 0 g.step.iteration s.1.outputs 0 (nodes_of s)
        (λ j. subst (λ m. nodes_of s j ≤ size_of (output_below (spot instance s.0) (result_at results s.0 m) 0 [] 0 g.step.iteration)) (sym (none j)) (subst (λ c. nodes_of s j ≤ c) (any-depth (spot instance s.0) (result_at results s.0 j) (declared_at s j) 0 g.step.iteration [] (levels_in v.flow s.0) 0) (tree-few results x j)))))
      where
        none : (j : ℕ) → 0 + j ≡ j
        none j = omega arith

        many : trees_of s ≡ length s.1.outputs
        many = ap (λ (os : List (Name × ℕ)). at_least_one (length os)) some_are ∙ ap (λ (os : List (Name × ℕ)). length os) (sym some_are)

    step-few : step_nodes s ≤ step_room g.step
    step-few = by s.1.outputs refl
      where
        last : (a b c d : ℕ) → d ≤ c → d ≤ (a + b) + c
        last a b c d h = omega arith

        middle : (a b c d : ℕ) → d ≤ b → d ≤ (a + b) + c
        middle a b c d h = omega arith

        by : (ps : List (Name × ℕ)) → s.1.outputs ≡ ps → step_nodes s ≤ step_room g.step
        by [] e = last (sum_by (λ p. size_of p.1.value) g.step.inputs) (sum_by (λ p. size_of p.1.value) g.step.outputs) (size_of g.step.iteration) (step_nodes s) (few-none e)
        by (p ∷ ps) e = middle (sum_by (λ o. size_of o.1.value) g.step.inputs) (sum_by (λ o. size_of o.1.value) g.step.outputs) (size_of g.step.iteration) (step_nodes s) (few-outputs p ps e)

  -- ---- all steps

  all-known : all_nodes (known pool f.outputs) ≡ sum_to (λ k. tree_nodes (tree_in (known pool f.outputs) k)) (total v.flow.steps)
  all-known =
      nodes-by_number (known pool f.outputs)
      ∙ ap (sum_to (λ k. tree_nodes (tree_in (known pool f.outputs) k)))
      (length-map f.outputs.trees.items (known_of pool)
      ∙ sym (length-map f.outputs.trees.items (λ t. t.depth))
      ∙ ap length keeps.deep
      ∙ total-is (λ (s : Name × Step). step_level v.flow s.1) v.flow.steps)

  known-few : sum_to (λ k. tree_nodes (tree_in (known pool f.outputs) k)) (total v.flow.steps) ≤ sum_by step_nodes v.flow.steps
  known-few =
      by-steps v.flow.steps (λ k. tree_nodes (tree_in (known pool f.outputs) k)) step_nodes
      (λ n s at. same _ _ (sum-same (trees_of s) (λ k. tree_nodes (tree_in (known pool f.outputs) (first_tree v.flow.steps n + k))) (nodes_of s) (λ k l. ap tree_nodes (keeps.trees_are n s at k l))))
    where
      same : (a b : ℕ) → a ≡ b → a ≤ b
      same a b e = omega arith

  abbrev HasName : ℕ → Name → Type 0
  HasName n k = (s : Name × Step) × (slice_get v.flow.steps n ≡ Some s) × (s.0 ≡ k)

  abbrev is_of : Name → InstanceStep → Bool
  is_of k h = same_name k h.step.step

  names-apart : (n m : ℕ) (k l : Name) → HasName n k → HasName m l → n ≢ m → (h : InstanceStep) → is_of k h ≡ true → is_of l h ≡ true → ⊥
  names-apart n m k l a b ne h t u =
      ne (one-number v.flow wired n m a.0 b.0 a.1 b.1 (a.2 ∙ (bytes_decides k h.step.step).0 t ∙ sym ((bytes_decides l h.step.step).0 u) ∙ sym b.2))

  steps-few : sum_by step_nodes v.flow.steps ≤ sum_by (λ h. step_room h.step) fs
  steps-few =
      subst (λ n. sum_by step_nodes v.flow.steps ≤ n) (sum-all (λ (h : InstanceStep). step_room h.step) fs)
      (covered step_nodes (λ (h : InstanceStep). step_room h.step) is_of HasName names-apart fs 0 v.flow.steps (λ h. true)
      (λ n s at. inr (record {
        key = s.0;
        has = (s, ap (λ k. slice_get v.flow.steps k) (none n) ∙ at, refl);
        inside = λ h t. refl;
        few = both (step_nodes s) (step_room (g n s at).step) (sum_where (λ (h : InstanceStep). step_room h.step) (is_of s.0) fs) (step-few n s at)
            (one-where (λ (h : InstanceStep). step_room h.step) (is_of s.0) fs (g n s at) (made n s at).1
            (ap (same_name s.0) (made n s at).2 ∙ same_name-refl s.0));
      })))
    where
      none : (n : ℕ) → 0 + n ≡ n
      none n = omega arith

      both : (a b c : ℕ) → a ≤ b → b ≤ c → a ≤ c
      both a b c h k = omega arith

  pub nodes-fit : node_count pool f.region ≤ sum_by (λ h. step_room h.step) fs
  nodes-fit = all (node_count pool f.region) (all_nodes (known pool f.outputs)) _ _ _ (all-nodes pool f.outputs f.region keeps.stand) all-known known-few steps-few
    where
      all : (a b c d e : ℕ) → a ≤ b → b ≡ c → c ≤ d → d ≤ e → a ≤ e
      all a b c d e h k l m = omega arith

pub nodes-fit_steps : NodesFitSteps
nodes-fit_steps flows plan pool f v keeps instance results depth x = nodes-fit flows plan pool f v keeps instance results depth x
