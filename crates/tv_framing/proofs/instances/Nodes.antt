-- What is so of every node of what an instance is given, and of every job, list and passed fault by its step and place, is so of
-- all nodes that its steps have and wait for.
use Rattle.std.specs.Prelude.{ℕ, zero, suc, List, [], ◌∷◌, ◌++◌, Option, None, map, unwrap_or, if◌then◌else◌}
use Rattle.tv_lemmas.specs.Members.{Each}
use Rattle.tv_value.specs.Nested.{leaf, list, tree, no_trees, Place, nodes, trees_of}
use Rattle.tv_value.specs.Values.{JobName, Name, Value}
use Rattle.tv_value.specs.Orders.{same_name, named}
use Rattle.tv_flow.specs.Flows.{Feed, Link, input, output, link, merge, constant, Step}
use Rattle.tv_strategy.specs.Origins.{Mark, Origin, Traced, fixed, from_job, from_level}
use Rattle.tv_strategy.specs.Iterations.{job, passed, Iteration, Iterations, iteration, walk}
use Rattle.tv_strategy.specs.Sources.{AtNodes, AtAllNodes, SourcesHave}
use Rattle.tv_strategy.proofs.Sources.{each-append, traced-have, walk-have, iteration-have}
use Rattle.tv_strategy.proofs.Each.{each-all}
use Rattle.tv_model.specs.instance.Delivered.{Delivered, feed_delivers, link_delivers, nothing_delivered, at_port, merged, wrapped}
use Rattle.tv_model.specs.instance.Ranks.{is_among}
use Rattle.tv_model.specs.instance.Steps.{spot, endings_of, node_origin, port_iteration, strategy_of}
use Rattle.tv_model.proofs.Fed.{either, named_or, named_map_or, find_map_or, each-flat_map, each-of_map}
use Rattle.tv_model.proofs.Sound.{AllStand, AllStandFrom, output-gives}
use Rattle.tv_model.specs.instance.ByResults.{InstanceStep, Results, outputs_by, ports_on, result_at, step_by, step_of, steps_by}
use Rattle.tv_framing.specs.instances.OwnNodes.{NodesHave}

module _ (P : Origin → Type 0) (fresh : P fixed) (instance : JobName)
    (of_job : (s : Name) (q : Place) → P (from_job (spot instance s q)))
    (of_level : (s : Name) (q : Place) (k : Option Mark) (r : List Origin) → P (from_level (spot instance s q) k r))
    (results : Results) (given : List (Name × Delivered)) (given_have : Each (λ d. AtNodes P d.1.value) given) where
  wrapped-have : (k : ℕ) (v : Traced) → AtNodes P v → AtNodes P (wrapped k v)
  wrapped-have zero v h = h
  wrapped-have (suc k) v h = (fresh, (wrapped-have k v h, tt))

  trees_of-have : (ds : List Delivered) → Each (λ d. AtNodes P d.value) ds → AtAllNodes P (trees_of (map (λ d. d.value) ds))
  trees_of-have [] h = tt
  trees_of-have (d ∷ ds) h = (h.0, trees_of-have ds h.1)

  merged-have : (ds : List Delivered) → Each (λ d. AtNodes P d.value) ds → AtNodes P (merged ds).value
  merged-have [] h = (fresh, tt)
  merged-have (d ∷ ds) h = (fresh, trees_of-have (d ∷ ds) h)

  abbrev Nothing : Place → Iteration → Type 0
  Nothing q u = Unit {0}

  mutual
    all-nothing : (t : Iteration) (q : Place) → AllStand Nothing q t
    all-nothing (leaf s e) q = tt
    all-nothing (list s ts) q = (tt, all_from-nothing ts q 0)

    all_from-nothing : (ts : Iterations) (q : Place) (i : ℕ) → AllStandFrom Nothing q i ts
    all_from-nothing no_trees q i = tt
    all_from-nothing (tree t ts) q i = (all-nothing t (q ++ i ∷ []), all_from-nothing ts q (suc i))

  outputs-all : (n : Name) (made : ℕ → Place → Value) (levels : ℕ) (it : Iteration) (k : ℕ) (ps : List (Name × ℕ)) → Each (λ d. AtNodes P d.1.value) (outputs_by instance n made levels it k ps)
  outputs-all n made levels it k [] = tt
  outputs-all n made levels it k (p ∷ ps) =
      (output-gives P Nothing (spot instance n) (made k) p.1 (λ q s b _. of_job n q) (λ q s x e _. of_level n q x s) (λ q s ts _. of_level n q None s) it [] levels (all-nothing it []), outputs-all n made levels it (suc k) ps)

  module _ (fs : List InstanceStep) (have : Each (NodesHave P) fs) where
    link-all : (l : Link) → AtNodes P (link_delivers step_of given fs l).value
    link-all (input x) = named_or (λ d. AtNodes P d.value) x given nothing_delivered given_have (fresh, tt)
    link-all (output s p) =
        find_map_or (NodesHave P) (λ d. AtNodes P d.value) (λ f. unwrap_or (named p f.step.outputs) nothing_delivered) (λ f h. named_or (λ d. AtNodes P d.value) p f.step.outputs nothing_delivered h.outputs (fresh, tt)) (λ f. same_name s f.step.step) fs nothing_delivered have (fresh, tt)

    feed-all : (d : Feed) → AtNodes P (feed_delivers step_of given fs d).value
    feed-all (link l) = link-all l
    feed-all (merge ls) =
        merged-have (map (link_delivers step_of given fs) ls) (each-of_map (λ l. Unit {0}) (λ d. AtNodes P d.value) (link_delivers step_of given fs) (λ l _. link-all l) ls (each-all (λ l. Unit {0}) (λ l. tt) ls))
    feed-all (constant v) = traced-have P fixed fresh v

    ports-all : (s : Step) → Each (λ d. AtNodes P d.1.value) (ports_on (feed_delivers step_of given fs) s.inputs)
    ports-all s =
        each-of_map (λ i. Unit {0}) (λ d. AtNodes P d.1.value) (λ i. (i.0, at_port i.1.depth (feed_delivers step_of given fs i.1.from))) (λ i _. wrapped-have _ _ (feed-all i.1.from)) s.inputs (each-all (λ i. Unit {0}) (λ i. tt) s.inputs)

    iteration-all : (s : Step) → SourcesHave P (iteration (port_iteration (ports_on (feed_delivers step_of given fs) s.inputs)) (strategy_of s))
    iteration-all s =
        iteration-have P (port_iteration (ports_on (feed_delivers step_of given fs) s.inputs)) (λ p. named_map_or (λ d. AtNodes P d.value) (SourcesHave P) (λ d. walk p d.mismatch d.value) (λ d h. walk-have P p d.mismatch d.value h) p (ports_on (feed_delivers step_of given fs) s.inputs) (leaf [] (job [])) (ports-all s) (tt, tt)) (strategy_of s)

    endings-all : (ns : List Name) → Each P (endings_of step_of fs ns)
    endings-all ns =
        each-flat_map (NodesHave P) P (λ f. if is_among ns f.step.step then f.step.ending else []) (λ f h. either (Each P) (is_among ns f.step.step) f.step.ending [] h.ending tt) fs have

    node-all : (n : Name) (x : Place × Iteration) → P (node_origin instance n x)
    node-all n (q, leaf r (job b)) = of_job n q
    node-all n (q, leaf r (passed k e)) = of_level n q k r
    node-all n (q, list r ts) = of_level n q None r

    pub step-all : (s : Name × Step) → (NodesHave P) (step_by instance results given fs s)
    step-all (n, s) =
        let it = (step_by instance results given fs (n, s)).step.iteration in
        record { outputs = outputs-all n (result_at results n) _ it 0 s.outputs; sources = iteration-all s; ending = each-append P (map (node_origin instance n) (nodes it)) (endings_of step_of fs s.after) (each-of_map (λ x. Unit {0}) P (node_origin instance n) (λ x _. node-all n x) (nodes it) (each-all (λ x. Unit {0}) (λ x. tt) (nodes it))) (endings-all s.after) }

  pub steps-all : (fs : List InstanceStep) → Each (NodesHave P) fs → (ss : List (Name × Step)) → Each (NodesHave P) (steps_by instance results given fs ss)
  steps-all fs h [] = h
  steps-all fs h (s ∷ ss) = steps-all (step_by instance results given fs s ∷ fs) (step-all fs h s, h) ss
