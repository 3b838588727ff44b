-- The laws of an instance, for every flow and every inputs.
use Rattle.std.specs.Prelude.{refl, ℕ, suc, List, [], ◌∷◌, ◌++◌, unwrap_or, flat_map, IsPermutation}
use Rattle.tv_lemmas.specs.Members.{Each}
use Rattle.tv_value.specs.Nested.{leaf, list, Trees, no_trees, tree, Place}
use Rattle.tv_value.specs.Values.{Name, JobName, Scalar, Value}
use Rattle.tv_value.specs.Orders.{named}
use Rattle.tv_flow.specs.Flows.{Step, Flow}
use Rattle.tv_strategy.specs.Origins.{input_value, input_values}
use Rattle.tv_gate.specs.Outcomes.{Giving}
use Rattle.tv_model.specs.Made.{Meaning, Made}
use Rattle.tv_model.specs.Instances.{steps_made}
use Rattle.tv_model.specs.instance.Ranks.{ranked}
use Rattle.tv_model.proofs.Ranks.{IsOrdered, ranked-ordered}
use Rattle.tv_strategy.specs.Sources.{AtNodes, AtAllNodes}
use Rattle.tv_strategy.proofs.Each.{each-all}
use Rattle.tv_model.proofs.Fed.{each-of_map}
use Rattle.tv_model.proofs.Earlier.{job_list, NeedEarlier}
use Rattle.tv_model.proofs.Order.{opened-asks, opened_order, turn_of}
use Rattle.tv_model.proofs.Sound.{AreDistinct, FreshNames, IsFree}
use Rattle.tv_model.proofs.Formed.{AreFormed, none-formed, steps-formed}
pub use Rattle.tv_model.specs.Instances.{given_of}

-- ---- inputs

mutual
  input-free : (x : Name) (q : Place) (v : Value) → AtNodes IsFree (input_value x q v)
  input-free x q (leaf n a) = (refl, refl)
  input-free x q (list n ts) = ((refl, refl), inputs-free x q 0 ts)

  inputs-free : (x : Name) (q : Place) (i : ℕ) (vs : Trees (Unit {0}) Scalar) → AtAllNodes IsFree (input_values x q i vs)
  inputs-free x q i no_trees = tt
  inputs-free x q i (tree v vs) = (input-free x (q ++ i ∷ []) v, inputs-free x q (suc i) vs)

pub given-free : (flow : Flow) (vs : List (Name × Value)) → Each (λ d. AtNodes IsFree d.1.value) (given_of flow vs)
given-free flow vs =
    each-of_map (λ x. Unit {0}) (λ d. AtNodes IsFree d.1.value) (λ x. (x.0, record { depth = x.1; value = input_value x.0 [] (unwrap_or (named x.0 vs) (list tt no_trees)) })) (λ x _. input-free x.0 [] _) flow.inputs (each-all (λ x. Unit {0}) (λ x. tt) flow.inputs)

-- ---- rank

fresh-of_ordered : (ns : List Name) (steps : List (Name × Step)) → IsOrdered ns steps → FreshNames ns steps
fresh-of_ordered ns [] h = tt
fresh-of_ordered ns (s ∷ ss) h = (h.1.0, fresh-of_ordered (s.0 ∷ ns) ss h.1.1)

-- steps by rank have each name once
pub ranked-fresh : (steps : List (Name × Step)) → FreshNames [] (ranked steps)
ranked-fresh steps = fresh-of_ordered [] (ranked steps) (ranked-ordered steps)

-- ---- every instance

module _ (gives : Giving) (inside : Name → JobName → List (Name × Value) → Meaning) (instance : JobName) (flow : Flow) (vs : List (Name × Value)) where
  abbrev pub steps_of : List Made
  steps_of = steps_made gives inside instance (given_of flow vs) [] (ranked flow.steps)

  -- what is so of the flows inside, and of the places of each step, is so of the jobs of the instance
  pub instance-formed : (P : Meaning → JobName → Type 0) (inside_is : (f : Name) (n : JobName) (us : List (Name × Value)) → P (inside f n us) n) (D : ℕ → Type 0) → Each (λ s. D s.1.jobs) (ranked flow.steps) → AreFormed gives inside instance P inside_is D (given_of flow vs) (given-free flow vs) steps_of
  instance-formed P inside_is D =
      steps-formed gives inside instance P inside_is D (given_of flow vs) (given-free flow vs) []
      (none-formed gives inside instance P inside_is D (given_of flow vs) (given-free flow vs)) (ranked flow.steps) (ranked-fresh flow.steps)

  plain-formed : AreFormed gives inside instance (λ m n. Unit {0}) (λ f n us. tt) (λ k. Unit {0}) (given_of flow vs) (given-free flow vs) steps_of
  plain-formed = instance-formed (λ m n. Unit {0}) (λ f n us. tt) (λ k. Unit {0}) (each-all (λ s. Unit {0}) (λ s. tt) (ranked flow.steps))

  -- each job needs only jobs of steps of lesser rank
  pub needs-earlier : NeedEarlier steps_of
  needs-earlier = plain-formed.earlier

  -- each step has a name of its own
  pub all-distinct : AreDistinct instance steps_of
  all-distinct = plain-formed.distinct

  -- the order of one worker has each ask of the instance, and of what stands inside its jobs, as often as they have it
  pub order-asks : IsPermutation (opened_order (job_list steps_of)) (flat_map (λ o. (turn_of o).asks) (job_list steps_of))
  order-asks = opened-asks steps_of needs-earlier
