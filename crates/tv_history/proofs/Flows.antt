-- The flow of an instance by its name: that of one that a job of another opened, and the names of its steps.
use Rattle.std.specs.Prelude.{List, None, Option, Some, [], option_and_then, option_map, refl, slice_get, unwrap_or, ℕ, ◌++◌, ◌∷◌, ◌≡◌}
use Rattle.std.proofs.Common.{ap, ◌∙◌}
use Rattle.tv_value.specs.Nested.{Place}
use Rattle.tv_value.specs.Orders.{named}
use Rattle.tv_value.specs.Values.{JobName, Name}
use Rattle.tv_flow.specs.Flows.{Document, Flow, Step}
use Rattle.tv_history.specs.Runs.{flow_of, step_name}
use Rattle.tv_model.specs.Opening.{first_nested}

-- ---- behind a name

chained : {A B C : Type 0} (f : A → Option B) (g : B → Option C) (o : Option A)
    → option_and_then (λ x. option_and_then g (f x)) o ≡ option_and_then g (option_and_then f o)
chained f g None = refl
chained f g (Some x) = refl

module _ (flows : List (Name × Flow)) where
  -- the name of the flow that a step opens
  abbrev opens : Step → Option Name
  opens s = first_nested s.activities

  -- the flow that the step of this name opens, seen from its flow
  abbrev next_flow : Name × Place → Flow → Option Flow
  next_flow k f = option_and_then (λ s. option_and_then (λ g. named g flows) (opens s)) (named k.0 f.steps)

  -- what a further step in the name leads to
  abbrev beyond : Name × Place → JobName → Flow → Option Flow
  beyond x n f = option_and_then (λ s. option_and_then (λ g. flow_of flows g n) (opens s)) (named x.0 f.steps)

  flow-behind : (main : Name) (n : JobName) (k : Name × Place)
      → flow_of flows main (n ++ k ∷ []) ≡ option_and_then (next_flow k) (flow_of flows main n)
  flow-behind main [] k = refl
  flow-behind main (x ∷ n) k =
      let next = next_flow k in
      (λ i. option_and_then (λ (f : Flow). option_and_then (λ s. option_and_then (λ g. flow-behind g n k i) (opens s)) (named x.0 f.steps)) (named main flows))
      ∙ (λ i. option_and_then (λ (f : Flow). option_and_then (λ s. chained (λ g. flow_of flows g n) next (opens s) i) (named x.0 f.steps)) (named main flows))
      ∙ (λ i. option_and_then (λ (f : Flow). chained (λ s. option_and_then (λ g. flow_of flows g n) (opens s)) next (named x.0 f.steps) i) (named main flows))
      ∙ chained (beyond x n) next (named main flows)

-- ---- instances

module _ (d : Document) (n : JobName) (f : Flow) (flow : flow_of d.flows d.main n ≡ Some f) where
  -- a job of an instance of flow f opens this one
  pub flow-opened : (k : Name × Place) (s : Step) (g : Name) (h : Flow)
      → named k.0 f.steps ≡ Some s → first_nested s.activities ≡ Some g → named g d.flows ≡ Some h
      → flow_of d.flows d.main (n ++ k ∷ []) ≡ Some h
  flow-opened k s g h step opened is =
      flow-behind d.flows d.main n k
      ∙ ap (option_and_then (next_flow d.flows k)) flow
      ∙ ap (option_and_then (λ (t : Step). option_and_then (λ x. named x d.flows) (opens d.flows t))) step
      ∙ ap (option_and_then (λ x. named x d.flows)) opened
      ∙ is

  -- its steps have their names by number
  pub step-named : (k : ℕ) (s : Name × Step) → slice_get f.steps k ≡ Some s → step_name d n k ≡ s.0
  step-named k s there =
      ap (λ o. unwrap_or (option_and_then (λ (g : Flow). option_map (λ (t : Name × Step). t.0) (slice_get g.steps k)) o) []) flow
      ∙ ap (λ o. unwrap_or (option_map (λ (t : Name × Step). t.0) o) []) there
