-- What the check of a document sees to of each of its flows, as far as its wiring needs it.
use Rattle.std.specs.List.{list_all, list_any}
use Rattle.std.specs.Prelude.{◌≡◌, true, length}
use Rattle.tv_value.specs.Orders.{same_name}
use Rattle.tv_flow.specs.Flows.{Flow}
use Rattle.tv_flow.specs.Formed.{is_flow}
use Rattle.tv_strategy.specs.Measures.{leaf_names}
use Rattle.tv_naming.specs.Naming.{feed_links, is_there}
use Rattle.tv_model.specs.instance.Ranks.{ranked}
use Rattle.tv_model.specs.instance.Steps.{strategy_of}
use Rattle.tv_check.specs.PlanViews.{IsOfDocument}

pub record IsWired (f : Flow) : Type 0 where
  -- names are in order, each once
  pub formed : is_flow f ≡ true
  -- no step comes before itself
  pub ranked : length (ranked f.steps) ≡ length f.steps
  -- each link comes from an input or an output that is there
  pub links : list_all (λ s. list_all (λ i. list_all (is_there f) (feed_links i.1.from)) s.1.inputs)
      f.steps ≡ true
  -- each port is a leaf of its step's strategy
  pub leaves :
      list_all (λ s. list_all (λ i. list_any (same_name i.0) (leaf_names (strategy_of s.1)))
      s.1.inputs) f.steps ≡ true

abbrev pub AcceptedFlowsAreWired : Type 0
AcceptedFlowsAreWired = (f : Flow) → IsOfDocument f → IsWired f
