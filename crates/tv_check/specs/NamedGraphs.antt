-- Graphs of named things, which are numbered by their positions.
use Rattle.std.specs.Prelude.{ℕ, List, map, Bool, filter_map, ◌&&◌}
use Rattle.std.specs.List.{list_all}
use Rattle.tv_value.specs.Values.{Name}
use Rattle.tv_flow.specs.Flows.{Flow, Document}
use Rattle.tv_naming.specs.graphs.Graphs.{Graph}
use Rattle.tv_model.specs.instance.Ranks.{earlier_steps}
use Rattle.tv_naming.specs.Naming.{has_name}
use Rattle.tv_check.specs.Cycles.{opened_flows}
use Rattle.tv_naming.specs.Numbers.{number_in}

-- of the names that are there
abbrev pub numbers_of : {A : Type 0} → List (Name × A) → List Name → List ℕ
numbers_of xs ns = filter_map (number_in xs) ns

module _ {A : Type 0} (before : A → List Name) where
  abbrev pub graph_of : List (Name × A) → Graph
  graph_of xs = map (λ x. numbers_of xs (before x.1)) xs

  -- whether what comes directly before each thing is there
  abbrev pub leads_inside : List (Name × A) → Bool
  leads_inside xs = list_all (λ x. list_all (has_name xs) (before x.1)) xs

-- the feeding steps and the steps to run after are there
abbrev pub links_inside : Flow → Bool
links_inside f = leads_inside earlier_steps f.steps

-- so in each flow, and the flows that are opened are there
abbrev pub names_inside : Document → Bool
names_inside d = leads_inside opened_flows d.flows && list_all (λ f. links_inside f.1) d.flows
