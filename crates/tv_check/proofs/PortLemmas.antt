-- The leaves that ports make by default are the names of the inputs.
use Rattle.std.specs.Prelude.{◌≡◌, refl, List, [], ◌∷◌, map}
use Rattle.std.proofs.Common.{ap}
use Rattle.tv_value.specs.Values.{Name}
use Rattle.tv_flow.specs.Flows.{StepInput}
use Rattle.tv_strategy.specs.Measures.{all_leaf_names}
use Rattle.tv_model.specs.instance.Steps.{ports_of}

pub default-ports : (is : List (Name × StepInput)) → all_leaf_names (ports_of is) ≡ map (λ i. i.0) is
default-ports [] = refl
default-ports (i ∷ is) = ap (λ ns. i.0 ∷ ns) (default-ports is)
