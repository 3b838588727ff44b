-- The values that a step's ports are delivered.
use Rattle.std.specs.Prelude.{◌≡◌}
use Rattle.tv_lemmas.specs.Members.{Each}
use Rattle.tv_value.specs.Values.{Name}
use Rattle.tv_strategy.specs.Origins.{Traced}
use Rattle.tv_model.specs.instance.ByResults.{InstanceStep}

-- values that a port is delivered, by the step's ports
abbrev pub Delivers : InstanceStep → (Name → Traced) → Type 0
Delivers f values = Each (λ d. values d.0 ≡ d.1.value) f.step.inputs
