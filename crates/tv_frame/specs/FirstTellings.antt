-- What the ports of a step are told at the start, from so many inputs of the flow and the step's constants.
use Rattle.std.specs.Prelude.{◌≡◌, ℕ, List, Option, Some, flat_map, is_some, reverse, slice_get, unwrap_or}
use Rattle.tv_value.specs.Nested.{list, no_trees}
use Rattle.tv_value.specs.Strategies.{Strategy}
use Rattle.tv_value.specs.Values.{Value}
use Rattle.tv_naming.specs.Naming.{numbered}
use Rattle.tv_matching.specs.Told.{Told}
use Rattle.tv_check.specs.declared.ports.Port.{Port}
use Rattle.tv_telling.specs.Openings.{IsFedFrom, numbered_port_start}

-- each port is fed from them
abbrev pub AreFed : ℕ → (ℕ → Option Value) → List Port → Type 0
AreFed count constants ps =
    (k : ℕ) (p : Port) → slice_get ps k ≡ Some p → IsFedFrom count (is_some (constants k)) p.feed

-- the constant of a port, where it has one
abbrev pub fixed_value : Option Value → Value
fixed_value c = unwrap_or c (list tt no_trees)

-- what the ports are told with these values of the inputs, the last port first
abbrev pub ports_start : List Value → (ℕ → Option Value) → Strategy → List Port → List Told
ports_start values constants s ps =
    flat_map (λ (x : ℕ × Port). numbered_port_start values (fixed_value (constants x.0)) s x.1)
    (reverse (numbered 0 ps))
