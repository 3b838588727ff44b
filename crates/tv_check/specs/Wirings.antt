-- The wiring of a flow by numbers.
use Rattle.std.specs.Prelude.{ℕ, List, length, map}
use Rattle.std.specs.List.{range_with_len}
use Rattle.tv_value.specs.Values.{Name}
use Rattle.tv_flow.specs.Flows.{Step, Flow}
use Rattle.tv_naming.specs.Numbers.{position}
use Rattle.tv_check.specs.declared.ports.Port.{Port}
use Rattle.tv_check.specs.declared.wires.Wire.{Wire}
use Rattle.tv_check.specs.declared.wiring.Wiring.{Wiring}
use Rattle.tv_check.specs.Feeds.{feed_numbered}
use Rattle.tv_check.specs.Ports.{ports_of}
use Rattle.tv_check.specs.Turned.{all_waits, all_wires, from_each}

-- the steps that a step runs after, in byte order of their names
abbrev pub after_of : List (Name × Step) → Step → List ℕ
after_of steps s = map (λ a. position a steps) s.after

-- the input ports of each step, and the steps that it runs after
abbrev pub all_ports : Flow → List (List Port)
all_ports f = map (λ s. ports_of f s.1) f.steps

abbrev pub all_after : Flow → List (List ℕ)
all_after f = map (λ s. after_of f.steps s.1) f.steps

-- for each step the wires that come from it, and the steps that run after it
abbrev pub wires_by_step : Flow → List (List Wire)
wires_by_step f = from_each (range_with_len 0 (length f.steps)) (all_wires (all_ports f))

abbrev pub dependents : Flow → List (List ℕ)
dependents f = from_each (range_with_len 0 (length f.steps)) (all_waits (all_after f))

abbrev pub wiring : Flow → Wiring
wiring f =
    record {
      ports = all_ports f;
      outputs = map (λ o. feed_numbered f o.1) f.outputs;
      after = all_after f;
      wires = wires_by_step f;
      dependents = dependents f;
    }
