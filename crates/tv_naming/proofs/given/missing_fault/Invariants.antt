use Rattle.std.proofs.Common.{◌≡◌}
use Rattle.std.specs.List.{flat_map}
use Rattle.tv_value.specs.Views.{view as value_view}
use Rattle.tv_flow.specs.Views.{each}
use Rattle.tv_naming.specs.Inputs.{missing_against}
use Rattle.tv_naming.specs.Faulty.{first_of}
use Rattle.tv_naming.proofs.Firsts.{from}
use Rattle.tv_naming.proofs.given.missing_fault.Given as goal

abbrev pub invariant-loop-name : goal.invariant-loop-name
invariant-loop-name l = first_of (flat_map (missing_against (each value_view l.given)) l.inputs) ≡ from (missing_against (each value_view l.given)) (λ e. e) l.name-index l.name-items
