use Rattle.std.proofs.Common.{◌≡◌, map}
use Rattle.std.specs.List.{flat_map}
use Rattle.tv_value.specs.Views.{view as value_view}
use Rattle.tv_naming.specs.Inputs.{depth_against}
use Rattle.tv_naming.specs.Faulty.{first_of}
use Rattle.tv_naming.proofs.Firsts.{from}
use Rattle.tv_naming.proofs.given.depth_fault.Given as goal

abbrev pub invariant-loop-name : goal.invariant-loop-name
invariant-loop-name l = first_of (flat_map (depth_against l.inputs) (map (λ e. (e.0, value_view e.1)) l.given)) ≡ from (depth_against l.inputs) (λ e. (e.0, value_view e.1)) l.name-index l.name-items
