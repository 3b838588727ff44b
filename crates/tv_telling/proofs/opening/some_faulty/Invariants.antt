use Rattle.std.specs.List.{list_any}
use Rattle.std.proofs.Common.{◌≡◌, false, List, map, take}
use Rattle.tv_value.specs.Values.{Value, holds_fault}
use Rattle.tv_telling.specs.Openings.{numbered_input_faulty}
use Rattle.tv_telling.proofs.opening.some_faulty.Given as goal

abbrev pub invariant-loop-link : goal.invariant-loop-link
invariant-loop-link l =
    (values : List Value) → l.faulty ≡ map holds_fault values
    → list_any (numbered_input_faulty values) (take l.link-index l.links) ≡ false
