use Rattle.std.specs.List.{list_all}
use Rattle.std.proofs.Common.{◌≡◌, true, take}
use Rattle.tv_telling.specs.Openings.{is_numbered_input}
use Rattle.tv_telling.proofs.opening.are_inputs.Given as goal

abbrev pub invariant-loop-link : goal.invariant-loop-link
invariant-loop-link l = list_all is_numbered_input (take l.link-index l.links) ≡ true
