use Rattle.std.specs.List.{list_any}
use Rattle.std.proofs.Common.{◌≡◌, false, take}
use Rattle.tv_spread.specs.Arounds.{input_faulty, output_faulty}
use Rattle.tv_spread.specs.Wholes.{link_faulty}
use Rattle.tv_spread.proofs.around.is_some_faulty.Given as goal

abbrev pub invariant-loop-link : goal.invariant-loop-link
invariant-loop-link l = list_any (link_faulty (input_faulty l.around) (output_faulty l.around l.step l.event)) (take l.link-index l.links) ≡ false
