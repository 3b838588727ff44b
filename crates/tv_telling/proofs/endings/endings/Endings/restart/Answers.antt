use Rattle.std.proofs.Common.{◌≤◌, ◌∙◌, ap, map, length, arith, vec_capacity}
use Rattle.std.proofs.lemmas.List.{take_all}
use Rattle.tv_telling.proofs.WholePorts.{sound-at_start}
use Rattle.tv_telling.proofs.endings.endings.Endings.restart.Goals as goal

pub returns-clause-sound : goal.returns-clause-sound
returns-clause-sound c =
    let after = c.args.after.now in
    let left = c.loop-numbers.invariant ∙ ap (map length) (take_all c.loop-numbers.numbers-index after c.loop-numbers-test.false) in
    let room : length after ≤ vec_capacity c.reserve-2.new.self = omega (arith, c.in_ok-reserve-2.ensures.ok) in
    sound-at_start after _ left c.in_ok-unmark.ensures c.in_ok-unmark-2.ensures (λ i. length after) room
