use Rattle.tv_work.proofs.Locks.{since-turn, turn-keeps}
use Rattle.tv_work.proofs.locked.Locked.turn.Goals as goal

pub invariant_of-self : goal.invariant_of-self
invariant_of-self g c =
    let r = c.self.inside.board in
    let s = c.settle_and_hand_out.new.board in
    since-turn g.V.Services.gives _ r s _ _ c.self.invariant c.settle_and_hand_out.ensures.legal
    (turn-keeps g.V.Services.gives r s c.settle_and_hand_out.result c.settle_and_hand_out.ensures.turned c.settle_and_hand_out.ensures.settled)
