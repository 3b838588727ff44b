use Rattle.tv_match.specs.Entries.{entry}
use Rattle.tv_match.specs.Filed.{filed}
use Rattle.tv_match.proofs.Filing.{on-both}
use Rattle.tv_match.proofs.Working.{still-both, next-done}
use Rattle.tv_match.proofs.steps.work.Goals as goal

pub returns-clause-done : goal.returns-clause-done
returns-clause-done c =
    on-both c.tell.result _ _ _ (λ f g ports s d. next-done ports s (filed c.args.root.now) (filed c.tell.new.self) c.args.log.now c.push.new.self c.args.out.now c.tell.new.out c.len.result d c.tell.ensures.adds c.tell.ensures.more (entry c.args.leaf c.args.place.now c.args.kind) c.in_ok-push.ensures.ok c.len.ensures f g) c.tell.ensures.store c.tell.ensures.items

pub returns-clause-still : goal.returns-clause-still
returns-clause-still c ports s d =
    still-both ports s (filed c.args.root.now) (filed c.tell.new.self) c.args.log.now c.push.new.self c.args.out.now c.tell.new.out c.len.result d c.tell.ensures.adds c.tell.ensures.more (entry c.args.leaf c.args.place.now c.args.kind) c.in_ok-push.ensures.ok c.len.ensures
