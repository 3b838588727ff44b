use Rattle.std.proofs.Common.{sym, subst, take}
use Rattle.tv_match.specs.Filed.{filed, fronted}
use Rattle.tv_match.specs.Working.{IsDone}
use Rattle.tv_match.proofs.Working.{cut-done}
use Rattle.tv_match.proofs.steps.take_back.Goals as goal

pub returns-clause-done : goal.returns-clause-done
returns-clause-done c ports s m h k w r =
    subst (λ x. IsDone ports s x c.truncate.new.self c.cut-2.new.self) (sym c.cut.ensures)
    (subst (λ l. IsDone ports s (fronted c.args.told (filed c.args.root.now)) l c.cut-2.new.self) (sym c.truncate.ensures)
    (subst (λ o. IsDone ports s (fronted c.args.told (filed c.args.root.now)) (take c.args.told c.args.log.now) o) (sym c.cut-2.ensures) (cut-done ports s m c.args.told (filed c.args.root.now) c.args.log.now c.args.out.now h k w r)))
