use Rattle.std.specs.Prelude.{◌+◌, ◌≡◌}
use Rattle.std.proofs.Common.{ap, arith, subst}
use Rattle.tv_work.specs.Locking.{acceptances}
use Rattle.tv_work.specs.Working.{GoesOn}
use Rattle.tv_work.proofs.Runs.{goes_on-none}
use Rattle.tv_work.proofs.locked.Locked.new.Goals as goal

pub invariant_of-result : goal.invariant_of-result
invariant_of-result g c =
    record {
      goes_on = subst (λ r. GoesOn r c.args.board) c.requires.began (goes_on-none c.args.board);
      legal = c.is_lawful.ensures.legal;
      counted = omega (arith, ap acceptances c.requires.began, c.requires.none);
    }
