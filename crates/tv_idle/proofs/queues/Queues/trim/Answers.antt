use Rattle.std.proofs.Common.{◌≤◌, sym, subst, arith, length}
use Rattle.tv_idle.specs.Kept.{is_gone}
use Rattle.tv_idle.proofs.Faulty.{no-longer}
use Rattle.tv_idle.proofs.queues.Queues.trim.Goals as goal

pub overflow_sub-result : goal.overflow_sub-result
overflow_sub-result c =
    let js = c.args.self.now.faulty.jobs in
    let h = subst (λ ks. length ks ≤ length js) (sym c.trim-2.ensures.jobs) (no-longer (is_gone c.args.gone.now) js) in
    let a = c.len.ensures in
    let b = c.len-before.ensures in
    omega (arith, h, a, b)

pub returns-clause-dropped : goal.returns-clause-dropped
returns-clause-dropped c =
    let js = c.args.self.now.faulty.jobs in
    let h = subst (λ ks. length ks ≤ length js) (sym c.trim-2.ensures.jobs) (no-longer (is_gone c.args.gone.now) js) in
    let a = c.len.ensures in
    let b = c.len-before.ensures in
    omega (arith, h, a, b)
