use Rattle.std.proofs.Common.{◌≡◌, ◌+◌, ◌-◌, ◌<◌, ap, sym, ◌∙◌, length, arith, refl, deque_len}
use Rattle.std.proofs.lemmas.List.{get_or_default}
use Rattle.tv_idle.specs.Orders.{is_before}
use Rattle.tv_idle.proofs.Keeping.{last-all}
use Rattle.tv_idle.proofs.ready.comes_last.Goals as goal

pub returns-in-Some : goal.returns-in-Some
returns-in-Some c h =
    let jobs = c.args.table.now.jobs in
    let q = c.args.queue.now in
    let k = deque_len q - 1 in
    let some : 0 < deque_len q = c.in-Some.ensures.variant.0 refl in
    let last : k + 1 ≡ length q.items = omega (arith, some, q.ok.0) in
    let same = c.in-Some.ensures.lookup ∙ get_or_default q.items k c.in-Some.last.now 0 (omega (arith, last)) in
    last-all jobs q.items k c.args.at c.requires.rises last (ap (λ s. is_before jobs s c.args.at) (sym same) ∙ sym c.is_before.ensures ∙ h)
