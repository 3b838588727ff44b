use Rattle.std.proofs.Common.{◌≡◌, ◌<◌, sym, ◌∙◌, arith, length}
use Rattle.std.proofs.lemmas.List.{get_or_default}
use Rattle.tv_idle.specs.Sought.{is_sought_at}
use Rattle.tv_idle.proofs.Finding.{queue-found, queue-none}
use Rattle.tv_idle.proofs.search.first_queued.Goals as goal

pub returns-then-is_sought : goal.returns-then-is_sought
returns-then-is_sought c =
    let jobs = c.args.table.now.jobs in
    let qs = c.args.queue.now.items in
    let k = c.loop-position.position in
    let inside : k < length qs = let a = c.loop-position-test.true in let b = c.len-position-end.ensures in omega (arith, a, b, c.args.queue.now.ok.0) in
    queue-found jobs (is_sought_at c.args.place.now c.args.gone.now jobs) qs k c.index-at.result.now c.requires.rises inside c.loop-position.invariant
    (c.index-at.ensures ∙ get_or_default qs k c.index-at.result.now 0 inside) (sym c.is_sought.ensures ∙ c.if-is_sought.true)

pub returns : goal.returns
returns c =
    let jobs = c.args.table.now.jobs in
    let qs = c.args.queue.now.items in
    let k = c.loop-position.position in
    let all : length qs ≡ c.len-position-end.result = let b = c.len-position-end.ensures in omega (arith, b, c.args.queue.now.ok.0) in
    queue-none jobs (is_sought_at c.args.place.now c.args.gone.now jobs) qs
    (λ i l. c.loop-position.invariant i (let a = c.loop-position-test.false in omega (arith, a, all, l)))
