use Rattle.std.proofs.Common.{◌≡◌, ◌++◌, ap, sym, ◌∙◌, length, arith}
use Rattle.std.proofs.lemmas.List.{length-append, length-map}
use Rattle.tv_idle.specs.Orders.{in_order, is_before, job_at}
use Rattle.tv_idle.proofs.Sorting.{length-in_order}
use Rattle.tv_idle.proofs.ready.Ready.len.Goals as goal

pub returns : goal.returns
returns c =
    let r = c.self.inside in
    let jobs = r.table.jobs in
    let all = r.queue.items ++ r.late.items in
    let seen : length c.args.self.now.jobs ≡ length all =
    ap (λ v. length v.jobs) (sym c.self.view_is) ∙ length-map (in_order (is_before jobs) all) (job_at jobs) ∙ length-in_order (is_before jobs) all
    in
    let both = length-append r.queue.items r.late.items in
    omega (arith, seen, both, c.len.ensures, c.len-2.ensures, r.queue.ok.0, r.late.ok.0)
