use Rattle.std.specs.Prelude.{count_by}
use Rattle.std.proofs.Common.{ap, ◌∙◌}
use Rattle.tv_history.specs.Counted.{is_acceptance, is_bounce}
use Rattle.tv_run.proofs.Totals.{totals-are}
use Rattle.tv_run.proofs.run.OpenRun.totals.Goals as goal

pub returns : goal.returns
returns c gives s =
    let e = c.as_slice-entries.ensures.value in
    totals-are gives c.args.self.now s c.count_accepted.result c.count_bounced.result c.count_settled.result
    (c.count_accepted.ensures ∙ ap (count_by is_acceptance) e) (c.count_bounced.ensures ∙ ap (count_by is_bounce) e)
    (c.count_settled.ensures gives s)
