use Rattle.std.proofs.Common.{ap, ◌∙◌}
use Rattle.tv_value.specs.Orders.{job_name_cmp, put_in_order}
use Rattle.tv_value.proofs.Faults.{put-as-key}
use Rattle.tv_value.proofs.value.put_maker.Goals as goal

pub returns : goal.returns
returns c =
    let old = c.args.makers.now.keys in
    c.in_ok-insert.ensures.keys
    ∙ put-as-key job_name_cmp old c.in_ok-maker.maker
    ∙ ap (λ k. put_in_order job_name_cmp k old) c.in_ok-maker.ensures
