use Rattle.std.proofs.Common.{◌∙◌, ap}
use Rattle.tv_value.specs.Nested.{leaves}
use Rattle.tv_value.specs.Values.{makers_of}
use Rattle.tv_value.specs.Orders.{job_name_cmp, put_all}
use Rattle.tv_value.specs.Views.{view}
use Rattle.tv_value.proofs.Faults.{put_all-nothing}
use Rattle.tv_value.proofs.value.Value.faults.Goals as goal

pub returns : goal.returns
returns c =
    let makers = makers_of (leaves (view c.args.self.now)) in
    c.of.ensures
    ∙ c.in_ok-names_of.ensures
    ∙ c.in_ok-put_makers.ensures
    ∙ ap (put_all job_name_cmp makers) c.new-makers.ensures.empty
    ∙ put_all-nothing job_name_cmp makers
