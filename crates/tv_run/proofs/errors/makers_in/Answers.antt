use Rattle.std.proofs.Common.{ap, ◌∙◌}
use Rattle.std.proofs.lemmas.Result.{IfOk-weaker}
use Rattle.std.specs.Prelude.{flat_map}
use Rattle.tv_value.specs.Nested.{leaves}
use Rattle.tv_value.specs.Orders.{in_order, job_name_cmp}
use Rattle.tv_value.specs.Values.{makers_of}
use Rattle.tv_value.specs.Views.{items_view}
use Rattle.tv_run.proofs.Makers.{makers-each}
use Rattle.tv_run.proofs.errors.makers_in.Goals as goal

pub returns : goal.returns
returns c =
    IfOk-weaker c.makers_of.result _ _
    (λ ns h. h ∙ ap (in_order job_name_cmp) (makers-each (items_view c.in_ok-values.values) ∙ ap (flat_map (λ v. makers_of (leaves v))) c.in_ok-values.ensures))
    c.makers_of.ensures
