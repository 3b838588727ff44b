use Rattle.std.proofs.Common.{ap, ◌∙◌}
use Rattle.std.proofs.Common.{filter_map}
use Rattle.std.proofs.lemmas.Result.{IfOk-weaker}
use Rattle.tv_value.specs.Orders.{in_order, place_cmp}
use Rattle.tv_lineage.specs.Kept.{Kept, records_of}
use Rattle.tv_lineage.specs.Views.{place_in}
use Rattle.tv_lineage.specs.Lineages as spec
use Rattle.tv_lineage.proofs.Placing.{by_step-places}
use Rattle.tv_lineage.proofs.records.Records.by_step.Goals as goal

pub returns : goal.returns
returns c =
    let s = c.args.step.now in
    let ps = c.in_ok-places.ensures ∙ ap (λ es. in_order place_cmp (filter_map (place_in s) es)) c.as_slice.ensures.value in
    IfOk-weaker c.names_at.result _ _ (λ ns e. e ∙ by_step-places s c.self.inside.entries.items c.in_ok-places.places.keys ps ∙ ap (λ (k : Kept). spec.by_step (records_of k) s) c.self.view_is) c.names_at.ensures
