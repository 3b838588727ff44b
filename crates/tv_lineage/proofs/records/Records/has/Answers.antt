use Rattle.std.proofs.Common.{ap, ◌∙◌}
use Rattle.std.specs.BTreeMap.{get}
use Rattle.tv_value.specs.Orders.{job_name_cmp}
use Rattle.tv_lineage.specs.Kept.{Kept, is_noted}
use Rattle.tv_lineage.specs.Views.{kept_of}
use Rattle.tv_lineage.proofs.Calling.{noted-told}
use Rattle.tv_lineage.proofs.records.Records.has.Goals as goal

pub returns : goal.returns
returns c =
    let n = c.args.job.now in
    c.contains_key.ensures ∙ noted-told (kept_of c.self.inside.entries.items) n (get job_name_cmp c.self.inside.numbers n) (c.self.invariant.numbers n)
    ∙ ap (λ (k : Kept). is_noted n k) c.self.view_is
