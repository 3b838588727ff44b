use Rattle.std.proofs.Common.{◌∙◌}
use Rattle.std.specs.BTreeSet.{insert_key}
use Rattle.tv_lineage.specs.SearchViews.{search_view}
use Rattle.tv_lineage.specs.Touching.{label_cmp}
use Rattle.tv_lineage.proofs.Seeing.{sees-element}
use Rattle.tv_lineage.proofs.search.Search.see_element.Goals as goal

pub returns : goal.returns
returns c ns =
    let p = c.in_ok-port.ensures in
    let q = c.in_ok-place.ensures.ok in
    sees-element ns (search_view c.args.self.now) c.args.port.now c.args.place.now _ (c.in_ok-insert.ensures.keys ∙ (λ i. insert_key label_cmp c.args.self.now.found.keys (p i, q i)))
