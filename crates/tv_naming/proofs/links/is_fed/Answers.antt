use Rattle.std.proofs.Common.{◌∙◌, ap, sym}
use Rattle.std.specs.List.{list_all}
use Rattle.std.proofs.lemmas.List.Folds.{list_all-map}
use Rattle.tv_flow.specs.Views.{flow_view, feed_view, link_view}
use Rattle.tv_naming.specs.Naming.{is_there, feed_links}
use Rattle.tv_naming.proofs.links.is_fed.Goals as goal

pub returns-in-Merge : goal.returns-in-Merge
returns-in-Merge c =
    let there = is_there (flow_view c.args.flow.now) in
    c.are_there.ensures
    ∙ ap (list_all (λ l. there (link_view l))) c.as_slice.ensures
    ∙ sym (list_all-map there link_view c.in-Merge.links)
    ∙ ap (λ f. list_all there (feed_links (feed_view f))) (sym c.in-Merge.is)
