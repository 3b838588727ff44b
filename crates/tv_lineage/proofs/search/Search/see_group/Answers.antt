use Rattle.std.proofs.Common.{refl, ◌∙◌}
use Rattle.tv_lineage.specs.SearchViews.{search_view}
use Rattle.tv_lineage.proofs.Seeing.{bit-there, sees-group}
use Rattle.tv_lineage.proofs.search.Search.see_group.Goals as goal

pub returns-in_ok-push : goal.returns-in_ok-push
returns-in_ok-push c ns =
    let s = search_view c.args.self.now in
    let off = bit-there s.met c.args.number c.index.result.now c.requires.inside c.index.ensures ∙ c.if-not-index.true in
    sees-group ns s c.args.number _ _ c.requires.inside off refl c.in_ok-push.ensures.items
