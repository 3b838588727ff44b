use Rattle.std.proofs.Common.{ap, ap₂, sym, ◌∙◌, map}
use Rattle.tv_value.specs.Nested.{list, no_trees}
use Rattle.tv_value.specs.Views.{view}
use Rattle.tv_cell.specs.PieceValues.{piece_value}
use Rattle.tv_matching.specs.Matchers.{leaf_name}
use Rattle.tv_check.specs.declared.feeds.NumberedFeed.TheVariants.{Merge}
use Rattle.tv_telling.specs.Openings.{fixed_in, numbered_feed_start}
use Rattle.tv_telling.proofs.Openings.{fixed-opens, link-opens, merge-opens, tells-alike}
use Rattle.tv_telling.proofs.opening.port_start.Goals as goal

pub returns-in-Link : goal.returns-in-Link
returns-in-Link c =
    let values = map piece_value c.args.inputs.now in
    let port = c.args.port.now in
    tells-alike c.link_start.result c.args.tellings.now.items c.link_start.new.tellings.items _ _
    (λ s. link-opens values (fixed_in c.args.fixed) (leaf_name s port.leaf) port.levels c.in-Link.link
    ∙ ap (numbered_feed_start values (fixed_in c.args.fixed) (leaf_name s port.leaf) port.levels) (sym c.in-Link.is))
    c.link_start.ensures

pub returns-in-Merge : goal.returns-in-Merge
returns-in-Merge c =
    let values = map piece_value c.args.inputs.now in
    let port = c.args.port.now in
    tells-alike c.merge_start.result c.args.tellings.now.items c.merge_start.new.tellings.items _ _
    (λ s. merge-opens values (list tt no_trees) (fixed_in c.args.fixed) (leaf_name s port.leaf) port.levels c.as_slice.result.now
    ∙ ap (λ ls. numbered_feed_start values (fixed_in c.args.fixed) (leaf_name s port.leaf) port.levels (Merge ls)) c.as_slice.ensures
    ∙ ap (numbered_feed_start values (fixed_in c.args.fixed) (leaf_name s port.leaf) port.levels) (sym c.in-Merge.is))
    c.merge_start.ensures

pub returns-in-Some : goal.returns-in-Some
returns-in-Some c =
    let values = map piece_value c.args.inputs.now in
    let port = c.args.port.now in
    tells-alike c.fixed_start.result c.args.tellings.now.items c.fixed_start.new.tellings.items _ _
    (λ s. fixed-opens values (view c.in-Some.cell.now) (leaf_name s port.leaf) port.levels
    ∙ ap₂ (λ w f. numbered_feed_start values w (leaf_name s port.leaf) port.levels f) (sym (ap fixed_in c.in-Some.is)) (sym c.in-Constant.is))
    c.fixed_start.ensures
