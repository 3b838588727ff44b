use Rattle.std.proofs.Common.{◌∙◌, ◌≡◌, sym, ap, map, slice_get, Some}
use Rattle.tv_lemmas.proofs.Lists.{get-map, get-read}
use Rattle.tv_flow.specs.Views.{flow_view, link_view}
use Rattle.tv_model.specs.instance.CheckedDepths.{link_depth}
use Rattle.tv_naming.specs.AtViews.{at_view}
use Rattle.tv_check.specs.Tables.{known_steps}
use Rattle.tv_check.proofs.Links.{differs-next, same-more}
use Rattle.tv_check.proofs.delivered.same_depths.Goals as goal

pub returns-then-depth-first : goal.returns-then-depth-first
returns-then-depth-first c =
    let f = c.args.flow.now in
    let depth = link_depth (flow_view f).inputs (known_steps (flow_view f).steps c.args.levels.now) in
    let ds = map depth (map link_view c.args.links.now) in
    let i = c.loop-link.link-index in
    let x = c.link-item.result in
    let here : slice_get ds i ≡ Some c.link_depth-depth.result = get-map depth (map link_view c.args.links.now) i (link_view x) (get-map link_view c.args.links.now i x (get-read c.args.links.now i x c.loop-link-test.true c.link-item.is)) ∙ ap Some (sym c.link_depth-depth.ensures.depth) in
    differs-next (at_view c.args.at) c.args.first c.link_depth-depth.result ds i c.refused.result here c.loop-link.invariant c.if-depth-first.true c.refused.ensures

pub loop-link-preserved : goal.loop-link-preserved
loop-link-preserved c =
    let f = c.args.flow.now in
    let depth = link_depth (flow_view f).inputs (known_steps (flow_view f).steps c.args.levels.now) in
    let ds = map depth (map link_view c.args.links.now) in
    let i = c.loop-link.link-index in
    let x = c.link-item.result in
    let here : slice_get ds i ≡ Some c.link_depth-depth.result = get-map depth (map link_view c.args.links.now) i (link_view x) (get-map link_view c.args.links.now i x (get-read c.args.links.now i x c.loop-link-test.true c.link-item.is)) ∙ ap Some (sym c.link_depth-depth.ensures.depth) in
    same-more c.args.first c.link_depth-depth.result ds i here c.loop-link.invariant c.if-depth-first.false
