use Rattle.std.proofs.Common.{◌∙◌, ap, sym, map}
use Rattle.std.proofs.lemmas.List.{take_all}
use Rattle.std.proofs.lemmas.Simd.{map-map}
use Rattle.tv_flow.specs.Views.{flow_view, link_view}
use Rattle.tv_check.specs.Feeds.{link_numbered}
use Rattle.tv_check.proofs.feeds.links_numbered.Goals as goal

pub returns : goal.returns
returns c =
    let f = flow_view c.args.flow.now in
    c.of.ensures
    ∙ c.loop-link.invariant
    ∙ ap (map (λ x. link_numbered f (link_view x))) (take_all c.loop-link.link-index c.as_slice-link-items.result.now c.loop-link-test.false ∙ c.as_slice-link-items.ensures)
    ∙ sym (map-map (link_numbered f) link_view c.args.links.now)
