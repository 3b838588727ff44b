use Rattle.std.specs.Prelude.{flat_map, ◌^◌}
use Rattle.std.proofs.Common.{◌≡◌, ◌<◌, ◌∙◌, true, Some, map, length, ap, sym, subst, OnOk, ltb-true, arith}
use Rattle.std.proofs.lemmas.List.{length-map}
use Rattle.tv_naming.specs.Naming.{numbered}
use Rattle.tv_naming.proofs.Lists.{flat_map-map}
use Rattle.tv_naming.proofs.Told.{length-numbered}
use Rattle.tv_check.specs.Turned.{links_of, port_wires, wire_of, with_items}
use Rattle.tv_check.specs.declared.feeds.NumberedFeed.TheVariants.{Merge}
use Rattle.tv_check.proofs.wires.push_port.Goals as goal

pub push_links-requires : goal.push_links-requires
push_links-requires c =
    let links = c.in-Merge.links in
    let few : length (links_of c.args.to.now.port.now.feed) < 2 ^ 32 = ltb-true _ _ c.requires in
    let many : length (links_of c.args.to.now.port.now.feed) ≡ length c.as_slice.result.now =
    ap (λ f. length (links_of f)) c.in-Merge.is
    ∙ length-map (numbered 0 links) (λ x. (Some x.0, x.1))
    ∙ length-numbered 0 links
    ∙ ap length (sym c.as_slice.ensures)
    in
    omega (arith, few, many)

pub returns-in-Merge : goal.returns-in-Merge
returns-in-Merge c =
    let to = c.args.to.now in
    let links = c.in-Merge.links in
    let same : flat_map (λ x. wire_of to.step (to.number, to.port.now) (Some x.0, x.1)) (numbered 0 c.as_slice.result.now) ≡ port_wires to.step (to.number, to.port.now) =
    ap (λ ls. flat_map (λ x. wire_of to.step (to.number, to.port.now) (Some x.0, x.1)) (numbered 0 ls)) c.as_slice.ensures
    ∙ sym (flat_map-map (wire_of to.step (to.number, to.port.now)) (λ x. (Some x.0, x.1)) (numbered 0 links))
    ∙ ap (λ f. flat_map (wire_of to.step (to.number, to.port.now)) (links_of f)) (sym c.in-Merge.is)
    in
    subst (λ ws. OnOk c.push_links.result (c.push_links.new.rows ≡ with_items c.args.rows.now ws)) same c.push_links.ensures
