use Rattle.std.proofs.Common.{ap, sym, ◌∙◌, map, arith}
use Rattle.serde_json.specs.View.{items_view as json_items}
use Rattle.tv_flow.specs.PathViews.{at_view}
use Rattle.tv_flow.specs.Forms.{items_form}
use Rattle.tv_flow.specs.Formed.{is_between, are_listed}
use Rattle.tv_flow.proofs.Growing.{item_count-each}
use Rattle.tv_flow.proofs.Shapes.{listed}
use Rattle.tv_flow.proofs.lists.array.Goals as goal

pub things-requires : goal.things-requires
things-requires g c = omega (arith, c.in_ok-counted-in-Some.ensures.small, c.item_count.ensures, item_count-each c.in-Some.items.now.items, c.as_slice.ensures.len, c.args, c.requires)

pub returns-in_ok-things-in-Some-clause-kept : goal.returns-in_ok-things-in-Some-clause-kept
returns-in_ok-things-in-Some-clause-kept g c =
    let form = g.T.Formed.form c.args.format in
    let seen = map g.T.Formed.seen in
    let as' = seen c.in_ok-things-in-Some.things.items in
    ap (λ xs. are_listed g.T.Formed.keeps c.args.least c.args.most (seen xs)) c.of.ensures
    ∙ listed form (at_view c.args.at.now) g.T.Formed.keeps c.args.least c.args.most (json_items c.in-Some.items.now.items) as'
    (sym (ap (λ xs. items_form form (at_view c.args.at.now) 0 (json_items xs)) c.as_slice.ensures.value) ∙ c.in_ok-things-in-Some.ensures.read)
    (sym (ap (λ n. is_between c.args.least c.args.most n) c.item_count.ensures) ∙ c.in_ok-counted-in-Some.ensures.kept)
    c.in_ok-things-in-Some.ensures.kept
