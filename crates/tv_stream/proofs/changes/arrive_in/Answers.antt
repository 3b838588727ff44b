use Rattle.std.proofs.Common.{◌∙◌, ap, subst, sym}
use Rattle.std.proofs.lemmas.Option.{same_Some}
use Rattle.tv_pool.specs.Pool.{item_in, lies_at, number_of}
use Rattle.tv_stream.specs.Inside.{with_item, RefusesArrivalIn}
use Rattle.tv_stream.specs.Trees.{tree_at}
use Rattle.tv_stream.proofs.changes.arrive_in.Goals as goal

pub returns-in-Some-clause-refused : goal.returns-in-Some-clause-refused
returns-in-Some-clause-refused g c spots height inside tall =
    let same = same_Some c.in-Some.item c.args.item (sym c.in-Some.is ∙ c.in-Err.ensures.held) in
    subst (RefusesArrivalIn c.args.pool.now.spare c.args.place.now c.args.item (tree_at height (item_in c.args.pool.now (number_of c.args.region.now)) (lies_at c.args.node))) (sym (c.with.ensures ∙ ap (λ x. with_item x c.in-Err.why) same))
    (c.in-Err.ensures.refused spots height c.args.item inside tall)
