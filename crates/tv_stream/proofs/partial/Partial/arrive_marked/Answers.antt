use Rattle.std.proofs.Common.{ℕ, Option, ◌≤◌, ◌+◌, ap, ◌∙◌, subst, length}
use Rattle.std.proofs.lemmas.Result.{IfOk-weaker, IfErr-weaker, IfOk-at_ok, on_ok_weaker}
use Rattle.tv_pool.specs.Pool.{number_of, lies_at}
use Rattle.tv_stream.specs.nodes.Stands.{Spot}
use Rattle.tv_stream.specs.nodes.Calls.{count_in}
use Rattle.tv_stream.specs.Trees.{least_whole, tree_of, tree_at}
use Rattle.tv_stream.specs.Answers.{marked_item}
use Rattle.tv_stream.specs.Inside.{InTree, RefusesArrivalIn}
use Rattle.tv_stream.specs.NodeCounts.{new_nodes}
use Rattle.tv_stream.proofs.Calls.{by-result, at-err, at-root, root-in, arrives-call, grows, grows-same, refuses-arrival}
use Rattle.tv_stream.proofs.partial.Partial.arrive_marked.Goals as goal

pub returns-clause-tree : goal.returns-clause-tree
returns-clause-tree g c =
    let n = c.requires.stands in
    let p = c.args.self.now in
    let q = c.args.place.now in
    let k = number_of c.args.region.now in
    let short : length q ≤ p.depth = subst (λ l. length l ≤ p.depth) c.as_slice-place.ensures c.if-place-self.false in
    IfOk-weaker c.arrive_in.result _ _ (λ least h. ((arrives-call c.args.pool.now c.arrive_in.new.pool p k (lies_at c.link.result) q c.as_slice-place.result.now (marked_item c.args.item c.args.marked) least c.requires.region c.link.ensures c.as_slice-place.ensures h).all n.0 p.depth (root-in c.args.pool.now p n.0 n.1) short).1.tree_is) c.arrive_in.ensures.ok

pub returns-clause-least : goal.returns-clause-least
returns-clause-least g c =
    let n = c.requires.stands in
    let p = c.args.self.now in
    let q = c.args.place.now in
    let k = number_of c.args.region.now in
    let short : length q ≤ p.depth = subst (λ l. length l ≤ p.depth) c.as_slice-place.ensures c.if-place-self.false in
    IfOk-weaker c.arrive_in.result _ _ (λ least h. let r = ((arrives-call c.args.pool.now c.arrive_in.new.pool p k (lies_at c.link.result) q c.as_slice-place.result.now (marked_item c.args.item c.args.marked) least c.requires.region c.link.ensures c.as_slice-place.ensures h).all n.0 p.depth (root-in c.args.pool.now p n.0 n.1) short).1 in ap (least_whole q) r.tree_is ∙ r.least_is) c.arrive_in.ensures.ok

pub returns-clause-can : goal.returns-clause-can
returns-clause-can g c =
    let n = c.requires.stands in
    let p = c.args.self.now in
    let q = c.args.place.now in
    let k = number_of c.args.region.now in
    let short : length q ≤ p.depth = subst (λ l. length l ≤ p.depth) c.as_slice-place.ensures c.if-place-self.false in
    IfOk-weaker c.arrive_in.result _ _ (λ least h. ((arrives-call c.args.pool.now c.arrive_in.new.pool p k (lies_at c.link.result) q c.as_slice-place.result.now (marked_item c.args.item c.args.marked) least c.requires.region c.link.ensures c.as_slice-place.ensures h).all n.0 p.depth (root-in c.args.pool.now p n.0 n.1) short).0) c.arrive_in.ensures.ok

pub returns-clause-refused : goal.returns-clause-refused
returns-clause-refused g c =
    let n = c.requires.stands in
    let p = c.args.self.now in
    let q = c.args.place.now in
    let k = number_of c.args.region.now in
    let short : length q ≤ p.depth = subst (λ l. length l ≤ p.depth) c.as_slice-place.ensures c.if-place-self.false in
    let inside = root-in c.args.pool.now p n.0 n.1 in
    IfErr-weaker c.arrive_in.result _ _ (λ e h. refuses-arrival c.args.pool.now.spare p.depth q c.args.item (tree_of c.args.pool.now p) e short
    (subst (λ l. RefusesArrivalIn c.args.pool.now.spare l c.args.item (tree_of c.args.pool.now p) e) c.as_slice-place.ensures
    (at-root c.args.pool.now p k (lies_at c.link.result) c.requires.region c.link.ensures (λ m s. (spots : ℕ → Option Spot) (height : ℕ) → InTree m spots s height → length c.as_slice-place.result.now ≤ height → RefusesArrivalIn c.args.pool.now.spare c.as_slice-place.result.now c.args.item (tree_at height m s) e) h n.0 p.depth inside c.if-place-self.false))) c.arrive_in.ensures.refused

pub returns-clause-trees : goal.returns-clause-trees
returns-clause-trees g c spots stands =
    let p = c.args.self.now in
    let q = c.args.place.now in
    let k = number_of c.args.region.now in
    let short : length q ≤ p.depth = subst (λ l. length l ≤ p.depth) c.as_slice-place.ensures c.if-place-self.false in
    by-result _ c.arrive_in.result
    (λ least is. let h = IfOk-at_ok _ is c.arrive_in.ensures.ok in grows c.args.pool.now c.arrive_in.new.pool p spots stands q c.args.marked _ _ ((arrives-call c.args.pool.now c.arrive_in.new.pool p k (lies_at c.link.result) q c.as_slice-place.result.now (marked_item c.args.item c.args.marked) least c.requires.region c.link.ensures c.as_slice-place.ensures h).all spots p.depth (root-in c.args.pool.now p spots stands) short).1)
    (λ e is. grows-same c.args.pool.now c.arrive_in.new.pool p spots (at-err c.arrive_in.result _ e is c.arrive_in.ensures.unchanged) stands)

pub returns-clause-stands : goal.returns-clause-stands
returns-clause-stands g c =
    let n = c.requires.stands in
    let x = returns-clause-trees g c n.0 n.1 in
    (x.more, x.stands)

pub returns-clause-nodes : goal.returns-clause-nodes
returns-clause-nodes g c =
    let n = c.requires.stands in
    let p = c.args.self.now in
    let k = number_of c.args.region.now in
    let was = count_in c.args.pool.now k in
    let now = count_in c.arrive_in.new.pool k in
    let inside = root-in c.args.pool.now p n.0 n.1 in
    on_ok_weaker c.arrive_in.result (λ h. subst (λ l. now ≤ was + new_nodes l (tree_of c.args.pool.now p)) c.as_slice-place.ensures
    (at-root c.args.pool.now p k (lies_at c.link.result) c.requires.region c.link.ensures (λ m s. (spots : ℕ → Option Spot) (height : ℕ) → InTree m spots s height → length c.as_slice-place.result.now ≤ height → now ≤ was + new_nodes c.as_slice-place.result.now (tree_at height m s)) h n.0 p.depth inside c.if-place-self.false)) c.arrive_in.ensures.nodes
