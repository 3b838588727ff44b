use Rattle.std.proofs.Common.{◌≡◌, ◌<◌, true, length, map, ltb, subst, sym, ◌∙◌, ap, arith, List, ℕ, Vec, Global}
use Rattle.std.proofs.lemmas.List.{length-map}
use Rattle.std.specs.List.{list_all}
use Rattle.tv_naming.specs.graphs.Graphs.{Graph, before}
use Rattle.tv_naming.proofs.Rows.{row-within, row-of}
use Rattle.tv_naming.proofs.graphs.graph.Graph.before.Goals as goal

pub returns-clause-within : goal.returns-clause-within
returns-clause-within c =
    let below : c.args.vertex < length c.self.inside.lists.items = omega (arith, length-map {A = Vec ℕ Global} {B = List ℕ}, ap length c.self.view_is) in
    let is : before (map (λ vs. vs.items) c.self.inside.lists.items) c.args.vertex ≡ c.deref.result.now = row-of c.self.inside.lists.items c.args.vertex c.index.result.now below c.index.ensures ∙ sym c.deref.ensures.value in
    subst (λ (g : Graph). list_all (λ u. ltb u (length g)) c.deref.result.now ≡ true) c.self.view_is
    (subst (λ (us : List ℕ). list_all (λ u. ltb u (length (map (λ vs. vs.items) c.self.inside.lists.items))) us ≡ true) is (row-within _ c.args.vertex c.self.invariant))
