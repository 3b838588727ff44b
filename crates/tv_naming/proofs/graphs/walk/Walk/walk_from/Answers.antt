use Rattle.std.proofs.Common.{◌≡◌, ◌∙◌, ◌++◌, ◌∷◌, ℕ, List, [], Bool, get_or, subst, sym, ap, arith}
use Rattle.std.proofs.lemmas.Bool.Decides.{nat_tests}
use Rattle.tv_naming.specs.graphs.Walk.{is_entered}
use Rattle.tv_naming.proofs.Leaves.{walked-first, top-below}
use Rattle.tv_naming.proofs.graphs.walk.Walk.walk_from.Goals as goal

pub loop-next-init : goal.loop-next-init
loop-next-init c = record {
  marks = c.in_ok-enter.ensures.marks c.args.graph.now c.requires.marks;
  walked = walked-first c.args.graph.now (is_entered c.args.self.now) c.args.self.now.left.items c.enter.new.self.path.items c.enter.new.self.left.items c.args.vertex (is_entered c.enter.new.self) c.requires.walked
      (c.in_ok-enter.ensures.path ∙ ap (λ (xs : List ℕ). xs ++ c.args.vertex ∷ []) c.requires.path) c.in_ok-enter.ensures.left c.requires.within (sym (subst (λ (b : Bool). b ≡ get_or c.args.self.now.entered.items c.args.vertex b) c.if-index.false c.index.ensures)) c.in_ok-enter.ensures.entered;
  entered = λ u h. c.in_ok-enter.ensures.entered u ∙ grind arith;
  itself = c.in_ok-enter.ensures.entered c.args.vertex ∙ grind (arith, nat_tests);
}

pub go_on-requires-clause-vertex : goal.go_on-requires-clause-vertex
go_on-requires-clause-vertex c =
    top-below c.args.graph.now (is_entered c.loop-next.self) c.loop-next.self.left.items c.pop.new.self.items c.loop-next.self.path.items c.in-Some.next c.loop-next.invariant.walked c.in-Some.ensures.items
