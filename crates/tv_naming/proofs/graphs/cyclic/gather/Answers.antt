use Rattle.std.proofs.Common.{◌≡◌, ◌∙◌, ◌&&◌, ◌||◌, ℕ, not, true, false, get_or, ap, arith}
use Rattle.std.proofs.lemmas.Bool.Decides.{nat_tests}
use Rattle.tv_naming.specs.graphs.Graphs.{is_one_of}
use Rattle.tv_naming.specs.graphs.Waiting.{waiting_at}
use Rattle.tv_naming.proofs.Members.{marked-below}
use Rattle.tv_naming.proofs.Rows.{is_one_of-push}
use Rattle.tv_naming.proofs.Gathers.{gathering-more, turned-within}
use Rattle.tv_naming.proofs.graphs.cyclic.gather.Goals as goal

pub mark_all-requires : goal.mark_all-requires
mark_all-requires c = turned-within c.args.graph.now (waiting_at c.args.after.now) c.requires.turned c.args.vertex _ _ c.at.ensures c.requires.count

pub at-requires-in-Some : goal.at-requires-in-Some
at-requires-in-Some c =
    let is_left : is_one_of c.loop-next.left.items c.in-Some.next ≡ true = ap (λ xs. is_one_of xs c.in-Some.next) c.in-Some.ensures.items ∙ is_one_of-push c.pop.new.self.items c.in-Some.next c.in-Some.next ∙ grind (arith, nat_tests) in
    let new : (get_or c.loop-next.visited.items c.in-Some.next false && not (get_or c.args.visited.now.items c.in-Some.next false)) ≡ true = c.loop-next.invariant.gathering.new c.in-Some.next is_left in
    omega (arith, marked-below c.loop-next.visited.items c.in-Some.next (grind arith), c.loop-next.invariant.count, c.requires.after)

pub mark_all-requires-in-Some : goal.mark_all-requires-in-Some
mark_all-requires-in-Some c = turned-within c.args.graph.now (waiting_at c.args.after.now) c.requires.turned c.in-Some.next _ _ c.at-in-Some.ensures c.loop-next.invariant.count

pub loop-next-preserved : goal.loop-next-preserved
loop-next-preserved c =
    let row : (u : ℕ) → is_one_of c.at-in-Some.result.now u ≡ is_one_of (waiting_at c.args.after.now c.in-Some.next) u = λ u. ap (λ us. is_one_of us u) c.at-in-Some.ensures in
    record {
      count = c.in_ok-mark_all-2.ensures.count ∙ c.loop-next.invariant.count;
      gathering = gathering-more (waiting_at c.args.after.now) c.args.vertex (λ u. get_or c.args.visited.now.items u false) c.args.found.now.items (λ u. get_or c.loop-next.visited.items u false) c.loop-next.found.items (is_one_of c.loop-next.left.items) c.loop-next.invariant.gathering
          (λ u. get_or c.mark_all-in-Some.new.marks.items u false) (is_one_of c.pop.new.self.items) (is_one_of c.mark_all-in-Some.new.marked.items) c.push.new.self.items c.in-Some.next
          (λ u. ap (λ xs. is_one_of xs u) c.in-Some.ensures.items ∙ is_one_of-push c.pop.new.self.items c.in-Some.next u)
          (λ u. c.in_ok-mark_all-2.ensures.marks u ∙ ap (λ b. get_or c.loop-next.visited.items u false || b) (row u))
          (λ u. c.in_ok-mark_all-2.ensures.marked u ∙ ap (λ b. is_one_of c.pop.new.self.items u || (b && not (get_or c.loop-next.visited.items u false))) (row u))
          (λ u. ap (λ xs. is_one_of xs u) c.in_ok-push.ensures.items ∙ is_one_of-push c.loop-next.found.items c.in-Some.next u);
    }
