use Rattle.std.proofs.Common.{◌≡◌, Bool, false, get_or, subst, sym, arith}
use Rattle.tv_naming.specs.graphs.Waiting.{waiting_at}
use Rattle.tv_naming.proofs.Members.{marked-set}
use Rattle.tv_naming.proofs.Gathers.{visited-more}
use Rattle.tv_naming.proofs.graphs.cyclic.visit.Goals as goal

pub returns-clause-visited : goal.returns-clause-visited
returns-clause-visited c =
    visited-more c.args.graph.now c.requires.graph (waiting_at c.args.after.now) c.requires.turned c.args.vertex (λ u. get_or c.args.visited.now.items u false) (λ u. get_or c.gather.new.visited.items u false) c.args.found.now.items c.gather.new.found.items
    c.requires.visited c.requires.latest (sym (subst (λ (b : Bool). b ≡ get_or c.args.visited.now.items c.args.vertex b) c.if-index.false c.index.ensures)) c.in_ok-gather.ensures.gathered _
    (λ u. marked-set c.gather.new.visited.items c.args.vertex u (omega (arith, c.in_ok-gather.ensures.count, c.requires.vertex)))
