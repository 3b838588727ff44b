use Rattle.std.proofs.Common.{◌≡◌, ◌∙◌, sym, ℕ, Some, false, get_or, take, true}
use Rattle.std.proofs.lemmas.List.{take_all}
use Rattle.std.proofs.lemmas.Option.{slice_get-get_or, slice_get_past}
use Rattle.std.specs.Prelude.{slice_get}
use Rattle.std.specs.List.{list_all}
use Rattle.tv_naming.proofs.Members.{find-at, all-find}
use Rattle.tv_naming.proofs.graphs.untaken.next_untaken.Goals as goal

pub returns-else-taken-before-clause-found : goal.returns-else-taken-before-clause-found
returns-else-taken-before-clause-found c =
    let u : ℕ = get_or c.args.before.now c.loop-next.next 0 in
    let is : slice_get c.args.before.now c.loop-next.next ≡ Some u = slice_get-get_or c.args.before.now c.loop-next.next 0 c.loop-next-test.true in
    is ∙ sym (find-at (λ w. get_or c.args.taken.now w false) c.args.before.now c.loop-next.next u c.loop-next.invariant is c.if-taken-before.false)

pub returns-after-loop-next-clause-found : goal.returns-after-loop-next-clause-found
returns-after-loop-next-clause-found c =
    let whole : take c.loop-next.next c.args.before.now ≡ c.args.before.now = take_all _ _ c.loop-next-test.false in
    let all : list_all (λ w. get_or c.args.taken.now w false) c.args.before.now ≡ true = rw whole at c.loop-next.invariant in
    slice_get_past c.args.before.now c.loop-next.next c.loop-next-test.false ∙ sym (all-find (λ w. get_or c.args.taken.now w false) c.args.before.now all)
