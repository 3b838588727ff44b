use Rattle.std.proofs.Common.{◌≡◌, ◌∙◌, ℕ, Some, None, get_or, refl}
use Rattle.std.proofs.lemmas.Option.{slice_get-get_or, slice_get_past}
use Rattle.std.proofs.lemmas.Result.{on_ok_weaker}
use Rattle.tv_naming.proofs.Members.{found-at}
use Rattle.tv_naming.proofs.Tables.{IsKept-free, IsKept-waits}
use Rattle.tv_naming.specs.graphs.Graphs.{is_one_of}
use Rattle.tv_naming.specs.graphs.Untaken.{is_taken, awaited}
use Rattle.tv_naming.specs.graphs.Waiting.{waiting_at}
use Rattle.tv_naming.specs.graphs.Free.{has}
use Rattle.tv_naming.proofs.graphs.untaken.Untaken.settle.Goals as goal

pub returns-then-place-before-clause-table : goal.returns-then-place-before-clause-table
returns-then-place-before-clause-table c =
    let w : ℕ = get_or c.before-before.result.now c.next_untaken-place.result 0 in
    let waits : awaited c.args.graph.now (is_taken c.args.self.now) c.args.vertex ≡ Some w =
    found-at _ _ _ _ _ c.next_untaken-place.ensures.found c.before-before.ensures.value c.deref.ensures.value ∙ slice_get-get_or _ _ 0 c.if-place-before.true in
    on_ok_weaker c.push.result
    (λ added pending k is_open.
    IsKept-waits c.args.graph.now (is_taken c.args.self.now) pending (has c.args.self.now.free) (has c.args.self.now.free) (λ u. is_one_of (waiting_at c.args.self.now.waiting u)) (λ u. is_one_of (waiting_at c.push.new.self u))
    k c.args.vertex c.requires.vertex is_open w waits (λ _. refl) added)
    c.push.ensures.added

pub returns-else-place-before-clause-table : goal.returns-else-place-before-clause-table
returns-else-place-before-clause-table c =
    let waits : awaited c.args.graph.now (is_taken c.args.self.now) c.args.vertex ≡ None =
    found-at _ _ _ _ _ c.next_untaken-place.ensures.found c.before-before.ensures.value c.deref.ensures.value ∙ slice_get_past _ _ c.if-place-before.false in
    on_ok_weaker c.add.result
    (λ added pending k is_open.
    IsKept-free c.args.graph.now (is_taken c.args.self.now) pending (has c.args.self.now.free) (has c.add.new.self) (λ u. is_one_of (waiting_at c.args.self.now.waiting u)) (λ u. is_one_of (waiting_at c.args.self.now.waiting u))
    k c.args.vertex c.requires.vertex is_open waits added (λ _ _. refl))
    c.add.ensures
