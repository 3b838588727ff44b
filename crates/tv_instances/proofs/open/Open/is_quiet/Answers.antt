use Rattle.tv_seats.specs.Firsts.{IsFirstAsideOf, IsFirstOf}
use Rattle.tv_seats.specs.Nested.{AreNested}
use Rattle.tv_instances.proofs.Going.{empty-so, leveled-step, none-so, quiet-step}
use Rattle.tv_instances.proofs.OpenLemmas.{step-leveled}
use Rattle.tv_instances.proofs.open.Open.is_quiet.Goals as goal

pub returns-then-is_none : goal.returns-then-is_none
returns-then-is_none c is d plan pool v io =
    let q = c.requires in
    let o = c.args.self.now in
    let k = c.args.step in
    let ss = o.seats.seats in
    quiet-step d plan pool o v io k (leveled-step d plan pool o v io k (step-leveled q.0 q.1 q.2 o q.3 q.4 k q.5))
    c.has_idle.result c.if-has_idle.false (λ t at. c.has_idle.ensures plan pool d.flows v t io.keeps at)
    (none-so (IsFirstOf ss k) c.first_idle.result c.is_none.result c.is_none.ensures c.if-is_none.true c.first_idle.ensures)
    (none-so (IsFirstAsideOf ss k) c.first_aside.result c.is_none-then-is_none.result c.is_none-then-is_none.ensures is
    c.first_aside.ensures)
    (empty-so (AreNested ss k) c.nested.result.now c.is_empty.result c.is_empty.ensures c.if-not-is_empty.false
    c.nested.ensures)
