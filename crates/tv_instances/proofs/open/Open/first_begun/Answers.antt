use Rattle.std.proofs.Common.{false, true, subst, sym, ◌∙◌}
use Rattle.tv_instances.specs.Firsts.{IsFirstOwn}
use Rattle.tv_instances.proofs.FirstSeats.{Asides, Idles, aside-first, begun-first, first-known, idle-alone, idle-first}
use Rattle.tv_instances.proofs.open.Open.first_begun.Goals as goal

pub returns-then-not-asides : goal.returns-then-not-asides
returns-then-not-asides c v limit =
    let ss = c.args.self.now.seats.seats in
    let k = c.args.step in
    let o = c.first_idle-idle.result in
    subst (λ b. IsFirstOwn v ss limit b false k o) (sym c.if-not-asides.true ∙ c.asides.ensures)
    (idle-alone ss k v limit o c.first_idle-idle.ensures)

pub lesser-requires-clause-first : goal.lesser-requires-clause-first
lesser-requires-clause-first c =
    let ss = c.args.self.now.seats.seats in
    let k = c.args.step in
    let o = c.first_idle-idle.result in
    first-known ss k (Idles ss k) o (idle-first ss k o c.first_idle-idle.ensures)

pub lesser-requires-clause-second : goal.lesser-requires-clause-second
lesser-requires-clause-second c =
    let ss = c.args.self.now.seats.seats in
    let k = c.args.step in
    let o = c.first_aside.result in
    first-known ss k (Asides ss k) o (aside-first ss k o c.first_aside.ensures)

pub returns : goal.returns
returns c v limit =
    let ss = c.args.self.now.seats.seats in
    let k = c.args.step in
    subst (λ b. IsFirstOwn v ss limit b false k c.lesser.result) (sym c.if-not-asides.false ∙ c.asides.ensures)
    (subst (IsFirstOwn v ss limit true false k) (sym c.lesser.ensures)
    (begun-first ss k v limit c.first_idle-idle.result c.first_aside.result c.first_idle-idle.ensures c.first_aside.ensures))
