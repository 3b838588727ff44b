use Rattle.std.proofs.Common.{Some, sym, ap, ◌∙◌}
use Rattle.std.proofs.lemmas.Option.{same_Some}
use Rattle.tv_pool.specs.declared.layout.Placed.{Placed}
use Rattle.tv_pool.proofs.Steps.{held, Held-contains, Held-item}
use Rattle.tv_pool.proofs.Pool.get.Goals as goal

pub index-requires : goal.index-requires
index-requires g c =
    let h = held c.self.inside.nodes c.self.inside.regions c.self.inside.begun c.self.invariant _ _ _ (rw (← c.self.view_is) at c.requires) in
    Held-contains c.self.inside.nodes c.self.inside.regions c.self.inside.begun c.self.invariant _ _ _ h

pub returns : goal.returns
returns g c =
    let h = held c.self.inside.nodes c.self.inside.regions c.self.inside.begun c.self.invariant _ _ _ (rw (← c.self.view_is) at c.requires) in
    rw (← c.self.view_is) (
    Held-item c.self.inside.nodes c.self.inside.regions c.self.inside.begun c.self.invariant _ _ _ h
    ∙ ap (λ (p : Placed _). Some p.item) (same_Some _ _ (sym h.found ∙ c.index.ensures))
    )
