use Rattle.std.proofs.Common.{◌≡◌, Some, refl, sym, ap, ◌∙◌, subst}
use Rattle.std.proofs.lemmas.Option.{same_Some}
use Rattle.slab.specs.Slab.{with_value}
use Rattle.tv_pool.specs.Layout.{IsLaidOut}
use Rattle.tv_pool.specs.Pool.{with_item}
use Rattle.tv_pool.specs.declared.layout.Placed.{Placed}
use Rattle.tv_pool.proofs.Steps.{held, Held-contains, Held-item, IsLaidOut-write, write-view, shown}
use Rattle.tv_pool.proofs.Pool.get_mut.Goals as goal

pub index_mut-requires : goal.index_mut-requires
index_mut-requires g c =
    let h = held c.self.inside.nodes c.self.inside.regions c.self.inside.begun c.self.invariant _ _ _ (rw (← c.self.view_is) at c.requires) in
    Held-contains c.self.inside.nodes c.self.inside.regions c.self.inside.begun c.self.invariant _ _ _ h

pub invariant_of-self-lent : goal.invariant_of-self-lent
invariant_of-self-lent g c w =
    let nodes = c.self.inside.nodes in
    let table = c.self.inside.regions in
    let begun = c.self.inside.begun in
    let h = held nodes table begun c.self.invariant _ _ _ (rw (← c.self.view_is) at c.requires) in
    subst (λ (p : Placed _). IsLaidOut (with_value nodes c.args.node.slot (record p { item = w })) table begun) (same_Some _ _ (sym h.found ∙ c.index_mut.ensures.value)) (IsLaidOut-write nodes table begun c.self.invariant _ _ _ h w)

pub returns : goal.returns
returns g c =
    let nodes = c.self.inside.nodes in
    let table = c.self.inside.regions in
    let begun = c.self.inside.begun in
    let h = held nodes table begun c.self.invariant _ _ _ (rw (← c.self.view_is) at c.requires) in
    let is = same_Some _ _ (sym h.found ∙ c.index_mut.ensures.value) in (
      (refl, λ w. rw (← c.self.view_is) (subst (λ (p : Placed _). shown (with_value nodes c.args.node.slot (record p { item = w })) table begun ≡ with_item (shown nodes table begun) c.args.node w) is (write-view nodes table begun c.self.invariant c.args.node h w))),
      record { writes_back = tt; value = rw (← c.self.view_is) (Held-item nodes table begun c.self.invariant _ _ _ h ∙ ap (λ (p : Placed _). Some p.item) is ∙ ap Some c.item_mut.ensures.value) },
    )
