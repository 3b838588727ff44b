use Rattle.std.proofs.Common.{refl, sym, ap, ◌∙◌}
use Rattle.std.proofs.lemmas.Option.{same_Some}
use Rattle.tv_pool.specs.declared.layout.Placed.{Placed}
use Rattle.tv_pool.proofs.Linked.{linked-item}
use Rattle.tv_pool.proofs.Pool.at.Goals as goal

pub index-requires : goal.index-requires
index-requires g c =
    let k = rw (← c.self.view_is) at c.requires in
    let l = linked-item c.self.inside.nodes c.self.inside.regions c.self.inside.begun c.self.invariant k.number c.args.link.slot k.item k.lies in
    rw l.1 refl

pub returns : goal.returns
returns g c number item =
    rw (← c.self.view_is) (λ lies.
    let l = linked-item c.self.inside.nodes c.self.inside.regions c.self.inside.begun c.self.invariant number c.args.link.slot item lies in
    ap (λ (p : Placed _). p.item) (same_Some _ _ (sym c.index.ensures ∙ l.1)) ∙ l.2)
