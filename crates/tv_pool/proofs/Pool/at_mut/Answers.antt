use Rattle.std.proofs.Common.{refl, sym, ap, ◌∙◌}
use Rattle.std.proofs.lemmas.Option.{same_Some}
use Rattle.tv_pool.specs.declared.layout.Placed.{Placed}
use Rattle.tv_pool.proofs.Linked.{linked-alone, linked-item, linked-laid, linked-view}
use Rattle.tv_pool.proofs.Pool.at_mut.Goals as goal

pub index_mut-requires : goal.index_mut-requires
index_mut-requires g c =
    let k = rw (← c.self.view_is) at c.requires in
    let l = linked-item c.self.inside.nodes c.self.inside.regions c.self.inside.begun c.self.invariant k.number c.args.link.slot k.item k.lies in
    rw l.1 refl

pub invariant_of-self-lent : goal.invariant_of-self-lent
invariant_of-self-lent g c w =
    let k = rw (← c.self.view_is) at c.requires in
    linked-laid c.self.inside.nodes c.self.inside.regions c.self.inside.begun c.self.invariant c.args.link _ w k.number k.item k.lies c.index_mut.ensures.value

pub returns : goal.returns
returns g c =
    let nodes = c.self.inside.nodes in
    let table = c.self.inside.regions in
    let begun = c.self.inside.begun in
    let k = rw (← c.self.view_is) at c.requires in (
      (refl, λ w. rw (← c.self.view_is) (linked-view nodes table begun c.self.invariant c.args.link _ w k.number k.item k.lies c.index_mut.ensures.value)),
      record {
        writes_back = tt;
        value = λ number item. rw (← c.self.view_is) (λ lies.
            let l = linked-item nodes table begun c.self.invariant number c.args.link.slot item lies in
            sym c.item_mut.ensures.value ∙ ap (λ (p : Placed _). p.item) (same_Some _ _ (sym c.index_mut.ensures.value ∙ l.1)) ∙ l.2);
        alone = λ number other one two. rw (← c.self.view_is) (λ lies also. linked-alone nodes table begun c.self.invariant number other c.args.link.slot one two lies also);
      },
    )
