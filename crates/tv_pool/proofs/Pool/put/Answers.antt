use Rattle.std.proofs.Common.{◌≡◌, refl, sym, ap, ◌∙◌, arith, add-one, get_or, None}
use Rattle.std.proofs.lemmas.Option.{same_Some}
use Rattle.slab.specs.Slab.{Slab}
use Rattle.slab.proofs.SlabLemmas.{Updates-with_value}
use Rattle.tv_pool.specs.Layout.{regions_of}
use Rattle.tv_pool.specs.declared.layout.Placed.{Placed}
use Rattle.tv_pool.specs.declared.layout.Chain.{Chain}
use Rattle.tv_pool.proofs.PoolLemmas.{Holds-put, item_at-put, items_of-put, Keeps-put, Puts-regions}
use Rattle.tv_pool.proofs.Linked.{vacant-lies}
use Rattle.tv_pool.proofs.Steps.{live_chain, LiveChain-contains, count-le, IsLaidOut-room, IsLaidOut-put, put-view, shown}
use Rattle.tv_pool.proofs.Pool.put.Goals as goal

pub index_mut-chain-requires : goal.index_mut-chain-requires
index_mut-chain-requires g c =
    let live = live_chain c.self.inside.nodes c.self.inside.regions c.self.inside.begun _ _ (rw (← c.self.view_is) at c.requires) in
    LiveChain-contains c.self.inside.regions c.self.inside.begun _ _ live

pub overflow_add-chain : goal.overflow_add-chain
overflow_add-chain g c =
    let few = count-le c.reserve.new.self c.self.inside.regions c.self.inside.begun (IsLaidOut-room c.self.inside.nodes c.reserve.new.self c.self.inside.regions c.self.inside.begun c.reserve.ensures.rest_kept c.reserve.ensures.capacity c.self.invariant) c.args.region.now.entry c.index_mut-chain.result.now c.index_mut-chain.ensures.value in
    omega (arith, few)

pub invariant_of-self : goal.invariant_of-self
invariant_of-self g c = (IsLaidOut-room c.self.inside.nodes c.reserve.new.self c.self.inside.regions c.self.inside.begun c.reserve.ensures.rest_kept c.reserve.ensures.capacity c.self.invariant)

pub invariant_of-self-2 : goal.invariant_of-self-2
invariant_of-self-2 g c =
    IsLaidOut-put c.reserve.new.self c.self.inside.regions c.self.inside.begun (IsLaidOut-room c.self.inside.nodes c.reserve.new.self c.self.inside.regions c.self.inside.begun c.reserve.ensures.rest_kept c.reserve.ensures.capacity c.self.invariant) c.insert_reserved-slot.new.self _ c.args.region.now.entry c.insert_reserved-slot.result c.index_mut-chain.result.now _ c.args.item c.index_mut-chain.ensures.value
    refl refl (add-one c.index_mut-chain.result.now.count) c.insert_reserved-slot.ensures.was_vacant c.insert_reserved-slot.ensures.updates c.insert_reserved-slot.ensures.len (omega (arith, c.insert_reserved-slot.ensures.len, c.insert_reserved-slot.ensures.capacity))
    (Updates-with_value c.self.inside.regions c.args.region.now.entry _ (rw c.index_mut-chain.ensures.value refl))

pub returns-clause-ok : goal.returns-clause-ok
returns-clause-ok g c =
    let live = live_chain c.self.inside.nodes c.self.inside.regions c.self.inside.begun c.args.region.now.number c.args.region.now.entry (rw (← c.self.view_is) at c.requires) in
    let number : c.index_mut-chain.result.now.number ≡ c.args.region.now.number = ap (λ (x : Chain). x.number) (same_Some _ live.chain (sym c.index_mut-chain.ensures.value ∙ live.listed)) ∙ live.same in
    let slots = ap (λ (s : Slab (Placed _)). s.slots) c.reserve.ensures.rest_kept in
    rw (← c.self.view_is) (Puts-regions _ (shown c.reserve.new.self c.self.inside.regions c.self.inside.begun) _ c.args.region.now c.args.item _ (ap (λ xs. regions_of xs c.self.inside.regions.slots c.self.inside.begun) slots) (put-view c.reserve.new.self c.self.inside.regions c.self.inside.begun (IsLaidOut-room c.self.inside.nodes c.reserve.new.self c.self.inside.regions c.self.inside.begun c.reserve.ensures.rest_kept c.reserve.ensures.capacity c.self.invariant) c.insert_reserved-slot.new.self _ c.args.region.now.entry c.insert_reserved-slot.result c.index_mut-chain.result.now _ c.args.item c.index_mut-chain.ensures.value
    refl refl (add-one c.index_mut-chain.result.now.count) c.insert_reserved-slot.ensures.was_vacant c.insert_reserved-slot.ensures.updates c.insert_reserved-slot.ensures.len (omega (arith, c.insert_reserved-slot.ensures.len, c.insert_reserved-slot.ensures.capacity))
    (Updates-with_value c.self.inside.regions c.args.region.now.entry _ (rw c.index_mut-chain.ensures.value refl))
    c.args.region.now number refl))

pub returns-clause-holds : goal.returns-clause-holds
returns-clause-holds g c = Holds-put _ _ _ _ _ c.requires (returns-clause-ok g c)

pub returns-clause-item : goal.returns-clause-item
returns-clause-item g c = item_at-put _ _ _ _ _ c.requires (returns-clause-ok g c)

pub returns-clause-kept : goal.returns-clause-kept
returns-clause-kept g c = Keeps-put _ _ _ _ _ c.requires (returns-clause-ok g c)

pub returns-clause-last : goal.returns-clause-last
returns-clause-last g c = items_of-put _ _ _ _ _ c.requires (returns-clause-ok g c)

pub returns-clause-fresh : goal.returns-clause-fresh
returns-clause-fresh g c =
    let slots = ap (λ (s : Slab (Placed _)). s.slots) c.reserve.ensures.rest_kept in
    rw (← c.self.view_is) (vacant-lies c.self.inside.nodes c.self.inside.regions c.self.inside.begun c.self.invariant c.args.region.now.number c.insert_reserved-slot.result (ap (λ xs. get_or xs c.insert_reserved-slot.result None) (sym slots) ∙ c.insert_reserved-slot.ensures.was_vacant))
