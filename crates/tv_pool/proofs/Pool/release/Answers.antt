use Rattle.std.proofs.Common.{◌≡◌, ◌<◌, None, set, refl, sym, ap, ◌∙◌, subst, arith}
use Rattle.std.proofs.lemmas.List.{length-map}
use Rattle.std.proofs.lemmas.Option.{same_Some}
use Rattle.tv_pool.specs.Layout.{IsChain}
use Rattle.tv_pool.specs.declared.layout.Chain.{Chain}
use Rattle.tv_pool.proofs.Chains.{IsChain-last}
use Rattle.tv_pool.proofs.PoolLemmas.{KeepsOthers-set}
use Rattle.tv_pool.proofs.Steps.{live_chain, LiveChain-contains, cut-position, cut-chain, cut-others, IsLaidOut-release, release-regions, release-spare, release_cases, regions}
use Rattle.tv_pool.proofs.Pool.release.Goals as goal

pub remove-chain-requires : goal.remove-chain-requires
remove-chain-requires g c =
    let live = live_chain c.self.inside.nodes c.self.inside.regions c.self.inside.begun _ _ (rw (← c.self.view_is) at c.requires) in
    LiveChain-contains c.self.inside.regions c.self.inside.begun _ _ live

pub items-init : goal.items-init
items-init g c =
    let live = live_chain c.self.inside.nodes c.self.inside.regions c.self.inside.begun c.args.region.number c.args.region.entry (rw (← c.self.view_is) at c.requires) in
    let is : live.chain ≡ c.remove-chain.result = same_Some _ _ (sym live.listed ∙ c.remove-chain.ensures.value) in
    record {
      left = c.remove-chain.result.count;
      total = omega arith;
      places = c.self.invariant.places;
      chain = subst (λ n. IsChain c.self.inside.nodes.slots c.self.invariant.places n c.remove-chain.result.last c.remove-chain.result.count) (ap (λ (x : Chain). x.number) (sym is) ∙ live.same) (c.self.invariant.chained _ _ c.remove-chain.ensures.value);
      others = λ entry chain found.
          let was = release_cases c.self.inside.nodes c.self.inside.regions c.self.inside.begun c.self.invariant c.remove-chain.new.self c.args.region.entry c.remove-chain.ensures.updates entry chain found in (
            λ e. was.0 (c.self.invariant.apart entry c.args.region.entry chain live.chain was.1 live.listed (e ∙ sym live.same)),
            c.self.invariant.chained entry chain was.1,
            refl,
          );
      len = omega arith;
      capacity = refl;
      table = refl;
      begun = refl;
    }

pub remove-placed-requires : goal.remove-placed-requires
remove-placed-requires g c =
    let last = IsChain-last c.items.self-inside.nodes.slots c.items.invariant.places c.args.region.number c.items.slot c.items.invariant.left (omega arith) c.items.invariant.chain in
    rw last.1 refl

pub items-preserved : goal.items-preserved
items-preserved g c =
    let nodes = c.items.self-inside.nodes in
    let some : 0 < c.items.invariant.left = omega arith in
    let position = cut-position c.self.inside.nodes nodes c.remove-placed.new.self c.items.invariant.places c.items.self-inside.regions c.args.region.number c.items.slot c.items.invariant.left c.remove-placed.result some c.items.invariant.chain c.items.invariant.others c.remove-placed.ensures.value c.remove-placed.ensures.updates in
    record {
      left = c.items.invariant.places.position c.items.slot;
      places = c.items.invariant.places;
      total = omega (arith, position, c.items.invariant.total);
      chain = cut-chain c.self.inside.nodes nodes c.remove-placed.new.self c.items.invariant.places c.items.self-inside.regions c.args.region.number c.items.slot c.items.invariant.left c.remove-placed.result some c.items.invariant.chain c.items.invariant.others c.remove-placed.ensures.value c.remove-placed.ensures.updates;
      others = cut-others c.self.inside.nodes nodes c.remove-placed.new.self c.items.invariant.places c.items.self-inside.regions c.args.region.number c.items.slot c.items.invariant.left c.remove-placed.result some c.items.invariant.chain c.items.invariant.others c.remove-placed.ensures.value c.remove-placed.ensures.updates;
      len = omega (arith, c.items.invariant.len, c.remove-placed.ensures.len);
      capacity = c.remove-placed.ensures.capacity ∙ c.items.invariant.capacity;
      table = c.items.invariant.table;
      begun = c.items.invariant.begun;
    }

pub invariant_of-self : goal.invariant_of-self
invariant_of-self g c =
    let live = live_chain c.self.inside.nodes c.self.inside.regions c.self.inside.begun c.args.region.number c.args.region.entry (rw (← c.self.view_is) at c.requires) in
    let same : c.remove-chain.result.number ≡ c.args.region.number = ap (λ (x : Chain). x.number) (same_Some _ live.chain (sym c.remove-chain.ensures.value ∙ live.listed)) ∙ live.same in
    rw (c.items.invariant.table, c.items.invariant.begun) (IsLaidOut-release c.self.inside.nodes c.self.inside.regions c.self.inside.begun c.self.invariant c.items.self-inside.nodes c.remove-chain.new.self c.args.region.entry c.remove-chain.result c.remove-chain.ensures.value c.items.invariant.places (rw (same, ← c.items.invariant.table) c.items.invariant.others) (omega arith) c.items.invariant.capacity c.remove-chain.ensures.updates)

pub returns-clause-regions : goal.returns-clause-regions
returns-clause-regions g c =
    let live = live_chain c.self.inside.nodes c.self.inside.regions c.self.inside.begun c.args.region.number c.args.region.entry (rw (← c.self.view_is) at c.requires) in
    let same : c.remove-chain.result.number ≡ c.args.region.number = ap (λ (x : Chain). x.number) (same_Some _ live.chain (sym c.remove-chain.ensures.value ∙ live.listed)) ∙ live.same in
    rw (c.items.invariant.table, c.items.invariant.begun, ← c.self.view_is) (release-regions c.self.inside.nodes c.self.inside.regions c.self.inside.begun c.self.invariant c.items.self-inside.nodes c.remove-chain.new.self c.args.region.entry c.remove-chain.result c.remove-chain.ensures.value c.items.invariant.places (rw (same, ← c.items.invariant.table) c.items.invariant.others) (omega arith) c.items.invariant.capacity c.remove-chain.ensures.updates
    ∙ ap (λ n. set (regions c.self.inside.nodes c.self.inside.regions c.self.inside.begun c.self.invariant) n None) same)

pub returns-clause-spare : goal.returns-clause-spare
returns-clause-spare g c =
    let live = live_chain c.self.inside.nodes c.self.inside.regions c.self.inside.begun c.args.region.number c.args.region.entry (rw (← c.self.view_is) at c.requires) in
    let same : c.remove-chain.result.number ≡ c.args.region.number = ap (λ (x : Chain). x.number) (same_Some _ live.chain (sym c.remove-chain.ensures.value ∙ live.listed)) ∙ live.same in
    rw (← c.self.view_is, length-map) (release-spare c.self.inside.nodes c.self.inside.regions c.self.inside.begun c.self.invariant c.items.self-inside.nodes c.remove-chain.new.self c.args.region.entry c.remove-chain.result c.remove-chain.ensures.value c.items.invariant.places (rw (same, ← c.items.invariant.table) c.items.invariant.others) (omega arith) c.items.invariant.capacity c.remove-chain.ensures.updates c.args.region.number same)

pub returns-clause-kept : goal.returns-clause-kept
returns-clause-kept g c = KeepsOthers-set _ _ _ None (returns-clause-regions g c)
