use Rattle.std.specs.Prelude.{IfSome}
use Rattle.std.proofs.Common.{◌≡◌, ◌<◌, [], length, take, sym, subst}
use Rattle.tv_matching.specs.Stores.{latest_by}
use Rattle.tv_match.specs.Entries.{entry_at, kepts, FoundBy}
use Rattle.tv_match.specs.Grouped.{Grouped}
use Rattle.tv_match.proofs.Grouping.{before-found, before-none}
use Rattle.tv_match.proofs.grouped.Grouped.before.Goals as goal

pub returns-clause-some : goal.returns-clause-some
returns-clause-some c =
    let g = c.self.inside in
    let l : c.args.at < length g.bag = subst (λ (v : Grouped). c.args.at < length v.items) (sym c.self.view_is) c.requires in
    subst (λ (v : Grouped). IfSome c.before-2.result (FoundBy (take v.depth) (take v.depth (entry_at v.items c.args.at).place) v.items c.args.at)) c.self.view_is
    (before-found g.depth g.bag g.heads g.chains.of c.self.invariant.1 g.chains.count c.self.invariant.0 c.args.at l c.before-2.result c.before-2.ensures.some)

pub returns-clause-none : goal.returns-clause-none
returns-clause-none c h =
    let g = c.self.inside in
    let l : c.args.at < length g.bag = subst (λ (v : Grouped). c.args.at < length v.items) (sym c.self.view_is) c.requires in
    subst (λ (v : Grouped). latest_by (take v.depth) (take v.depth (entry_at v.items c.args.at).place) (kepts (take c.args.at v.items)) ≡ []) c.self.view_is
    (before-none g.depth g.bag g.heads g.chains.of c.self.invariant.1 g.chains.count c.self.invariant.0 c.args.at l (c.before-2.ensures.none h))
