use Rattle.std.specs.Prelude.{IfSome}
use Rattle.std.proofs.Common.{◌≡◌, ◌<◌, refl, [], length, take, sym, ap, subst, ◌∙◌, arith}
use Rattle.std.proofs.Math.Seq.{take-length}
use Rattle.tv_matching.specs.Stores.{latest_at, latest_by}
use Rattle.tv_match.specs.Entries.{kepts, FoundBy}
use Rattle.tv_match.specs.Grouped.{Grouped}
use Rattle.tv_match.proofs.Grouping.{last-found, last-none, no-head}
use Rattle.tv_match.proofs.grouped.Grouped.last.Goals as goal

pub returns-in_err-bucket-clause-none : goal.returns-in_err-bucket-clause-none
returns-in_err-bucket-clause-none c h =
    let g = c.self.inside in
    let n = c.len.ensures ∙ ap length c.bag.ensures in
    let none : latest_at c.args.key.now (kepts g.heads) ≡ [] = ap (λ es. latest_at c.args.key.now (kepts es)) (sym (ap (λ k. take k g.heads) n ∙ take-length g.heads)) ∙ c.in_err-bucket.ensures.none refl in
    subst (λ (v : Grouped). latest_by (take v.depth) c.args.key.now (kepts v.items) ≡ []) c.self.view_is (no-head g.depth g.bag g.heads g.chains.of c.self.invariant.1 c.args.key.now none)

pub returns-clause-some : goal.returns-clause-some
returns-clause-some c =
    let g = c.self.inside in
    let f = c.in_ok-bucket.ensures.some in
    let w : c.in_ok-bucket.bucket < length g.heads = subst (λ k. c.in_ok-bucket.bucket < k) (c.len.ensures ∙ ap length c.bag.ensures) f.is_before in
    subst (λ (v : Grouped). IfSome c.last.result (FoundBy (take v.depth) c.args.key.now v.items (length v.items))) c.self.view_is
    (last-found g.depth g.bag g.heads g.chains.of c.self.invariant.1 g.chains.count c.self.invariant.0 c.in_ok-bucket.bucket w c.args.key.now f.is_there c.last.result c.last.ensures.some)

pub returns-clause-none : goal.returns-clause-none
returns-clause-none c h =
    let g = c.self.inside in
    let f = c.in_ok-bucket.ensures.some in
    let w : c.in_ok-bucket.bucket < length g.heads = subst (λ k. c.in_ok-bucket.bucket < k) (c.len.ensures ∙ ap length c.bag.ensures) f.is_before in
    subst (λ (v : Grouped). latest_by (take v.depth) c.args.key.now (kepts v.items) ≡ []) c.self.view_is
    (last-none g.depth g.bag g.heads g.chains.of c.self.invariant.1 g.chains.count c.self.invariant.0 c.in_ok-bucket.bucket w c.args.key.now f.is_there (c.last.ensures.none h))
