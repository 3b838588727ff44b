use Rattle.std.specs.Prelude.{IfSome}
use Rattle.std.proofs.Common.{◌≡◌, refl, ◌++◌, [], ◌∷◌, map, take, None, Some, append-nil, sym, ap, subst, ◌∙◌}
use Rattle.std.proofs.lemmas.Simd.{map-map}
use Rattle.std.proofs.lemmas.List.{map-append}
use Rattle.tv_matching.specs.Items.{item}
use Rattle.tv_matching.specs.Matched.{meet_kinds}
use Rattle.tv_matching.specs.Stores.{met_with, latest_by}
use Rattle.tv_match.specs.Entries.{entry, kepts, kept_entry, kind_view, entry_at, FoundBy}
use Rattle.tv_match.specs.Brief.{brief, brief_kind, briefs}
use Rattle.tv_match.proofs.Meeting.{MeetsFrom, from-start, from-next, from-end}
use Rattle.tv_match.proofs.Putting.{more-one}
use Rattle.tv_match.proofs.joins.push_met_below.Goals as goal

pub loop-next-init : goal.loop-next-init
loop-next-init c =
    let x = kept_entry (entry_at c.args.xs.now c.args.at) in
    subst (λ q. MeetsFrom c.args.number (λ y. brief (met_with x y)) (take c.args.ys.now.depth) q c.args.ys.now.items c.last-next.result c.args.out.now c.args.out.now) c.place.ensures
    (from-start (take c.args.ys.now.depth) c.place.result.now c.args.ys.now.items c.args.number (λ y. brief (met_with x y)) c.args.out.now c.last-next.result c.last-next.ensures.some c.last-next.ensures.none)

pub returns-clause-ok : goal.returns-clause-ok
returns-clause-ok c =
    let x = kept_entry (entry_at c.args.xs.now c.args.at) in
    let q = (entry_at c.args.xs.now c.args.at).place in
    let ys = c.args.ys.now in
    let key = take ys.depth in
    let end : MeetsFrom c.args.number (λ y. brief (met_with x y)) key q ys.items None c.args.out.now c.loop-next.out = subst (λ o. MeetsFrom c.args.number (λ y. brief (met_with x y)) key q ys.items o c.args.out.now c.loop-next.out) c.in_default.is c.loop-next.invariant in
    from-end key q ys.items c.args.number (λ y. brief (met_with x y)) c.args.out.now c.loop-next.out end
    ∙ ap (λ l. kepts c.args.out.now ++ l) (sym (ap briefs (append-nil (map (met_with x) (latest_by key q (kepts ys.items)))) ∙ map-map brief (met_with x) (latest_by key q (kepts ys.items))))

pub loop-next-preserved : goal.loop-next-preserved
loop-next-preserved c =
    let x = kept_entry (entry_at c.args.xs.now c.args.at) in
    let q = (entry_at c.args.xs.now c.args.at).place in
    let ys = c.args.ys.now in
    let key = take ys.depth in
    let i = c.in-Some.found in
    let m : MeetsFrom c.args.number (λ y. brief (met_with x y)) key q ys.items (Some i) c.args.out.now c.loop-next.out = subst (λ o. MeetsFrom c.args.number (λ y. brief (met_with x y)) key q ys.items o c.args.out.now c.loop-next.out) c.in-Some.is c.loop-next.invariant in
    let one = entry c.args.number (c.place-in-Some.result.now ++ []) c.met.result in
    let e : c.push.new.self ≡ c.loop-next.out ++ one ∷ [] = c.in_ok-push.ensures.ok in
    let y = kept_entry (entry_at ys.items i) in
    let place : one.place ≡ y.place = append-nil c.place-in-Some.result.now ∙ c.place-in-Some.ensures ∙ ap (λ es. (entry_at es i).place) c.bag.ensures in
    let kind : kind_view c.met.result ≡ brief_kind (meet_kinds x.kind y.kind) =
    c.met.ensures
    ∙ ap (λ k. brief_kind (meet_kinds (kind_view k) (kind_view c.kind.result))) c.kind-kind.ensures
    ∙ ap (λ k. brief_kind (meet_kinds x.kind (kind_view k))) (c.kind.ensures ∙ ap (λ es. (entry_at es i).kind) c.bag-in-Some.ensures) in
    let same : kept_entry one ≡ brief (met_with x y) = ap (λ r. item r (kind_view c.met.result)) place ∙ ap (λ k. item y.place k) kind in
    from-next key q ys.items c.args.number (λ y. brief (met_with x y)) c.args.out.now c.loop-next.out c.push.new.self i c.before-next.result m (ap kepts e ∙ map-append kept_entry c.loop-next.out (one ∷ []) ∙ ap (λ z. kepts c.loop-next.out ++ z ∷ []) same) (more-one c.args.number c.args.out.now c.loop-next.out c.push.new.self one m.more e refl)
    (subst (λ r. IfSome c.before-next.result (FoundBy key r ys.items i)) m.found.1 c.before-next.ensures.some)
    (λ e. subst (λ r. latest_by key r (kepts (take i ys.items)) ≡ []) m.found.1 (c.before-next.ensures.none e))
