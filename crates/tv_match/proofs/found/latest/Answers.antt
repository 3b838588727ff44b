use Rattle.std.specs.Prelude.{IfSome}
use Rattle.std.proofs.Common.{rules, ◌≡◌, ◌+◌, ◌*◌, ◌<◌, ◌≤◌, suc, Option, Some, None, slice_index_or, sym, ap, subst, arith}
use Rattle.tv_match.specs.Entries.{FoundBefore}
use Rattle.tv_match.specs.Linked.{digit_of, link_at}
use Rattle.tv_match.proofs.Linking.{Searches, searches-start, searches-other, searches-here, searches-none, searches-some}
use Rattle.tv_match.proofs.found.latest.Goals as goal
use Rattle.tv_match.proofs.found.latest.Goals.{then-eq, else-eq}

pub loop-at-init : goal.loop-at-init
loop-at-init c = searches-start c.args.links.now c.args.bag.now c.args.place.now c.args.before c.requires.within c.requires.linked

pub loop-at-preserved : goal.loop-at-preserved
loop-at-preserved c =
    let links = c.args.links.now in
    let es = c.args.bag.now in
    let q = c.args.place.now in
    let at = c.loop-at.at in
    let next = slice_index_or links (4 * at + c.digit.result) 0 in
    let s = c.loop-at.invariant in
    let within : at < c.args.before = search rules in
    let e : next ≡ link_at links (4 * at + digit_of q c.loop-at.level) = ap (λ d. link_at links (4 * at + d)) c.digit.ensures.is in
    let rise = c.requires.linked.rising (4 * at + c.digit.result) (let f = c.requires.linked.four in let d = c.digit.ensures.small in let w = c.requires.within in omega (arith, f, d, w, within)) in
    let h : at < next = omega (arith, rise) in
    let u : c.loop-at.level + 1 ≡ suc c.loop-at.level = omega arith in
    elim c.if-eq.branch [
      | then-eq w ↦ subst (Searches links es q c.args.before next (c.loop-at.level + 1)) (sym w.latest-is) (searches-here links es q c.args.before c.requires.within at c.loop-at.level next (c.loop-at.level + 1) c.loop-at.latest s within (search rules) e h u)
      | else-eq w ↦ subst (Searches links es q c.args.before next (c.loop-at.level + 1)) (sym w.latest-is) (searches-other links es q c.args.before c.requires.within at c.loop-at.level next (c.loop-at.level + 1) c.loop-at.latest s (search rules) e h u)
    ]

pub returns-clause-some : goal.returns-clause-some
returns-clause-some c = by c.loop-at.latest c.loop-at.invariant
  where
    past : c.args.before ≤ c.loop-at.at
    past = search rules

    by : (o : Option _) → Searches c.args.links.now c.args.bag.now c.args.place.now c.args.before c.loop-at.at c.loop-at.level o → IfSome o (FoundBefore c.args.place.now c.args.bag.now c.args.before)
    by None s = tt
    by (Some f) s = searches-some c.args.links.now c.args.bag.now c.args.place.now c.args.before c.requires.within c.loop-at.at c.loop-at.level f s past

pub returns-clause-none : goal.returns-clause-none
returns-clause-none c n =
    searches-none c.args.links.now c.args.bag.now c.args.place.now c.args.before c.requires.within c.loop-at.at c.loop-at.level (subst (Searches c.args.links.now c.args.bag.now c.args.place.now c.args.before c.loop-at.at c.loop-at.level) (search rules) c.loop-at.invariant) (search rules)
