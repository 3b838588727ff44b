use Rattle.std.proofs.Common.{arith, false, refl, subst, true}
use Rattle.tv_run.specs.Settlements.{EndsIn, IsOpenIn, OfOpen}
use Rattle.tv_run.proofs.Bouncing.{open-here}
use Rattle.tv_run.proofs.EndOrNot.{ended-said, main-is, opener-is}
use Rattle.tv_run.proofs.Itself.{its-code, number-low}
use Rattle.tv_run.proofs.run.OpenRun.end.Goals as goal

pub opened-requires : goal.opened-requires
opened-requires c =
    let o = c.requires.1 in
    let it =
    its-code c.args.self.now c.args.instance o.instances o.instance o.view
    (open-here c.requires.0 c.args.self.now c.args.instance o) in
    (it.itself, it.opened.itself, it.there, it.opened.there)

pub returns-then-not-ended-clause-settled : goal.returns-then-not-ended-clause-settled
returns-then-not-ended-clause-settled c = λ gives o. (
  refl,
  ended-said c.args.self.now c.args.instance c.opened.result.now c.opened.ensures c.ended.result c.ended.ensures false
      c.if-not-ended.true,
)

pub index-requires : goal.index-requires
index-requires c =
    let r = c.args.self.now in
    let o = c.requires.1 in
    let low = number-low r c.args.instance o.instances o.instance o.view (open-here c.requires.0 r c.args.instance o) in
    omega (arith, low, r.instances.ok.0)

pub end_nested-requires : goal.end_nested-requires
end_nested-requires c =
    let r = c.args.self.now in
    let i = c.args.instance in (
      c.requires.0,
      c.requires.1,
      ended-said r i c.opened.result.now c.opened.ensures c.ended.result c.ended.ensures true c.if-not-ended.false,
      opener-is c.requires.0 r i c.requires.1 c.index.result.now c.index.ensures c.in-Some.job c.in-Some.is,
    )

pub end_main-requires : goal.end_main-requires
end_main-requires c =
    let r = c.args.self.now in
    let i = c.args.instance in
    let main = main-is c.requires.0 r i c.requires.1 c.index.result.now c.index.ensures c.in-None.is in (
      c.requires.0,
      subst (IsOpenIn c.requires.0 r) main c.requires.1,
      subst (λ k. OfOpen r k EndsIn) main
          (ended-said r i c.opened.result.now c.opened.ensures c.ended.result c.ended.ensures true c.if-not-ended.false),
    )

pub returns-in_ok-end_nested-in-Some-clause-settled :
    goal.returns-in_ok-end_nested-in-Some-clause-settled
returns-in_ok-end_nested-in-Some-clause-settled c = λ gives o.
    let r = c.args.self.now in
    let i = c.args.instance in
    c.in_ok-end_nested-in-Some.ensures.ended gives o
    (ended-said r i c.opened.result.now c.opened.ensures c.ended.result c.ended.ensures true c.if-not-ended.false)
    (opener-is gives r i o c.index.result.now c.index.ensures c.in-Some.job c.in-Some.is)

pub returns-in_ok-end_main-in-None-clause-settled :
    goal.returns-in_ok-end_main-in-None-clause-settled
returns-in_ok-end_main-in-None-clause-settled c = λ gives o.
    let r = c.args.self.now in
    let i = c.args.instance in
    let main = main-is gives r i o c.index.result.now c.index.ensures c.in-None.is in
    c.in_ok-end_main-in-None.ensures.ended gives (subst (IsOpenIn gives r) main o)
    (subst (λ k. OfOpen r k EndsIn) main
    (ended-said r i c.opened.result.now c.opened.ensures c.ended.result c.ended.ensures true c.if-not-ended.false))
