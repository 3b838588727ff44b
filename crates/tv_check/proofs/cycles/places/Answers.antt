use Rattle.std.proofs.Common.{◌≡◌, ◌+◌, ◌-◌, ◌<◌, sym, subst, length, arith, refl, get_or, rules}
use Rattle.std.specs.Prelude.{replicate}
use Rattle.tv_check.proofs.Places.{IsFilled, filled-none, filled-more, filled-all, below-at}
use Rattle.tv_check.proofs.cycles.places.Goals as goal

pub loop-place-init : goal.loop-place-init
loop-place-init c =
    let e : c.in_ok-places.places.items ≡ replicate c.args.count (length c.args.list.now) = search rules in
    subst (IsFilled c.args.list.now c.args.count (length c.args.list.now)) (sym e) (filled-none c.args.list.now c.args.count)

pub index_mut-requires : goal.index_mut-requires
index_mut-requires c =
    let i = c.loop-place.place - 1 in
    let b = below-at c.args.list.now c.args.count i c.requires.below (omega (arith, c.loop-place.auto.place)) in
    omega (arith, b, c.loop-place.invariant.all, c.loop-place.places.ok.0)

pub loop-place-preserved : goal.loop-place-preserved
loop-place-preserved c =
    let i = c.loop-place.place - 1 in
    let more : i + 1 ≡ c.loop-place.place = omega arith in
    let inside : i < length c.args.list.now = omega (arith, c.loop-place.auto.place) in
    filled-more c.args.list.now c.args.count i (get_or c.args.list.now i 0) c.loop-place.places.items inside refl (below-at c.args.list.now c.args.count i c.requires.below inside)
    (subst (λ k. IsFilled c.args.list.now c.args.count k c.loop-place.places.items) (sym more) c.loop-place.invariant)

pub returns : goal.returns
returns c =
    let none : c.loop-place.place ≡ 0 = omega arith in
    filled-all c.args.list.now c.args.count c.loop-place.places.items (subst (λ k. IsFilled c.args.list.now c.args.count k c.loop-place.places.items) none c.loop-place.invariant)
