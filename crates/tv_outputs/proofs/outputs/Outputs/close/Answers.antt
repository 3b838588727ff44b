use Rattle.std.proofs.Common.{◌≤◌, ◌<◌, ◌+◌, ◌-◌, ℕ, sym, ap, subst, length, arith, le-add_right}
use Rattle.tv_parts.specs.Changes.{close_at, CanClose}
use Rattle.tv_outputs.specs.Known.{known_in, depths_in, needed}
use Rattle.tv_outputs.specs.Changes.{Close}
use Rattle.tv_outputs.proofs.Turning.{Asks, Closing, closing-none, closing-asks, closing-more, leaves-at, within-range, back, next-number, last-number, none-yet}
use Rattle.tv_outputs.proofs.outputs.Outputs.close.Goals as goal

pub loop-number-init : goal.loop-number-init
loop-number-init c =
    let pool = c.args.pool.now in
    let region = c.args.region.now in
    let ts = c.args.self.now.trees.items in
    subst (Closing pool pool region ts ts c.args.first c.args.place.now c.args.length) (none-yet c.args.first) (closing-none pool region ts c.args.first c.args.place.now c.args.length c.requires.live c.requires.stand)

pub close_one-requires : goal.close_one-requires
close_one-requires c =
    let old = c.args.pool.now in
    let now = c.loop-number.pool in
    let region = c.args.region.now in
    let ts0 = c.args.self.now.trees.items in
    let ts = c.loop-number.self.trees.items in
    let first = c.args.first in
    let q = c.args.place.now in
    let size = c.args.length in
    let k = c.loop-number.number in
    let l = c.loop-number.invariant in
    let inside = within-range first k c.args.count c.loop-number.auto.number c.loop-number-test.true in
    let asks = closing-asks old now region ts0 ts first q size (k - first) l c.args.count c.requires.can c.requires.room inside in
    let here = subst (λ n. Asks q now.spare n (depths_in ts) (known_in now ts) (λ d. length q < d) (CanClose q size)) (back first k c.loop-number.auto.number) asks in
    record { live = l.live; stand = l.kept; there = here.there; short = here.short; can = here.can; room = here.room }

pub loop-number-preserved : goal.loop-number-preserved
loop-number-preserved c =
    let old = c.args.pool.now in
    let now = c.loop-number.pool in
    let new = c.close_one.new.pool in
    let region = c.args.region.now in
    let ts0 = c.args.self.now.trees.items in
    let ts = c.loop-number.self.trees.items in
    let us = c.close_one.new.self.trees.items in
    let first = c.args.first in
    let q = c.args.place.now in
    let size = c.args.length in
    let k = c.loop-number.number in
    let e = c.close_one.ensures in
    let left = leaves-at now new region ts us (close_at q size) k (first + (k - first)) (sym (back first k c.loop-number.auto.number)) (record { turns = e.turns; same = e.same; kept = e.stand; regions = e.kept; spare = e.spare }) in
    subst (Closing old new region ts0 us first q size) (next-number first k c.loop-number.auto.number) (closing-more old now region ts0 ts first q size (k - first) c.loop-number.invariant new us left)

pub returns : goal.returns
returns c =
    let old = c.args.pool.now in
    let now = c.loop-number.pool in
    let ts0 = c.args.self.now.trees.items in
    let first = c.args.first in
    let l = c.loop-number.invariant in
    let all = last-number first c.loop-number.number c.args.count c.loop-number-test.false (c.loop-number.auto.number-end (le-add_right first c.args.count)) in
    record {
      known = subst (λ n. Close first n c.args.place.now c.args.length (known_in old ts0) (known_in now c.loop-number.self.trees.items)) all l.changed;
      depths = ap depths_in l.same;
      stand = l.kept;
      kept = l.regions;
      spare = subst (λ n. old.spare ≤ now.spare + needed (depths_in ts0) first n) all l.spare;
    }
