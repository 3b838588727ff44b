use Rattle.std.proofs.Common.{◌+◌, ◌<◌, ◌≤◌, [], length, arith, subst, ◌∙◌}
use Rattle.std.proofs.lemmas.Option.{get_or_from_slice_get}
use Rattle.std.proofs.lemmas.List.{get_or_default}
use Rattle.tv_telling.specs.declared.endings.endings.Endings.{Endings}
use Rattle.tv_telling.specs.endings.Ends.{has_ended}
use Rattle.tv_telling.specs.endings.Counting.{IsCounting}
use Rattle.tv_telling.proofs.WholePorts.{fresh-inside, marked, next-step, rows-many, sound-at_end}
use Rattle.tv_telling.proofs.endings.endings.Endings.set_whole.Goals as goal

pub loop-done-init : goal.loop-done-init
loop-done-init c =
    let e : Endings = record c.args.self.now { fresh = c.clear.new.self } in
    let s = c.requires.sound in
    record {
      counting =
          marked c.args.wiring.now.after c.args.wiring.now.dependents c.requires.turned e c.mark.new.self c.args.step
          (record { ended = s.ended; left = s.left; growing = s.growing; whole_each = s.whole_each; ended_each = s.ended_each; left_each = s.left_each; room = let a = c.clear.ensures.capacity in let b = s.room in omega (arith, a, b) })
          c.clear.ensures.items c.requires.step c.requires.growing
          (record { whole = c.mark.ensures.whole; growing = c.mark.ensures.growing; left = c.mark.ensures.left; ended = c.mark.ensures.ended; fresh = c.mark.ensures.fresh; room = c.mark.ensures.room });
      whole = λ i. c.mark.new.self.whole;
    }

pub row-requires : goal.row-requires
row-requires c =
    let w = c.args.wiring.now in
    let e = c.loop-done.self in
    let k = c.loop-done.done in
    let lt : k < length e.fresh.items = omega (arith, c.loop-done-test.true, c.len.ensures, e.fresh.ok.0) in
    let same = c.index-ended.ensures ∙ get_or_default e.fresh.items k c.index-ended.result.now 0 lt in
    let inside = fresh-inside w.after w.dependents (has_ended c.args.self.now) e [] k k c.loop-done.invariant.counting lt in
    let many = rows-many w.after w.dependents c.requires.turned in
    omega (arith, same, inside, many)

pub lower_all-requires : goal.lower_all-requires
lower_all-requires c =
    let w = c.args.wiring.now in
    let e = c.loop-done.self in
    let k = c.loop-done.done in
    let a = c.index-ended.result.now in
    let was = has_ended c.args.self.now in
    let lt : k < length e.fresh.items = omega (arith, c.loop-done-test.true, c.len.ensures, e.fresh.ok.0) in
    let same = c.index-ended.ensures ∙ get_or_default e.fresh.items k a 0 lt in
    let row = get_or_from_slice_get w.dependents a c.row.result.now [] c.row.ensures in
    (w.after, (w.dependents, (was, (k + 1, subst (λ ns. IsCounting w.after w.dependents was e ns (k + 1)) row (next-step w.after w.dependents was e k a c.loop-done.invariant.counting lt same)))))

pub loop-done-preserved : goal.loop-done-preserved
loop-done-preserved c =
    let w = c.args.wiring.now in
    let e = c.loop-done.self in
    let k = c.loop-done.done in
    let a = c.index-ended.result.now in
    let was = has_ended c.args.self.now in
    let lt : k < length e.fresh.items = omega (arith, c.loop-done-test.true, c.len.ensures, e.fresh.ok.0) in
    let same = c.index-ended.ensures ∙ get_or_default e.fresh.items k a 0 lt in
    let row = get_or_from_slice_get w.dependents a c.row.result.now [] c.row.ensures in
    record {
      counting =
          c.lower_all.ensures.counting w.after w.dependents was (k + 1)
          (subst (λ ns. IsCounting w.after w.dependents was e ns (k + 1)) row (next-step w.after w.dependents was e k a c.loop-done.invariant.counting lt same));
      whole = c.lower_all.ensures.whole ∙ c.loop-done.invariant.whole;
    }

pub returns-clause-sound : goal.returns-clause-sound
returns-clause-sound c =
    let e = c.loop-done.self in
    let past : length e.fresh.items ≤ c.loop-done.done = omega (arith, c.loop-done-test.false, c.len.ensures, e.fresh.ok.0) in
    sound-at_end c.args.wiring.now.after c.args.wiring.now.dependents (has_ended c.args.self.now) e c.loop-done.done c.loop-done.invariant.counting past
