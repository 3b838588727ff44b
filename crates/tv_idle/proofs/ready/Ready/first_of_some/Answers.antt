use Rattle.std.proofs.Common.{◌≡◌, ◌<◌, ap, sym, ◌∙◌, arith, length, refl, Some, Option, option_map, slice_get, true, false, deque_len}
use Rattle.std.specs.Prelude.{ℕ, List}
use Rattle.std.proofs.lemmas.List.{get_or_default}
use Rattle.tv_idle.specs.Laid.{is_late_first}
use Rattle.tv_idle.specs.Listed.{Listed}
use Rattle.tv_idle.specs.Orders.{number_at}
use Rattle.tv_idle.proofs.Keeping.{late-head, late-some, queue-head}
use Rattle.tv_idle.proofs.ready.Ready.first_of_some.Goals as goal

abbrev head : Listed → Option ℕ
head v = option_map (λ (j : ℕ × List ℕ). j.0) (slice_get v.jobs 0)

pub returns-then-is_late_first : goal.returns-then-is_late_first
returns-then-is_late_first c =
    let r = c.self.inside in
    let i = c.self.invariant in
    let jobs = r.table.jobs in
    let late : is_late_first jobs r.queue.items r.late.items ≡ true = ap (is_late_first jobs r.queue.items) (sym c.as_slice.ensures.value) ∙ sym c.if-is_late_first.ensures in
    let some = late-some jobs r.queue.items r.late.items late in
    ap Some (c.number.ensures ∙ ap (number_at jobs) (c.index.ensures ∙ get_or_default r.late.items 0 c.index.result.now 0 some))
    ∙ sym (ap head (sym c.self.view_is) ∙ ap (option_map (λ (j : ℕ × List ℕ). j.0)) (late-head jobs r.queue.items r.late.items i.queue_rises i.late_heap late))

pub returns-in-Some : goal.returns-in-Some
returns-in-Some c =
    let r = c.self.inside in
    let i = c.self.invariant in
    let jobs = r.table.jobs in
    let late : is_late_first jobs r.queue.items r.late.items ≡ false = ap (is_late_first jobs r.queue.items) (sym c.as_slice.ensures.value) ∙ sym c.if-is_late_first.ensures in
    let some : 0 < deque_len r.queue = c.in-Some.ensures.variant.0 refl in
    let inside : 0 < length r.queue.items = omega (arith, some, r.queue.ok.0) in
    ap Some c.number-in-Some.ensures
    ∙ sym (ap head (sym c.self.view_is) ∙ ap (option_map (λ (j : ℕ × List ℕ). j.0)) (queue-head jobs r.queue.items r.late.items c.in-Some.at.now inside c.in-Some.ensures.lookup i.queue_rises i.late_heap late))
