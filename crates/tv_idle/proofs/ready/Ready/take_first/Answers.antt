use Rattle.std.proofs.Common.{◌≡◌, ◌<◌, ◌++◌, ◌∷◌, ap, sym, subst, ◌∙◌, arith, drop, length, map, refl, Some, Option, option_map, slice_get, true, false, deque_len}
use Rattle.std.specs.Prelude.{ℕ, List, nat_lt, IsPermutation}
use Rattle.std.proofs.lemmas.List.Sorted.{IsPermutation-cons, IsPermutation-swap_remove, IsPermutation-trans}
use Rattle.std.proofs.lemmas.Bool.{and_parts}
use Rattle.std.proofs.lemmas.List.{get_or_default}
use Rattle.tv_idle.specs.Heaps.{IsHeap}
use Rattle.tv_idle.specs.Laid.{is_late_first}
use Rattle.tv_idle.specs.Listed.{Listed}
use Rattle.tv_idle.specs.Orders.{are_within, in_order, is_before, job_at, number_at}
use Rattle.tv_idle.proofs.Keeping.{late-first, late-head, late-some, none-first, queue-head, queue-tail, written-back}
use Rattle.tv_idle.proofs.Sorting.{all-same, perm-length}
use Rattle.tv_idle.proofs.ready.Ready.take_first.Goals as goal
use Rattle.tv_idle.proofs.ready.Ready.take_first.Goals.{in-Some, in-None}

abbrev head : Listed → Option ℕ
head v = option_map (λ (j : ℕ × List ℕ). j.0) (slice_get v.jobs 0)

-- the late ones without their first
taken : (late left sunk : List ℕ) (t : ℕ) → IsPermutation late (t ∷ left) → IsPermutation left sunk → IsPermutation late (t ∷ sunk)
taken late left sunk t p q = IsPermutation-trans late (t ∷ left) (t ∷ sunk) p (IsPermutation-cons t left sunk q)

pub invariant_of-self : goal.invariant_of-self
invariant_of-self c =
    let r = c.self.inside in
    let i = c.self.invariant in
    let jobs = r.table.jobs in
    let left = c.swap_remove-at.new.self.items in
    let sunk = c.sink.new.jobs in
    let t = c.swap_remove-at.result in
    let late : is_late_first jobs r.queue.items r.late.items ≡ true = ap (is_late_first jobs r.queue.items) (sym c.as_slice.ensures.value) ∙ sym c.if-is_late_first.ensures in
    let some = late-some jobs r.queue.items r.late.items late in
    let p = subst (λ ys. IsPermutation r.late.items (t ∷ ys)) (sym c.swap_remove-at.ensures.items) (IsPermutation-swap_remove r.late.items 0 t some c.swap_remove-at.ensures.value) in
    let q = subst (λ ys. IsPermutation ys sunk) c.as_mut_slice.ensures.value c.sink.ensures.same in
    let all = taken r.late.items left sunk t p q in
    let back = written-back sunk left c.swap_remove-at.new.self.len (sym (perm-length left sunk q)) (omega (arith, c.swap_remove-at.new.self.ok.0)) in
    let many = perm-length r.late.items (t ∷ sunk) all in
    let size = ap length back in
    record {
      queue_within = i.queue_within;
      late_within =
          ap (are_within jobs) back
          ∙ (and_parts (nat_lt t (length jobs)) (are_within jobs sunk) (all-same (λ s. nat_lt s (length jobs)) r.late.items (t ∷ sunk) all i.late_within)).1;
      queue_rises = i.queue_rises;
      late_heap = subst (IsHeap jobs) (sym back) c.sink.ensures.heap;
      queue_room = i.queue_room;
      late_room = let a = i.late_room in let b = c.swap_remove-at.ensures.capacity in omega (arith, a, b, many, size);
    }

pub returns-then-is_late_first-clause-first : goal.returns-then-is_late_first-clause-first
returns-then-is_late_first-clause-first c =
    let r = c.self.inside in
    let i = c.self.invariant in
    let jobs = r.table.jobs in
    let late : is_late_first jobs r.queue.items r.late.items ≡ true = ap (is_late_first jobs r.queue.items) (sym c.as_slice.ensures.value) ∙ sym c.if-is_late_first.ensures in
    let some = late-some jobs r.queue.items r.late.items late in
    ap Some (c.number.ensures ∙ ap (number_at jobs) (c.swap_remove-at.ensures.value ∙ get_or_default r.late.items 0 c.swap_remove-at.result 0 some))
    ∙ sym (ap head (sym c.self.view_is) ∙ ap (option_map (λ (j : ℕ × List ℕ). j.0)) (late-head jobs r.queue.items r.late.items i.queue_rises i.late_heap late))

pub returns-then-is_late_first-clause-jobs : goal.returns-then-is_late_first-clause-jobs
returns-then-is_late_first-clause-jobs c =
    let r = c.self.inside in
    let i = c.self.invariant in
    let jobs = r.table.jobs in
    let left = c.swap_remove-at.new.self.items in
    let sunk = c.sink.new.jobs in
    let t = c.swap_remove-at.result in
    let late : is_late_first jobs r.queue.items r.late.items ≡ true = ap (is_late_first jobs r.queue.items) (sym c.as_slice.ensures.value) ∙ sym c.if-is_late_first.ensures in
    let some = late-some jobs r.queue.items r.late.items late in
    let p = subst (λ ys. IsPermutation r.late.items (t ∷ ys)) (sym c.swap_remove-at.ensures.items) (IsPermutation-swap_remove r.late.items 0 t some c.swap_remove-at.ensures.value) in
    let q = subst (λ ys. IsPermutation ys sunk) c.as_mut_slice.ensures.value c.sink.ensures.same in
    let all = taken r.late.items left sunk t p q in
    let back = written-back sunk left c.swap_remove-at.new.self.len (sym (perm-length left sunk q)) (omega (arith, c.swap_remove-at.new.self.ok.0)) in
    let first = c.swap_remove-at.ensures.value ∙ get_or_default r.late.items 0 t 0 some in
    ap (λ ss. map (job_at jobs) (in_order (is_before jobs) (r.queue.items ++ ss))) back
    ∙ sym (
    ap (λ (v : Listed). drop 1 v.jobs) (sym c.self.view_is)
    ∙ ap (λ ss. drop 1 (map (job_at jobs) ss)) (late-first jobs r.queue.items r.late.items sunk i.queue_rises i.late_heap late (subst (λ s. IsPermutation r.late.items (s ∷ sunk)) first all))
    )

pub returns-clause-first : goal.returns-clause-first
returns-clause-first c =
    let r = c.self.inside in
    let i = c.self.invariant in
    let jobs = r.table.jobs in
    let late : is_late_first jobs r.queue.items r.late.items ≡ false = ap (is_late_first jobs r.queue.items) (sym c.as_slice.ensures.value) ∙ sym c.if-is_late_first.ensures in
    elim c.match-pop_front.branch [
      | in-Some w ↦
          let some : 0 < deque_len r.queue = w.in-Some.ensures.variant.0 refl in
          let inside : 0 < length r.queue.items = omega (arith, some, r.queue.ok.0) in
          w.result-is
          ∙ ap Some w.number-in-Some.ensures
          ∙ sym (ap head (sym c.self.view_is) ∙ ap (option_map (λ (j : ℕ × List ℕ). j.0)) (queue-head jobs r.queue.items r.late.items w.in-Some.at inside w.in-Some.ensures.lookup i.queue_rises i.late_heap late))
      | in-None w ↦
          let none : length r.queue.items ≡ 0 = omega (arith, w.in-None.ensures.cases.0, r.queue.ok.0) in
          w.result-is ∙ sym (ap head (sym c.self.view_is) ∙ ap (option_map (λ (j : ℕ × List ℕ). j.0)) (none-first jobs r.queue.items r.late.items none late))
    ]

pub returns-clause-jobs : goal.returns-clause-jobs
returns-clause-jobs c =
    let r = c.self.inside in
    let i = c.self.invariant in
    let jobs = r.table.jobs in
    let late : is_late_first jobs r.queue.items r.late.items ≡ false = ap (is_late_first jobs r.queue.items) (sym c.as_slice.ensures.value) ∙ sym c.if-is_late_first.ensures in
    ap (λ qs. map (job_at jobs) (in_order (is_before jobs) (qs ++ r.late.items))) c.pop_front.ensures.rest
    ∙ queue-tail jobs r.queue.items r.late.items i.queue_rises i.late_heap late
    ∙ ap (λ (v : Listed). drop 1 v.jobs) c.self.view_is
