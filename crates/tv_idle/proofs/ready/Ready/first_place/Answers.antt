use Rattle.std.proofs.Common.{◌≡◌, ◌<◌, [], ◌∷◌, ap, sym, ◌∙◌, arith, refl, length, get_or, Some, None, slice_get, true, false, deque_len}
use Rattle.std.specs.Prelude.{ℕ, zero, suc, List}
use Rattle.std.proofs.lemmas.List.{get_or_default}
use Rattle.tv_idle.specs.Laid.{is_late_first, listed}
use Rattle.tv_idle.specs.Listed.{Listed}
use Rattle.tv_idle.specs.Orders.{job_at, place_at}
use Rattle.tv_idle.proofs.Keeping.{late-head, late-some, none-first, queue-head}
use Rattle.tv_idle.proofs.ready.Ready.first_place.Goals as goal

place-first : (js : List (ℕ × List ℕ)) (j : ℕ × List ℕ) → slice_get js 0 ≡ Some j → place_at js 0 ≡ j.1
place-first [] j e = cc
place-first (k ∷ ks) j e = let same : k ≡ j = cc in ap (λ (x : ℕ × List ℕ). x.1) same

place-none : (js : List (ℕ × List ℕ)) → slice_get js 0 ≡ None → place_at js 0 ≡ []
place-none [] e = refl
place-none (k ∷ ks) e = cc

none-if : (n : ℕ) → (0 < n → false ≡ true) → n ≡ 0
none-if zero h = refl
none-if (suc n) h = let e : false ≡ true = h (omega arith) in cc

abbrev head : Listed → List ℕ
head v = place_at v.jobs 0

pub returns-then-is_late_first : goal.returns-then-is_late_first
returns-then-is_late_first c =
    let r = c.self.inside in
    let i = c.self.invariant in
    let jobs = r.table.jobs in
    let late : is_late_first jobs r.queue.items r.late.items ≡ true = ap (is_late_first jobs r.queue.items) (sym c.as_slice.ensures.value) ∙ sym c.if-is_late_first.ensures in
    let some = late-some jobs r.queue.items r.late.items late in
    c.place.ensures
    ∙ ap (place_at jobs) (c.index.ensures ∙ get_or_default r.late.items 0 c.index.result.now 0 some)
    ∙ sym (ap head (sym c.self.view_is) ∙ place-first (listed r.table r.queue.items r.late.items) (job_at jobs (get_or r.late.items 0 0)) (late-head jobs r.queue.items r.late.items i.queue_rises i.late_heap late))

pub returns-in-Some : goal.returns-in-Some
returns-in-Some c =
    let r = c.self.inside in
    let i = c.self.invariant in
    let jobs = r.table.jobs in
    let late : is_late_first jobs r.queue.items r.late.items ≡ false = ap (is_late_first jobs r.queue.items) (sym c.as_slice.ensures.value) ∙ sym c.if-is_late_first.ensures in
    let some : 0 < deque_len r.queue = c.in-Some.ensures.variant.0 refl in
    let inside : 0 < length r.queue.items = omega (arith, some, r.queue.ok.0) in
    c.place-in-Some.ensures
    ∙ sym (ap head (sym c.self.view_is) ∙ place-first (listed r.table r.queue.items r.late.items) (job_at jobs c.in-Some.at.now) (queue-head jobs r.queue.items r.late.items c.in-Some.at.now inside c.in-Some.ensures.lookup i.queue_rises i.late_heap late))

pub returns-in-None : goal.returns-in-None
returns-in-None c =
    let r = c.self.inside in
    let i = c.self.invariant in
    let jobs = r.table.jobs in
    let late : is_late_first jobs r.queue.items r.late.items ≡ false = ap (is_late_first jobs r.queue.items) (sym c.as_slice.ensures.value) ∙ sym c.if-is_late_first.ensures in
    let none : deque_len r.queue ≡ 0 = none-if (deque_len r.queue) c.in-None.ensures.variant.1 in
    let empty : length r.queue.items ≡ 0 = omega (arith, none, r.queue.ok.0) in
    sym (ap head (sym c.self.view_is) ∙ place-none (listed r.table r.queue.items r.late.items) (none-first jobs r.queue.items r.late.items empty late))
