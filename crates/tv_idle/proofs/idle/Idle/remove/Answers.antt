use Rattle.std.proofs.Common.{◌≡◌, ◌-◌, ◌≤◌, ◌<◌, ap, sym, subst, ◌∙◌, arith, length, length-set, true, slice_set}
use Rattle.std.specs.Prelude.{Bool}
use Rattle.tv_idle.specs.declared.queues.Queues.{Queues}
use Rattle.tv_idle.specs.Idles.{Idles, is_idle_at, of_step, without}
use Rattle.tv_idle.specs.Kept.{AreAllKept, IsTrimmed, is_gone, queues_of, stands_at}
use Rattle.tv_idle.proofs.AllSteps.{idle-stands, removed-kept, removed-steps, set-mark, stands-below, stands-within, there-trimmed}
use Rattle.tv_idle.proofs.Faulty.{fewer-faulty}
use Rattle.tv_idle.proofs.idle.Idle.remove.Goals as goal

pub index_mut-requires : goal.index_mut-requires
index_mut-requires c =
    let r = c.self.inside in
    let gs = r.gone.items in
    let qs = r.queues.items in
    let s = c.args.step in
    let n = c.args.number in
    let stands : stands_at n (queues_of qs s) ≡ true = idle-stands (is_gone gs) qs s n (ap (λ (v : Idles). is_idle_at n (of_step v.steps s)) c.self.view_is ∙ c.requires) in
    let low : n < length gs = stands-below (is_gone gs) (length gs) (queues_of qs s) n (c.self.invariant.all.each s) stands in
    omega (arith, low, r.gone.ok.0)

pub invariant_of-self : goal.invariant_of-self
invariant_of-self c =
    let r = c.self.inside in
    let i = c.self.invariant in
    let gs = r.gone.items in
    let qs = r.queues.items in
    let s = c.args.step in
    let n = c.args.number in
    let after = slice_set gs n true in
    let from = c.index_mut-2.result.now in
    let to = c.trim-dropped.new.self in
    let stands : stands_at n (queues_of qs s) ≡ true = idle-stands (is_gone gs) qs s n (ap (λ (v : Idles). is_idle_at n (of_step v.steps s)) c.self.view_is ∙ c.requires) in
    let low : n < length gs = stands-below (is_gone gs) (length gs) (queues_of qs s) n (i.all.each s) stands in
    let inside : s < length qs = stands-within qs s n stands in
    let good = there-trimmed (is_gone after) (λ (q : Queues). q.good) qs s from to inside c.index_mut-2.ensures.value (subst (λ m. IsTrimmed (is_gone m) from.good to.good) c.as_slice.ensures.value c.trim-dropped.ensures.good) in
    let faulty = there-trimmed (is_gone after) (λ (q : Queues). q.faulty) qs s from to inside c.index_mut-2.ensures.value (subst (λ m. IsTrimmed (is_gone m) from.faulty to.faulty) c.as_slice.ensures.value c.trim-dropped.ensures.faulty) in
    let many = length-set {A = Bool} gs n true in
    record {
      all =
          subst (λ k. AreAllKept (is_gone after) k (slice_set qs s to)) (sym many)
          (removed-kept (is_gone gs) (is_gone after) n (length gs) qs s to (set-mark gs n low) i.all stands good faulty);
      marks = let a = i.marks in omega (arith, a, many);
      numbers = let a = i.numbers in omega (arith, a, many);
      counted = ap (λ n. n - c.trim-dropped.result) i.counted ∙ (fewer-faulty qs s from to inside c.index_mut-2.ensures.value c.trim-dropped.result c.trim-dropped.ensures.dropped).1;
      few = let a = i.few in omega (arith, a, many);
    }

pub returns-clause-steps : goal.returns-clause-steps
returns-clause-steps c =
    let r = c.self.inside in
    let i = c.self.invariant in
    let gs = r.gone.items in
    let qs = r.queues.items in
    let s = c.args.step in
    let n = c.args.number in
    let after = slice_set gs n true in
    let from = c.index_mut-2.result.now in
    let to = c.trim-dropped.new.self in
    let stands : stands_at n (queues_of qs s) ≡ true = idle-stands (is_gone gs) qs s n (ap (λ (v : Idles). is_idle_at n (of_step v.steps s)) c.self.view_is ∙ c.requires) in
    let low : n < length gs = stands-below (is_gone gs) (length gs) (queues_of qs s) n (i.all.each s) stands in
    let inside : s < length qs = stands-within qs s n stands in
    let good = there-trimmed (is_gone after) (λ (q : Queues). q.good) qs s from to inside c.index_mut-2.ensures.value (subst (λ m. IsTrimmed (is_gone m) from.good to.good) c.as_slice.ensures.value c.trim-dropped.ensures.good) in
    let faulty = there-trimmed (is_gone after) (λ (q : Queues). q.faulty) qs s from to inside c.index_mut-2.ensures.value (subst (λ m. IsTrimmed (is_gone m) from.faulty to.faulty) c.as_slice.ensures.value c.trim-dropped.ensures.faulty) in
    removed-steps (is_gone gs) (is_gone after) n (length gs) qs s to (set-mark gs n low) i.all stands good faulty
    ∙ ap (λ (v : Idles). slice_set v.steps s (without n (of_step v.steps s))) c.self.view_is

pub overflow_sub-self : goal.overflow_sub-self
overflow_sub-self c =
    let r = c.self.inside in
    let gs = r.gone.items in
    let qs = r.queues.items in
    let s = c.args.step in
    let n = c.args.number in
    let stands : stands_at n (queues_of qs s) ≡ true = idle-stands (is_gone gs) qs s n (ap (λ (v : Idles). is_idle_at n (of_step v.steps s)) c.self.view_is ∙ c.requires) in
    subst (λ m. c.trim-dropped.result ≤ m) (sym c.self.invariant.counted)
    (fewer-faulty qs s c.index_mut-2.result.now c.trim-dropped.new.self (stands-within qs s n stands) c.index_mut-2.ensures.value c.trim-dropped.result c.trim-dropped.ensures.dropped).0
