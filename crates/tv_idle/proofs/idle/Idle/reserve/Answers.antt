use Rattle.std.proofs.Common.{◌<◌, ap, sym, subst, ◌∙◌, length, map, slice_set}
use Rattle.std.proofs.lemmas.Result.{on_ok_weaker}
use Rattle.tv_idle.specs.declared.queues.Queues.{Queues}
use Rattle.tv_idle.specs.Idles.{Idles, StepIdle, of_step, with_rooms_of}
use Rattle.tv_idle.specs.Kept.{is_gone, queues_view}
use Rattle.tv_idle.proofs.AllSteps.{map-longer, same-kept, same-step, same-steps, there-same}
use Rattle.tv_idle.proofs.Faulty.{same-faulty}
use Rattle.tv_idle.proofs.idle.Idle.reserve.Goals as goal

pub invariant_of-self : goal.invariant_of-self
invariant_of-self c =
    let r = c.self.inside in
    let i = c.self.invariant in
    let gs = r.gone.items in
    let qs = r.queues.items in
    let s = c.args.step in
    let from = c.index_mut.result.now in
    let to = c.reserve.new.self in
    let inside : s < length qs = subst (λ m. s < m) (ap (λ (v : Idles). length v.steps) (sym c.self.view_is) ∙ map-longer (queues_view (is_gone gs)) qs) c.requires.step in
    let good = there-same (λ (q : Queues). q.good) qs s from to inside c.index_mut.ensures.value c.reserve.ensures.same_good in
    let faulty = there-same (λ (q : Queues). q.faulty) qs s from to inside c.index_mut.ensures.value c.reserve.ensures.same_faulty in
    record {
      all = same-kept (is_gone gs) (length gs) qs s to i.all inside good faulty;
      marks = i.marks;
      numbers = i.numbers;
      counted = i.counted ∙ same-faulty qs s from to inside c.index_mut.ensures.value c.reserve.ensures.same_faulty;
      few = i.few;
    }

pub returns-clause-good : goal.returns-clause-good
returns-clause-good c =
    let r = c.self.inside in
    let i = c.self.invariant in
    let gs = r.gone.items in
    let qs = r.queues.items in
    let s = c.args.step in
    let from = c.index_mut.result.now in
    let to = c.reserve.new.self in
    let inside : s < length qs = subst (λ m. s < m) (ap (λ (v : Idles). length v.steps) (sym c.self.view_is) ∙ map-longer (queues_view (is_gone gs)) qs) c.requires.step in
    let good = there-same (λ (q : Queues). q.good) qs s from to inside c.index_mut.ensures.value c.reserve.ensures.same_good in
    let faulty = there-same (λ (q : Queues). q.faulty) qs s from to inside c.index_mut.ensures.value c.reserve.ensures.same_faulty in
    let step = same-step (is_gone gs) (length gs) qs s to i.all inside good faulty in
    on_ok_weaker c.reserve.result (λ h. ap (λ (t : StepIdle). t.good_room) step ∙ h) c.reserve.ensures.good

pub returns-clause-faulty : goal.returns-clause-faulty
returns-clause-faulty c =
    let r = c.self.inside in
    let i = c.self.invariant in
    let gs = r.gone.items in
    let qs = r.queues.items in
    let s = c.args.step in
    let from = c.index_mut.result.now in
    let to = c.reserve.new.self in
    let inside : s < length qs = subst (λ m. s < m) (ap (λ (v : Idles). length v.steps) (sym c.self.view_is) ∙ map-longer (queues_view (is_gone gs)) qs) c.requires.step in
    let good = there-same (λ (q : Queues). q.good) qs s from to inside c.index_mut.ensures.value c.reserve.ensures.same_good in
    let faulty = there-same (λ (q : Queues). q.faulty) qs s from to inside c.index_mut.ensures.value c.reserve.ensures.same_faulty in
    let step = same-step (is_gone gs) (length gs) qs s to i.all inside good faulty in
    on_ok_weaker c.reserve.result (λ h. ap (λ (t : StepIdle). t.faulty_room) step ∙ h) c.reserve.ensures.faulty

pub returns-clause-steps : goal.returns-clause-steps
returns-clause-steps c =
    let r = c.self.inside in
    let i = c.self.invariant in
    let gs = r.gone.items in
    let qs = r.queues.items in
    let s = c.args.step in
    let from = c.index_mut.result.now in
    let to = c.reserve.new.self in
    let inside : s < length qs = subst (λ m. s < m) (ap (λ (v : Idles). length v.steps) (sym c.self.view_is) ∙ map-longer (queues_view (is_gone gs)) qs) c.requires.step in
    let good = there-same (λ (q : Queues). q.good) qs s from to inside c.index_mut.ensures.value c.reserve.ensures.same_good in
    let faulty = there-same (λ (q : Queues). q.faulty) qs s from to inside c.index_mut.ensures.value c.reserve.ensures.same_faulty in
    same-steps (is_gone gs) (length gs) qs s to i.all inside good faulty
    ∙ ap (λ (v : Idles). slice_set v.steps s (with_rooms_of (of_step (map (queues_view (is_gone gs)) (slice_set qs s to)) s) (of_step v.steps s))) c.self.view_is
