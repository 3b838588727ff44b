use Rattle.std.proofs.Common.{ap, sym, subst, ◌∙◌, ◌++◌, ◌∷◌, [], length}
use Rattle.tv_idle.specs.Kept.{AreAllKept, faulty_in, is_gone}
use Rattle.tv_idle.proofs.AllSteps.{added-kept}
use Rattle.tv_idle.proofs.Faulty.{more-faulty}
use Rattle.tv_idle.proofs.idle.Idle.add_step.Goals as goal

pub invariant_of-self-2 : goal.invariant_of-self-2
invariant_of-self-2 c =
    let r = c.self.inside in
    let i = c.self.invariant in
    let gs = r.gone.items in
    let q = c.in_ok-queues.queues in
    let items = c.push_reserved.ensures.items ∙ ap (λ l. l ++ q ∷ []) c.reserve.ensures.items in
    record {
      all =
          subst (AreAllKept (is_gone gs) (length gs)) (sym items)
          (added-kept (is_gone gs) c.args.levels q c.in_ok-queues.ensures.good c.in_ok-queues.ensures.faulty (length gs) r.queues.items i.all);
      marks = i.marks;
      numbers = i.numbers;
      counted =
          i.counted ∙ more-faulty r.queues.items q
          c.in_ok-queues.ensures.faulty.jobs
          ∙ ap faulty_in (sym items);
      few = i.few;
    }
