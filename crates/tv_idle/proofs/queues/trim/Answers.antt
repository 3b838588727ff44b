use Rattle.std.proofs.Common.{◌≡◌, ◌<◌, ap, sym, subst, ◌∙◌, length, true, false}
use Rattle.tv_idle.specs.Kept.{are_below, is_gone, starts_gone, trimmed}
use Rattle.tv_idle.proofs.Listing.{below-next, fewer, trimmed-next, trimmed-none}
use Rattle.tv_idle.proofs.queues.trim.Goals as goal

pub loop-queue-preserved : goal.loop-queue-preserved
loop-queue-preserved c =
    let i = c.loop-queue.invariant in
    let t = c.take_first.ensures in
    let js = c.loop-queue.queue.jobs in
    let gs = c.args.gone.now in
    let first : starts_gone (is_gone gs) js ≡ true = sym c.starts_gone.ensures ∙ c.loop-queue-test.true in
    record {
      below = ap (are_below (length gs)) t.jobs ∙ below-next (length gs) js i.below;
      left = ap (trimmed (is_gone gs)) t.jobs ∙ trimmed-next (is_gone gs) js first ∙ i.left;
      levels = t.levels ∙ i.levels;
      room = t.room ∙ i.room;
    }

pub loop-queue-smaller : goal.loop-queue-smaller
loop-queue-smaller c =
    let js = c.loop-queue.queue.jobs in
    let gs = c.args.gone.now in
    let first : starts_gone (is_gone gs) js ≡ true = sym c.starts_gone.ensures ∙ c.loop-queue-test.true in
    subst (λ l. length l < length js) (sym c.take_first.ensures.jobs) (fewer (is_gone gs) js first)

pub returns : goal.returns
returns c =
    let i = c.loop-queue.invariant in
    let js = c.loop-queue.queue.jobs in
    let gs = c.args.gone.now in
    let first : starts_gone (is_gone gs) js ≡ false = sym c.starts_gone.ensures ∙ c.loop-queue-test.false in
    record {
      jobs = sym (trimmed-none (is_gone gs) js first) ∙ i.left;
      levels = i.levels;
      room = i.room;
    }
