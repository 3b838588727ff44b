use Rattle.std.proofs.Common.{◌++◌, ◌+◌, drop, ap, ◌∙◌, arith}
use Rattle.tv_match.specs.Ahead.{in_order_ahead}
use Rattle.tv_intake.specs.Sorting.{found_jobs, found_others}
use Rattle.tv_intake.proofs.SortingLemmas.{jobs-next, others-next}
use Rattle.tv_intake.proofs.sorting.sort_from.Goals as goal

pub loop-at-preserved : goal.loop-at-preserved
loop-at-preserved c =
    let i = c.loop-at.at in
    let os = in_order_ahead c.args.matcher.now in
    let v = c.loop-at.invariant in
    let e = c.item_ahead-kind.ensures.item in
    record {
      end_is = v.end_is;
      from_on = omega arith;
      jobs =
          ap (λ l. l ++ found_jobs c.args.step (i + 1) (drop (i + 1) os)) c.sort_one.ensures.jobs
          ∙ jobs-next c.args.step os i c.loop-at.jobs.items _ _ e
          ∙ v.jobs;
      waiting =
          ap (λ l. l ++ found_others c.args.step (i + 1) (drop (i + 1) os)) c.sort_one.ensures.waiting
          ∙ others-next c.args.step os i c.loop-at.waiting.items _ _ e
          ∙ v.waiting;
      jobs_room = let a = c.sort_one.ensures.jobs_len in let b = c.sort_one.ensures.jobs_capacity in omega arith;
      waiting_room = let a = c.sort_one.ensures.waiting_len in let b = c.sort_one.ensures.waiting_capacity in omega arith;
      jobs_len = let a = c.sort_one.ensures.jobs_len in omega arith;
      waiting_len = let a = c.sort_one.ensures.waiting_len in omega arith;
      jobs_capacity = let b = c.sort_one.ensures.jobs_capacity in omega arith;
      waiting_capacity = let b = c.sort_one.ensures.waiting_capacity in omega arith;
    }
