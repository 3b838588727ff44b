use Rattle.std.proofs.Common.{ap, sym, ◌∙◌}
use Rattle.std.proofs.lemmas.Bool.{cond-false}
use Rattle.tv_dispatch.specs.Plans.{next_try, left_after, turns_of}
use Rattle.tv_dispatch.specs.declared.plan.Next.TheVariants as next
use Rattle.tv_dispatch.proofs.Turns.{left-rest, rest-again, rest-over}
use Rattle.tv_dispatch.proofs.plan.after.Goals as goal

pub returns-then-attempt-plan : goal.returns-then-attempt-plan
returns-then-attempt-plan c =
    let p = c.args.plan.now in
    let k = c.args.activity in
    let n = c.args.attempt in
    sym (cond-false c.args.right next.Done (next_try (left_after k n (turns_of p))) c.if-right.false
    ∙ ap next_try (left-rest p.retries p.activities k n c.requires.service c.requires.attempts ∙ rest-again p.retries p.activities k n c.if-attempt-plan.true))

pub returns-else-attempt-plan : goal.returns-else-attempt-plan
returns-else-attempt-plan c =
    let p = c.args.plan.now in
    let k = c.args.activity in
    let n = c.args.attempt in
    c.start_of.ensures
    ∙ sym (cond-false c.args.right next.Done (next_try (left_after k n (turns_of p))) c.if-right.false
    ∙ ap next_try (left-rest p.retries p.activities k n c.requires.service c.requires.attempts ∙ rest-over p.retries p.activities k n c.if-attempt-plan.false))
