use Rattle.std.proofs.Common.{sym, ◌∙◌}
use Rattle.tv_dispatch.specs.declared.plan.Next.TheVariants as next
use Rattle.tv_run.proofs.Judged.{asks-service, else-fails, few-asked, not-right, said-of, within-retries}
use Rattle.tv_run.proofs.run.OpenRun.accept_wrong.Goals as goal

pub after-requires-clause-few : goal.after-requires-clause-few
after-requires-clause-few c =
    let w = c.requires in
    few-asked w.0 c.args.self.now w.3.0 w.3.1 c.args.ticket w.1 w.2 w.4 c.tries_at.result.now c.tries_at.ensures

pub after-requires-clause-service : goal.after-requires-clause-service
after-requires-clause-service c =
    let w = c.requires in
    asks-service w.0 c.args.self.now w.3.0 w.3.1 c.args.ticket w.1 w.2 w.4 c.tries_at.result.now c.tries_at.ensures

pub after-requires-clause-attempts : goal.after-requires-clause-attempts
after-requires-clause-attempts c =
    let w = c.requires in
    within-retries w.0 c.args.self.now w.3.0 w.3.1 c.args.ticket w.1 w.2 w.4 c.tries_at.result.now c.tries_at.ensures

pub fail-requires : goal.fail-requires
fail-requires c =
    let w = c.requires in
    let r = c.args.self.now in (
      w.0,
      w.1,
      w.2,
      w.3,
      w.4,
      w.5,
      else-fails w.0 r w.3.0 w.3.1 c.args.ticket w.1 w.2 w.4 c.args.why w.5 c.after.result
          (said-of w.0 r w.3.0 w.3.1 c.args.ticket w.1 w.2 w.4 c.tries_at.result.now c.tries_at.ensures c.after.result
          c.after.ensures)
          c.in_default.not-Ask c.in_default.not-Nest,
    )

pub returns-in_ok-try_again-in-Ask-clause-accepted : goal.returns-in_ok-try_again-in-Ask-clause-accepted
returns-in_ok-try_again-in-Ask-clause-accepted c gives q o so asked wrong =
    let r = c.args.self.now in
    c.in_ok-try_again-in-Ask.ensures.accepted gives q o so asked
    (not-right gives r so.0 so.1 c.args.ticket q o asked c.args.why wrong)
    (said-of gives r so.0 so.1 c.args.ticket q o asked c.tries_at.result.now c.tries_at.ensures
    (next.Ask c.in-Ask.activity c.in-Ask.attempt) (sym c.in-Ask.is ∙ c.after.ensures))

pub returns-in_ok-set_aside-in-Nest-clause-accepted : goal.returns-in_ok-set_aside-in-Nest-clause-accepted
returns-in_ok-set_aside-in-Nest-clause-accepted c gives q o so asked wrong =
    let r = c.args.self.now in
    c.in_ok-set_aside-in-Nest.ensures.accepted gives q o so asked
    (not-right gives r so.0 so.1 c.args.ticket q o asked c.args.why wrong)
    (said-of gives r so.0 so.1 c.args.ticket q o asked c.tries_at.result.now c.tries_at.ensures
    (next.Nest c.in-Nest.activity) (sym c.in-Nest.is ∙ c.after.ensures))

pub returns-in_ok-fail-in_default : goal.returns-in_ok-fail-in_default
returns-in_ok-fail-in_default c = record {
  accepted = λ gives q o so asked wrong.
      let r = c.args.self.now in
      c.in_ok-fail-in_default.ensures.accepted gives q o so asked wrong
      (else-fails gives r so.0 so.1 c.args.ticket q o asked c.args.why wrong c.after.result
      (said-of gives r so.0 so.1 c.args.ticket q o asked c.tries_at.result.now c.tries_at.ensures c.after.result
      c.after.ensures)
      c.in_default.not-Ask c.in_default.not-Nest);
  refused = tt;
}
