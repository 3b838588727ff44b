use Rattle.std.proofs.Common.{sym, ◌∙◌}
use Rattle.tv_flow.specs.Views.{step_view}
use Rattle.tv_frame.proofs.FaultingRead.{ok-weaken}
use Rattle.tv_gate.specs.Views.{outcome_view}
use Rattle.tv_run.proofs.Judged.{right-judged, wrong-judged}
use Rattle.tv_run.proofs.run.OpenRun.accept_own.Goals as goal

pub accept_right-requires : goal.accept_right-requires
accept_right-requires c =
    let w = c.requires in (
      w.0,
      w.1,
      w.2,
      w.3,
      right-judged w.0 c.args.self.now w.2.0 w.2.1 c.args.ticket w.1 (outcome_view c.args.outcome) w.3
          (step_view c.step_at.result.now) c.step_at.ensures (sym c.in-Right.is ∙ c.in_ok-judge.ensures),
    )

pub accept_wrong-requires : goal.accept_wrong-requires
accept_wrong-requires c =
    let w = c.requires in (
      w.0,
      w.1,
      outcome_view c.args.outcome,
      w.2,
      w.3,
      wrong-judged w.0 c.args.self.now w.2.0 w.2.1 c.args.ticket w.1 (outcome_view c.args.outcome) w.3
          (step_view c.step_at.result.now) c.step_at.ensures c.in-Wrong.why (sym c.in-Wrong.is ∙ c.in_ok-judge.ensures),
    )

pub returns-in-Right-clause-accepted : goal.returns-in-Right-clause-accepted
returns-in-Right-clause-accepted c =
    ok-weaken _ _ c.accept_right.result
    (λ a told gives q so asked.
    told gives q so asked
    (right-judged gives c.args.self.now so.0 so.1 c.args.ticket q (outcome_view c.args.outcome) asked
    (step_view c.step_at.result.now) c.step_at.ensures (sym c.in-Right.is ∙ c.in_ok-judge.ensures)))
    c.accept_right.ensures.accepted

pub returns-in-Wrong-clause-accepted : goal.returns-in-Wrong-clause-accepted
returns-in-Wrong-clause-accepted c =
    ok-weaken _ _ c.accept_wrong.result
    (λ a told gives q so asked.
    told gives q (outcome_view c.args.outcome) so asked
    (wrong-judged gives c.args.self.now so.0 so.1 c.args.ticket q (outcome_view c.args.outcome) asked
    (step_view c.step_at.result.now) c.step_at.ensures c.in-Wrong.why (sym c.in-Wrong.is ∙ c.in_ok-judge.ensures)))
    c.accept_wrong.ensures.accepted
