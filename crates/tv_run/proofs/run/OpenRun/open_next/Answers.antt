use Rattle.std.proofs.Common.{sym, ◌∙◌}
use Rattle.tv_run.proofs.FlowsFirst.{asks-first, known-low, opens-first, some-tries}
use Rattle.tv_run.proofs.run.OpenRun.open_next.Goals as goal

pub tries_at-requires : goal.tries_at-requires
tries_at-requires c =
    let q = c.requires.1 in
    (q.instances, q.stands.fits, known-low c.requires.0 c.args.self.now c.args.job q)

pub stage_of-requires : goal.stage_of-requires
stage_of-requires c = let q = c.requires.1 in (q.instances, q.stands.fits)

pub has_flow_next-requires : goal.has_flow_next-requires
has_flow_next-requires c =
    some-tries c.requires.0 c.args.self.now c.args.job c.requires.1 c.tries_at.result.now c.tries_at.ensures

pub returns-then-not-has_flow_next-clause-settled : goal.returns-then-not-has_flow_next-clause-settled
returns-then-not-has_flow_next-clause-settled c = λ gives q.
    asks-first gives c.args.self.now c.args.job q c.tries_at.result.now c.tries_at.ensures c.stage_of.result
    c.stage_of.ensures (sym c.has_flow_next.ensures ∙ c.if-not-has_flow_next.true)

pub open_flow-requires : goal.open_flow-requires
open_flow-requires c = (
  c.requires.0,
  opens-first c.requires.0 c.args.self.now c.args.job c.requires.1 c.tries_at.result.now c.tries_at.ensures
      c.stage_of.result c.stage_of.ensures (sym c.has_flow_next.ensures ∙ c.if-not-has_flow_next.false),
)

pub returns-clause-settled : goal.returns-clause-settled
returns-clause-settled c = λ gives q.
    c.in_ok-open_flow.ensures.settled gives
    (opens-first gives c.args.self.now c.args.job q c.tries_at.result.now c.tries_at.ensures c.stage_of.result
    c.stage_of.ensures (sym c.has_flow_next.ensures ∙ c.if-not-has_flow_next.false))
