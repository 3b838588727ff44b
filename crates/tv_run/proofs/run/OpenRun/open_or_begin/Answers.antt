use Rattle.std.proofs.Common.{sym, ◌∙◌}
use Rattle.tv_run.proofs.FlowsFirst.{asks-first, known-low, opens-first, some-tries}
use Rattle.tv_run.proofs.HandingLemmas.{found-handable, found-offer}
use Rattle.tv_run.proofs.Moves.{offered-first}
use Rattle.tv_run.proofs.run.OpenRun.open_or_begin.Goals as goal

pub tries_at-requires : goal.tries_at-requires
tries_at-requires c =
    let q = c.requires.1 in
    (q.instances, q.stands.fits, known-low c.requires.0 c.args.self.now c.args.job q)

pub stage_of-requires : goal.stage_of-requires
stage_of-requires c = let q = c.requires.1 in (q.instances, q.stands.fits)

pub has_flow_next-requires : goal.has_flow_next-requires
has_flow_next-requires c =
    some-tries c.requires.0 c.args.self.now c.args.job c.requires.1 c.tries_at.result.now c.tries_at.ensures

pub open_flow-requires : goal.open_flow-requires
open_flow-requires c = (
  c.requires.0,
  opens-first c.requires.0 c.args.self.now c.args.job c.requires.1 c.tries_at.result.now c.tries_at.ensures
      c.stage_of.result c.stage_of.ensures (sym c.has_flow_next.ensures ∙ c.if-has_flow_next.true),
)

pub returns-then-has_flow_next-clause-moved : goal.returns-then-has_flow_next-clause-moved
returns-then-has_flow_next-clause-moved c = λ gives q.
    c.in_ok-open_flow.ensures.settled gives
    (opens-first gives c.args.self.now c.args.job q c.tries_at.result.now c.tries_at.ensures c.stage_of.result
    c.stage_of.ensures (sym c.has_flow_next.ensures ∙ c.if-has_flow_next.true))

pub ticket_of-ticket-requires : goal.ticket_of-ticket-requires
ticket_of-ticket-requires c =
    let gives = c.requires.0 in
    let q = c.requires.1 in
    let r = c.args.self.now in
    let k = c.args.job in
    let none =
    (asks-first gives r k q c.tries_at.result.now c.tries_at.ensures c.stage_of.result c.stage_of.ensures
    (sym c.has_flow_next.ensures ∙ c.if-has_flow_next.false)).1 in
    (gives, q.instances, q.stands, found-offer gives r q.instances k (offered-first gives r k q none))

pub begin-requires : goal.begin-requires
begin-requires c =
    let gives = c.requires.0 in
    let q = c.requires.1 in
    let r = c.args.self.now in
    let k = c.args.job in
    let none =
    (asks-first gives r k q c.tries_at.result.now c.tries_at.ensures c.stage_of.result c.stage_of.ensures
    (sym c.has_flow_next.ensures ∙ c.if-has_flow_next.false)).1 in
    let found = offered-first gives r k q none in
    let of_job = c.ticket_of-ticket.ensures gives q.instances q.stands (found-offer gives r q.instances k found) in
    (gives, q.instances, q.stands, q.going, found-handable gives r q.instances k c.ticket_of-ticket.result found of_job)

pub returns-clause-moved : goal.returns-clause-moved
returns-clause-moved c = λ gives q.
    let r = c.args.self.now in
    let k = c.args.job in
    let none =
    (asks-first gives r k q c.tries_at.result.now c.tries_at.ensures c.stage_of.result c.stage_of.ensures
    (sym c.has_flow_next.ensures ∙ c.if-has_flow_next.false)).1 in
    let found = offered-first gives r k q none in
    let of_job = c.ticket_of-ticket.ensures gives q.instances q.stands (found-offer gives r q.instances k found) in (
      c.begin.ensures gives q.instances q.stands q.going
          (found-handable gives r q.instances k c.ticket_of-ticket.result found of_job),
      none,
    )
