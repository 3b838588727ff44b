use Rattle.std.proofs.Common.{◌<◌, ap, length, subst, sym}
use Rattle.tv_naming.proofs.Told.{got-in}
use Rattle.tv_run.specs.Jobs.{is_service}
use Rattle.tv_run.proofs.AskedOut.{asked-now, asked-out}
use Rattle.tv_run.proofs.TaskLemmas.{activity-is, activity-within, service-is}
use Rattle.tv_run.proofs.run.OpenRun.asked_service.Goals as goal

pub bounds-as_slice-ticket : goal.bounds-as_slice-ticket
bounds-as_slice-ticket c =
    let r = c.args.self.now in
    let q = c.requires in
    let w = asked-now q.0 r q.1.0 q.1.1 c.args.ticket q.2 in
    subst (λ l. c.args.ticket.activity < length l) (sym c.as_slice.ensures)
    (activity-within q.0 r q.1.0 q.1.1 c.args.ticket w.0 w.1 w.2 c.step_at-step.result.now c.step_at-step.ensures)

pub service_of-requires : goal.service_of-requires
service_of-requires c =
    let r = c.args.self.now in
    let q = c.requires in
    let t = c.args.ticket in
    let w = asked-now q.0 r q.1.0 q.1.1 t q.2 in
    let s = c.step_at-step.result.now in
    let low = activity-within q.0 r q.1.0 q.1.1 t w.0 w.1 w.2 s c.step_at-step.ensures in
    ap is_service
    (activity-is q.0 r q.1.0 q.1.1 t w.0 w.1 w.2 s c.step_at-step.ensures c.index-as_slice-ticket.result
    (got-in c.as_slice.result.now s.activities t.activity c.index-as_slice-ticket.result c.as_slice.ensures
    (subst (λ l. t.activity < length l) (sym c.as_slice.ensures) low) c.index-as_slice-ticket.is))

pub returns : goal.returns
returns c = λ gives a z out.
    let r = c.args.self.now in
    let t = c.args.ticket in
    let xs = z.0 in
    let st = z.1 in
    let b = asked-out gives r xs st t a out in
    let s = c.step_at-step.result.now in
    let e = c.step_at-step.ensures in
    let low = activity-within gives r xs st t a out b s e in
    let there =
    got-in c.as_slice.result.now s.activities t.activity c.index-as_slice-ticket.result c.as_slice.ensures
    (subst (λ l. t.activity < length l) (sym c.as_slice.ensures) low) c.index-as_slice-ticket.is in
    service-is gives r xs st t a out b s e c.index-as_slice-ticket.result there c.service_of.result.now
    c.service_of.ensures
