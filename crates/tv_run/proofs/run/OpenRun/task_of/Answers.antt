use Rattle.std.proofs.Common.{Some, ◌∙◌, ap, map, refl, sym}
use Rattle.tv_cell.specs.PieceValues.{piece_values}
use Rattle.tv_run.specs.Following.{numbered_in}
use Rattle.tv_run.specs.Tasks.{asked}
use Rattle.tv_run.proofs.AskedOut.{asked-now}
use Rattle.tv_run.proofs.TaskLemmas.{declared-there, inputs-are, is-task, of-open, outputs-are}
use Rattle.tv_run.proofs.run.OpenRun.task_of.Goals as goal

pub inputs_of-requires : goal.inputs_of-requires
inputs_of-requires c =
    let r = c.args.self.now in
    let q = c.requires in
    let t = c.args.ticket in
    let w = asked-now q.0 r q.1.0 q.1.1 t q.2 in
    (q.1.0, q.1.1.fits, of-open q.0 r q.1.0 q.1.1 t w.0 w.1 w.2)

pub returns-clause-task : goal.returns-clause-task
returns-clause-task c = λ gives z out.
    let r = c.args.self.now in
    let t = c.args.ticket in
    let xs = z.0 in
    let st = z.1 in
    let w = asked-now gives r xs st t out in
    let b = w.2 in
    let s = c.step_at.result.now in
    let e = c.step_at.ensures in (
      is-task gives r xs st t w.0 w.1 b
          (asked t c.in_ok-service.service c.in_ok-inputs.inputs c.in_ok-outputs.outputs)
          refl
          (c.in_ok-service.ensures ∙ c.asked_service.ensures gives w.0 z w.1)
          (inputs-are gives r xs st t w.0 w.1 b (piece_values c.in_ok-inputs.inputs)
          (c.in_ok-inputs.ensures.values xs (numbered_in b.outer b.number) b.instance b.view b.seat st.fits b.known.number
          b.known.there b.is_open b.known.seat))
          (ap (map (λ o. o.1)) c.in_ok-outputs.ensures ∙ outputs-are gives r xs st t w.0 w.1 b s e),
      declared-there gives r xs st t w.0 w.1 b s e ∙ ap Some (sym c.in_ok-outputs.ensures),
    )
