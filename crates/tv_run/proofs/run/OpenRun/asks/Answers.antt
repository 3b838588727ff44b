use Rattle.std.specs.Cmp.Lexicographic.{bytes_decides}
use Rattle.std.proofs.Common.{◌<◌, ◌≡◌, ◌∙◌, ap, length, map, refl, subst, sym}
use Rattle.tv_value.specs.Activities.{service}
use Rattle.tv_naming.proofs.Told.{got-in}
use Rattle.tv_history.specs.Answers.{question}
use Rattle.tv_model.proofs.Tests.{true≠false}
use Rattle.tv_run.specs.Accepting.{IsAnswerTo}
use Rattle.tv_run.specs.Standing.{run_of}
use Rattle.tv_run.proofs.Answering.{answers-by}
use Rattle.tv_run.proofs.AskedOut.{asked-now}
use Rattle.tv_run.proofs.TaskLemmas.{activity-is, activity-within, is-other, of-open, outputs-are, service-is}
use Rattle.tv_run.proofs.run.OpenRun.asks.Goals as goal
use Rattle.tv_run.proofs.run.OpenRun.asks.Goals.{then-is_service, else-is_service}

pub bounds-as_slice-activity : goal.bounds-as_slice-activity
bounds-as_slice-activity c =
    let r = c.args.self.now in
    let q = c.requires in
    let w = asked-now q.0 r q.1.0 q.1.1 c.args.ticket q.2 in
    subst (λ l. c.args.ticket.activity < length l) (sym c.as_slice.ensures)
    (activity-within q.0 r q.1.0 q.1.1 c.args.ticket w.0 w.1 w.2 c.step_at-step.result.now c.step_at-step.ensures)

pub binds-requires : goal.binds-requires
binds-requires c =
    let r = c.args.self.now in
    let q = c.requires in
    let w = asked-now q.0 r q.1.0 q.1.1 c.args.ticket q.2 in
    (q.1.0, q.1.1.fits, of-open q.0 r q.1.0 q.1.1 c.args.ticket w.0 w.1 w.2)

pub returns-then-same_depths : goal.returns-then-same_depths
returns-then-same_depths c = λ gives z out.
    let r = c.args.self.now in
    let t = c.args.ticket in
    let w = asked-now gives r z.0 z.1 t out in
    let s = c.step_at-step.result.now in
    let found = c.step_at-step.ensures in
    let a = c.index-as_slice-activity.result in
    let low = activity-within gives r z.0 z.1 t w.0 w.1 w.2 s found in
    let there =
    got-in c.as_slice.result.now s.activities t.activity a c.as_slice.ensures
    (subst (λ l. t.activity < length l) (sym c.as_slice.ensures) low) c.index-as_slice-activity.is in
    let both : (c.args.service.now ≡ w.0.service) × (map (λ o. o.1) c.args.outputs.now ≡ w.0.outputs) =
    elim c.if-is_service.branch [
      | then-is_service x ↦ (
        service-is gives r z.0 z.1 t w.0 w.1 w.2 s found a there c.args.service.now
            (c.is_service.ensures.0 x.if-is_service.true),
        sym (ap (map (λ o. o.1)) x.as_slice-then-is_service.ensures)
            ∙ (bytes_decides (map (λ o. o.1) x.as_slice-then-is_service.result.now)
            (map (λ o. o.1) x.as_slice-then-is_service-2.result.now)).0
            (sym x.same_depths.ensures ∙ sym x.value-is ∙ c.if-same_depths.true)
            ∙ ap (map (λ o. o.1)) x.as_slice-then-is_service-2.ensures
            ∙ outputs-are gives r z.0 z.1 t w.0 w.1 w.2 s found,
      )
      | else-is_service x ↦ absurd (true≠false (sym c.if-same_depths.true ∙ x.value-is ∙ x.if-is_service.false))
    ] in
    answers-by gives r z.0 z.1 t w.0 w.1 w.2 (question t c.args.service.now c.args.inputs.now c.args.outputs.now)
    refl both.0 both.1 c.binds.result c.binds.ensures.same c.binds.ensures.other

pub returns-else-same_depths : goal.returns-else-same_depths
returns-else-same_depths c = λ gives z out.
    let r = c.args.self.now in
    let t = c.args.ticket in
    let w = asked-now gives r z.0 z.1 t out in
    let s = c.step_at-step.result.now in
    let found = c.step_at-step.ensures in
    let a = c.index-as_slice-activity.result in
    let q = question t c.args.service.now c.args.inputs.now c.args.outputs.now in
    let low = activity-within gives r z.0 z.1 t w.0 w.1 w.2 s found in
    let there =
    got-in c.as_slice.result.now s.activities t.activity a c.as_slice.ensures
    (subst (λ l. t.activity < length l) (sym c.as_slice.ensures) low) c.index-as_slice-activity.is in
    subst (IsAnswerTo gives (run_of r) q) (sym c.if-same_depths.false)
    (is-other gives r z.0 z.1 t w.0 w.1 w.2 q refl
    (λ e. elim c.if-is_service.branch [
      | then-is_service x ↦
          true≠false
          (sym
          ((bytes_decides (map (λ o. o.1) x.as_slice-then-is_service.result.now)
          (map (λ o. o.1) x.as_slice-then-is_service-2.result.now)).1
          (ap (map (λ o. o.1)) x.as_slice-then-is_service.ensures
          ∙ e.2
          ∙ sym (outputs-are gives r z.0 z.1 t w.0 w.1 w.2 s found)
          ∙ sym (ap (map (λ o. o.1)) x.as_slice-then-is_service-2.ensures)))
          ∙ sym x.same_depths.ensures
          ∙ sym x.value-is
          ∙ c.if-same_depths.false)
      | else-is_service x ↦
          true≠false
          (sym
          (c.is_service.ensures.1
          (activity-is gives r z.0 z.1 t w.0 w.1 w.2 s found a there ∙ ap service (sym e.0)))
          ∙ x.if-is_service.false)
    ]))
