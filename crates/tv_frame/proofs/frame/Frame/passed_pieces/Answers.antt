use Rattle.std.proofs.Common.{◌∙◌, ◌++◌, ◌∷◌, [], ap, eqb-true, eq-eqb, length, sym, true≢false}
use Rattle.std.proofs.lemmas.List.{nil_from_length}
use Rattle.tv_lemmas.proofs.Numbers.{not_zero-positive}
use Rattle.tv_frame.proofs.FaultingPieces.{each-passed, left-so, of-fault, of-faults, ok-both, one-passed, one-sound, outputs-so}
use Rattle.tv_frame.proofs.FaultingRead.{ok-weaken}
use Rattle.tv_frame.proofs.Keeping.{step-there}
use Rattle.tv_frame.proofs.frame.Frame.passed_pieces.Goals as goal

pub returns-then-is_empty : goal.returns-then-is_empty
returns-then-is_empty c = λ flows v s keeps at waits.
    let plan = c.args.plan.now in
    let pool = c.args.pool.now in
    let f = c.args.self.now in
    let n = c.args.step in
    let q = c.args.place.now in
    let d = c.in_ok-fault.ensures.value flows v s keeps at waits in
    let left = left-so flows plan pool f v n s keeps at q c.in_ok-left.left (c.in_ok-left.ensures s (step-there flows plan pool f v n s keeps at)) in
    let outs = outputs-so flows plan pool f v n s keeps at c.as_slice.result.now c.index-as_slice-step.result c.as_slice.ensures c.as_slice-outputs.result.now c.as_slice-outputs.ensures in
    let none = sym outs ∙ nil_from_length c.as_slice-outputs.result.now (eqb-true (length c.as_slice-outputs.result.now) 0 (sym c.is_empty.ensures ∙ c.if-is_empty.true)) in
    let one = c.of.ensures ∙ c.in_ok-push.ensures.items ∙ ap (λ l. l ++ c.in_ok-with_depth.field-0 ∷ []) c.in_ok-pieces.ensures.items in (
      d.0,
      d.2,
      one-passed v s q d.0 c.in_ok-left.left left c.in_ok-with_depth.field-0 c.of.result one
          (one-sound c.in_ok-with_depth.field-0 c.of.result one c.in_ok-with_depth.ensures.sound) none
          (of-fault _ _ d.0 c.in_ok-left.left d.1 c.in_ok-with_depth.ensures.value),
    )

pub returns : goal.returns
returns c =
    ok-weaken _ _ c.with_depths.result
    (λ ps both. λ flows v s keeps at waits.
    let plan = c.args.plan.now in
    let pool = c.args.pool.now in
    let f = c.args.self.now in
    let n = c.args.step in
    let q = c.args.place.now in
    let d = c.in_ok-fault.ensures.value flows v s keeps at waits in
    let left = left-so flows plan pool f v n s keeps at q c.in_ok-left.left (c.in_ok-left.ensures s (step-there flows plan pool f v n s keeps at)) in
    let outs = outputs-so flows plan pool f v n s keeps at c.as_slice.result.now c.index-as_slice-step.result c.as_slice.ensures c.as_slice-outputs.result.now c.as_slice-outputs.ensures in
    let some = not_zero-positive (length c.as_slice-outputs.result.now) (λ e. true≢false (sym (c.is_empty.ensures ∙ eq-eqb (length c.as_slice-outputs.result.now) 0 e) ∙ c.if-is_empty.false)) in (
      d.0,
      d.2,
      each-passed v s q d.0 c.in_ok-left.left left ps both.0 c.as_slice-outputs.result.now outs some
          (of-faults ps _ d.0 c.in_ok-left.left c.as_slice-outputs.result.now d.1 both.1),
    ))
    (ok-both _ _ c.with_depths.result c.with_depths.ensures.sound c.with_depths.ensures.values)
