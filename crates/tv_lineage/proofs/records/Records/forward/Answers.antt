use Rattle.std.proofs.Common.{[], ap, get_or, length, subst, ◌++◌, ◌<◌, ◌∙◌, ◌≡◌, ◌∷◌}
use Rattle.std.specs.BTreeMap.{get}
use Rattle.tv_value.specs.Orders.{job_name_cmp}
use Rattle.tv_lineage.proofs.Calling.{leaf-in, leaf-out, told-of}
use Rattle.tv_lineage.proofs.records.Records.forward.Goals.{else-has_any_mark, then-has_any_mark+in_ok-copy+in_ok-copy-2+in_ok-push}
use Rattle.tv_lineage.proofs.records.Records.forward.Goals as goal

pub loop-leaf-preserved : goal.loop-leaf-preserved
loop-leaf-preserved c =
    let ns = get job_name_cmp c.self.inside.numbers in
    let es = c.self.inside.entries.items in
    let x = c.args.port.now in
    let q = c.args.place.now in
    let f = c.leaf-item.result in
    let told = told-of ns es c.self.invariant x q c.in_ok-made.made.items _ _ c.as_slice-entries.ensures.value c.in_ok-made.ensures c.as_slice.ensures.value _ f.used c.as_slice-marks.ensures _ c.has_any_mark.ensures in
    let below = subst (λ fs. c.loop-leaf.leaf-index < length fs) c.as_slice-leaf-items.ensures c.loop-leaf-test.true in
    let is = subst (λ fs. f ≡ get_or fs c.loop-leaf.leaf-index f) c.as_slice-leaf-items.ensures c.leaf-item.is in
    elim c.if-has_any_mark.branch [
      | then-has_any_mark+in_ok-copy+in_ok-copy-2+in_ok-push w ↦ leaf-in ns es c.self.invariant x q c.args.leaves.now c.loop-leaf.leaf-index f below is c.loop-leaf.labels.items c.loop-leaf.invariant (told ∙ w.if-has_any_mark.true) _ (ap (λ v. v.items) w.labels-is ∙ w.in_ok-push.ensures.items ∙ (λ i. c.loop-leaf.labels.items ++ (w.in_ok-copy.ensures i, w.in_ok-copy-2.ensures.ok i) ∷ []))
      | else-has_any_mark w ↦ leaf-out ns es c.self.invariant x q c.args.leaves.now c.loop-leaf.leaf-index f below is c.loop-leaf.labels.items c.loop-leaf.invariant (told ∙ w.if-has_any_mark.false) _ (ap (λ v. v.items) w.labels-is)
    ]
