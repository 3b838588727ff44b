use Rattle.std.proofs.Common.{ap, inl, inr, ◌∙◌}
use Rattle.std.specs.BTreeMap.{get}
use Rattle.tv_value.specs.Orders.{job_name_cmp}
use Rattle.tv_lineage.specs.Views.{kept_of}
use Rattle.tv_lineage.proofs.Passing.{pass-adds, pass-as, pass-goes, short, told}
use Rattle.tv_lineage.proofs.Seeing.{bit-there}
use Rattle.tv_lineage.proofs.table.pass.Goals as goal
use Rattle.tv_lineage.proofs.table.pass.Goals.{then-not-index+then-has_any_part, else-not-index, else-not-index-via-then-not-index+else-has_any_part, else-not-index-via-else-not-index}

pub loop-number-preserved : goal.loop-number-preserved
loop-number-preserved c =
    let ns = get job_name_cmp c.args.numbers.now in
    let es = c.args.entries.now in
    let k = kept_of es in
    let x = c.args.port.now in
    let q = c.args.place.now in
    let n = c.loop-number.number in
    let bs = c.args.made.now.items in
    let cs = c.loop-number.made.items in
    let fits = short n _ _ _ c.loop-number-test.true c.loop-number.invariant.size c.requires.size in
    let bit = bit-there cs n c.index.result.now fits c.index.ensures in
    let e = c.index-entries-number.result in
    let is = c.index-entries-number.is in
    elim c.if-not-index.branch [
      | then-not-index+then-has_any_part w ↦ pass-as ns k x q _ bs _ _ _ _ (ap (λ v. v.items) w.made-is) w.added-is (pass-adds ns k c.requires.kept x q n bs cs c.loop-number.added c.loop-number.invariant fits (bit ∙ w.if-not-index.true) (told ns x q es n e c.loop-number-test.true is _ cs w.as_slice.ensures.value _ w.as_slice-then-not-index.ensures _ w.has_any_part.ensures ∙ w.if-has_any_part.true))
      | else-not-index w ↦
          elim w.else-not-index.branch [
            | else-not-index-via-then-not-index+else-has_any_part v ↦ pass-as ns k x q _ bs _ _ _ _ (ap (λ v. v.items) w.made-is) w.added-is (pass-goes ns k c.requires.kept x q n bs cs c.loop-number.added c.loop-number.invariant (inr (told ns x q es n e c.loop-number-test.true is _ cs v.as_slice.ensures.value _ v.as_slice-then-not-index.ensures _ v.has_any_part.ensures ∙ v.if-has_any_part.false)))
            | else-not-index-via-else-not-index v ↦ pass-as ns k x q _ bs _ _ _ _ (ap (λ v. v.items) w.made-is) w.added-is (pass-goes ns k c.requires.kept x q n bs cs c.loop-number.added c.loop-number.invariant (inl (bit ∙ v.if-not-index.false)))
          ]
    ]
