use Rattle.std.proofs.Common.{◌≡◌, ◌∙◌, refl, sym, ap, subst, length, None, replicate, arith, [], ◌+◌, take, flat_map}
use Rattle.std.proofs.lemmas.Result.{err_from_is_err_and}
use Rattle.std.specs.Prelude.{◌-◌}
use Rattle.tv_flow.specs.DocumentViews.{document_view}
use Rattle.tv_flow.specs.Views.{flow_view}
use Rattle.tv_naming.specs.Told.{StopsAt}
use Rattle.tv_check.specs.Measured.{nesting_told}
use Rattle.tv_check.proofs.Links.{length-each}
use Rattle.tv_check.proofs.Progress.{progress-start, by-nestings, all_nestings, nesting-get}
use Rattle.tv_naming.proofs.Told.{silent-more, stops-next}
use Rattle.tv_check.proofs.depths.document_measured.Goals as goal

pub loop-nesting-init : goal.loop-nesting-init
loop-nesting-init c =
    record {
      progress = progress-start (document_view c.args.document.now) c.in_ok-measured.measured.items (c.in_ok-measured.ensures ∙ ap (λ k. replicate k None) (ap length c.as_slice.ensures ∙ sym (length-each flow_view c.args.document.now.flows)));
      told = refl;
    }

pub returns-in_err-nested_measured-clause-told : goal.returns-in_err-nested_measured-clause-told
returns-in_err-nested_measured-clause-told c =
    let p = err_from_is_err_and c.from_residual-in_err-nested_measured.result c.from_residual-in_err-nested_measured.ensures.1 in
    let d = document_view c.args.document.now in
    let n = c.loop-nesting.nesting in
    let e = c.in_err-nested_measured.field-0.0 in
    rw (p.1, p.2) (subst (λ cs. StopsAt cs e) (sym (by-nestings d)) (stops-next (nesting_told d) all_nestings (n - 1) n e (nesting-get n (omega arith) (omega arith)) c.loop-nesting.invariant.told c.in_err-nested_measured.ensures.told))

pub loop-nesting-preserved : goal.loop-nesting-preserved
loop-nesting-preserved c =
    let d = document_view c.args.document.now in
    let n = c.loop-nesting.nesting in
    let more = silent-more (nesting_told d) all_nestings (n - 1) n (nesting-get n (omega arith) (omega arith)) c.loop-nesting.invariant.told c.in_ok-nested_measured.ensures.told in
    let e : (n - 1) + 1 ≡ (n + 1) - 1 = omega arith in
    record {
      progress = c.in_ok-nested_measured.ensures.progress;
      told = subst (λ k. flat_map (nesting_told d) (take k all_nestings) ≡ []) e more;
    }
