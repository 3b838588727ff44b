use Rattle.std.proofs.Common.{ap, map, ◌∙◌}
use Rattle.std.proofs.lemmas.Result.{IfOk-weaker}
use Rattle.tv_lemmas.proofs.Lists.{map-after as mapped-twice}
use Rattle.tv_value.specs.Values.{fault_value}
use Rattle.tv_cell.specs.Found.{document_of, with_depth}
use Rattle.tv_run.proofs.errors.error_pieces.Goals as goal

pub returns-clause-values : goal.returns-clause-values
returns-clause-values c =
    IfOk-weaker c.fault_pieces.result _ _
    (λ ps h. h
    ∙ ap (λ v. map (λ o. fault_value (with_depth o.1 (document_of v))) c.as_slice.result.now) c.in_ok-cell.ensures
    ∙ mapped-twice (λ d. fault_value (record { at = c.args.at; depth = d; why = c.args.why; from = c.args.from })) (λ o. o.1) c.as_slice.result.now
    ∙ ap (λ os. map (λ d. fault_value (record { at = c.args.at; depth = d; why = c.args.why; from = c.args.from })) (map (λ o. o.1) os)) c.as_slice.ensures)
    c.fault_pieces.ensures.values
