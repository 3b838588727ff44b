use Rattle.std.proofs.Common.{◌≡◌, ◌+◌, get_or, ap, sym, ◌∙◌, arith}
use Rattle.std.proofs.lemmas.List.{get_or_default}
use Rattle.tv_value.specs.Views.{view}
use Rattle.tv_local.specs.declared.row.Want.TheVariants.{Any}
use Rattle.tv_local.specs.Reading.{shape_complaint, or_else}
use Rattle.tv_local.proofs.Complaints.{complaint_from, complaint-step, found-first}
use Rattle.tv_local.proofs.input.first_shape_complaint.Goals as goal

pub returns-in-Some : goal.returns-in-Some
returns-in-Some c =
    let f = shape_complaint c.args.name.now in
    let ws = c.args.wants.now in
    let vs = c.args.inputs.now in
    let i = c.loop-index.index in
    let v = view (get_or vs i c.index-inputs-index.result) in
    let told : c.in_ok-found.found ≡ f (i + 1) (get_or ws i Any) v =
    c.in_ok-found.ensures ∙ ap (λ w. f (i + 1) w (view c.index-inputs-index.result)) (get_or_default ws i _ Any c.loop-index-test.true) ∙ ap (λ u. f (i + 1) (get_or ws i Any) (view u)) c.index-inputs-index.is in
    sym (c.loop-index.invariant
    ∙ complaint-step f ws vs i Any c.index-inputs-index.result c.loop-index-test.true (omega arith)
    ∙ found-first (f (i + 1) (get_or ws i Any) v) (complaint_from f (i + 1) ws vs) c.in-Some.why (sym told ∙ c.in-Some.is))

pub loop-index-preserved : goal.loop-index-preserved
loop-index-preserved c =
    let f = shape_complaint c.args.name.now in
    let ws = c.args.wants.now in
    let vs = c.args.inputs.now in
    let i = c.loop-index.index in
    let v = view (get_or vs i c.index-inputs-index.result) in
    let told : c.in_ok-found.found ≡ f (i + 1) (get_or ws i Any) v =
    c.in_ok-found.ensures ∙ ap (λ w. f (i + 1) w (view c.index-inputs-index.result)) (get_or_default ws i _ Any c.loop-index-test.true) ∙ ap (λ u. f (i + 1) (get_or ws i Any) (view u)) c.index-inputs-index.is in
    c.loop-index.invariant
    ∙ complaint-step f ws vs i Any c.index-inputs-index.result c.loop-index-test.true (omega arith)
    ∙ ap (λ o. or_else o (complaint_from f (i + 1) ws vs)) (sym told ∙ c.in_default.is)
