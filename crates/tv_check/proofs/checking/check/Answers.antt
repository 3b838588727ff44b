use Rattle.std.proofs.Common.{◌≡◌, ◌∙◌, ◌++◌, [], ap, sym, subst}
use Rattle.std.proofs.lemmas.Bool.{and_parts}
use Rattle.tv_flow.specs.DocumentViews.{document_view}
use Rattle.tv_naming.specs.Naming.{naming_complaints}
use Rattle.tv_check.specs.Cycles.{cycle_complaints, nesting_complaints, link_cycle_complaints}
use Rattle.tv_check.specs.Depthwise.{depth_complaints}
use Rattle.tv_naming.specs.Inputs.{given_complaints}
use Rattle.tv_naming.specs.Faulty.{first_of}
use Rattle.tv_check.specs.Plannable.{AreByRank, IsPlannable}
use Rattle.tv_check.proofs.Accepting.{accepted, left-nil, right-nil}
use Rattle.tv_check.proofs.Inside.{names-inside}
use Rattle.tv_check.proofs.Prepared.{prepared}
use Rattle.tv_check.proofs.ToPlan.{plannable}
use Rattle.tv_check.proofs.checking.check.Goals as goal

pub orders_of-requires : goal.orders_of-requires
orders_of-requires g c =
    let d = document_view c.args.document in
    let knows = g.V.Services.knows in
    let named : naming_complaints knows d ≡ [] = left-nil _ _ (left-nil _ _ (left-nil _ _ c.in_ok-levels.ensures.told)) in
    (and_parts _ _ (names-inside knows d named)).1

pub document_measured-requires : goal.document_measured-requires
document_measured-requires g c =
    let d = document_view c.args.document in
    let knows = g.V.Services.knows in
    let names_and_cycles = left-nil _ _ (left-nil _ _ c.in_ok-levels.ensures.told) in
    let named : naming_complaints knows d ≡ [] = left-nil _ _ names_and_cycles in
    let free : cycle_complaints d ≡ [] = right-nil (naming_complaints knows d) (cycle_complaints d) names_and_cycles in
    let ordered = subst (λ os. AreByRank d.flows os) (sym c.as_slice.ensures.value) c.in_ok-orders.ensures in
    prepared knows d c.as_slice.result.now c.as_slice-2.result.now c.args.document.formed named (ap first_of free) ordered (c.as_slice-2.ensures.value ∙ c.in_ok-levels.ensures.levels)

pub checked_run-requires : goal.checked_run-requires
checked_run-requires g c =
    let d = document_view c.args.document in
    let knows = g.V.Services.knows in
    let three = left-nil _ _ c.in_ok-levels.ensures.told in
    let named : naming_complaints knows d ≡ [] = left-nil _ _ (left-nil _ _ three) in
    let nested_so : nesting_complaints d ≡ [] = right-nil (naming_complaints knows d ++ cycle_complaints d) (nesting_complaints d) three in
    let linked : link_cycle_complaints d ≡ [] = right-nil (naming_complaints knows d ++ cycle_complaints d ++ nesting_complaints d) (link_cycle_complaints d) c.in_ok-levels.ensures.told in
    let given : given_complaints d ≡ [] = c.in_ok-told.ensures _ c.in_ok-given_fault.ensures in
    let all =
    accepted knows d
    (ap (λ cs. first_of (cs ++ depth_complaints d ++ given_complaints d)) c.in_ok-levels.ensures.told
    ∙ ap (λ cs. first_of (cs ++ given_complaints d)) c.in_ok-measured.ensures.told
    ∙ ap first_of given)
    in
    let ready = plannable knows d c.args.document.formed named c.in_ok-orders.orders.items c.in_ok-measured.measured.items all nested_so linked c.in_ok-orders.ensures c.in_ok-measured.ensures.measured in
    subst (λ os. IsPlannable d os c.as_slice-4.result.now) (sym c.as_slice-3.ensures.value) (subst (IsPlannable d c.in_ok-orders.orders.items) (sym c.as_slice-4.ensures.value) ready)
