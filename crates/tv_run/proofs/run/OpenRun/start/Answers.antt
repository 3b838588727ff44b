use Rattle.std.specs.Prelude.{[], map, slice_get}
use Rattle.std.proofs.Common.{ap, subst, sym, ◌∙◌}
use Rattle.tv_cell.specs.PieceValues.{piece_values}
use Rattle.tv_check.specs.RunViews.{run_view}
use Rattle.tv_instances.specs.runs.Stated.{IsMainFlow}
use Rattle.tv_run.proofs.Starting.{given-values, main-can, main-open, main-there}
use Rattle.tv_run.proofs.run.OpenRun.start.Goals as goal

pub add_instance-requires-clause-fits : goal.add_instance-requires-clause-fits
add_instance-requires-clause-fits c =
    let r = c.in_ok-started.started in
    let d = run_view c.args.run in
    let same = c.in_ok-started.ensures.run in
    let vs = piece_values c.in_ok-inputs.inputs in
    let f = main-there c.args.run c.main-main.result c.main-main.ensures.position c.main-main.ensures.below in
    let are =
    given-values d c.document.result.now c.as_slice.result.now vs c.in_ok-inputs.ensures.values c.as_slice.ensures
    c.document.ensures.view in (
      [],
      f.0.1,
      [],
      main-can r c.main-main.result f.0 vs c.in_ok-started.ensures.fits
          (ap (λ q. slice_get (run_view q).flows c.main-main.result) same ∙ f.1)
          (subst (λ q. IsMainFlow (run_view q) f.0.1) (sym same) f.2)
          (are ∙ ap (λ q. map (λ x. x.1) (run_view q).inputs) (sym same)),
    )

pub returns-clause-run : goal.returns-clause-run
returns-clause-run c =
    let r = c.in_ok-started.started in
    let d = run_view c.args.run in
    let same = c.in_ok-started.ensures.run in
    let vs = piece_values c.in_ok-inputs.inputs in
    let f = main-there c.args.run c.main-main.result c.main-main.ensures.position c.main-main.ensures.below in
    let are =
    given-values d c.document.result.now c.as_slice.result.now vs c.in_ok-inputs.ensures.values c.as_slice.ensures
    c.document.ensures.view in
    let main = subst (λ q. IsMainFlow (run_view q) f.0.1) (sym same) f.2 in
    let values = are ∙ ap (λ q. map (λ x. x.1) (run_view q).inputs) (sym same) in
    let can =
    main-can r c.main-main.result f.0 vs c.in_ok-started.ensures.fits
    (ap (λ q. slice_get (run_view q).flows c.main-main.result) same ∙ f.1) main values in
    let y = c.in_ok-add_instance.ensures.added [] f.0.1 [] can in
    ap run_view (y.2.run ∙ same)

pub returns-clause-empty : goal.returns-clause-empty
returns-clause-empty c =
    let r = c.in_ok-started.started in
    let d = run_view c.args.run in
    let same = c.in_ok-started.ensures.run in
    let vs = piece_values c.in_ok-inputs.inputs in
    let f = main-there c.args.run c.main-main.result c.main-main.ensures.position c.main-main.ensures.below in
    let are =
    given-values d c.document.result.now c.as_slice.result.now vs c.in_ok-inputs.ensures.values c.as_slice.ensures
    c.document.ensures.view in
    let main = subst (λ q. IsMainFlow (run_view q) f.0.1) (sym same) f.2 in
    let values = are ∙ ap (λ q. map (λ x. x.1) (run_view q).inputs) (sym same) in
    let can =
    main-can r c.main-main.result f.0 vs c.in_ok-started.ensures.fits
    (ap (λ q. slice_get (run_view q).flows c.main-main.result) same ∙ f.1) main values in
    let y = c.in_ok-add_instance.ensures.added [] f.0.1 [] can in
    y.2.entries ∙ c.in_ok-started.ensures.empty

pub returns-clause-stands : goal.returns-clause-stands
returns-clause-stands c gives =
    let r = c.in_ok-started.started in
    let d = run_view c.args.run in
    let same = c.in_ok-started.ensures.run in
    let vs = piece_values c.in_ok-inputs.inputs in
    let f = main-there c.args.run c.main-main.result c.main-main.ensures.position c.main-main.ensures.below in
    let are =
    given-values d c.document.result.now c.as_slice.result.now vs c.in_ok-inputs.ensures.values c.as_slice.ensures
    c.document.ensures.view in
    let main = subst (λ q. IsMainFlow (run_view q) f.0.1) (sym same) f.2 in
    let values = are ∙ ap (λ q. map (λ x. x.1) (run_view q).inputs) (sym same) in
    let can =
    main-can r c.main-main.result f.0 vs c.in_ok-started.ensures.fits
    (ap (λ q. slice_get (run_view q).flows c.main-main.result) same ∙ f.1) main values in
    let y = c.in_ok-add_instance.ensures.added [] f.0.1 [] can in
    main-open gives r c.add_instance.new.self f.0.1 vs y.0 y.1 y.2 main values c.in_ok-started.ensures.empty
    c.in_ok-started.ensures.none.0 c.in_ok-started.ensures.none.1 c.in_ok-add_instance.ensures.room
