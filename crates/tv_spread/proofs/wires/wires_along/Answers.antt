use Rattle.std.specs.Prelude.{filter, if◌then◌else◌}
use Rattle.std.proofs.Common.{[], arith, ap, sym, ◌∙◌}
use Rattle.std.proofs.lemmas.Bool.{eq-eqb, ne_eqb}
use Rattle.std.proofs.lemmas.Option.{get_or_from_slice_get}
use Rattle.tv_telling.specs.Along.{is_walked, wires_from}
use Rattle.tv_spread.proofs.WireLemmas.{rows-many, walked-many, walked-row}
use Rattle.tv_spread.proofs.wires.wires_along.Goals as goal

pub row-requires : goal.row-requires
row-requires c =
    let many = rows-many c.args.around.now.wiring.now c.requires.wires in
    let step = c.requires.step in
    omega (arith, many, step)

pub bounds-around-step : goal.bounds-around-step
bounds-around-step c =
    let a = c.args.around.now in
    let many = rows-many a.wiring.now c.requires.wires in
    let walked = walked-many a.walked.now a.wiring.now c.requires.walked in
    let step = c.requires.step in
    omega (arith, many, walked, step)

pub returns-then-event-eq0 : goal.returns-then-event-eq0
returns-then-event-eq0 c =
    let w = c.args.around.now.wiring.now in
    let s = c.args.step in
    sym (get_or_from_slice_get w.wires s c.row.result.now [] c.row.ensures)
    ∙ ap (λ b. if b then wires_from w s else filter is_walked (wires_from w s)) (sym (eq-eqb c.args.event.now.whole_from 0 c.if-event-eq0.true))

pub returns-else-event-eq0 : goal.returns-else-event-eq0
returns-else-event-eq0 c =
    let a = c.args.around.now in
    let w = a.wiring.now in
    let s = c.args.step in
    let many = rows-many w c.requires.wires in
    let walked = walked-many a.walked.now w c.requires.walked in
    let step = c.requires.step in
    c.as_slice.ensures.value
    ∙ walked-row a.walked.now w c.requires.walked s c.index-around-step.result (omega (arith, many, walked, step))
    ∙ ap (λ b. if b then wires_from w s else filter is_walked (wires_from w s)) (sym (ne_eqb c.args.event.now.whole_from 0 c.if-event-eq0.false))
