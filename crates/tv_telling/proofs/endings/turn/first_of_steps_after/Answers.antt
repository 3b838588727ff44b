use Rattle.std.proofs.Common.{◌+◌, ap, sym, ◌∙◌, drop}
use Rattle.std.specs.Option.{option_or}
use Rattle.std.proofs.lemmas.List.{drop_all}
use Rattle.tv_telling.specs.endings.Turns.{first_of_steps, first_of_steps_after, may_settle}
use Rattle.tv_telling.proofs.Rows.{found, passed}
use Rattle.tv_telling.proofs.endings.turn.first_of_steps_after.Goals as goal

pub returns-in-Some : goal.returns-in-Some
returns-in-Some c =
    let may = may_settle c.args.wiring.now c.args.endings.now in
    let ss = c.args.idle.now.steps in
    let later = first_of_steps may ss (drop (c.loop-at.at + 1) c.args.order.now) in
    sym (
    c.loop-at.invariant
    ∙ found may ss c.args.step c.args.place.now c.args.order.now c.loop-at.at c.loop-at-test.true c.if-other-step.true
    ∙ ap (λ o. option_or o later) (sym c.first_of_step_after.ensures ∙ c.in-Some.is)
    )

pub returns-in-None : goal.returns-in-None
returns-in-None c =
    let may = may_settle c.args.wiring.now c.args.endings.now in
    let ss = c.args.idle.now.steps in
    let later = first_of_steps may ss (drop (c.loop-at.at + 1) c.args.order.now) in
    c.first_of_steps.ensures
    ∙ ap (first_of_steps may ss) c.split_at.ensures.back
    ∙ sym (
    c.loop-at.invariant
    ∙ found may ss c.args.step c.args.place.now c.args.order.now c.loop-at.at c.loop-at-test.true c.if-other-step.true
    ∙ ap (λ o. option_or o later) (sym c.first_of_step_after.ensures ∙ c.in-None.is)
    )

pub loop-at-preserved : goal.loop-at-preserved
loop-at-preserved c =
    c.loop-at.invariant
    ∙ passed (may_settle c.args.wiring.now c.args.endings.now) c.args.idle.now.steps c.args.step c.args.place.now c.args.order.now c.loop-at.at c.loop-at-test.true c.if-other-step.false

pub returns : goal.returns
returns c =
    sym (
    c.loop-at.invariant
    ∙ ap (first_of_steps_after (may_settle c.args.wiring.now c.args.endings.now) c.args.idle.now.steps c.args.step c.args.place.now) (drop_all c.loop-at.at c.args.order.now c.loop-at-test.false)
    )
