use Rattle.std.specs.Prelude.{[], length}
use Rattle.std.proofs.Common.{arith, ap, ◌∙◌}
use Rattle.tv_value.specs.Views.{strategy_view}
use Rattle.tv_intake.specs.Intaken.{known_jobs}
use Rattle.tv_spread.specs.Spreads.{is_faulty_now, with_all_new}
use Rattle.std.specs.Prelude.{drop}
use Rattle.tv_frame.specs.Started.{but_at}
use Rattle.tv_frame.proofs.Beginning.{but-other, but-own, started-none, step-begun}
use Rattle.tv_frame.proofs.FirstRooms.{added-at, as-many, first-jobs, levels-before, levels-last, plan-parts, same-jobs, step-room}
use Rattle.tv_frame.proofs.starting.start_step.Goals as goal

pub add-requires-clause-sound : goal.add-requires-clause-sound
add-requires-clause-sound c = c.requires.begun.2.intaken

pub reserve-requires : goal.reserve-requires
reserve-requires c = record { step = step-room c.args.idle.now.steps c.add_step.new.self.steps _ c.args.number c.in_ok-add_step.ensures.steps c.requires.begun.2.steps }

pub add_known-requires-clause-within : goal.add_known-requires-clause-within
add_known-requires-clause-within c =
    let many = as-many c.args.idle.now c.add_step.new.self c.reserve.new.self c.reserve_numbers.new.self c.args.number c.args.step.now.depth c.requires.begun.2.steps c.in_ok-add_step.ensures.steps c.add_step.ensures.known c.reserve.ensures.steps c.reserve.ensures.known c.reserve_numbers.ensures.steps c.reserve_numbers.ensures.known in
    omega (arith, many)

pub add_known-requires-clause-places : goal.add_known-requires-clause-places
add_known-requires-clause-places c =
    let last = levels-last c.args.idle.now c.add_step.new.self c.reserve.new.self c.reserve_numbers.new.self c.args.number c.args.step.now.depth c.requires.begun.2.steps c.in_ok-add_step.ensures.steps c.add_step.ensures.known c.reserve.ensures.steps c.reserve.ensures.known c.reserve_numbers.ensures.steps c.reserve_numbers.ensures.known in
    let w = added-at c.args.intakes.now c.add.new.self (length c.args.intakes.now.matchers.items) c.args.number c.requires.begun.2.as_many (strategy_view c.args.step.now.tree) c.args.step.now.mismatch [] (started-none (strategy_view c.args.step.now.tree) c.args.step.now.mismatch _ c.in_ok-add.ensures.started) c.add.ensures.others c.in_ok-add.ensures.jobs c.in_ok-add.ensures.waiting c.add.ensures.sound in
    first-jobs c.add.new.self c.args.number c.args.step.now.depth _ (strategy_view c.args.step.now.tree) c.args.step.now.mismatch [] (known_jobs c.args.intakes.now) w.intaken w.told c.requires.deep last w.jobs c.known-known.result c.known-known.ensures

pub returns : goal.returns
returns c f tells s h at e =
    let same = same-jobs c.args.idle.now c.add_step.new.self c.reserve.new.self c.reserve_numbers.new.self c.args.number c.args.step.now.depth h.steps c.in_ok-add_step.ensures.steps c.add_step.ensures.known c.reserve.ensures.steps c.reserve.ensures.known c.reserve_numbers.ensures.steps c.reserve_numbers.ensures.known in
    let many = as-many c.args.idle.now c.add_step.new.self c.reserve.new.self c.reserve_numbers.new.self c.args.number c.args.step.now.depth h.steps c.in_ok-add_step.ensures.steps c.add_step.ensures.known c.reserve.ensures.steps c.reserve.ensures.known c.reserve_numbers.ensures.steps c.reserve_numbers.ensures.known in
    let before = levels-before c.args.idle.now c.add_step.new.self c.reserve.new.self c.reserve_numbers.new.self c.args.number c.args.step.now.depth h.steps c.in_ok-add_step.ensures.steps c.add_step.ensures.known c.reserve.ensures.steps c.reserve.ensures.known c.reserve_numbers.ensures.steps c.reserve_numbers.ensures.known in
    let last = levels-last c.args.idle.now c.add_step.new.self c.reserve.new.self c.reserve_numbers.new.self c.args.number c.args.step.now.depth h.steps c.in_ok-add_step.ensures.steps c.add_step.ensures.known c.reserve.ensures.steps c.reserve.ensures.known c.reserve_numbers.ensures.steps c.reserve_numbers.ensures.known in
    let w = added-at c.args.intakes.now c.add.new.self (length c.args.intakes.now.matchers.items) c.args.number h.as_many (strategy_view c.args.step.now.tree) c.args.step.now.mismatch [] (started-none (strategy_view c.args.step.now.tree) c.args.step.now.mismatch _ c.in_ok-add.ensures.started) c.add.ensures.others c.in_ok-add.ensures.jobs c.in_ok-add.ensures.waiting c.add.ensures.sound in
    let p = plan-parts f c.args.step.now s e in
    step-begun f tells c.args.number c.args.intakes.now c.add.new.self c.args.idle.now c.reserve_numbers.new.self s (strategy_view c.args.step.now.tree) c.args.step.now.mismatch [] (but_at c.args.number tells) h at p.0 p.1 (but-own tells c.args.number s.1) (λ n t ne. but-other tells c.args.number t n ne) w same many before (last ∙ p.2) c.add_known.new.idle
    (c.add_known.ensures ∙ ap (λ n. with_all_new (is_faulty_now c.add.new.self) (drop n (known_jobs c.add.new.self)) c.reserve_numbers.new.self) c.known-known.ensures)
