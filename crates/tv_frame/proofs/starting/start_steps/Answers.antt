use Rattle.std.specs.Prelude.{◌+◌}
use Rattle.std.proofs.Common.{◌∙◌, ◌≡◌, ap, arith, length, subst, subst₂, sym}
use Rattle.tv_flow.specs.Views.{flow_view}
use Rattle.std.proofs.lemmas.List.{length-map}
use Rattle.tv_value.specs.Values.{holds_fault}
use Rattle.tv_value.specs.Views.{strategy_view}
use Rattle.tv_cell.specs.PieceValues.{piece_value, piece_values}
use Rattle.tv_model.specs.instance.Steps.{strategy_of}
use Rattle.tv_match.specs.Seen.{bound_telling}
use Rattle.tv_frame.specs.FirstTellings.{AreFed}
use Rattle.tv_naming.proofs.Told.{got-in}
use Rattle.tv_binding.specs.Constants.{constant_of_port, constants_view}
use Rattle.tv_intake.specs.Intaken.{matcher_at}
use Rattle.tv_frame.specs.Started.{HaveBegun, at_start, but_at, given_values}
use Rattle.tv_frame.proofs.FirstHeld.{all-begun, bound-below, bound-can_be_told, can-hold, given-ports, levelled, nothing-told, plan-agrees, plan-deep, plan-suits, ports-own, ports-there, told-is, told-one}
use Rattle.tv_frame.proofs.FirstRooms.{plan-parts}
use Rattle.tv_frame.proofs.Order.{few-steps}
use Rattle.tv_frame.proofs.TableLemmas.{step-of}
use Rattle.tv_frame.proofs.starting.start_steps.Goals.{in-Some+in_ok-start_whole, in_default+in_ok-told+in_ok-start_step+in_ok-tell}
use Rattle.tv_frame.proofs.starting.start_steps.Goals as goal

pub only_whole-requires : goal.only_whole-requires
only_whole-requires c =
    let n = c.loop-number.number in
    let e = ports-there c.args.plan.now n c.as_slice-step-items.result.now c.as_slice-step-items.ensures c.loop-number-test.true c.as_slice.result.now c.as_slice.ensures c.index-as_slice-number.result c.index-as_slice-number.is in
    let inputs = c.args.inputs.now in
    let many : length inputs ≡ length c.args.faulty.now = sym (ap length c.requires.faulty ∙ length-map (piece_values inputs) holds_fault ∙ length-map inputs piece_value) in
    let k = constant_of_port (constants_view c.args.tables.now.constants) n in
    (k, subst (λ m. AreFed m k c.as_slice-ports.result.now) many (given-ports c.requires.can.0 c.args.plan.now inputs c.requires.can.1 n c.index-as_slice-number.result c.as_slice-ports.result.now e c.as_slice-ports.ensures (constants_view c.args.tables.now.constants) c.requires.constants))

pub start_whole-requires-clause-suits : goal.start_whole-requires-clause-suits
start_whole-requires-clause-suits c =
    let s = step-of c.args.plan.now c.loop-number.number c.step-item.result (got-in c.as_slice-step-items.result.now c.args.plan.now.steps c.loop-number.number c.step-item.result c.as_slice-step-items.ensures c.loop-number-test.true c.step-item.is) in
    plan-suits c.requires.can.0 c.args.plan.now (piece_values c.args.inputs.now) c.requires.can.1 c.loop-number.number s.0 s.1.0 c.step-item.result s.1.1

pub start_whole-requires-clause-agree : goal.start_whole-requires-clause-agree
start_whole-requires-clause-agree c =
    let s = step-of c.args.plan.now c.loop-number.number c.step-item.result (got-in c.as_slice-step-items.result.now c.args.plan.now.steps c.loop-number.number c.step-item.result c.as_slice-step-items.ensures c.loop-number-test.true c.step-item.is) in
    plan-agrees c.requires.can.0 c.args.plan.now (piece_values c.args.inputs.now) c.requires.can.1 c.loop-number.number s.0 s.1.0 c.step-item.result s.1.1

pub start_whole-requires-clause-deep : goal.start_whole-requires-clause-deep
start_whole-requires-clause-deep c =
    let s = step-of c.args.plan.now c.loop-number.number c.step-item.result (got-in c.as_slice-step-items.result.now c.args.plan.now.steps c.loop-number.number c.step-item.result c.as_slice-step-items.ensures c.loop-number-test.true c.step-item.is) in
    plan-deep c.requires.can.0 c.args.plan.now (piece_values c.args.inputs.now) c.requires.can.1 c.loop-number.number s.0 s.1.0 c.step-item.result s.1.1

pub start_whole-requires-clause-leaf : goal.start_whole-requires-clause-leaf
start_whole-requires-clause-leaf c =
    let n = c.loop-number.number in
    let vs = piece_values c.args.inputs.now in
    let s = step-of c.args.plan.now c.loop-number.number c.step-item.result (got-in c.as_slice-step-items.result.now c.args.plan.now.steps c.loop-number.number c.step-item.result c.as_slice-step-items.ensures c.loop-number-test.true c.step-item.is) in
    let e = ports-there c.args.plan.now n c.as_slice-step-items.result.now c.as_slice-step-items.ensures c.loop-number-test.true c.as_slice.result.now c.as_slice.ensures c.index-as_slice-number.result c.index-as_slice-number.is in
    let k = constant_of_port (constants_view c.args.tables.now.constants) n in
    let leaf = c.in-Some.leaf in
    let fault = c.in-Some.fault in
    let perm = told-one c.requires.can.0 c.args.plan.now vs c.requires.can.1 n s.0 s.1.0 (bound_telling (strategy_of s.0.1) leaf fault) c.as_slice-ports.result.now k (ap (λ x. constant_of_port x n) c.requires.constants)
    (c.as_slice-ports.ensures ∙ ports-own c.args.plan.now n s.0 c.index-as_slice-number.result s.1.0 e) (c.in-Some.ensures vs k (strategy_of s.0.1) c.requires.faulty) in
    let p = plan-parts (flow_view c.args.plan.now.flow) c.step-item.result s.0 s.1.1 in
    bound-below c.requires.can.0 c.args.plan.now vs c.requires.can.1 n s.0 s.1.0 leaf fault perm (strategy_view c.step-item.result.tree) p.0

pub start_whole-requires-clause-new : goal.start_whole-requires-clause-new
start_whole-requires-clause-new c =
    let n = c.loop-number.number in
    let vs = piece_values c.args.inputs.now in
    let s = step-of c.args.plan.now c.loop-number.number c.step-item.result (got-in c.as_slice-step-items.result.now c.args.plan.now.steps c.loop-number.number c.step-item.result c.as_slice-step-items.ensures c.loop-number-test.true c.step-item.is) in
    let e = ports-there c.args.plan.now n c.as_slice-step-items.result.now c.as_slice-step-items.ensures c.loop-number-test.true c.as_slice.result.now c.as_slice.ensures c.index-as_slice-number.result c.index-as_slice-number.is in
    let k = constant_of_port (constants_view c.args.tables.now.constants) n in
    let leaf = c.in-Some.leaf in
    let fault = c.in-Some.fault in
    let perm = told-one c.requires.can.0 c.args.plan.now vs c.requires.can.1 n s.0 s.1.0 (bound_telling (strategy_of s.0.1) leaf fault) c.as_slice-ports.result.now k (ap (λ x. constant_of_port x n) c.requires.constants)
    (c.as_slice-ports.ensures ∙ ports-own c.args.plan.now n s.0 c.index-as_slice-number.result s.1.0 e) (c.in-Some.ensures vs k (strategy_of s.0.1) c.requires.faulty) in
    let p = plan-parts (flow_view c.args.plan.now.flow) c.step-item.result s.0 s.1.1 in
    bound-can_be_told c.requires.can.0 c.args.plan.now vs c.requires.can.1 n s.0 s.1.0 leaf fault perm (strategy_view c.step-item.result.tree) c.step-item.result.mismatch p.0 p.1

pub step_start-requires : goal.step_start-requires
step_start-requires c =
    let n = c.loop-number.number in
    let e = ports-there c.args.plan.now n c.as_slice-step-items.result.now c.as_slice-step-items.ensures c.loop-number-test.true c.as_slice.result.now c.as_slice.ensures c.index-as_slice-number.result c.index-as_slice-number.is in
    record { faulty = c.requires.faulty; fed = given-ports c.requires.can.0 c.args.plan.now c.args.inputs.now c.requires.can.1 n c.index-as_slice-number.result c.as_slice-ports.result.now e c.as_slice-ports.ensures (constants_view c.args.tables.now.constants) c.requires.constants }

pub overflow_cast-number : goal.overflow_cast-number
overflow_cast-number c = omega (arith, c.loop-number-test.true, few-steps c.args.plan.now c.as_slice-step-items.result.now c.as_slice-step-items.ensures)

pub start_step-requires-clause-suits : goal.start_step-requires-clause-suits
start_step-requires-clause-suits c =
    let s = step-of c.args.plan.now c.loop-number.number c.step-item.result (got-in c.as_slice-step-items.result.now c.args.plan.now.steps c.loop-number.number c.step-item.result c.as_slice-step-items.ensures c.loop-number-test.true c.step-item.is) in
    plan-suits c.requires.can.0 c.args.plan.now (piece_values c.args.inputs.now) c.requires.can.1 c.loop-number.number s.0 s.1.0 c.step-item.result s.1.1

pub start_step-requires-clause-agree : goal.start_step-requires-clause-agree
start_step-requires-clause-agree c =
    let s = step-of c.args.plan.now c.loop-number.number c.step-item.result (got-in c.as_slice-step-items.result.now c.args.plan.now.steps c.loop-number.number c.step-item.result c.as_slice-step-items.ensures c.loop-number-test.true c.step-item.is) in
    plan-agrees c.requires.can.0 c.args.plan.now (piece_values c.args.inputs.now) c.requires.can.1 c.loop-number.number s.0 s.1.0 c.step-item.result s.1.1

pub start_step-requires-clause-deep : goal.start_step-requires-clause-deep
start_step-requires-clause-deep c =
    let s = step-of c.args.plan.now c.loop-number.number c.step-item.result (got-in c.as_slice-step-items.result.now c.args.plan.now.steps c.loop-number.number c.step-item.result c.as_slice-step-items.ensures c.loop-number-test.true c.step-item.is) in
    plan-deep c.requires.can.0 c.args.plan.now (piece_values c.args.inputs.now) c.requires.can.1 c.loop-number.number s.0 s.1.0 c.step-item.result s.1.1

pub overflow_cast-number-in_default : goal.overflow_cast-number-in_default
overflow_cast-number-in_default c = omega (arith, c.loop-number-test.true, few-steps c.args.plan.now c.as_slice-step-items.result.now c.as_slice-step-items.ensures)

pub overflow_cast-number-in_default-2 : goal.overflow_cast-number-in_default-2
overflow_cast-number-in_default-2 c = omega (arith, c.loop-number-test.true, few-steps c.args.plan.now c.as_slice-step-items.result.now c.as_slice-step-items.ensures)

pub tell-requires-clause-begun : goal.tell-requires-clause-begun
tell-requires-clause-begun c =
    let f = flow_view c.args.plan.now.flow in
    let n = c.loop-number.number in
    let s = step-of c.args.plan.now n c.step-item.result (got-in c.as_slice-step-items.result.now c.args.plan.now.steps n c.step-item.result c.as_slice-step-items.ensures c.loop-number-test.true c.step-item.is) in
    let tells = at_start f (given_values c.args.plan.now c.args.inputs.now) in
    let h : HaveBegun f (but_at n tells) (n + 1) c.start_step.new.intakes c.start_step.new.idle = c.in_ok-start_step.ensures f tells s.0 c.loop-number.invariant s.1.0 s.1.1 in
    (f, tells, s.0, h, s.1.0, levelled c.requires.can.0 c.args.plan.now (piece_values c.args.inputs.now) c.requires.can.1 n s.0 s.1.0 (but_at n tells) (n + 1) c.start_step.new.intakes c.start_step.new.idle h (omega arith))

pub tell-requires-clause-can : goal.tell-requires-clause-can
tell-requires-clause-can c =
    let f = flow_view c.args.plan.now.flow in
    let n = c.loop-number.number in
    let vs = piece_values c.args.inputs.now in
    let s = step-of c.args.plan.now n c.step-item.result (got-in c.as_slice-step-items.result.now c.args.plan.now.steps n c.step-item.result c.as_slice-step-items.ensures c.loop-number-test.true c.step-item.is) in
    let tells = at_start f (given_values c.args.plan.now c.args.inputs.now) in
    let h : HaveBegun f (but_at n tells) (n + 1) c.start_step.new.intakes c.start_step.new.idle = c.in_ok-start_step.ensures f tells s.0 c.loop-number.invariant s.1.0 s.1.1 in
    let e = ports-there c.args.plan.now n c.as_slice-step-items.result.now c.as_slice-step-items.ensures c.loop-number-test.true c.as_slice.result.now c.as_slice.ensures c.index-as_slice-number.result c.index-as_slice-number.is in
    can-hold c.requires.can.0 c.args.plan.now vs c.requires.can.1 n s.0 s.1.0 (matcher_at c.start_step.new.intakes n) c.in_ok-told.told
    (nothing-told c.requires.can.0 c.args.plan.now vs c.requires.can.1 n s.0 s.1.0 tells c.start_step.new.intakes c.start_step.new.idle h)
    (told-is c.requires.can.0 c.args.plan.now vs c.requires.can.1 n s.0 s.1.0 c.in_ok-told.told c.as_slice-ports.result.now (constant_of_port (constants_view c.args.tables.now.constants) n) (ap (λ k. constant_of_port k n) c.requires.constants)
    (c.as_slice-ports.ensures ∙ ports-own c.args.plan.now n s.0 c.index-as_slice-number.result s.1.0 e) c.in_ok-told.ensures)

pub loop-number-preserved : goal.loop-number-preserved
loop-number-preserved c =
    elim c.match-only_whole.branch [
      | in-Some+in_ok-start_whole w ↦
          let f = flow_view c.args.plan.now.flow in
          let tells = at_start f (given_values c.args.plan.now c.args.inputs.now) in
          let n = c.loop-number.number in
          let vs = piece_values c.args.inputs.now in
          let s = step-of c.args.plan.now c.loop-number.number c.step-item.result (got-in c.as_slice-step-items.result.now c.args.plan.now.steps c.loop-number.number c.step-item.result c.as_slice-step-items.ensures c.loop-number-test.true c.step-item.is) in
          let e = ports-there c.args.plan.now n c.as_slice-step-items.result.now c.as_slice-step-items.ensures c.loop-number-test.true c.as_slice.result.now c.as_slice.ensures c.index-as_slice-number.result c.index-as_slice-number.is in
          let k = constant_of_port (constants_view c.args.tables.now.constants) n in
          let leaf = w.in-Some.leaf in
          let fault = w.in-Some.fault in
          let perm = told-one c.requires.can.0 c.args.plan.now vs c.requires.can.1 n s.0 s.1.0 (bound_telling (strategy_of s.0.1) leaf fault) c.as_slice-ports.result.now k (ap (λ x. constant_of_port x n) c.requires.constants)
          (c.as_slice-ports.ensures ∙ ports-own c.args.plan.now n s.0 c.index-as_slice-number.result s.1.0 e) (w.in-Some.ensures vs k (strategy_of s.0.1) c.requires.faulty) in
          subst₂ (HaveBegun (flow_view c.args.plan.now.flow) (at_start (flow_view c.args.plan.now.flow) (given_values c.args.plan.now c.args.inputs.now)) (c.loop-number.number + 1)) (sym w.intakes-is) (sym w.idle-is)
          (w.in_ok-start_whole.ensures f tells s.0 c.loop-number.invariant s.1.0 s.1.1 perm)
      | in_default+in_ok-told+in_ok-start_step+in_ok-tell w ↦
          let f = flow_view c.args.plan.now.flow in
          let n = c.loop-number.number in
          let vs = piece_values c.args.inputs.now in
          let s = step-of c.args.plan.now n c.step-item.result (got-in c.as_slice-step-items.result.now c.args.plan.now.steps n c.step-item.result c.as_slice-step-items.ensures c.loop-number-test.true c.step-item.is) in
          let tells = at_start f (given_values c.args.plan.now c.args.inputs.now) in
          let h : HaveBegun f (but_at n tells) (n + 1) w.start_step.new.intakes w.start_step.new.idle = w.in_ok-start_step.ensures f tells s.0 c.loop-number.invariant s.1.0 s.1.1 in
          let e = ports-there c.args.plan.now n c.as_slice-step-items.result.now c.as_slice-step-items.ensures c.loop-number-test.true c.as_slice.result.now c.as_slice.ensures c.index-as_slice-number.result c.index-as_slice-number.is in
          subst₂ (HaveBegun (flow_view c.args.plan.now.flow) (at_start (flow_view c.args.plan.now.flow) (given_values c.args.plan.now c.args.inputs.now)) (c.loop-number.number + 1)) (sym w.intakes-is) (sym w.idle-is)
          (w.in_ok-tell.ensures f tells s.0 h s.1.0
          (told-is c.requires.can.0 c.args.plan.now vs c.requires.can.1 n s.0 s.1.0 w.in_ok-told.told c.as_slice-ports.result.now (constant_of_port (constants_view c.args.tables.now.constants) n) (ap (λ k. constant_of_port k n) c.requires.constants)
          (c.as_slice-ports.ensures ∙ ports-own c.args.plan.now n s.0 c.index-as_slice-number.result s.1.0 e) w.in_ok-told.ensures))
    ]

pub returns : goal.returns
returns c =
    subst (λ n. HaveBegun (flow_view c.args.plan.now.flow) (at_start (flow_view c.args.plan.now.flow) (given_values c.args.plan.now c.args.inputs.now)) n c.loop-number.intakes c.loop-number.idle)
    (all-begun c.args.plan.now c.as_slice-step-items.result.now c.as_slice-step-items.ensures c.loop-number.number c.loop-number-test.false c.loop-number.auto.number-end) c.loop-number.invariant
