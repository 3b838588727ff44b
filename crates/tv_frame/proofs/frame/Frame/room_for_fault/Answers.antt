use Rattle.std.proofs.Common.{◌≡◌, ◌+◌, ◌≤◌, length, sym, subst, Some}
use Rattle.tv_outputs.specs.Known.{depths, needed}
use Rattle.tv_model.specs.instance.Events.{fault_set}
use Rattle.tv_frame.specs.Calls.{ArePassed, Brings}
use Rattle.tv_frame.specs.Tables.{first_tree, trees_of}
use Rattle.tv_frame.proofs.Bringing.{ready-brings}
use Rattle.tv_frame.proofs.Keeping.{first-is, firsts-within, keeps-room, step-there, step-within}
use Rattle.tv_frame.proofs.Passing.{keeps-aside, ready-aside}
use Rattle.tv_frame.proofs.Putting.{depths-there}
use Rattle.tv_frame.proofs.frame.Frame.room_for_fault.Goals as goal

pub first_tree-first-requires : goal.first_tree-first-requires
first_tree-first-requires c =
    let r = c.requires.next in
    let f = c.args.self.now in
    let plan = c.args.plan.now in
    firsts-within r.0 plan c.args.pool.now f r.1 c.args.step r.2 r.3 r.4

pub trees_of-trees-requires : goal.trees_of-trees-requires
trees_of-trees-requires c =
    let r = c.requires.next in
    let f = c.args.self.now in
    let plan = c.args.plan.now in
    step-within r.0 plan c.args.pool.now f r.1 c.args.step r.2 r.3 r.4

pub reserve-requires : goal.reserve-requires
reserve-requires c =
    let r = c.requires.next in
    let f = c.args.self.now in
    let plan = c.args.plan.now in
    let first : c.first_tree-first.result ≡ first_tree r.1.flow.steps c.args.step = first-is r.0 plan c.args.pool.now f r.1 c.args.step r.2 r.3 r.4 c.first_tree-first.result c.first_tree-first.ensures in
    let many : c.trees_of-trees.result ≡ trees_of r.2 = c.trees_of-trees.ensures r.2 (step-there r.0 plan c.args.pool.now f r.1 c.args.step r.2 r.3 r.4) in
    subst (λ x. x + c.trees_of-trees.result ≤ length (depths f.outputs)) (sym first)
    (subst (λ m. first_tree r.1.flow.steps c.args.step + m ≤ length (depths f.outputs)) (sym many)
    (depths-there r.0 plan c.args.pool.now f r.1 c.args.step r.2 r.3 r.4))

pub work_fault-requires : goal.work_fault-requires
work_fault-requires c =
    let r = c.requires.next in
    let f = c.args.self.now in
    let plan = c.args.plan.now in
    let p = c.in_ok-pieces.ensures r.0 r.1 r.2 r.3 r.4 r.5 in
    record {
      next = (
        r.0,
        r.1,
        r.2,
        p.0,
        keeps-room r.0 plan c.args.pool.now c.reserve.new.pool f r.1 c.reserve.ensures.regions c.reserve.ensures.known c.reserve.ensures.stand r.3,
        r.4,
        p.1,
        subst (ArePassed r.1 r.2 c.args.place.now p.0) (sym c.as_slice.ensures) p.2,
      );
    }

pub returns-in_err-jobs-clause-same : goal.returns-in_err-jobs-clause-same
returns-in_err-jobs-clause-same c = λ flows v k.
    c.work_fault.ensures.same flows v
    (keeps-room flows c.args.plan.now c.args.pool.now c.reserve.new.pool c.args.self.now v c.reserve.ensures.regions c.reserve.ensures.known c.reserve.ensures.stand k)

pub returns-clause-same : goal.returns-clause-same
returns-clause-same c = λ flows v k.
    keeps-aside flows c.args.plan.now c.reserve.new.pool c.work_fault.new.self v (Some c.in_ok-pieces.pieces)
    (c.work_fault.ensures.same flows v
    (keeps-room flows c.args.plan.now c.args.pool.now c.reserve.new.pool c.args.self.now v c.reserve.ensures.regions c.reserve.ensures.known c.reserve.ensures.stand k))

pub returns-clause-ready : goal.returns-clause-ready
returns-clause-ready c = λ flows v s k at waits.
    let f = c.args.self.now in
    let plan = c.args.plan.now in
    let pool = c.reserve.new.pool in
    let q = c.args.place.now in
    let ps = c.in_ok-pieces.pieces in
    let p = c.in_ok-pieces.ensures flows v s k at waits in
    let e = fault_set s.0 q p.0 in
    let kept = keeps-room flows plan c.args.pool.now pool f v c.reserve.ensures.regions c.reserve.ensures.known c.reserve.ensures.stand k in
    let x = c.first_tree-first.result in
    let first : x ≡ first_tree v.flow.steps c.args.step = first-is flows plan c.args.pool.now f v c.args.step s k at x c.first_tree-first.ensures in
    let many : c.trees_of-trees.result ≡ trees_of s = c.trees_of-trees.ensures s (step-there flows plan c.args.pool.now f v c.args.step s k at) in
    let passed = subst (ArePassed v s q p.0) (sym c.as_slice.ensures) p.2 in
    let room = subst (λ y. needed (depths f.outputs) y (trees_of s) ≤ pool.spare) first (subst (λ m. needed (depths f.outputs) x m ≤ pool.spare) many c.in_ok-reserve.ensures.ok) in
    let ready = c.in_ok-jobs.ensures.ready flows v s p.0 kept at p.1 passed room in (
      p.0,
      p.1,
      ready-aside flows plan pool c.work_fault.new.self v c.args.step s e (Some ps) ready,
      p.2,
      subst (Brings v e) (sym c.in_ok-jobs.ensures.count) (ready-brings flows plan pool c.work_fault.new.self v c.args.step s e ready),
    )
