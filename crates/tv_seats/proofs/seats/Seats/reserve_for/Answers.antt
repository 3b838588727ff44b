use Rattle.std.proofs.Common.{◌+◌, ◌<◌, ◌≤◌, ap, arith, subst, sym, ◌∙◌, length, slice_set}
use Rattle.std.specs.Prelude.{Vec, vec_capacity, ℕ}
use Rattle.std.specs.Global.{Global}
use Rattle.tv_idle.specs.Listed.{Listed}
use Rattle.std.proofs.lemmas.List.{get_or-set_same}
use Rattle.std.proofs.lemmas.Result.{on_err_weaker, on_ok_weaker}
use Rattle.tv_seats.specs.Kept.{all_rooms}
use Rattle.tv_seats.specs.Seats.{Seated, back_room}
use Rattle.tv_seats.proofs.CallingBack.{many-rooms}
use Rattle.tv_seats.proofs.Keeping.{reserved-kept, roomy-step, same-rooms, set-kept, set-levels, set-rooms}
use Rattle.tv_seats.proofs.Looking.{step-of}
use Rattle.tv_seats.proofs.seats.Seats.reserve_for.Goals as goal

pub invariant_of-self : goal.invariant_of-self
invariant_of-self c =
    let r = c.self.inside in
    let k = c.args.step in
    let inside = subst (λ (v : Seated). k < length v.levels) (sym c.self.view_is) c.requires in
    let e = c.reserve.ensures in
    let y = c.index_mut.result.now in
    reserved-kept r.table r.steps.items r.out k y c.reserve.new.self (step-of r.table r.steps.items r.out c.self.invariant k y inside c.index_mut.ensures.value)
    e.levels
    (roomy-step r.table.seats k y c.reserve.new.self e.jobs e.levels (ap (λ (l : Listed). l.jobs) e.aside) (ap (λ (l : Listed). l.levels) e.aside)
    (ap (λ (v : Vec ℕ Global). v.items) e.nested)
    (λ h. subst (λ (v : Vec ℕ Global). length v.items + c.reserve.new.self.nested_room ≤ vec_capacity v) (sym e.nested)
    (subst (λ m. length y.nested.items + m ≤ vec_capacity y.nested) (sym e.nested_room) h))
    e.running e.out)
    c.self.invariant

pub returns-clause-ok : goal.returns-clause-ok
returns-clause-ok c =
    let r = c.self.inside in
    let k = c.args.step in
    on_ok_weaker c.reserve.result
    (λ room.
    set-rooms r.steps.items k c.reserve.new.self
    ∙ ap (slice_set (all_rooms r.steps.items) k) room
    ∙ ap (λ (v : Seated). slice_set v.back_rooms k c.args.count) c.self.view_is)
    c.reserve.ensures.ok

pub returns-clause-taken : goal.returns-clause-taken
returns-clause-taken c =
    let r = c.self.inside in
    let k = c.args.step in
    let z = c.reserve.new.self in
    let many = many-rooms r.steps.items in
    let inside = subst (λ (v : Seated). k < length v.levels) (sym c.self.view_is) c.requires in
    on_ok_weaker c.reserve.result
    (λ room.
    ap (λ rs. back_room rs k) (set-rooms r.steps.items k z)
    ∙ get_or-set_same (all_rooms r.steps.items) k z.idle.room 0 (omega (arith, many, inside))
    ∙ room)
    c.reserve.ensures.ok

pub returns-clause-refused : goal.returns-clause-refused
returns-clause-refused c =
    let r = c.self.inside in
    let k = c.args.step in
    let inside = subst (λ (v : Seated). k < length v.levels) (sym c.self.view_is) c.requires in
    let y = c.index_mut.result.now in
    let step = step-of r.table r.steps.items r.out c.self.invariant k y inside c.index_mut.ensures.value in
    on_err_weaker c.reserve.result
    (λ room. same-rooms r.steps.items k y c.reserve.new.self step room ∙ ap (λ (v : Seated). v.back_rooms) c.self.view_is)
    c.reserve.ensures.refused

pub returns-clause-levels : goal.returns-clause-levels
returns-clause-levels c =
    let r = c.self.inside in
    let k = c.args.step in
    let inside = subst (λ (v : Seated). k < length v.levels) (sym c.self.view_is) c.requires in
    let y = c.index_mut.result.now in
    let step = step-of r.table r.steps.items r.out c.self.invariant k y inside c.index_mut.ensures.value in
    set-levels r.steps.items k y c.reserve.new.self step c.reserve.ensures.levels ∙ ap (λ (v : Seated). v.levels) c.self.view_is

pub returns-clause-aside_rooms : goal.returns-clause-aside_rooms
returns-clause-aside_rooms c =
    let r = c.self.inside in
    let k = c.args.step in
    let inside = subst (λ (v : Seated). k < length v.levels) (sym c.self.view_is) c.requires in
    let y = c.index_mut.result.now in
    let step = step-of r.table r.steps.items r.out c.self.invariant k y inside c.index_mut.ensures.value in
    set-kept (λ x. x.aside.room) r.steps.items k y c.reserve.new.self step (ap (λ (l : Listed). l.room) c.reserve.ensures.aside) ∙ ap (λ (v : Seated). v.aside_rooms) c.self.view_is

pub returns-clause-nested_rooms : goal.returns-clause-nested_rooms
returns-clause-nested_rooms c =
    let r = c.self.inside in
    let k = c.args.step in
    let inside = subst (λ (v : Seated). k < length v.levels) (sym c.self.view_is) c.requires in
    let y = c.index_mut.result.now in
    let step = step-of r.table r.steps.items r.out c.self.invariant k y inside c.index_mut.ensures.value in
    set-kept (λ x. x.nested_room) r.steps.items k y c.reserve.new.self step c.reserve.ensures.nested_room ∙ ap (λ (v : Seated). v.nested_rooms) c.self.view_is
