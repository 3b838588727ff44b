use Rattle.std.proofs.Common.{◌<◌, ap, arith, subst, sym, ◌∙◌, length, slice_set}
use Rattle.std.proofs.lemmas.List.{get_or-set_same}
use Rattle.std.proofs.lemmas.Result.{on_err_weaker, on_ok_weaker}
use Rattle.tv_idle.specs.Listed.{Listed}
use Rattle.tv_seats.specs.Kept.{all_nested_rooms}
use Rattle.tv_seats.specs.Seats.{Seated, room_at}
use Rattle.tv_seats.proofs.Keeping.{many-all, reserved-kept, roomy-step, set-all, set-kept}
use Rattle.tv_seats.proofs.Looking.{kept-of, step-of}
use Rattle.tv_seats.proofs.seats.Seats.reserve_nested.Goals as goal

pub invariant_of-self : goal.invariant_of-self
invariant_of-self c =
    let r = c.self.inside in
    let k = c.args.step in
    let inside = subst (λ (v : Seated). k < length v.levels) (sym c.self.view_is) c.requires in
    let y = c.index_mut.result.now in
    let step = step-of r.table r.steps.items r.out c.self.invariant k y inside c.index_mut.ensures.value in
    let z = c.reserve_nested.new.self in
    let e = c.reserve_nested.ensures in
    reserved-kept r.table r.steps.items r.out k y z step (ap (λ (l : Listed). l.levels) e.idle)
    (roomy-step r.table.seats k y z (ap (λ (l : Listed). l.jobs) e.idle) (ap (λ (l : Listed). l.levels) e.idle)
    (ap (λ (l : Listed). l.jobs) e.aside) (ap (λ (l : Listed). l.levels) e.aside)
    e.nested
    (λ h. e.room)
    e.running e.out)
    c.self.invariant

pub returns-clause-ok : goal.returns-clause-ok
returns-clause-ok c =
    let r = c.self.inside in
    let k = c.args.step in
    on_ok_weaker c.reserve_nested.result
    (λ room.
    set-all (λ x. x.nested_room) r.steps.items k c.reserve_nested.new.self
    ∙ ap (slice_set (all_nested_rooms r.steps.items) k) room
    ∙ ap (λ (v : Seated). slice_set v.nested_rooms k 1) c.self.view_is)
    c.reserve_nested.ensures.ok

pub returns-clause-taken : goal.returns-clause-taken
returns-clause-taken c =
    let r = c.self.inside in
    let k = c.args.step in
    let z = c.reserve_nested.new.self in
    let many = many-all (λ x. x.nested_room) r.steps.items in
    let levels = many-all (λ x. x.idle.levels) r.steps.items in
    let inside = subst (λ (v : Seated). k < length v.levels) (sym c.self.view_is) c.requires in
    on_ok_weaker c.reserve_nested.result
    (λ room.
    ap (λ rs. room_at rs k) (set-all (λ x. x.nested_room) r.steps.items k z)
    ∙ get_or-set_same (all_nested_rooms r.steps.items) k z.nested_room 0 (omega (arith, many, levels, inside))
    ∙ room)
    c.reserve_nested.ensures.ok

pub returns-clause-refused : goal.returns-clause-refused
returns-clause-refused c =
    let r = c.self.inside in
    let k = c.args.step in
    let inside = subst (λ (v : Seated). k < length v.levels) (sym c.self.view_is) c.requires in
    let y = c.index_mut.result.now in
    let step = step-of r.table r.steps.items r.out c.self.invariant k y inside c.index_mut.ensures.value in
    on_err_weaker c.reserve_nested.result
    (λ room. set-kept (λ x. x.nested_room) r.steps.items k y c.reserve_nested.new.self step room ∙ ap (λ (v : Seated). v.nested_rooms) c.self.view_is)
    c.reserve_nested.ensures.refused

pub returns-clause-levels : goal.returns-clause-levels
returns-clause-levels c =
    let r = c.self.inside in
    let k = c.args.step in
    let inside = subst (λ (v : Seated). k < length v.levels) (sym c.self.view_is) c.requires in
    let y = c.index_mut.result.now in
    let step = step-of r.table r.steps.items r.out c.self.invariant k y inside c.index_mut.ensures.value in
    set-kept (λ x. x.idle.levels) r.steps.items k y c.reserve_nested.new.self step (ap (λ (l : Listed). l.levels) c.reserve_nested.ensures.idle) ∙ ap (λ (v : Seated). v.levels) c.self.view_is

pub returns-clause-back_rooms : goal.returns-clause-back_rooms
returns-clause-back_rooms c =
    let r = c.self.inside in
    let k = c.args.step in
    let inside = subst (λ (v : Seated). k < length v.levels) (sym c.self.view_is) c.requires in
    let y = c.index_mut.result.now in
    let step = step-of r.table r.steps.items r.out c.self.invariant k y inside c.index_mut.ensures.value in
    set-kept (λ x. x.idle.room) r.steps.items k y c.reserve_nested.new.self step (ap (λ (l : Listed). l.room) c.reserve_nested.ensures.idle) ∙ ap (λ (v : Seated). v.back_rooms) c.self.view_is

pub returns-clause-aside_rooms : goal.returns-clause-aside_rooms
returns-clause-aside_rooms c =
    let r = c.self.inside in
    let k = c.args.step in
    let inside = subst (λ (v : Seated). k < length v.levels) (sym c.self.view_is) c.requires in
    let y = c.index_mut.result.now in
    let step = step-of r.table r.steps.items r.out c.self.invariant k y inside c.index_mut.ensures.value in
    set-kept (λ x. x.aside.room) r.steps.items k y c.reserve_nested.new.self step (ap (λ (l : Listed). l.room) c.reserve_nested.ensures.aside) ∙ ap (λ (v : Seated). v.aside_rooms) c.self.view_is

pub reserve_nested-requires : goal.reserve_nested-requires
reserve_nested-requires c =
    let r = c.self.inside in
    let k = c.args.step in
    let inside = subst (λ (v : Seated). k < length v.levels) (sym c.self.view_is) c.requires in
    record { room = (kept-of r.table r.steps.items r.out c.self.invariant k c.index_mut.result.now inside c.index_mut.ensures.value).room }
