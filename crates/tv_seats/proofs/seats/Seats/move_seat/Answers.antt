use Rattle.std.proofs.Common.{◌≡◌, ◌+◌, ◌-◌, true, arith, ap, sym, subst, ◌∙◌, length}
use Rattle.std.specs.List.{list_all}
use Rattle.std.specs.Prelude.{◌||◌, nat_lt}
use Rattle.std.proofs.lemmas.Option.{slice_get_within}
use Rattle.tv_seats.specs.Moves.{HasRoomAt, MayGoTo, one, rooms_after}
use Rattle.tv_seats.specs.Nested.{StandsBehind}
use Rattle.tv_seats.specs.Seats.{Seated, step_at}
use Rattle.tv_seats.specs.Stages.{is_aside, is_idle, is_nested}
use Rattle.tv_seats.proofs.Keeping.{inside, step-there}
use Rattle.tv_seats.proofs.Moving.{Goes, aside_rooms-after, back_rooms-after, byte-one, capacity, counted, enters-inside, enters-levels, enters-out, enters-room, enters-running, goes-kept, leaves-inside, leaves-out, leaves-running, levels-after, nested_rooms-after, within}
use Rattle.tv_seats.proofs.seats.Seats.move_seat.Goals as goal
use Rattle.tv_seats.proofs.seats.Seats.move_seat.Goals.{After-index_mut-seats, After-position_among-position, After-stage-before}

-- ---- its step is read

may : (c : After-stage-before) → MayGoTo c.args.stage c.self.inside.table.seats c.args.number
may c = subst (λ (v : Seated). MayGoTo c.args.stage v.seats c.args.number) (sym c.self.view_is) c.requires.may

pub index_mut-seats-requires : goal.index_mut-seats-requires
index_mut-seats-requires c =
    let r = c.self.inside in
    let n = c.args.number in
    let m = may (goal.at.index_mut-seats-requires c).After-stage-before in
    let k = c.step-step.ensures ∙ step-there r.table.seats n m.seat m.there in
    let i = inside r.table r.steps.items r.out c.self.invariant n m.seat m.there in
    omega (arith, k, i, r.steps.ok.0)

goes : (c : After-index_mut-seats)
    → Goes c.self.inside.table c.self.inside.steps.items c.self.inside.out c.args.number c.args.stage c.stage-before.result
    c.step-step.result c.index_mut-seats.result.now
goes c = record {
  kept = c.self.invariant;
  may = subst (λ (v : Seated). MayGoTo c.args.stage v.seats c.args.number) (sym c.self.view_is) c.requires.may;
  number = c.step-step.ensures;
  stage = c.stage-before.ensures;
  read = c.index_mut-seats.ensures.value;
}

pub position_among-position-requires-clause-at : goal.position_among-position-requires-clause-at
position_among-position-requires-clause-at c =
    let m = may (goal.at.position_among-position-requires-clause-at c).After-stage-before in
    slice_get_within c.self.inside.table.seats c.args.number m.seat m.there

pub position_among-position-requires-clause-within : goal.position_among-position-requires-clause-within
position_among-position-requires-clause-within c =
    let r = c.self.inside in
    ap (list_all (λ n. nat_lt n (length r.table.seats))) c.as_slice.ensures.value
    ∙ within (goes (goal.at.position_among-position-requires-clause-within c).After-index_mut-seats)

-- ---- it leaves

position : (c : After-position_among-position) → (is_nested c.stage-before.result || is_nested c.args.stage) ≡ true
    → StandsBehind c.self.inside.table.seats c.index_mut-seats.result.now.nested.items c.args.number c.position_among-position.result
position c e =
    subst (λ ns. StandsBehind c.self.inside.table.seats ns c.args.number c.position_among-position.result) c.as_slice.ensures.value
    (c.position_among-position.ensures e)

pub leave-requires-clause-position : goal.leave-requires-clause-position
leave-requires-clause-position c =
    let h = goal.at.leave-requires-clause-position c in
    leaves-inside (goes h.After-index_mut-seats) c.position_among-position.result (position h.After-position_among-position)

pub leave-requires-clause-capacity : goal.leave-requires-clause-capacity
leave-requires-clause-capacity c = capacity (goes (goal.at.leave-requires-clause-capacity c).After-index_mut-seats)

pub leave-requires-clause-running : goal.leave-requires-clause-running
leave-requires-clause-running c = leaves-running (goes (goal.at.leave-requires-clause-running c).After-index_mut-seats)

pub leave-requires-clause-out : goal.leave-requires-clause-out
leave-requires-clause-out c = leaves-out (goes (goal.at.leave-requires-clause-out c).After-index_mut-seats)

-- ---- it enters

pub enter-requires-clause-room : goal.enter-requires-clause-room
enter-requires-clause-room c =
    let h = goal.at.enter-requires-clause-room c in
    enters-room (goes h.After-index_mut-seats) c.position_among-position.result (position h.After-position_among-position) c.leave.ensures
    (subst (λ (v : Seated). HasRoomAt c.args.stage v (step_at v.seats c.args.number)) (sym c.self.view_is) c.requires.room)

pub enter-requires-clause-levels : goal.enter-requires-clause-levels
enter-requires-clause-levels c =
    let h = goal.at.enter-requires-clause-levels c in
    enters-levels (goes h.After-index_mut-seats) c.position_among-position.result (position h.After-position_among-position) c.leave.ensures c.place.result.now c.place.ensures

pub enter-requires-clause-position : goal.enter-requires-clause-position
enter-requires-clause-position c =
    let h = goal.at.enter-requires-clause-position c in
    enters-inside (goes h.After-index_mut-seats) c.position_among-position.result (position h.After-position_among-position) c.leave.ensures

pub enter-requires-clause-running : goal.enter-requires-clause-running
enter-requires-clause-running c =
    let h = goal.at.enter-requires-clause-running c in
    enters-running (goes h.After-index_mut-seats) c.position_among-position.result (position h.After-position_among-position) c.leave.ensures

pub enter-requires-clause-out : goal.enter-requires-clause-out
enter-requires-clause-out c =
    let h = goal.at.enter-requires-clause-out c in
    enters-out (goes h.After-index_mut-seats) c.position_among-position.result (position h.After-position_among-position) c.leave.ensures

pub overflow_cast-number : goal.overflow_cast-number
overflow_cast-number c =
    let r = c.self.inside in
    let m = may (goal.at.overflow_cast-number c).After-stage-before in
    let low = slice_get_within r.table.seats c.args.number m.seat m.there in
    let few = c.self.invariant.numbers in
    omega (arith, low, few)

pub place-requires : goal.place-requires
place-requires c =
    let m = may (goal.at.place-requires c).After-stage-before in
    slice_get_within c.self.inside.table.seats c.args.number m.seat m.there

-- ---- afterwards

pub set_stage-requires : goal.set_stage-requires
set_stage-requires c =
    let m = may (goal.at.set_stage-requires c).After-stage-before in
    slice_get_within c.self.inside.table.seats c.args.number m.seat m.there

pub overflow_sub-self : goal.overflow_sub-self
overflow_sub-self c =
    let a = counted (goes (goal.at.overflow_sub-self c).After-index_mut-seats) in
    let b = c.from.ensures ∙ byte-one c.is_out.result ∙ ap one c.is_out.ensures in
    omega (arith, a, b)

pub invariant_of-self : goal.invariant_of-self
invariant_of-self c =
    let r = c.self.inside in
    let h = goal.at.invariant_of-self c in
    let a = counted (goes h.After-index_mut-seats) in
    let gone = c.from.ensures ∙ byte-one c.is_out.result ∙ ap one c.is_out.ensures in
    let come = c.from-2.ensures ∙ byte-one c.is_out-2.result ∙ ap one c.is_out-2.ensures in
    goes-kept (goes h.After-index_mut-seats) c.position_among-position.result (position h.After-position_among-position) c.leave.ensures c.place.ensures c.enter.ensures
    c.set_stage.new.self (r.out - c.from.result + c.from-2.result) c.set_stage.ensures.seats c.set_stage.ensures.widest c.set_stage.ensures.room
    (omega (arith, a, gone, come))

pub returns-clause-levels : goal.returns-clause-levels
returns-clause-levels c =
    let h = goal.at.returns-clause-levels c in
    levels-after (goes h.After-index_mut-seats) c.position_among-position.result (position h.After-position_among-position) c.leave.ensures c.place.ensures c.enter.ensures
    ∙ ap (λ (v : Seated). v.levels) c.self.view_is

pub returns-clause-back_rooms : goal.returns-clause-back_rooms
returns-clause-back_rooms c =
    let h = goal.at.returns-clause-back_rooms c in
    back_rooms-after (goes h.After-index_mut-seats) c.position_among-position.result (position h.After-position_among-position) c.leave.ensures c.place.ensures c.enter.ensures
    ∙ ap (λ (v : Seated). rooms_after (is_idle c.args.stage) (step_at v.seats c.args.number) v.back_rooms) c.self.view_is

pub returns-clause-aside_rooms : goal.returns-clause-aside_rooms
returns-clause-aside_rooms c =
    let h = goal.at.returns-clause-aside_rooms c in
    aside_rooms-after (goes h.After-index_mut-seats) c.position_among-position.result (position h.After-position_among-position) c.leave.ensures c.place.ensures c.enter.ensures
    ∙ ap (λ (v : Seated). rooms_after (is_aside c.args.stage) (step_at v.seats c.args.number) v.aside_rooms) c.self.view_is

pub returns-clause-nested_rooms : goal.returns-clause-nested_rooms
returns-clause-nested_rooms c =
    let h = goal.at.returns-clause-nested_rooms c in
    nested_rooms-after (goes h.After-index_mut-seats) c.position_among-position.result (position h.After-position_among-position) c.leave.ensures c.place.ensures c.enter.ensures
    ∙ ap (λ (v : Seated). rooms_after (is_nested c.args.stage) (step_at v.seats c.args.number) v.nested_rooms) c.self.view_is
