use Rattle.std.proofs.Common.{◌≡◌, ◌<◌, Some, ap, subst, sym, ◌∙◌, refl, slice_set, ◌-◌}
use Rattle.tv_seats.specs.declared.stage.Stage.TheVariants as stage
use Rattle.tv_seats.specs.Seats.{HasBackRooms, Seated, back_room, step_at, with_back, with_stage}
use Rattle.tv_seats.proofs.CallingBack.{has-room, rooms-left, stays}
use Rattle.tv_seats.proofs.seats.Seats.call_back.Goals as goal

pub put_back-requires-clause-room : goal.put_back-requires-clause-room
put_back-requires-clause-room c =
    let r = c.self.inside in
    let rooms = subst HasBackRooms (sym c.self.view_is) c.requires.rooms in
    subst (λ (v : Seated). 0 < back_room v.back_rooms (step_at v.seats c.args.number)) c.self.view_is
    (has-room r.table r.steps.items r.out c.self.invariant c.args.number c.in-Out.activity c.in-Out.attempt rooms (ap Some (sym c.in-Out.is) ∙ c.stage.ensures))

pub returns-in-Out-clause-rooms : goal.returns-in-Out-clause-rooms
returns-in-Out-clause-rooms c =
    let r = c.self.inside in
    let n = c.args.number in
    let e = c.put_back.ensures in
    let view = c.self.view_is in
    let rooms = subst HasBackRooms (sym view) c.requires.rooms in
    rooms-left r.table r.steps.items r.out c.self.invariant n c.in-Out.activity c.in-Out.attempt rooms (ap Some (sym c.in-Out.is) ∙ c.stage.ensures)
    c.put_back.new.self
    (e.seats ∙ ap (λ (v : Seated). with_stage n (stage.Idle c.in-Out.activity c.in-Out.attempt) v.seats) (sym view))
    (e.levels ∙ ap (λ (v : Seated). v.levels) (sym view))
    (e.back_rooms ∙ ap (λ (v : Seated). slice_set v.back_rooms (step_at v.seats n) (back_room v.back_rooms (step_at v.seats n) - 1)) (sym view))

pub returns-in_default : goal.returns-in_default
returns-in_default c = record {
  seats =
      subst (λ (v : Seated). v.seats ≡ with_back c.args.number v.seats) c.self.view_is
      (stays c.self.inside.table.seats c.args.number c.stage.result c.stage.ensures c.in_default.not-Out);
  levels = refl;
  room = refl;
  rooms = c.requires.rooms;
  aside_rooms = refl;
  nested_rooms = refl;
}
