use Rattle.std.specs.Prelude.{[], vec_capacity, ◌++◌, ◌∷◌, ◌≡◌}
use Rattle.std.proofs.Common.{ap, arith, length, refl, subst, sym, ◌∙◌}
use Rattle.std.proofs.lemmas.Option.{slice_get_within}
use Rattle.tv_lemmas.proofs.Options.{on-err}
use Rattle.tv_lemmas.proofs.Lists.{in-front}
use Rattle.tv_check.specs.RunViews.{run_view}
use Rattle.tv_cell.specs.PieceValues.{piece_values}
use Rattle.tv_history.specs.declared.entry.Entry.TheVariants as entry
use Rattle.tv_seats.specs.declared.stage.Stage.TheVariants as stage
use Rattle.tv_run.specs.Changes.{TakesIn}
use Rattle.tv_run.specs.Looks.{OpensNumber}
use Rattle.tv_run.specs.Rooms.{IsNoted}
use Rattle.tv_run.specs.Settlements.{opened_flow}
use Rattle.tv_run.proofs.Itself.{number-low, open-low}
use Rattle.tv_run.proofs.FlowsOpened.{opens-settles}
use Rattle.tv_run.proofs.NestRooms.{nest-room, roomy, step-leveled, with_room}
use Rattle.tv_run.proofs.Opening as opens
use Rattle.tv_run.proofs.Rooms.{before-then, stays-before}
use Rattle.tv_run.proofs.run.OpenRun.open_flow.Goals as goal

pub known-instance-requires : goal.known-instance-requires
known-instance-requires c = opens.known-low c.requires.0 c.args.self.now c.args.job c.requires.1

pub step_number-step-requires : goal.step_number-step-requires
step_number-step-requires c =
    let q = c.requires.1 in
    (q.goes.instances, q.goes.stands.fits, opens.known-low c.requires.0 c.args.self.now c.args.job q)

pub flow_opened-requires : goal.flow_opened-requires
flow_opened-requires c =
    let g = c.requires.0 in
    let q = c.requires.1 in
    let r = c.args.self.now in
    let k = c.args.job in
    let here = opens.here-so g r k q c.known-instance.result c.known-instance.ensures in
    let there = opens.step-there g r k q c.step_number-step.result c.step_number-step.ensures in (
      q.goes.instances,
      q.goes.may.instance,
      here.fits,
      here.there,
      slice_get_within q.goes.may.instance.flow.steps c.step_number-step.result (opens.step g r k q) there,
    )

pub unreachable-requires : goal.unreachable-requires
unreachable-requires c =
    let g = c.requires.0 in
    let q = c.requires.1 in
    let r = c.args.self.now in
    let k = c.args.job in
    let here = opens.here-so g r k q c.known-instance.result c.known-instance.ensures in
    let there = opens.step-there g r k q c.step_number-step.result c.step_number-step.ensures in
    opens.flow-there g r k q
    (subst (λ o. OpensNumber (run_view r.run) (opened_flow (opens.step g r k q).1) o) c.in_default.is
    (c.flow_opened.ensures q.goes.instances q.goes.may.instance (opens.step g r k q) here.fits here.there there))

pub inputs_of-requires : goal.inputs_of-requires
inputs_of-requires c =
    let q = c.requires.1 in (
      q.goes.instances,
      q.goes.stands.fits,
      opens.of-open c.requires.0 c.args.self.now c.args.job q c.known-instance.result c.known-instance.ensures,
    )

pub returns-in_err-inputs-clause-refused : goal.returns-in_err-inputs-clause-refused
returns-in_err-inputs-clause-refused c =
    on-err c.from_residual.result (λ gives so. record { stands = so; same = refl; regions = λ n. refl })

pub index_mut-requires : goal.index_mut-requires
index_mut-requires c =
    let q = c.requires.1 in
    let r = c.args.self.now in
    let m = c.known-instance.result in
    let low =
    number-low r m.instance q.goes.instances q.goes.may.instance q.goes.may.view
    (opens.here-so c.requires.0 r c.args.job q m c.known-instance.ensures) in
    omega (arith, low, r.instances.ok.0)

pub index_mut-requires-2 : goal.index_mut-requires-2
index_mut-requires-2 c =
    let q = c.requires.1 in
    let r = c.args.self.now in
    let m = c.known-instance.result in
    let g = c.index_mut.result.now in
    let low =
    open-low r m.instance q.goes.instances q.goes.may.instance q.goes.may.view
    (opens.here-so c.requires.0 r c.args.job q m c.known-instance.ensures) g c.index_mut.ensures.value in
    omega (arith, low, g.open.ok.0)

pub reserve_nested-requires : goal.reserve_nested-requires
reserve_nested-requires c =
    let g = c.requires.0 in
    let q = c.requires.1 in
    let r = c.args.self.now in
    let k = c.args.job in
    let m = c.known-instance.result in
    step-leveled r m.instance q.goes.instances q.goes.may.instance q.goes.may.view
    (opens.here-so g r k q m c.known-instance.ensures) c.index_mut.result.now c.index_mut.ensures.value
    c.index_mut-2.result.now c.index_mut-2.ensures.value c.step_number-step.result (opens.step g r k q)
    (opens.step-there g r k q c.step_number-step.result c.step_number-step.ensures)

pub returns-in_err-reserve_nested-clause-refused : goal.returns-in_err-reserve_nested-clause-refused
returns-in_err-reserve_nested-clause-refused c =
    let g = c.requires.0 in
    let q = c.requires.1 in
    let r = c.args.self.now in
    let m = c.known-instance.result in
    let b =
    roomy r m.instance q.goes.instances q.goes.may.instance q.goes.may.view
    (opens.here-so g r c.args.job q m c.known-instance.ensures) c.index_mut.result.now c.index_mut.ensures.value
    c.index_mut-2.result.now c.index_mut-2.ensures.value c.reserve_nested.new.self c.reserve_nested.ensures.same in
    on-err c.from_residual-in_err-reserve_nested.result (λ gives so. stays-before gives r _ b so)

pub add_instance-requires-clause-fits : goal.add_instance-requires-clause-fits
add_instance-requires-clause-fits c =
    let g = c.requires.0 in
    let q = c.requires.1 in
    let r = c.args.self.now in
    let k = c.args.job in
    let m = c.known-instance.result in
    let at = c.known-instance.ensures in
    let here = opens.here-so g r k q m at in
    let there = opens.step-there g r k q c.step_number-step.result c.step_number-step.ensures in
    let b =
    roomy r m.instance q.goes.instances q.goes.may.instance q.goes.may.view here c.index_mut.result.now
    c.index_mut.ensures.value c.index_mut-2.result.now c.index_mut-2.ensures.value c.reserve_nested.new.self
    c.reserve_nested.ensures.same in
    let bound =
    c.in_ok-inputs.ensures.values q.goes.instances m q.goes.may.instance q.goes.may.view q.goes.may.seat here.fits at
    here.there here.is_open (opens.known-so g r k q m at).seat in
    let number =
    c.in-Some.ensures q.goes.instances q.goes.may.instance (opens.step g r k q) here.fits here.there there in (
      q.goes.instances,
      opens.flow g r k q,
      q.goes.job.name,
      opens.can-add g r k q (piece_values c.in_ok-inputs.inputs) bound _ b refl c.in-Some.flow number,
    )

pub add_instance-requires-clause-sound : goal.add_instance-requires-clause-sound
add_instance-requires-clause-sound c = c.in_ok-inputs.ensures.sound

pub returns-in_err-add_instance-clause-refused : goal.returns-in_err-add_instance-clause-refused
returns-in_err-add_instance-clause-refused c =
    let g = c.requires.0 in
    let q = c.requires.1 in
    let r = c.args.self.now in
    let m = c.known-instance.result in
    let t = with_room r m.instance c.index_mut.result.now c.reserve_nested.new.self in
    let b =
    roomy r m.instance q.goes.instances q.goes.may.instance q.goes.may.view
    (opens.here-so g r c.args.job q m c.known-instance.ensures) c.index_mut.result.now c.index_mut.ensures.value
    c.index_mut-2.result.now c.index_mut-2.ensures.value c.reserve_nested.new.self c.reserve_nested.ensures.same in
    on-err c.from_residual-in_err-add_instance.result
    (λ gives so.
    stays-before gives r c.add_instance.new.self
    (before-then r t c.add_instance.new.self b c.in_err-add_instance.ensures.refused) so)

pub nest-requires : goal.nest-requires
nest-requires c =
    let g = c.requires.0 in
    let q = c.requires.1 in
    let r = c.args.self.now in
    let k = c.args.job in
    let m = c.known-instance.result in
    let at = c.known-instance.ensures in
    let xs = q.goes.instances in
    let x = q.goes.may.instance in
    let v = q.goes.may.view in
    let s = q.goes.may.seat in
    let here = opens.here-so g r k q m at in
    let there = opens.step-there g r k q c.step_number-step.result c.step_number-step.ensures in
    let b =
    roomy r m.instance xs x v here c.index_mut.result.now c.index_mut.ensures.value c.index_mut-2.result.now
    c.index_mut-2.ensures.value c.reserve_nested.new.self c.reserve_nested.ensures.same in
    let bound =
    c.in_ok-inputs.ensures.values xs m x v s here.fits at here.there here.is_open (opens.known-so g r k q m at).seat in
    let number = c.in-Some.ensures xs x (opens.step g r k q) here.fits here.there there in
    let can = opens.can-add g r k q (piece_values c.in_ok-inputs.inputs) bound _ b refl c.in-Some.flow number in
    let added = c.in_ok-add_instance.ensures.added xs (opens.flow g r k q) q.goes.job.name can in
    let taken = c.in_ok-reserve_nested.ensures.taken in (
      xs ++ added.0 ∷ [],
      x,
      v,
      record { fits = added.2.fits; there = in-front xs (added.0 ∷ []) m.instance x here.there; is_open = here.is_open },
      opens.nest-so g r k q m at,
      opens.ready-so g r k q m at,
      nest-room r m.instance xs x v here c.index_mut.result.now c.index_mut.ensures.value c.index_mut-2.result.now
          c.index_mut-2.ensures.value c.reserve_nested.new.self c.reserve_nested.ensures.same m.number s
          (opens.known-so g r k q m at).seat c.step_number-step.result
          (sym (opens.step-so g r k q c.step_number-step.result c.step_number-step.ensures)) (omega (arith, taken))
          c.add_instance.new.self (xs ++ added.0 ∷ []) added.2,
    )

pub note-requires : goal.note-requires
note-requires c =
    let g = c.requires.0 in
    let q = c.requires.1 in
    let r = c.args.self.now in
    let k = c.args.job in
    let m = c.known-instance.result in
    let at = c.known-instance.ensures in
    let xs = q.goes.instances in
    let x = q.goes.may.instance in
    let v = q.goes.may.view in
    let s = q.goes.may.seat in
    let here = opens.here-so g r k q m at in
    let there = opens.step-there g r k q c.step_number-step.result c.step_number-step.ensures in
    let b =
    roomy r m.instance xs x v here c.index_mut.result.now c.index_mut.ensures.value c.index_mut-2.result.now
    c.index_mut-2.ensures.value c.reserve_nested.new.self c.reserve_nested.ensures.same in
    let bound =
    c.in_ok-inputs.ensures.values xs m x v s here.fits at here.there here.is_open (opens.known-so g r k q m at).seat in
    let number = c.in-Some.ensures xs x (opens.step g r k q) here.fits here.there there in
    let can = opens.can-add g r k q (piece_values c.in_ok-inputs.inputs) bound _ b refl c.in-Some.flow number in
    let added = c.in_ok-add_instance.ensures.added xs (opens.flow g r k q) q.goes.job.name can in
    let nested =
    c.nest.ensures.taken (xs ++ added.0 ∷ []) x v
    (record { fits = added.2.fits; there = in-front xs (added.0 ∷ []) m.instance x here.there; is_open = here.is_open })
    (opens.nest-so g r k q m at) (opens.ready-so g r k q m at) in
    let many = ap (λ l. length l.items) nested.changes.rest.entries in
    let wide = ap vec_capacity nested.changes.rest.entries in
    let room = c.in_ok-add_instance.ensures.room in
    omega (arith, many, wide, room)

pub returns-clause-settled : goal.returns-clause-settled
returns-clause-settled c = λ g q.
    let r = c.args.self.now in
    let k = c.args.job in
    let m = c.known-instance.result in
    let at = c.known-instance.ensures in
    let xs = q.goes.instances in
    let x = q.goes.may.instance in
    let v = q.goes.may.view in
    let s = q.goes.may.seat in
    let here = opens.here-so g r k q m at in
    let there = opens.step-there g r k q c.step_number-step.result c.step_number-step.ensures in
    let t = with_room r m.instance c.index_mut.result.now c.reserve_nested.new.self in
    let b =
    roomy r m.instance xs x v here c.index_mut.result.now c.index_mut.ensures.value c.index_mut-2.result.now
    c.index_mut-2.ensures.value c.reserve_nested.new.self c.reserve_nested.ensures.same in
    let bound =
    c.in_ok-inputs.ensures.values xs m x v s here.fits at here.there here.is_open (opens.known-so g r k q m at).seat in
    let number = c.in-Some.ensures xs x (opens.step g r k q) here.fits here.there there in
    let can = opens.can-add g r k q (piece_values c.in_ok-inputs.inputs) bound _ b refl c.in-Some.flow number in
    let added = c.in_ok-add_instance.ensures.added xs (opens.flow g r k q) q.goes.job.name can in
    let nested =
    c.nest.ensures.taken (xs ++ added.0 ∷ []) x v
    (record { fits = added.2.fits; there = in-front xs (added.0 ∷ []) m.instance x here.there; is_open = here.is_open })
    (opens.nest-so g r k q m at) (opens.ready-so g r k q m at) in
    let inner : c.len-inner.result ≡ length xs = c.len-inner.ensures ∙ r.instances.ok.0 ∙ here.fits.as_many in
    opens-settles g r k q m at t b refl (piece_values c.in_ok-inputs.inputs) bound c.add_instance.new.self added.0
    added.1 added.2 c.nest.new.self
    (subst
    (λ n.
    TakesIn c.add_instance.new.self c.nest.new.self (xs ++ added.0 ∷ []) m.instance x v m.number (stage.Nested n))
    inner nested)
    c.nest.ensures.due c.note.new.self
    (subst (λ n. IsNoted c.nest.new.self c.note.new.self (entry.Opened k n)) inner c.note.ensures)
    c.in_ok-add_instance.ensures.room
