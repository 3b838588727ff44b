use Rattle.std.specs.Prelude.{◌≡◌, ◌+◌, ◌≤◌, length, slice_get, vec_capacity}
use Rattle.std.proofs.Common.{ap, arith, subst, sym, ◌∙◌}
use Rattle.std.proofs.lemmas.Option.{same_Some}
use Rattle.std.proofs.lemmas.Result.{on_ok_weaker}
use Rattle.tv_run.specs.declared.instances.Instance.{Instance}
use Rattle.tv_run.proofs.Rooms.{at-with_jobs, rooms-after, rooms-numbers, with_numbers}
use Rattle.tv_run.proofs.run.OpenRun.reserve_in.Goals as goal

pub returns-clause-same : goal.returns-clause-same
returns-clause-same c =
    let r = c.args.self.now in
    let i = c.args.instance in
    let d = c.index_mut.result.now in
    rooms-after r (with_numbers r i d c.reserve.new.self c.requires c.index_mut.ensures.value c.in_ok-reserve.ensures.items)
    c.reserve_rest.new.self
    (rooms-numbers r i d c.reserve.new.self c.requires c.index_mut.ensures.value c.in_ok-reserve.ensures.items)
    c.reserve_rest.ensures.same

pub returns-clause-rooms : goal.returns-clause-rooms
returns-clause-rooms c =
    let r = c.args.self.now in
    let i = c.args.instance in
    let d = c.index_mut.result.now in
    let room = c.in_ok-reserve.ensures.ok in
    let long = c.reserve.new.self.ok.0 in
    on_ok_weaker c.reserve_rest.result
    (λ beside.
    record {
      numbers = λ e at.
          let now =
          at-with_jobs r i d c.reserve.new.self c.requires c.index_mut.ensures.value c.in_ok-reserve.ensures.items in
          let same : record d { jobs = c.reserve.new.self } ≡ e =
          same_Some (record d { jobs = c.reserve.new.self }) e
          (sym now ∙ ap (λ v. slice_get v.items i) (sym c.reserve_rest.ensures.instances) ∙ at) in
          subst (λ (x : Instance). length x.jobs.items + c.args.more ≤ vec_capacity x.jobs) same
          (omega (arith, room, long));
      beside = beside;
    })
    c.reserve_rest.ensures.rooms
