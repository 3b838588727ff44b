use Rattle.std.proofs.Common.{arith}
use Rattle.tv_run.proofs.BackRooms.{before-rooms, rooms-itself, rooms-more, rooms-then}
use Rattle.tv_run.proofs.run.OpenRun.reserve_all_back.Goals as goal

pub loop-at-init : goal.loop-at-init
loop-at-init c = (rooms-itself c.args.self.now, λ k low. absurd (omega (arith, low)))

pub returns-in_err-reserve_back_in-clause-same : goal.returns-in_err-reserve_back_in-clause-same
returns-in_err-reserve_back_in-clause-same c =
    before-rooms c.args.self.now c.reserve_back_in.new.self
    (rooms-then c.args.self.now c.loop-at.self c.reserve_back_in.new.self c.loop-at.at c.loop-at.invariant.0
    c.reserve_back_in.ensures.same)

pub loop-at-preserved : goal.loop-at-preserved
loop-at-preserved c =
    let before = c.loop-at.invariant in (
      rooms-then c.args.self.now c.loop-at.self c.reserve_back_in.new.self c.loop-at.at before.0
          c.reserve_back_in.ensures.same,
      rooms-more c.loop-at.self c.reserve_back_in.new.self c.loop-at.at c.reserve_back_in.ensures.same before.1
          c.in_ok-reserve_back_in.ensures.rooms,
    )

pub returns-clause-same : goal.returns-clause-same
returns-clause-same c = before-rooms c.args.self.now c.loop-at.self c.loop-at.invariant.0

pub returns-clause-rooms : goal.returns-clause-rooms
returns-clause-rooms c = λ i low.
    let many = c.loop-at.invariant.0.as_many in
    let all = c.len-at-end.ensures in
    c.loop-at.invariant.1 i (omega (arith, low, many, all, c.loop-at-test.false, c.args.self.now.instances.ok.0))
