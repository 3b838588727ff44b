use Rattle.std.specs.Prelude.{◌<◌, length}
use Rattle.std.proofs.Common.{arith}
use Rattle.tv_run.proofs.AllBack.{all-back, none-back, one-back, room-next}
use Rattle.tv_run.proofs.run.OpenRun.put_all_back.Goals as goal

low : (c : goal.After-put_back_in-arg-1) → c.loop-at.at < length c.loop-at.self.instances.items
low c =
    let many = c.loop-at.invariant.as_many in
    let all = c.len-at-end.ensures in
    omega (arith, many, all, c.loop-at-test.true, c.args.self.now.instances.ok.0)

pub loop-at-init : goal.loop-at-init
loop-at-init c = none-back c.args.self.now

pub put_back_in-requires-clause-rooms : goal.put_back_in-requires-clause-rooms
put_back_in-requires-clause-rooms c =
    room-next c.args.self.now c.loop-at.self c.loop-at.at c.loop-at.invariant c.requires
    (low c)

pub loop-at-preserved : goal.loop-at-preserved
loop-at-preserved c =
    one-back c.args.self.now c.loop-at.self c.put_back_in.new.self c.loop-at.at c.loop-at.invariant c.put_back_in.ensures

pub returns : goal.returns
returns c =
    let many = c.loop-at.invariant.as_many in
    let all = c.len-at-end.ensures in
    record {
      back =
          all-back c.args.self.now c.loop-at.self c.loop-at.at c.loop-at.invariant
          (omega (arith, many, all, c.loop-at-test.false, c.args.self.now.instances.ok.0));
    }
