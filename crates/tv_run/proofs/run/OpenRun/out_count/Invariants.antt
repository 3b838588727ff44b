use Rattle.std.specs.Prelude.{◌≡◌, take}
use Rattle.tv_run.specs.Recalling.{out_in}
use Rattle.tv_run.proofs.run.OpenRun.out_count.Given as goal

abbrev pub invariant-loop-instance : goal.invariant-loop-instance
invariant-loop-instance l = l.count ≡ out_in (take l.instance-index l.instance-items)
