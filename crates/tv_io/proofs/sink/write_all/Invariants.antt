use Rattle.std.proofs.Common.{length, ◌-◌, ◌≤◌, take}
use Rattle.tv_io.specs.SentOf.{IsSentOf}
use Rattle.tv_io.proofs.sink.write_all.Given as goal

abbrev pub invariant-loop-sent : goal.invariant-loop-sent
invariant-loop-sent g l = (l.sent ≤ length l.bytes)
    × IsSentOf (g.K.Sink.sent l.fn.sink) (g.K.Sink.sent l.sink) (take l.sent l.bytes)
    × (g.K.Sink.faults l.fn.sink ≤ g.K.Sink.faults l.sink)

abbrev pub decreases-loop-sent : goal.decreases-loop-sent
decreases-loop-sent g l = length l.bytes - l.sent
