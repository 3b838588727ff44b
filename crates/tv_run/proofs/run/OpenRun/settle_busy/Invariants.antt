use Rattle.std.proofs.Common.{length, ◌+◌, ◌≡◌}
use Rattle.tv_gate.specs.Outcomes.{Giving}
use Rattle.tv_run.specs.Standing.{StandsOpen}
use Rattle.tv_run.specs.Turns.{StaysAs}
use Rattle.tv_run.proofs.run.OpenRun.settle_busy.Given as goal

abbrev pub invariant-loop : goal.invariant-loop
invariant-loop l = record {
  stays : (gives : Giving) → StandsOpen gives l.initial.self → StaysAs gives l.initial.self l.self;
  left : length l.self.busy.items + l.counter ≡ length l.initial.self.busy.items;
}
