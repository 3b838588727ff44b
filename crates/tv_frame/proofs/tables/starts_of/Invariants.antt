use Rattle.std.specs.Prelude.{◌≡◌, map, take}
use Rattle.tv_frame.proofs.TableLemmas.{begins}
use Rattle.tv_frame.proofs.tables.starts_of.Given as goal

abbrev pub invariant-loop-step : goal.invariant-loop-step
invariant-loop-step l = map (λ is. is.items) l.starts.items ≡ map begins (take l.step-index l.plan.steps)
