use Rattle.std.proofs.Common.{◌≡◌, take}
use Rattle.tv_lemmas.specs.Members.{Each}
use Rattle.tv_check.specs.declared.wires.Wire.{Wire}
use Rattle.tv_spread.proofs.wires.run_length.Given as goal

abbrev pub invariant-loop-count : goal.invariant-loop-count
invariant-loop-count l = Each (λ (w : Wire). w.step ≡ l.step) (take l.count l.wires)
