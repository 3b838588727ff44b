use Rattle.std.proofs.Common.{ap, arith, length, length-drop, ℕ}
use Rattle.std.proofs.lemmas.List.{take_rest}
use Rattle.tv_io.proofs.Reading.{read_in_memory}
use Rattle.tv_io.proofs.steady.SteadySourceSource.read.Goals as goal

pub returns-clause-ok : goal.returns-clause-ok
returns-clause-ok c =
    read_in_memory _ c.self.inside.bytes.items c.deref.result.now c.self.inside.at c.min-count.result c.copy_from_slice.new.self _
    c.self.view_is c.deref.ensures.value (simp take_rest at c.copy_from_slice.ensures.after)
    (omega (arith, c.min-count.ensures, c.deref.ensures.len, length-drop {A = ℕ}, ap length c.self.view_is))
