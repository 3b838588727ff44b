use Rattle.std.proofs.Common.{arith, length-drop, ℕ}
use Rattle.std.proofs.lemmas.List.{take_rest}
use Rattle.tv_io.proofs.Sending.{sent_more}
use Rattle.tv_io.proofs.sink.write_all.Goals as goal

pub loop-sent-preserved : goal.loop-sent-preserved
loop-sent-preserved g c = (
  omega (arith, c.in_ok-sent.ensures.bound, length-drop {A = ℕ}),
  sent_more _ _ _ _ _ _ c.loop-sent.invariant.1 (simp take_rest at c.in_ok-sent.ensures.ok),
  omega (arith, c.loop-sent.invariant.2, c.write.ensures.never_falls),
)
