use Rattle.tv_binding.proofs.same.+unwrapped.Given as goal

abbrev pub decreases-unwrapped : goal.decreases-unwrapped
decreases-unwrapped l = l.times
