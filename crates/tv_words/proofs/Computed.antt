-- The worked examples, computed.
use Rattle.std.proofs.Common.{refl}
use Rattle.tv_words.proofs.Literals.{words_on_literals}
use Rattle.tv_words.specs.Worked.{RunsAreGiven, OthersAreGiven, FaultsAreRefused, StrangersAreRefused, NumbersAreRefused}

pub runs-are-given : RunsAreGiven
unfolding words_on_literals
runs-are-given = (refl, refl, refl, refl, refl)

pub others-are-given : OthersAreGiven
unfolding words_on_literals
others-are-given = (refl, refl, refl, refl, refl, refl, refl)

pub faults-are-refused : FaultsAreRefused
unfolding words_on_literals
faults-are-refused = (refl, refl, refl, refl, refl, refl, refl, refl)

pub strangers-are-refused : StrangersAreRefused
unfolding words_on_literals
strangers-are-refused = (refl, refl, refl, refl, refl, refl, refl, refl, refl, refl, refl)

pub numbers-are-refused : NumbersAreRefused
unfolding words_on_literals
numbers-are-refused = (refl, refl, refl, refl, refl, refl, refl)
