-- What a proof unfolds to compute the command of words that are written out.
use Rattle.std.specs.Prelude.{⊤}
use Rattle.std.specs.Fmt.{digits}
use Rattle.clap.proofs.OnLiterals.{clap_on_literals}

unfoldable pub words_on_literals : ⊤
unfolding clap_on_literals digits
words_on_literals = tt
