-- The worked examples compute.
use Rattle.std.specs.Fmt.{digits}
use Rattle.std.specs.Prelude.{refl}
use Rattle.tv_words.specs.elements.Worked.{ElementsAreRead, LinesAreWritten, OthersAreRefused}

pub elements_are_read : ElementsAreRead
elements_are_read = (refl, refl, refl)

pub others_are_refused : OthersAreRefused
others_are_refused = (refl, refl, refl, refl, refl, refl, refl, refl, refl, refl, refl, refl)

pub lines_are_written : LinesAreWritten
unfolding digits
lines_are_written = refl
