use Rattle.tv_words.proofs.ElementsComputed.{elements_are_read, lines_are_written, others_are_refused}
use Rattle.tv_words.proofs.elements.laws.worked.Goals as goal

pub returns : goal.returns
returns c = record { read = elements_are_read; refused = others_are_refused; written = lines_are_written }
