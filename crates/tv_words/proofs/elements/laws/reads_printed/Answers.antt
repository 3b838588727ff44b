use Rattle.tv_words.proofs.LawLemmas.{reads-printed}
use Rattle.tv_words.proofs.elements.laws.reads_printed.Goals as goal

pub returns : goal.returns
returns c = reads-printed
