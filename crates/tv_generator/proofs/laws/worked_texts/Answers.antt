use Rattle.tv_generator.proofs.Computed.{texts_of_twelve}
use Rattle.tv_generator.proofs.laws.worked_texts.Goals as goal

pub returns : goal.returns
returns c = texts_of_twelve
