use Rattle.std.proofs.Common.{sym, ◌∙◌}
use Rattle.std.proofs.lemmas.Bool.{eqb-false}
use Rattle.tv_words.proofs.Indices.{index-parsed}
use Rattle.tv_words.proofs.elements.reading.index_of.Goals as goal

pub returns : goal.returns
returns c = c.ok.ensures.value ∙ index-parsed c.args.text.now c.parse.result c.parse.ensures.value.0 (eqb-false _ _ (sym c.if-has_plus.ensures)) (sym c.if-is_padded.ensures)
