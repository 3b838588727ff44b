use Rattle.std.proofs.Common.{[], ap, ◌++◌, ◌∙◌, ◌∷◌}
use Rattle.tv_value.specs.Values.{text_value}
use Rattle.tv_generator.specs.Parts.{text_of}
use Rattle.tv_generator.proofs.TextLemmas.{one-more}
use Rattle.tv_generator.proofs.texts.first_texts.Goals as goal

pub loop-index-preserved : goal.loop-index-preserved
loop-index-preserved c =
    c.in_ok-push_text.ensures
    ∙ ap (λ vs. vs ++ text_value c.in_ok-text.text ∷ []) c.loop-index.invariant
    ∙ one-more (text_of c.args.side) c.loop-index.index c.in_ok-text.text c.in_ok-text.ensures
