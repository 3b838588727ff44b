use Rattle.std.proofs.Common.{◌<◌, length, sym, ap, ◌∙◌, subst}
use Rattle.tv_value.specs.Readings.{length_limit}
use Rattle.tv_check.specs.Turned.{links_of}
use Rattle.tv_binding.proofs.SourceLemmas.{links-many}
use Rattle.tv_binding.proofs.sources.feed_piece.Goals as goal

pub merge_piece-requires-clause-few : goal.merge_piece-requires-clause-few
merge_piece-requires-clause-few c =
    subst (λ n. n < length_limit) (ap (λ f. length (links_of f)) c.in-Merge.is ∙ links-many c.in-Merge.links ∙ ap length (sym c.as_slice.ensures)) c.requires.counted
