use Rattle.std.proofs.Common.{◌<◌, length, sym, ap, ◌∙◌, subst}
use Rattle.tv_value.specs.Readings.{length_limit}
use Rattle.tv_check.specs.Turned.{links_of}
use Rattle.tv_binding.proofs.SourceLemmas.{links-many}
use Rattle.tv_binding.proofs.over.feed_over.Goals as goal

pub merged_over-requires-clause-few : goal.merged_over-requires-clause-few
merged_over-requires-clause-few c =
    subst (λ n. n < length_limit) (ap (λ f. length (links_of f)) c.in-Merge.is ∙ links-many c.in-Merge.links ∙ ap length (sym c.as_slice.ensures)) c.requires.counted
