use Rattle.std.proofs.Common.{◌<◌, length, option_map, sym, ap, ◌∙◌, subst}
use Rattle.tv_value.specs.Nested.{at}
use Rattle.tv_value.specs.Readings.{length_limit}
use Rattle.tv_value.specs.Views.{view}
use Rattle.tv_check.specs.Turned.{links_of}
use Rattle.tv_outputs.proofs.Comparing.{told-of}
use Rattle.tv_binding.specs.Found.{feed_found}
use Rattle.tv_binding.specs.Sourced.{known_by}
use Rattle.tv_binding.proofs.SourceLemmas.{links-many}
use Rattle.tv_binding.proofs.same.feed_is.Goals as goal

pub merge_is-requires-clause-few : goal.merge_is-requires-clause-few
merge_is-requires-clause-few c =
    subst (λ n. n < length_limit) (ap (λ f. length (links_of f)) c.in-Merge.is ∙ links-many c.in-Merge.links ∙ ap length (sym c.as_slice.ensures)) c.requires.counted

pub returns-in-Some : goal.returns-in-Some
returns-in-Some c =
    let k = known_by c.args.sources.now in
    let q = c.args.place.now in
    told-of _ (feed_found k c.args.feed.now (option_map (λ x. view x.now) c.args.constant) q) (view c.args.value.now) c.value_is_at.result c.value_is_at.ensures
    ((λ i. feed_found k (c.in-Constant.is i) (option_map (λ x. view x.now) (c.in-Some.is i)) q) ∙ ap (λ x. at (view x) q) (sym c.read.ensures))
