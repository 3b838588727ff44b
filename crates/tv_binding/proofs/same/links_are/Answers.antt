use Rattle.std.proofs.Common.{◌≡◌, ◌<◌, ◌≤◌, Option, Some, None, [], length, map, is_some, sym, ap, ◌∙◌, subst}
use Rattle.std.specs.Prelude.{◌↔◌, IsTrue, slice_index_or}
use Rattle.std.proofs.lemmas.List.{length-map}
use Rattle.tv_value.specs.Values.{Value}
use Rattle.tv_value.specs.Views.{view}
use Rattle.tv_outputs.proofs.Comparing.{told-no, told-yes, value-at}
use Rattle.tv_check.specs.declared.feeds.NumberedLink.{NumberedLink}
use Rattle.tv_check.specs.declared.feeds.NumberedLink.TheVariants.{Input}
use Rattle.tv_binding.specs.Found.{link_found}
use Rattle.tv_binding.specs.Sourced.{known_by}
use Rattle.tv_binding.proofs.Comparing.{all-many, each-all, each-more, one-other}
use Rattle.tv_binding.proofs.SourceLemmas.{each-found, map-index}
use Rattle.tv_binding.proofs.same.links_are.Goals as goal

pub returns-then-links-values : goal.returns-then-links-values
returns-then-links-values c =
    let f : NumberedLink → Option Value = λ l. link_found (known_by c.args.sources.now) l [] in
    let ls = c.args.links.now in
    let vs = c.args.values.now in
    told-no (λ h. c.if-links-values.true (sym (length-map ls f) ∙ sym (all-many (map f ls) (map view vs) h) ∙ length-map vs view))

pub link_is-requires-clause-found : goal.link_is-requires-clause-found
link_is-requires-clause-found c =
    let f : NumberedLink → Option Value = λ l. link_found (known_by c.args.sources.now) l [] in
    let ls = c.args.links.now in
    let i = c.loop-index.index in
    sym (ap is_some (map-index f ls i None (Input 0) c.loop-index-test.true))
    ∙ each-found (map f ls) i c.requires.found (subst (λ n. i < n) (sym (length-map ls f)) c.loop-index-test.true)

pub returns-then-not-link_is : goal.returns-then-not-link_is
returns-then-not-link_is c =
    let f : NumberedLink → Option Value = λ l. link_found (known_by c.args.sources.now) l [] in
    let ls = c.args.links.now in
    let i = c.loop-index.index in
    let l = slice_index_or ls i (Input 0) in
    let v = c.index-values-index.result in
    let within : i < length c.args.values.now = subst (λ m. i < m) c.if-links-values.false c.loop-index-test.true in
    one-other (map f ls) (map view c.args.values.now) i (f l) (view v) (map-index f ls i None (Input 0) c.loop-index-test.true) (value-at c.args.values.now i v within c.index-values-index.is)
    (subst (λ b. IsTrue b ↔ (f l ≡ Some (view v))) c.if-not-link_is.true c.link_is.ensures)

pub loop-index-preserved : goal.loop-index-preserved
loop-index-preserved c =
    let f : NumberedLink → Option Value = λ l. link_found (known_by c.args.sources.now) l [] in
    let ls = c.args.links.now in
    let i = c.loop-index.index in
    let l = slice_index_or ls i (Input 0) in
    let v = c.index-values-index.result in
    let within : i < length c.args.values.now = subst (λ m. i < m) c.if-links-values.false c.loop-index-test.true in
    each-more (map f ls) (map view c.args.values.now) i (view v) c.loop-index.invariant
    (map-index f ls i None (Input 0) c.loop-index-test.true ∙ c.link_is.ensures.0 c.if-not-link_is.false) (value-at c.args.values.now i v within c.index-values-index.is)

pub returns : goal.returns
returns c =
    let f : NumberedLink → Option Value = λ l. link_found (known_by c.args.sources.now) l [] in
    let ls = c.args.links.now in
    let vs = c.args.values.now in
    told-yes (each-all (map f ls) (map view vs) (length-map vs view ∙ sym c.if-links-values.false ∙ sym (length-map ls f)) c.loop-index.index (subst (λ n. n ≤ c.loop-index.index) (sym (length-map ls f)) c.loop-index-test.false) c.loop-index.invariant)
