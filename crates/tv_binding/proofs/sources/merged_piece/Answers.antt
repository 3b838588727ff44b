use Rattle.std.proofs.Common.{◌<◌, [], Some, None, Option, is_some, map, sym, ap, ◌∙◌, subst}
use Rattle.std.specs.Prelude.{option_map}
use Rattle.std.proofs.lemmas.List.{length-map, take_all}
use Rattle.tv_value.specs.Nested.{trees_of}
use Rattle.tv_value.specs.Values.{Value, list_value}
use Rattle.tv_value.specs.Readings.{length_limit}
use Rattle.tv_cell.specs.PieceValues.{piece_values}
use Rattle.tv_cell.specs.Soundness.{AreSound}
use Rattle.tv_cell.proofs.PieceLemmas.{list-value}
use Rattle.tv_outputs.proofs.PieceLemmas.{list-is-sound}
use Rattle.tv_check.specs.declared.feeds.NumberedLink.{NumberedLink}
use Rattle.tv_check.specs.declared.feeds.NumberedLink.TheVariants.{Input}
use Rattle.tv_binding.specs.Found.{link_found, all_found}
use Rattle.tv_binding.specs.Sourced.{known_by}
use Rattle.tv_binding.proofs.SourceLemmas.{each-found, found-all, map-index, as-many, some-inside}
use Rattle.tv_binding.proofs.sources.merged_piece.Goals as goal

pub link_piece-requires-clause-found : goal.link_piece-requires-clause-found
link_piece-requires-clause-found c =
    let f : NumberedLink → Option Value = λ l. link_found (known_by c.args.sources.now) l [] in
    let ls = c.args.links.now in
    let i = c.loop-link.link-index in
    sym (ap is_some (map-index f ls i None (Input 0) c.loop-link-test.true))
    ∙ each-found (map f ls) i (some-inside (λ vs. list_value (trees_of vs)) (all_found (map f ls)) c.requires.found) (subst (λ n. i < n) (sym (length-map ls f)) c.loop-link-test.true)

pub returns-clause-value : goal.returns-clause-value
returns-clause-value c =
    let f : NumberedLink → Option Value = λ l. link_found (known_by c.args.sources.now) l [] in
    let ls = c.args.links.now in
    let row = c.of.result in
    ap (option_map (λ vs. list_value (trees_of vs))) (found-all (map f ls) (piece_values row) (ap (λ ps. map Some (piece_values ps)) c.of.ensures ∙ c.loop-link.invariant.values ∙ ap (map f) (take_all c.loop-link.link-index ls c.loop-link-test.false)))
    ∙ ap Some (sym (list-value row))

pub returns-clause-sound : goal.returns-clause-sound
returns-clause-sound c =
    let f : NumberedLink → Option Value = λ l. link_found (known_by c.args.sources.now) l [] in
    let ls = c.args.links.now in
    let row = c.of.result in
    let many = as-many row (map f ls) (ap (λ ps. map Some (piece_values ps)) c.of.ensures ∙ c.loop-link.invariant.values ∙ ap (map f) (take_all c.loop-link.link-index ls c.loop-link-test.false)) ∙ length-map ls f in
    list-is-sound row (subst (λ n. n < length_limit) (sym many) c.requires.few) (subst AreSound (sym c.of.ensures) c.loop-link.invariant.sound)
