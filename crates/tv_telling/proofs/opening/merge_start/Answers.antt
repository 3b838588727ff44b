use Rattle.std.proofs.Common.{◌-◌, ◌∷◌, ◌∙◌, [], ap, sym, subst, OnOk, length, map}
use Rattle.std.proofs.lemmas.List.{length-map}
use Rattle.tv_lemmas.specs.Members.{Each}
use Rattle.tv_value.specs.Nested.{list, no_trees}
use Rattle.tv_value.specs.Values.{holds_fault}
use Rattle.tv_cell.specs.PieceValues.{piece_value}
use Rattle.tv_matching.specs.Matchers.{leaf_name}
use Rattle.tv_matching.specs.Told.{close}
use Rattle.tv_telling.specs.Views.{AddsTellings}
use Rattle.tv_check.specs.declared.feeds.NumberedFeed.TheVariants.{Merge}
use Rattle.tv_telling.specs.Openings.{IsInput, numbered_feed_start}
use Rattle.tv_telling.proofs.Openings.{added-next, next-link}
use Rattle.tv_telling.proofs.opening.merge_start.Goals as goal

pub whole_merge_start-requires : goal.whole_merge_start-requires
whole_merge_start-requires c =
    let xs = c.args.inputs.now in
    subst (λ n. Each (IsInput n) c.args.links.now)
    (sym (ap length c.requires.faulty ∙ length-map (map piece_value xs) holds_fault ∙ length-map xs piece_value))
    c.requires.inputs

pub returns-then-levels-eq0 : goal.returns-then-levels-eq0
returns-then-levels-eq0 c =
    subst (λ k. OnOk c.whole_merge_start.result (AddsTellings c.args.tellings.now.items c.whole_merge_start.new.tellings.items (λ s. numbered_feed_start (map piece_value c.args.inputs.now) (list tt no_trees) (leaf_name s c.args.leaf) k (Merge c.args.links.now))))
    (sym c.if-levels-eq0.true) (c.whole_merge_start.ensures (map piece_value c.args.inputs.now) c.requires.faulty)

pub loop-index-preserved : goal.loop-index-preserved
loop-index-preserved c = λ s.
    let values = map piece_value c.args.inputs.now in
    let p = leaf_name s c.args.leaf in
    added-next _ _ _ _ _ _ (c.in_ok-link_start.ensures s) (c.loop-index.invariant s)
    (ap (λ t. close p [] (length c.args.links.now) ∷ t)
    (sym (next-link values p (c.args.levels - 1) c.args.links.now c.loop-index.index _ c.loop-index-test.true)))
