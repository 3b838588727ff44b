use Rattle.std.proofs.Common.{◌++◌, take, ap, subst, sym, ◌∙◌}
use Rattle.tv_value.specs.Views.{strategy_view}
use Rattle.tv_strategy.specs.Conditions.{number_of}
use Rattle.tv_strategy.specs.Promises.{ArePlacesOfEnd}
use Rattle.tv_strategy.specs.Splits.{split}
use Rattle.tv_strategy.proofs.Ends.{split-of_end}
use Rattle.tv_strategy.proofs.Splits.{take-whole}
use Rattle.tv_strategy.proofs.places.split.Goals as goal

pub returns-clause-ends : goal.returns-clause-ends
returns-clause-ends c =
    let mismatch = number_of c.args.mismatch.now in
    let s = strategy_view c.args.tree.now in
    let q = c.args.place.now in
    let d = c.in_ok-split_into.field-0 in
    let h = c.in_ok-split_into.ensures in
    let all = h.1 ∙ ap (λ ps. ps ++ split mismatch s (take d c.as_slice.result.now)) c.new-places.ensures.items ∙ ap (λ r. split mismatch s (take d r)) c.as_slice.ensures ∙ ap (split mismatch s) (take-whole q d (c.requires.deep ∙ sym h.0)) in
    subst (ArePlacesOfEnd mismatch s q) (sym (c.of.ensures ∙ all)) (split-of_end mismatch s c.requires.agree q)
