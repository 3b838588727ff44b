use Rattle.std.proofs.Common.{◌≤◌, Ok, sym, ap, subst, ◌∙◌, arith}
use Rattle.std.proofs.lemmas.Bool.{ltb-false}
use Rattle.tv_value.specs.Views.{strategy_view}
use Rattle.tv_strategy.specs.Conditions.{number_of}
use Rattle.tv_strategy.specs.Views.{answer_view}
use Rattle.tv_strategy.proofs.LawLemmas.{measured-agrees}
use Rattle.tv_match.proofs.places.is_deep.Goals as goal

pub returns-in-Ok : goal.returns-in-Ok
returns-in-Ok c e =
    let d = measured-agrees (number_of c.args.mismatch.now) (strategy_view c.args.tree.now) c.in-Ok.depth (sym (ap answer_view c.in-Ok.is) ∙ c.depth_of.ensures) in
    subst (λ n. n ≤ 32) d.1 (ltb-false 32 c.in-Ok.depth e)
