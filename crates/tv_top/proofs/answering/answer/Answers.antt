use Rattle.std.specs.Prelude.{[], Err, if◌then◌else◌}
use Rattle.std.proofs.Common.{ap, sym, subst, inl, ◌∙◌}
use Rattle.tv_check.specs.RunViews.{run_view}
use Rattle.tv_top.specs.Answers.{always, answer_built}
use Rattle.tv_top.specs.Asked.{GivesAnswer}
use Rattle.tv_top.specs.Asking.{GivesAsks, asks_built}
use Rattle.tv_top.specs.CommandViews.{reading_view}
use Rattle.tv_top.specs.declared.status.Status.TheVariants.{NotBuilt}
use Rattle.tv_top.proofs.answering.answer.Goals as goal

pub returns-then-is_unbuilt-clause-answer : goal.returns-then-is_unbuilt-clause-answer
returns-then-is_unbuilt-clause-answer g c =
    inl (ap (λ b. if b then Err (always NotBuilt) else answer_built g.A.Services.Services.gives (reading_view c.args.command) (run_view c.args.run)) (sym c.is_unbuilt.ensures ∙ c.if-is_unbuilt.true))

pub returns-then-is_unbuilt-clause-asked : goal.returns-then-is_unbuilt-clause-asked
returns-then-is_unbuilt-clause-asked g c = λ calls e. e

pub returns-clause-answer : goal.returns-clause-answer
returns-clause-answer g c =
    subst (λ b. GivesAnswer c.built_answer.result (if b then Err (always NotBuilt) else answer_built g.A.Services.Services.gives (reading_view c.args.command) (run_view c.args.run)))
    (sym (sym c.is_unbuilt.ensures ∙ c.if-is_unbuilt.false)) c.built_answer.ensures.answer

pub returns-clause-asked : goal.returns-clause-asked
returns-clause-asked g c =
    subst (λ b. GivesAsks (g.A.Asker.calls c.args.asker.now) (g.A.Asker.calls c.built_answer.new.asker) c.built_answer.result (if b then [] else asks_built g.A.Services.Services.gives (reading_view c.args.command) (run_view c.args.run)))
    (sym (sym c.is_unbuilt.ensures ∙ c.if-is_unbuilt.false)) c.built_answer.ensures.asked
