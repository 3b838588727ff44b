use Rattle.std.specs.Prelude.{not, Err, Ok, if◌then◌else◌}
use Rattle.std.proofs.Common.{ap, inl, sym, ◌∙◌}
use Rattle.tv_check.specs.RunViews.{run_view}
use Rattle.tv_top.specs.Answers.{always, answer_built}
use Rattle.tv_top.specs.Built.{is_built}
use Rattle.tv_top.specs.Words.{run}
use Rattle.tv_top.specs.declared.status.Status.TheVariants.{NotBuilt}
use Rattle.tv_top.proofs.many.result_or_refusal.Goals as goal

pub returns-then-not-is_built-clause-answer : goal.returns-then-not-is_built-clause-answer
returns-then-not-is_built-clause-answer g c =
    let unbuilt = sym (ap is_built c.document.ensures.view) ∙ sym c.is_built.ensures ∙ c.if-not-is_built.true in
    inl (ap (λ b. if not b then Err (always NotBuilt) else answer_built g.G.Services.Services.gives run (run_view c.args.run)) unbuilt)

pub returns-clause-answer : goal.returns-clause-answer
returns-clause-answer g c =
    let built = sym (ap is_built c.document.ensures.view) ∙ sym c.is_built.ensures ∙ c.if-not-is_built.false in
    ap (λ b. if not b then Err (always NotBuilt) else answer_built g.G.Services.Services.gives run (run_view c.args.run)) built
    ∙ ap Ok (sym c.in_ok-text.ensures)
