use Rattle.std.proofs.Common.{◌≡◌, ℕ, List, [], ◌∷◌, map, refl, IfOk, ap, sym, subst, ◌∙◌}
use Rattle.tv_value.specs.Nested.{items, trees_of}
use Rattle.tv_value.specs.Values as spec
use Rattle.tv_value.specs.Values.{Name}
use Rattle.tv_value.specs.Views.{view}
use Rattle.tv_gate.specs.Outcomes.{good}
use Rattle.tv_gate.specs.Views.{outcome_view}
use Rattle.tv_gate.specs.declared.outcome.Outcome.{Outcome}
use Rattle.tv_dispatch.specs.Jobs.{judged}
use Rattle.tv_dispatch.specs.Verdicts.{verdict_of}
use Rattle.tv_dispatch.proofs.Complaints.{depths_of}
use Rattle.tv_dispatch.proofs.judgment.judge.Goals as goal

items_of_trees : (vs : List spec.Value) → items (trees_of vs) ≡ vs
items_of_trees [] = refl
items_of_trees (v ∷ vs) = ap (λ us. v ∷ us) (items_of_trees vs)

pub returns-in-Good : goal.returns-in-Good
returns-in-Good c =
    let vs = map view c.as_slice-in-Good.result.now in
    let os = c.args.outputs.now in
    let same = sym (items_of_trees vs) ∙ ap items c.as_slice-in-Good.ensures in
    subst (λ (o : Outcome). IfOk c.judge_values.result (λ v. v ≡ verdict_of (judged (depths_of os) (outcome_view o)))) (sym c.in-Good.is)
    (subst (λ us. IfOk c.judge_values.result (λ v. v ≡ verdict_of (judged (depths_of os) (good us)))) same
    (subst (λ (ps : List (Name × ℕ)). IfOk c.judge_values.result (λ v. v ≡ verdict_of (judged (depths_of ps) (good vs)))) c.as_slice.ensures c.judge_values.ensures))
