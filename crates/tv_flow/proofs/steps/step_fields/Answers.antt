use Rattle.std.proofs.Common.{sym, subst, ap, eq-eqb, if◌then◌else◌, [], ◌∷◌, ◌++◌, codes}
use Rattle.std.proofs.lemmas.Bool.{ne_eqb}
use Rattle.serde_json.specs.View.{view as json_view}
use Rattle.tv_flow.specs.PathViews.{at_view}
use Rattle.tv_flow.specs.Answers.{IsForm}
use Rattle.tv_flow.specs.Forms.{fields_form, first_fields}
use Rattle.tv_flow.proofs.steps.step_fields.Goals as goal

pub returns-then-format-eq2 : goal.returns-then-format-eq2
returns-then-format-eq2 c =
    subst (λ b. IsForm (λ u. tt {0}) c.fields.result (fields_form (if b then first_fields ++ (codes "loop" ∷ []) else first_fields) (at_view c.args.at.now) (json_view c.args.json.now)))
    (sym (eq-eqb c.args.format 2 c.if-format-eq2.true)) c.fields.ensures

pub returns-else-format-eq2 : goal.returns-else-format-eq2
returns-else-format-eq2 c =
    subst (λ b. IsForm (λ u. tt {0}) c.fields-else-format-eq2.result (fields_form (if b then first_fields ++ (codes "loop" ∷ []) else first_fields) (at_view c.args.at.now) (json_view c.args.json.now)))
    (sym (ne_eqb c.args.format 2 c.if-format-eq2.false)) c.fields-else-format-eq2.ensures
