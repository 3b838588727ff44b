use Rattle.std.proofs.Common.{◌≡◌, ◌≢◌, ℕ, List, [], ◌∷◌, map, length, refl, IfOk, sym, subst, ◌∙◌}
use Rattle.std.proofs.lemmas.List.{length-map}
use Rattle.tv_value.specs.Values as spec
use Rattle.tv_value.specs.Views.{view}
use Rattle.tv_gate.specs.Outcomes.{Outcome, bad}
use Rattle.tv_gate.specs.Views.{outcome_view}
use Rattle.tv_local.specs.LocalGives.{by_rule}
use Rattle.tv_local.specs.declared.row.Local.{Local}
use Rattle.tv_local.proofs.gate.by_rule.Goals as goal

rule_other : (k : Local) (vs : List spec.Value) (n : ℕ) → length vs ≢ 1 → length vs ≢ 2 → bad [] ≡ by_rule k vs n
rule_other k [] n h p = refl
rule_other k (v ∷ []) n h p = absurd (h refl)
rule_other k (v ∷ w ∷ []) n h p = absurd (p refl)
rule_other k (v ∷ w ∷ u ∷ us) n h p = refl

pub returns-else-inputs-eq2 : goal.returns-else-inputs-eq2
returns-else-inputs-eq2 c =
    let vs = c.args.inputs.now in
    let as_many : length (map view vs) ≡ length vs = length-map vs view in
    subst (λ (out : Outcome). IfOk c.refused.result (λ o. outcome_view o ≡ out))
    (rule_other c.args.local (map view vs) c.args.attempt (λ e. c.if-inputs-eq1.false (sym as_many ∙ e)) (λ e. c.if-inputs-eq2.false (sym as_many ∙ e)))
    c.refused.ensures
