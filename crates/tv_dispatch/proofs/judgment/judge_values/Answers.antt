use Rattle.std.proofs.Common.{◌≡◌, ℕ, ◌+◌, ◌<◌, ◌==◌, length, map, get_or, Option, Some, ap, sym, ◌∙◌, arith, List}
use Rattle.std.proofs.lemmas.Bool.{eq-eqb, cond-true}
use Rattle.std.proofs.lemmas.List.{length-map}
use Rattle.tv_value.specs.Values.{Name, Text}
use Rattle.tv_value.specs.Values as spec
use Rattle.tv_value.specs.declared.value.Value.{Value}
use Rattle.tv_value.specs.Views.{view}
use Rattle.tv_gate.specs.Outcomes.{good}
use Rattle.tv_dispatch.specs.Jobs.{value_complaint, or_else, ok_unless, judged}
use Rattle.tv_dispatch.specs.Verdicts.{verdict_of}
use Rattle.tv_dispatch.specs.declared.judgment.Verdict.TheVariants.{Wrong}
use Rattle.tv_dispatch.proofs.Complaints.{depths_of, complaint_from, complaint-step}
use Rattle.tv_dispatch.proofs.judgment.judge_values.Goals as goal

-- as many values as outputs are judged one by one
by_value : (os : List (Name × ℕ)) (vs : List Value) → length vs ≡ length os → judged (depths_of os) (good (map view vs)) ≡ ok_unless (map view vs) (complaint_from 0 os vs)
by_value os vs e =
    cond-true (length (map view vs) == length (depths_of os)) _ _ (eq-eqb _ _ (length-map vs view ∙ e ∙ sym (length-map os (λ (o : Name × ℕ). o.1))))

wrong_at : (vs : List spec.Value) (why : Text) (o : Option Text) → o ≡ Some why → Wrong why ≡ verdict_of (ok_unless vs o)
wrong_at vs why o e = sym (ap (λ p. verdict_of (ok_unless vs p)) e)

first_of : (o p : Option Text) (why : Text) → o ≡ Some why → or_else o p ≡ Some why
first_of o p why e = ap (λ q. or_else q p) e

pub returns-in-Some : goal.returns-in-Some
returns-in-Some c =
    let os = c.args.outputs.now in
    let vs = c.args.values.now in
    let i = c.loop-index.index in
    let within : i < length os = omega arith in
    let d = (get_or os i c.index-outputs-index.result).1 in
    let told : c.in_ok-complaint.complaint ≡ value_complaint (i + 1) d (view (get_or vs i c.index-values-index.result)) =
    c.in_ok-complaint.ensures ∙ ap (λ v. value_complaint (i + 1) d (view v)) c.index-values-index.is in
    let found : complaint_from i os vs ≡ Some c.in-Some.why =
    complaint-step os vs i c.index-outputs-index.result c.index-values-index.result within c.loop-index-test.true
    ∙ first_of (value_complaint (i + 1) d (view (get_or vs i c.index-values-index.result))) (complaint_from (i + 1) os vs) c.in-Some.why (sym told ∙ c.in-Some.is) in
    wrong_at (map view vs) c.in-Some.why (complaint_from 0 os vs) (c.loop-index.invariant ∙ found)
    ∙ ap verdict_of (sym (by_value os vs c.if-count-outputs.false))

pub loop-index-preserved : goal.loop-index-preserved
loop-index-preserved c =
    let os = c.args.outputs.now in
    let vs = c.args.values.now in
    let i = c.loop-index.index in
    let within : i < length os = omega arith in
    let d = (get_or os i c.index-outputs-index.result).1 in
    let told : c.in_ok-complaint.complaint ≡ value_complaint (i + 1) d (view (get_or vs i c.index-values-index.result)) =
    c.in_ok-complaint.ensures ∙ ap (λ v. value_complaint (i + 1) d (view v)) c.index-values-index.is in
    c.loop-index.invariant
    ∙ complaint-step os vs i c.index-outputs-index.result c.index-values-index.result within c.loop-index-test.true
    ∙ ap (λ o. or_else o (complaint_from (i + 1) os vs)) (sym told ∙ c.in_default.is)
