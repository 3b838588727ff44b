-- The test whether two calls are the same decides that they are equal. So it is an equivalence, and calls that are the same are hashed alike.
use Rattle.std.specs.Prelude.{◌≡◌, List, true, IsTrue, ◌==◌, refl}
use Rattle.std.specs.Cmp.{IsEquivalence, first_so, second_so}
use Rattle.std.specs.Cmp.Lexicographic.{bytes_decides, pointwise_decides}
use Rattle.std.specs.Cmp.Derive.{one_truth}
use Rattle.std.proofs.Common.{ap, sym, ◌∙◌, eqb-true, eq-eqb}
use Rattle.std.proofs.lemmas.Bool.{and_from}
use Rattle.tv_value.specs.Values.{Value}
use Rattle.tv_value.specs.Orders.{same_name}
use Rattle.tv_value.specs.Sameness.{same_values}
use Rattle.tv_value.proofs.Sameness.{test-decides}
use Rattle.tv_gate.specs.Calls as spec
use Rattle.tv_gate.specs.Sameness.{same_call}
use Rattle.tv_gate.specs.Views.{call_view}
use Rattle.tv_gate.specs.Writes.{call_writes}
use Rattle.tv_gate.specs.declared.call.Call.{Call}

pub same_values-decide : (vs ws : List Value) → (same_values vs ws ≡ true → vs ≡ ws) × (vs ≡ ws → same_values vs ws ≡ true)
same_values-decide vs ws = pointwise_decides test-decides vs ws

pub same-equal : (c d : spec.Call) → same_call c d ≡ true → c ≡ d
same-equal c d h =
    let attempt : c.attempt ≡ d.attempt = eqb-true c.attempt d.attempt (first_so (c.attempt == d.attempt) _ h) in
    let h1 = second_so (c.attempt == d.attempt) _ h in
    let service = (bytes_decides c.service d.service).0 (first_so (same_name c.service d.service) _ h1) in
    let inputs = (same_values-decide c.inputs d.inputs).0 (second_so (same_name c.service d.service) _ h1) in
    λ i. record { service = service i; inputs = inputs i; attempt = attempt i }

same-own : (c : spec.Call) → same_call c c ≡ true
same-own c =
    and_from (c.attempt == c.attempt) _ (eq-eqb c.attempt c.attempt refl)
    (and_from (same_name c.service c.service) _ ((bytes_decides c.service c.service).1 refl) ((same_values-decide c.inputs c.inputs).1 refl))

pub equal-same : (c d : spec.Call) → c ≡ d → same_call c d ≡ true
equal-same c d e = ap (same_call c) (sym e) ∙ same-own c

same-turned : (c d : spec.Call) → same_call c d ≡ same_call d c
same-turned c d = one_truth (same_call c d) (same_call d c) (λ h. equal-same d c (sym (same-equal c d h))) (λ h. equal-same c d (sym (same-equal d c h)))

pub calls_equiv : IsEquivalence (λ (a b : Call). same_call (call_view a) (call_view b))
calls_equiv = record {
  refl = λ c. same-own (call_view c);
  symm = λ a b. same-turned (call_view a) (call_view b);
  congr = λ a b c h. ap (λ x. same_call x (call_view c)) (same-equal (call_view a) (call_view b) h);
}

pub calls_alike : (x y : Call) → IsTrue (same_call (call_view x) (call_view y)) → call_writes (call_view x) ≡ call_writes (call_view y)
calls_alike x y h = ap call_writes (same-equal (call_view x) (call_view y) h)
