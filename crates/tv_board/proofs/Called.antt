-- The call of a service that is asked by a name that is its own, on values that are its inputs.
use Rattle.std.specs.Prelude.{◌≡◌, ℕ, List, Option}
use Rattle.std.proofs.Common.{subst}
use Rattle.tv_value.specs.Values.{Name, Value}
use Rattle.tv_gate.specs.Calls.{Call, IsCalled}

pub called-so : (before after : Option (List Call)) (s t : Name) (vs us : List Value) (n : ℕ) → t ≡ s → us ≡ vs
    → IsCalled before after (record { service = t; inputs = us; attempt = n }) → IsCalled before after (record { service = s; inputs = vs; attempt = n })
called-so before after s t vs us n p h =
    let same : ((record { service = t; inputs = us; attempt = n }) ≡ (record { service = s; inputs = vs; attempt = n })) =
    λ i. record { service = p i; inputs = h i; attempt = n } in
    subst (λ (k : Call). IsCalled before after k) same
