-- The depths that a step sees when it is taken by rank are those that it sees once all steps are taken.
use Rattle.std.specs.Prelude.{◌≡◌, refl, ℕ, List, [], ◌∷◌, false}
use Rattle.std.proofs.Common.{◌∙◌}
use Rattle.tv_lemmas.specs.Members.{Each}
use Rattle.tv_value.specs.Values.{Name}
use Rattle.tv_flow.specs.Flows.{Step}
use Rattle.tv_model.specs.instance.CheckedDepths.{StepDepths, port_depth, step_depths, steps_depths}
use Rattle.tv_model.specs.instance.Ranks.{earlier_steps, is_among}
use Rattle.tv_model.proofs.Ranks.{port-stays}

-- none of the steps from s on is among those that come before s
abbrev pub Feeds : Step → List (Name × Step) → Type 0
Feeds s ss = Each (λ (r : Name × Step). is_among (earlier_steps s) r.0 ≡ false) ss

pub ports-settled : (given : List (Name × ℕ)) (s : Step) (so_far : List StepDepths) (ss : List (Name × Step)) → Feeds s ss → port_depth given (steps_depths given so_far ss) s ≡ port_depth given so_far s
ports-settled given s so_far [] h = refl
ports-settled given s so_far (r ∷ ss) h = ports-settled given s (step_depths given so_far r ∷ so_far) ss h.1 ∙ port-stays given so_far (step_depths given so_far r) s h.0
