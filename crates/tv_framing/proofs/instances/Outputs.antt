-- The depths of the outputs that a step makes.
use Rattle.std.specs.Prelude.{◌≡◌, refl, ℕ, suc, ◌+◌, List, [], ◌∷◌, map}
use Rattle.std.proofs.Common.{ap}
use Rattle.tv_value.specs.Nested.{Place}
use Rattle.tv_value.specs.Values.{JobName, Name, Value}
use Rattle.tv_strategy.specs.Iterations.{Iteration}
use Rattle.tv_model.proofs.Delivers.{depths_of}
use Rattle.tv_model.specs.instance.ByResults.{outputs_by}

pub outputs-depths : (instance : JobName) (n : Name) (made : ℕ → Place → Value) (levels : ℕ) (it : Iteration) (k : ℕ) (ps : List (Name × ℕ)) → depths_of (outputs_by instance n made levels it k ps) ≡ map (λ p. (p.0, levels + p.1)) ps
outputs-depths instance n made levels it k [] = refl
outputs-depths instance n made levels it k (p ∷ ps) = ap (λ l. (p.0, levels + p.1) ∷ l) (outputs-depths instance n made levels it (suc k) ps)
