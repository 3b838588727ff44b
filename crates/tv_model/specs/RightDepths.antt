-- When what a meaning has at its ports has the depths of these ports.
use Rattle.std.specs.Prelude.{List, [], ℕ, ◌∷◌}
use Rattle.tv_lemmas.specs.Members.{Each}
use Rattle.tv_value.specs.Nested.{Tree}
use Rattle.tv_value.specs.Values.{HasDepth, Name, Scalar}
use Rattle.tv_model.specs.instance.Delivered.{Delivered}

-- values and their depths, one by one
abbrev pub HaveTheseDepths : {N : Type 0} → List ℕ → List (Tree N Scalar) → Type 0
HaveTheseDepths [] [] = Unit {0}
HaveTheseDepths [] (v ∷ vs) = ⊥
HaveTheseDepths (d ∷ ds) [] = ⊥
HaveTheseDepths (d ∷ ds) (v ∷ vs) = HasDepth v d × HaveTheseDepths ds vs

-- what is delivered has the delivered depth
abbrev pub IsRight : Delivered → Type 0
IsRight d = HasDepth d.value d.depth

abbrev pub AreRight : List (Name × Delivered) → Type 0
AreRight ds = Each (λ d. IsRight d.1) ds
