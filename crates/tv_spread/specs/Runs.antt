-- Wires sorted by the step that they feed.
use Rattle.std.specs.Prelude.{◌≡◌, ℕ, ◌≤◌, List, [], ◌∷◌}
use Rattle.tv_check.specs.declared.wires.Wire.{Wire}

-- the first of them doesn't feed this step
abbrev pub StartsElsewhere : ℕ → List Wire → Type 0
StartsElsewhere c [] = Unit {0}
StartsElsewhere c (w ∷ ws) = w.step ≡ c → ⊥

-- they feed steps from b on, none a lesser one than the wire before it
abbrev pub AreSortedFrom : ℕ → List Wire → Type 0
AreSortedFrom b [] = Unit {0}
AreSortedFrom b (w ∷ ws) = (b ≤ w.step) × AreSortedFrom w.step ws
