-- Levels by step and place, as the table of the code has them.
use Rattle.std.specs.Prelude.{ℕ, ◌∷◌, Option, option_map}
use Rattle.tv_value.specs.Nested.{Place}
use Rattle.tv_frame.specs.Levels as levels
use Rattle.tv_frame.specs.Views.{what_view}
use Rattle.tv_frame.specs.declared.level.What.{What}

-- the number of the step stands in front of the place
abbrev pub told_in : (Place → Option What) → ℕ → Place → Option levels.What
told_in found n q = option_map what_view (found (n ∷ q))
