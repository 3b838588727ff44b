-- Entries that one worker appends to a history, and instances within each other.
use Rattle.std.specs.Prelude.{Bool, [], false, true, ◌&&◌, ◌++◌, ◌∷◌, ◌≡◌, ◌⊎◌}
use Rattle.tv_value.specs.Values.{JobName}
use Rattle.tv_model.specs.Made.{Meaning}
use Rattle.tv_history.specs.Alone.{is_by_one_after}
use Rattle.tv_history.specs.Entries.{History}
use Rattle.tv_model.specs.JobOrder.{same_spot}

-- what stands before `base` was appended by one worker, the newest first
abbrev pub is_by_one_from : Meaning → History → History → Bool
is_by_one_from m base [] = true
is_by_one_from m base (e ∷ es) = is_by_one_from m base es
    && is_by_one_after m (es ++ base) e

-- one of two names begins the other
abbrev pub AreNested : JobName → JobName → Type 0
AreNested a b = ((r : JobName) × (b ≡ a ++ r)) ⊎ ((r : JobName) × (a ≡ b ++ r))

-- the name n stands inside the instance J
abbrev pub is_inside : JobName → JobName → Bool
is_inside [] [] = false
is_inside [] (c ∷ n) = true
is_inside (x ∷ J) [] = false
is_inside (x ∷ J) (y ∷ n) = same_spot x y && is_inside J n
