-- What a matcher can be told from its start on.
use Rattle.std.specs.Prelude.{ℕ, List, [], map}
use Rattle.tv_value.specs.Values.{Name}
use Rattle.tv_value.specs.Strategies.{Strategy}
use Rattle.tv_strategy.specs.Conditions.{Suits, number_of}
use Rattle.tv_strategy.specs.Measures.{DotsAgree}
use Rattle.tv_matching.specs.Matchers.{Matching, CanTellAll}
use Rattle.tv_match.specs.declared.told.Told as code
use Rattle.tv_match.specs.Seen.{told_view, NameLeaves}

-- what a contract sees of a matcher that was told nothing
abbrev pub started : Strategy → List (Name × ℕ) → Matching
started s mismatch = record { strategy = s; mismatch = mismatch; told = []; held = []; given = [] }

-- these can be told one after the other to a matcher of that strategy
pub record IsScript (s : Strategy) (mismatch : List (Name × ℕ))
    (tolds : List code.Told) : Type 0 where
  pub suits : Suits mismatch s
  pub agree : DotsAgree (number_of mismatch) s
  pub leaves : NameLeaves s tolds
  pub new : CanTellAll (started s mismatch) (map (told_view s) tolds)
