-- Where no step runs after itself, all have ended exactly where all are whole.
use Rattle.std.specs.Prelude.{◌≡◌, ℕ, ◌<◌, true, List, length}
use Rattle.tv_telling.specs.declared.endings.endings.Endings.{Endings}
use Rattle.tv_telling.specs.endings.Ends.{after_of, has_ended, is_one_of, is_whole, IsSound}

-- each step has a rank, above those of the steps that it runs after
pub record AreRanked (after : List (List ℕ)) : Type 0 where
  pub rank : ℕ → ℕ
  pub inside : (s a : ℕ) → s < length after → is_one_of (after_of after s) a ≡ true → a
      < length after
  pub above : (s a : ℕ) → s < length after → is_one_of (after_of after s) a ≡ true → rank a < rank s

abbrev pub AllEndWhereAllAreWhole : Type 0
AllEndWhereAllAreWhole =
    (after : List (List ℕ)) → AreRanked after → (e : Endings) → IsSound after e
    → ((s : ℕ) → s < length after → is_whole e s ≡ true) → (s : ℕ) → s < length after
    → has_ended e s ≡ true
