-- Jobs stand below so many lists, and lists and passed faults below fewer.
use Rattle.std.specs.Prelude.{◌≡◌, ℕ, ◌<◌, List, length}
use Rattle.tv_lemmas.specs.Members.{Each}
use Rattle.tv_value.specs.Nested.{Place}
use Rattle.tv_matching.specs.Items.{Kind, ends, closes, passes, Item}

module _ {X F : Type 0} where
  abbrev pub KindAt : ℕ → Place → Kind X F → Type 0
  KindAt d q (ends b) = length q ≡ d
  KindAt d q (closes n) = length q < d
  KindAt d q (passes f) = length q < d

  abbrev pub AreLeveled : ℕ → List (Item X F) → Type 0
  AreLeveled d xs = Each (λ x. KindAt d x.place x.kind) xs
