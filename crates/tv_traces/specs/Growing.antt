-- What is told of lists that grow.
use Rattle.std.specs.Prelude.{◌≡◌, ◌⊎◌, ◌<◌, ◌++◌, ◌∷◌, ℕ, suc, Bool, false, not, nat_lt, length, List, Option, Some, None}
use Rattle.tv_lemmas.specs.Members.{In}
use Rattle.tv_value.specs.Nested.{Place}

-- a list is told as long as that
abbrev pub at_least : ℕ → Option ℕ → Bool
at_least n None = false
at_least n (Some m) = not (nat_lt m n)

-- list q of step n has an item i of which something is known
abbrev pub Items : Type 1
Items = ℕ → Place → ℕ → Type 0

-- each such list is told, as long as the last such item tells
pub record AreGrownBy (R : Items) (found : Place → Option ℕ) : Type 0 where
  pub told :
      (n : ℕ) (q : Place) (i : ℕ) → R n q i → (m : ℕ) × (found (n ∷ q) ≡ Some m) × (i < m)
  pub from :
      (n : ℕ) (q : Place) (m : ℕ) → found (n ∷ q) ≡ Some m
      → (i : ℕ) × R n q i × (m ≡ suc i)

-- those, and this one
abbrev pub WithItem : Items → ℕ → Place → ℕ → Items
WithItem R step place index n q i = R n q i ⊎ ((n ≡ step) × (q ≡ place) × (i ≡ index))

-- item i of the list at q stands around a place, or at it, below fewer levels than that
pub record IsAround (place : Place) (depth : ℕ) (q : Place) (i : ℕ) : Type 0 where
  pub rest : Place
  pub whole : place ≡ q ++ i ∷ rest
  pub less : length q < depth

-- those, and the ones around a place
abbrev pub WithAround : Items → ℕ → Place → ℕ → Items
WithAround R step place depth n q i = R n q i ⊎ ((n ≡ step) × IsAround place depth q i)

-- the items around these places of steps
pub record IsAroundOne (js : List (ℕ × Place)) (n : ℕ) (q : Place) (i : ℕ) : Type 0 where
  pub rest : Place
  pub among : In (n, q ++ i ∷ rest) js
