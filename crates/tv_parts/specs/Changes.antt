-- What changes a partial tree: an item arrives at a place, or the list at a place is closed with its length; and where neither can be.
use Rattle.std.specs.Prelude.{ℕ, zero, suc, ◌≤◌, ◌<◌, nat_lt, Bool, true, false, if◌then◌else◌, [], ◌∷◌}
use Rattle.tv_value.specs.Nested.{Place}
use Rattle.tv_parts.specs.Partials.{Partial, wanting, item, growing, closed, Parts, no_parts, part, part_count, part_of}

-- with another part at an index, and wanting parts before it where the list was shorter
abbrev pub with_part : {A : Type 0} → Partial A → Parts A → ℕ → Parts A
with_part p no_parts zero = part p no_parts
with_part p no_parts (suc i) = part wanting (with_part p no_parts i)
with_part p (part r ps) zero = part p ps
with_part p (part r ps) (suc i) = part r (with_part p ps i)

-- with so many parts at least
abbrev pub filled : {A : Type 0} → Parts A → ℕ → Parts A
filled ps zero = ps
filled no_parts (suc n) = part wanting (filled no_parts n)
filled (part p ps) (suc n) = part p (filled ps n)

-- an item arrives at a place; lists on the way that nothing was known of grow from then on
abbrev pub arrive : {A : Type 0} → Place → A → Partial A → Partial A
arrive [] w p = item w
arrive (i ∷ q) w wanting = growing (with_part (arrive q w wanting) no_parts i)
arrive (i ∷ q) w (item v) = item v
arrive (i ∷ q) w (growing ps) = growing (with_part (arrive q w (part_of ps i)) ps i)
arrive (i ∷ q) w (closed ps) = closed (with_part (arrive q w (part_of ps i)) ps i)

-- the list at a place is closed with a length
abbrev pub close_here : {A : Type 0} → ℕ → Partial A → Partial A
close_here n wanting = closed (filled no_parts n)
close_here n (item v) = item v
close_here n (growing ps) = closed (filled ps n)
close_here n (closed ps) = closed ps

abbrev pub close_at : {A : Type 0} → Place → ℕ → Partial A → Partial A
close_at [] n p = close_here n p
close_at (i ∷ q) n wanting = growing (with_part (close_at q n wanting) no_parts i)
close_at (i ∷ q) n (item v) = item v
close_at (i ∷ q) n (growing ps) = growing (with_part (close_at q n (part_of ps i)) ps i)
close_at (i ∷ q) n (closed ps) = closed (with_part (close_at q n (part_of ps i)) ps i)

-- ---- where a change can be

-- an item may arrive: nothing stands there, and on the way no item, nor a closed list that is too short
abbrev pub CanArrive : {A : Type 0} → Place → Partial A → Type 0
CanArrive [] wanting = Unit {0}
CanArrive [] (item v) = ⊥
CanArrive [] (growing ps) = ⊥
CanArrive [] (closed ps) = ⊥
CanArrive (i ∷ q) wanting = Unit {0}
CanArrive (i ∷ q) (item v) = ⊥
CanArrive (i ∷ q) (growing ps) = CanArrive q (part_of ps i)
CanArrive (i ∷ q) (closed ps) = (i < part_count ps) × CanArrive q (part_of ps i)

-- a list may be closed with this length
abbrev pub CanClose : {A : Type 0} → Place → ℕ → Partial A → Type 0
CanClose [] n wanting = Unit {0}
CanClose [] n (item v) = ⊥
CanClose [] n (growing ps) = part_count ps ≤ n
CanClose [] n (closed ps) = ⊥
CanClose (i ∷ q) n wanting = Unit {0}
CanClose (i ∷ q) n (item v) = ⊥
CanClose (i ∷ q) n (growing ps) = CanClose q n (part_of ps i)
CanClose (i ∷ q) n (closed ps) = (i < part_count ps) × CanClose q n (part_of ps i)

-- there is such a place: no item stands on the way, nor a closed list that is too short
abbrev pub is_place : {A : Type 0} → Place → Partial A → Bool
is_place [] p = true
is_place (i ∷ q) wanting = true
is_place (i ∷ q) (item v) = false
is_place (i ∷ q) (growing ps) = is_place q (part_of ps i)
is_place (i ∷ q) (closed ps) = if nat_lt i (part_count ps) then is_place q (part_of ps i) else false

-- a list with these parts so far may be closed with that length
abbrev pub MayClose : {A : Type 0} → ℕ → Partial A → Type 0
MayClose n wanting = Unit {0}
MayClose n (item v) = ⊥
MayClose n (growing ps) = part_count ps ≤ n
MayClose n (closed ps) = ⊥
