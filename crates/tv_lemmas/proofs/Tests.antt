-- What one of two tests says, and tests that can't be.
use Rattle.std.specs.Prelude.{◌≡◌, refl, ℕ, ◌<◌, Bool, true, false, if◌then◌else◌, nat_lt, ◌&&◌}
use Rattle.std.proofs.Common.{sym}
use Rattle.std.proofs.lemmas.Bool.{ltb-true, true≢false}

pub from-true_false : {A : Type 0} → true ≡ false → A
from-true_false h = absurd (true≢false h)

pub from-false_true : {A : Type 0} → false ≡ true → A
from-false_true h = absurd (true≢false (sym h))

-- where one fails, both don't pass
pub and-left_false : (a b : Bool) → a ≡ false → (a && b) ≡ false
and-left_false true b h = absurd (true≢false h)
and-left_false false b h = refl

pub and-right_false : (a b : Bool) → b ≡ false → (a && b) ≡ false
and-right_false true b h = h
and-right_false false b h = refl

pub less-if : (i n : ℕ) (b : Bool) → (if nat_lt i n then b else false) ≡ true → (i < n) × (b ≡ true)
less-if i n b h = by (nat_lt i n) refl h
  where
    by : (c : Bool) → nat_lt i n ≡ c → (if c then b else false) ≡ true → (i < n) × (b ≡ true)
    by true e k = (ltb-true i n e, k)
    by false e k = absurd (true≢false (sym k))
