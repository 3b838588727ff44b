-- Seats at a stage, in the words of the contracts.
use Rattle.std.specs.Prelude.{ℕ, List}
use Rattle.tv_seats.specs.Firsts.{IsAsideSeat, IsFirstAside, IsFirstIdle, IsIdleSeat}
use Rattle.tv_seats.specs.Kept.{IsSeatAt}
use Rattle.tv_seats.specs.Nested.{IsNestedSeat}
use Rattle.tv_seats.specs.Seats.{Seat}
use Rattle.tv_seats.specs.Stages.{is_aside, is_idle, is_nested}
use Rattle.tv_seats.proofs.Listing.{IsFirstAt}

module _ (seats : List Seat) (k : ℕ) where
  pub idle-is : (n : ℕ) (s : Seat) → IsIdleSeat seats k n s → IsSeatAt is_idle seats k n s
  idle-is n s i = record { there = i.there; of_step = i.of_step; stands = i.idle }

  is-idle : (n : ℕ) (s : Seat) → IsSeatAt is_idle seats k n s → IsIdleSeat seats k n s
  is-idle n s i = record { there = i.there; of_step = i.of_step; idle = i.stands }

  pub aside-is : (n : ℕ) (s : Seat) → IsAsideSeat seats k n s → IsSeatAt is_aside seats k n s
  aside-is n s i = record { there = i.there; of_step = i.of_step; stands = i.aside }

  is-aside : (n : ℕ) (s : Seat) → IsSeatAt is_aside seats k n s → IsAsideSeat seats k n s
  is-aside n s i = record { there = i.there; of_step = i.of_step; aside = i.stands }

  pub nested-is : (n : ℕ) (s : Seat) → IsNestedSeat seats k n s → IsSeatAt is_nested seats k n s
  nested-is n s i = record { there = i.there; of_step = i.of_step; stands = i.nested }

  pub is-nested : (n : ℕ) (s : Seat) → IsSeatAt is_nested seats k n s → IsNestedSeat seats k n s
  is-nested n s i = record { there = i.there; of_step = i.of_step; nested = i.stands }

  pub first-idle-is : (n : ℕ) → IsFirstIdle seats k n → IsFirstAt is_idle seats k n
  first-idle-is n f = record { seat = f.seat; is = idle-is n f.seat f.is; first = λ m t i. f.first m t (is-idle m t i) }

  pub is-first-idle : (n : ℕ) → IsFirstAt is_idle seats k n → IsFirstIdle seats k n
  is-first-idle n f = record { seat = f.seat; is = is-idle n f.seat f.is; first = λ m t i. f.first m t (idle-is m t i) }

  pub first-aside-is : (n : ℕ) → IsFirstAside seats k n → IsFirstAt is_aside seats k n
  first-aside-is n f = record { seat = f.seat; is = aside-is n f.seat f.is; first = λ m t i. f.first m t (is-aside m t i) }

  pub is-first-aside : (n : ℕ) → IsFirstAt is_aside seats k n → IsFirstAside seats k n
  is-first-aside n f = record { seat = f.seat; is = is-aside n f.seat f.is; first = λ m t i. f.first m t (aside-is m t i) }
