-- One job after another sits down.
use Rattle.std.specs.Prelude.{◌≡◌, refl, ℕ, ◌+◌, ◌-◌, ◌<◌, [], ◌∷◌, ◌++◌, Some, drop, length, map, slice_get}
use Rattle.std.proofs.Common.{sym, ap, subst, ◌∙◌, arith}
use Rattle.std.proofs.lemmas.List.{append_assoc, length-append, map-append}
use Rattle.std.proofs.lemmas.Option.{slice_get_within}
use Rattle.tv_lemmas.proofs.Lists.{get-within, in-front, get-map}
use Rattle.tv_value.specs.Nested.{Place}
use Rattle.tv_intake.specs.Intaken.{known_jobs}
use Rattle.tv_intake.proofs.SortingLemmas.{drop-next}
use Rattle.tv_frame.specs.declared.frame.Frame.{Frame}
use Rattle.tv_seats.specs.Seats.{IsFree, Seat, Seated, levels_of}
use Rattle.tv_instances.specs.Seating.{CanSit, seat_for, unseated}
use Rattle.tv_instances.specs.Standing.{job_of}

-- so many sit, and with the others they are those that are to sit
pub record AreSitting (f : Frame) (x y : Seated) (number : ℕ) : Type 0 where
  pub can : CanSit f y
  pub many : number ≡ length y.seats
  pub levels : y.levels ≡ x.levels
  pub back_rooms : y.back_rooms ≡ x.back_rooms
  pub seats : y.seats ++ map seat_for (unseated f y.seats) ≡ x.seats ++ map seat_for (unseated f x.seats)

module _ (f : Frame) (x : Seated) (can : CanSit f x) where
  sits-at : (n : ℕ) (s : Seat) → slice_get x.seats n ≡ Some s → slice_get (known_jobs f.intakes) n ≡ Some (job_of s)
  sits-at n s e =
      ap (λ l. slice_get l n) (sym can.first)
      ∙ in-front (map job_of x.seats) (unseated f x.seats) n (job_of s) (get-map job_of x.seats n s e)

  -- no seat is where the next job is
  pub next-free : (m : ℕ) (j : ℕ × Place) → m ≡ length x.seats → slice_get (known_jobs f.intakes) m ≡ Some j
      → IsFree x.seats j.0 j.1
  next-free m j many there n s e p q =
      let same : n ≡ m = can.apart n m (job_of s) j (sits-at n s e) there (λ i. (p i, q i)) in
      let low = slice_get_within x.seats n s e in
      absurd (omega (arith, low, same, many))

  -- ---- the next sits down

  module _ (y : Seated) (j : ℕ × Place) (there : slice_get (known_jobs f.intakes) (length x.seats) ≡ Some j)
      (seats : y.seats ≡ x.seats ++ seat_for j ∷ []) (levels : y.levels ≡ x.levels) (room : y.room ≡ x.room - 1) where
    one-more : length y.seats ≡ length x.seats + 1
    one-more = ap length seats ∙ length-append x.seats (seat_for j ∷ [])

    -- it was the first of those without a seat
    first-unseated : unseated f x.seats ≡ j ∷ unseated f y.seats
    first-unseated =
        drop-next (known_jobs f.intakes) (length x.seats) j there
        ∙ ap (λ n. j ∷ drop n (known_jobs f.intakes)) (sym one-more)

    next-can : CanSit f y
    next-can = record {
      steps = λ n i e l. subst (λ ls. (i.0 < length ls) × (length i.1 ≡ levels_of ls i.0)) (sym levels)
          (can.steps n i e (omega (arith, l, one-more)));
      apart = can.apart;
      first =
          ap (λ l. map job_of l ++ unseated f y.seats) seats
          ∙ ap (λ l. l ++ unseated f y.seats) (map-append job_of x.seats (seat_for j ∷ []))
          ∙ append_assoc (map job_of x.seats) (j ∷ []) (unseated f y.seats)
          ∙ ap (λ l. map job_of x.seats ++ l) (sym first-unseated)
          ∙ can.first;
      room = let l = slice_get_within (known_jobs f.intakes) (length x.seats) j there in omega (arith, l, can.room, one-more, room);
    }

    same-all : y.seats ++ map seat_for (unseated f y.seats) ≡ x.seats ++ map seat_for (unseated f x.seats)
    same-all =
        ap (λ l. l ++ map seat_for (unseated f y.seats)) seats
        ∙ append_assoc x.seats (seat_for j ∷ []) (map seat_for (unseated f y.seats))
        ∙ ap (λ l. x.seats ++ map seat_for l) (sym first-unseated)

-- at first none more sits
pub first-sitting : (f : Frame) (x : Seated) (number : ℕ) → CanSit f x → number ≡ length x.seats → AreSitting f x x number
first-sitting f x number can e = record { can = can; many = e; levels = refl; back_rooms = refl; seats = refl }

-- one more sits
pub next-sitting :
    (f : Frame) (x y z : Seated) (number : ℕ) → AreSitting f x y number → number < length (known_jobs f.intakes)
    → ((j : ℕ × Place) → slice_get (known_jobs f.intakes) number ≡ Some j → z.seats ≡ y.seats ++ seat_for j ∷ [])
    → z.levels ≡ y.levels → z.room ≡ y.room - 1 → z.back_rooms ≡ y.back_rooms → AreSitting f x z (number + 1)
next-sitting f x y z number s low seats levels room back =
    let j = get-within (known_jobs f.intakes) number low in
    let there = subst (λ n. slice_get (known_jobs f.intakes) n ≡ Some j.0) s.many j.1 in
    let own = seats j.0 j.1 in
    record {
      can = next-can f y s.can z j.0 there own levels room;
      many = ap (λ n. n + 1) s.many ∙ sym (one-more f y s.can z j.0 there own levels room);
      levels = levels ∙ s.levels;
      back_rooms = back ∙ s.back_rooms;
      seats = same-all f y s.can z j.0 there own levels room ∙ s.seats;
    }
