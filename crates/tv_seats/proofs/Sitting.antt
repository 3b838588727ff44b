-- One more job sits down.
use Rattle.std.specs.Prelude.{◌≡◌, ℕ, ◌-◌, ◌<◌, ◌≤◌, ◌&&◌, ◌==◌, ◌++◌, Bool, true, false, List, [], ◌∷◌, length, refl}
use Rattle.std.proofs.Common.{arith, ap, subst, sym, ◌∙◌, inl, inr, length-append}
use Rattle.tv_seats.specs.declared.stage.Stage.{Stage}
use Rattle.tv_seats.specs.declared.stage.Stage.TheVariants as stage
use Rattle.tv_seats.specs.declared.steps.StepSeats.{StepSeats}
use Rattle.tv_seats.specs.Kept.{AreApart, AreJobsAt, AreKept, AreOfSteps, IsSeatAt, StepIsKept, all_levels}
use Rattle.tv_seats.specs.Seats.{IsFree, Seat, count_at, levels_of, new_seat, seats_out}
use Rattle.tv_seats.specs.Stages.{is_aside, is_idle, is_nested, is_out, runs}
use Rattle.tv_seats.specs.Tables.{Rows}
use Rattle.tv_seats.proofs.Staging.{count-last, one}
use Rattle.tv_lemmas.proofs.Lists.{in-front, get-last}

module _ (seats : List Seat) (k : ℕ) (q : List ℕ) where
  abbrev after : List Seat
  after = seats ++ new_seat k q ∷ []

  module _ (p : Stage → Bool) (waits : p stage.Waiting ≡ false) where
    at-before : (l n : ℕ) (s : Seat) → IsSeatAt p after l n s → IsSeatAt p seats l n s
    at-before l n s i =
        elim (get-last seats (new_seat k q) n s i.there) [
          | inl h ↦ record { there = h; of_step = i.of_step; stands = i.stands }
          | inr h ↦ let bad : true ≡ false = sym i.stands ∙ ap (λ (s : Seat). p s.stage) h.1 ∙ waits in cc
        ]

    at-after : (l n : ℕ) (s : Seat) → IsSeatAt p seats l n s → IsSeatAt p after l n s
    at-after l n s i = record {
      there = in-front seats (new_seat k q ∷ []) n s i.there;
      of_step = i.of_step;
      stands = i.stands;
    }

    jobs-still : (l : ℕ) (js : List (ℕ × List ℕ)) → AreJobsAt p seats l js → AreJobsAt p after l js
    jobs-still l js a = record {
      in_order = a.in_order;
      each = λ j o. let i = a.each j o in (i.0, at-after l j.0 i.0 i.1, i.2);
      all = λ j i. a.all j (i.0, at-before l j.0 i.0 i.1, i.2);
    }

  count-same : (p : Stage → Bool) (l : ℕ) → p stage.Waiting ≡ false → count_at p l after ≡ count_at p l seats
  count-same p l e =
      let c = count-last (λ (s : Seat). (s.step == l) && p s.stage) seats (new_seat k q) in
      let z : one ((k == l) && p stage.Waiting) ≡ 0 = ap (λ b. one ((k == l) && b)) e ∙ none (k == l) in
      omega (arith, c, z)
    where
      none : (b : Bool) → one (b && false) ≡ 0
      none true = refl
      none false = refl

  step-still : (l : ℕ) (y : StepSeats) → StepIsKept seats l y → StepIsKept after l y
  step-still l y kept = record {
    idle = jobs-still is_idle refl l y.idle.jobs kept.idle;
    aside = jobs-still is_aside refl l y.aside.jobs kept.aside;
    nested = record { jobs = kept.nested.jobs; numbers = kept.nested.numbers; are = jobs-still is_nested refl l kept.nested.jobs kept.nested.are };
    levels = kept.levels;
    room = kept.room;
    running = kept.running ∙ sym (count-same runs l refl);
    out = kept.out ∙ sym (count-same is_out l refl);
  }

  apart-still : IsFree seats k q → AreApart seats → AreApart after
  apart-still free a n m s t e f step place =
      elim (get-last seats (new_seat k q) n s e) [
        | inl g ↦
            elim (get-last seats (new_seat k q) m t f) [
              | inl h ↦ a n m s t g h step place
              | inr h ↦ absurd (free n s g (step ∙ ap (λ (t : Seat). t.step) h.1) (place ∙ ap (λ (t : Seat). t.place) h.1))
            ]
        | inr g ↦
            elim (get-last seats (new_seat k q) m t f) [
              | inl h ↦
                  absurd (free m t h (sym step ∙ ap (λ (t : Seat). t.step) g.1) (sym place ∙ ap (λ (t : Seat). t.place) g.1))
              | inr h ↦ g.0 ∙ sym h.0
            ]
      ]

  of-steps-still : (levels : List ℕ) → k < length levels → length q ≡ levels_of levels k → AreOfSteps levels seats → AreOfSteps levels after
  of-steps-still levels step long a n s e =
      elim (get-last seats (new_seat k q) n s e) [
        | inl h ↦ a n s h
        | inr h ↦ (
          subst (λ l. l < length levels) (sym (ap (λ (s : Seat). s.step) h.1)) step,
          ap (λ (s : Seat). length s.place) h.1 ∙ long ∙ ap (λ (s : Seat). levels_of levels s.step) (sym h.1),
        )
      ]

-- the seat of table u that t hasn't
pub kept-sat : (t u : Rows) (steps : List StepSeats) (out k : ℕ) (q : List ℕ)
    → u.seats ≡ t.seats ++ new_seat k q ∷ []
    → u.widest ≡ t.widest
    → u.room ≡ t.room - 1
    → 0 < t.room
    → k < length (all_levels steps)
    → length q ≡ levels_of (all_levels steps) k
    → IsFree t.seats k q
    → AreKept t steps out
    → AreKept u steps out
kept-sat t u steps out k q seats widest room some step long free kept = record {
  each = λ l y e. subst (λ ss. StepIsKept ss l y) (sym seats) (step-still t.seats k q l y (kept.each l y e));
  of_steps = subst (AreOfSteps (all_levels steps)) (sym seats) (of-steps-still t.seats k q (all_levels steps) step long kept.of_steps);
  apart = subst AreApart (sym seats) (apart-still t.seats k q free kept.apart);
  wide = λ l. subst (λ w. levels_of (all_levels steps) l ≤ w) (sym widest) (kept.wide l);
  outs =
      let c = count-last (λ (s : Seat). is_out s.stage) t.seats (new_seat k q) in
      let e = ap seats_out seats in
      let o = kept.outs in
      omega (arith, c, e, o);
  numbers =
      let a = kept.numbers in
      let b = ap length seats ∙ length-append t.seats (new_seat k q ∷ []) in
      omega (arith, a, b, room, some);
}
