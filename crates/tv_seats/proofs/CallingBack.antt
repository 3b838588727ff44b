-- All jobs that are out are idle again, one after the other.
use Rattle.std.specs.Prelude.{◌≡◌, ◌≢◌, ℕ, zero, suc, ◌+◌, ◌-◌, ◌<◌, ◌≤◌, ◌&&◌, ◌==◌, ◌⊎◌, Bool, true, false, List, [], ◌∷◌, Option, Some, None, length, map, option_map, slice_get, slice_set, refl}
use Rattle.std.specs.Option.{option_map_or}
use Rattle.std.proofs.Common.{arith, ap, subst, sym, ◌∙◌, inl, inr}
use Rattle.std.proofs.lemmas.Bool.{eq-eqb, eqb-true}
use Rattle.std.proofs.lemmas.List.{get_or-set_other, get_or-set_same}
use Rattle.tv_seats.specs.declared.stage.Stage.{Stage}
use Rattle.tv_seats.specs.declared.stage.Stage.TheVariants as stage
use Rattle.tv_seats.specs.declared.steps.StepSeats.{StepSeats}
use Rattle.tv_seats.specs.Kept.{AreKept, all_aside_rooms, all_levels, all_nested_rooms, all_rooms}
use Rattle.tv_seats.specs.Seats.{Seat, Seated, HasBackRooms, back, back_room, count_at, stage_at, staged, step_at, with_back, with_stage}
use Rattle.tv_seats.specs.Stages.{called_back, is_out}
use Rattle.tv_seats.specs.Tables.{Rows}
use Rattle.tv_seats.proofs.Keeping.{count-after, count-here, step-there}
use Rattle.tv_seats.proofs.Staging.{one, set-same, some-same}

-- ---- one of them

-- the seat at that stage
pub seat-at : (seats : List Seat) (n : ℕ) (x : Stage) → Some x ≡ stage_at seats n → (s : Seat) × (slice_get seats n ≡ Some s) × (s.stage ≡ x)
seat-at seats n x h = by (slice_get seats n) refl h
  where
    by : (o : Option Seat) → slice_get seats n ≡ o → Some x ≡ option_map (λ s. s.stage) o → (s : Seat) × (slice_get seats n ≡ Some s) × (s.stage ≡ x)
    by None e h = cc
    by (Some s) e h = (s, e, sym (some-same h))

-- nothing changes where it isn't out
pub stays : (seats : List Seat) (n : ℕ) (x : Stage) → Some x ≡ stage_at seats n → ((a t : ℕ) → x ≡ stage.Out a t → ⊥) → seats ≡ with_back n seats
stays seats n x h not_out =
    let f = seat-at seats n x h in
    let same : back f.0 ≡ f.0 = ap (λ y. staged y f.0) (ap called_back f.2 ∙ still x not_out ∙ sym f.2) in
    sym (
    ap (λ o. option_map_or (λ s. slice_set seats n (back s)) o seats) f.1
    ∙ ap (slice_set seats n) same
    ∙ set-same seats n f.0 f.1)
  where
    still : (y : Stage) → ((a t : ℕ) → y ≡ stage.Out a t → ⊥) → called_back y ≡ y
    still stage.Waiting g = refl
    still (stage.Out a t) g = absurd (g a t refl)
    still (stage.Idle a t) g = refl
    still (stage.Aside a) g = refl
    still (stage.Nested i) g = refl
    still stage.Settled g = refl

pub many-rooms : (xs : List StepSeats) → length (all_rooms xs) ≡ length (all_levels xs)
many-rooms [] = refl
many-rooms (x ∷ xs) = ap suc (many-rooms xs)

-- what is seen of all that is kept
abbrev pub seen : Rows → List StepSeats → Seated
seen t steps = record {
  seats = t.seats;
  levels = all_levels steps;
  room = t.room;
  back_rooms = all_rooms steps;
  aside_rooms = all_aside_rooms steps;
  nested_rooms = all_nested_rooms steps;
}

module _ (t : Rows) (steps : List StepSeats) (out : ℕ) (kept : AreKept t steps out) (n a b : ℕ) (rooms : HasBackRooms (seen t steps)) (at : Some (stage.Out a b) ≡ stage_at t.seats n) where
  abbrev seat : Seat
  seat = (seat-at t.seats n (stage.Out a b) at).0

  there : slice_get t.seats n ≡ Some seat
  there = (seat-at t.seats n (stage.Out a b) at).1

  step : step_at t.seats n ≡ seat.step
  step = step-there t.seats n seat there

  is : one (is_out seat.stage) ≡ 1
  is = ap (λ x. one (is_out x)) (seat-at t.seats n (stage.Out a b) at).2

  inside : seat.step < length (all_levels steps)
  inside = (kept.of_steps n seat there).0

  -- there is room for it
  pub has-room : 0 < back_room (all_rooms steps) (step_at t.seats n)
  has-room =
      let c = count-here t.seats n seat (stage.Idle a b) there is_out in
      let r = rooms seat.step inside in
      subst (λ k. 0 < back_room (all_rooms steps) k) (sym step) (omega (arith, c, r, is))

  -- and for the others afterwards
  pub rooms-left : (v : Seated) → v.seats ≡ with_stage n (stage.Idle a b) t.seats → v.levels ≡ all_levels steps
      → v.back_rooms ≡ slice_set (all_rooms steps) (step_at t.seats n) (back_room (all_rooms steps) (step_at t.seats n) - 1)
      → HasBackRooms v
  rooms-left v seats levels back_rooms k low =
      let l : k < length (all_levels steps) = subst (λ ls. k < length ls) levels low in
      subst (λ m. m ≤ back_room v.back_rooms k) (sym (ap (count_at is_out k) seats))
      (subst (λ rs. count_at is_out k (with_stage n (stage.Idle a b) t.seats) ≤ back_room rs k)
      (sym (back_rooms ∙ ap (λ j. slice_set (all_rooms steps) j (back_room (all_rooms steps) j - 1)) step))
      (by (k == seat.step) refl l))
    where
      left : ℕ
      left = back_room (all_rooms steps) seat.step - 1

      by : (e : Bool) → (k == seat.step) ≡ e → k < length (all_levels steps)
          → count_at is_out k (with_stage n (stage.Idle a b) t.seats) ≤ back_room (slice_set (all_rooms steps) seat.step left) k
      by true e l =
          let same : k ≡ seat.step = eqb-true k seat.step e in
          let many = many-rooms steps in
          let c = count-here t.seats n seat (stage.Idle a b) there is_out in
          let r = rooms seat.step inside in
          let i = inside in
          let w = get_or-set_same (all_rooms steps) seat.step left 0 (omega (arith, many, i)) in
          subst (λ j. count_at is_out j (with_stage n (stage.Idle a b) t.seats) ≤ back_room (slice_set (all_rooms steps) seat.step left) j) (sym same)
          (omega (arith, c, r, is, w))
      by false e l =
          let ne : k ≢ seat.step = λ same. let f : false ≡ true = sym e ∙ eq-eqb k seat.step same in cc in
          let w = get_or-set_other (all_rooms steps) seat.step k left 0 ne in
          let c = other (seat.step == k) refl (count-after t.seats n seat (stage.Idle a b) there is_out k) in
          let r = rooms k l in
          omega (arith, c, r, w)
        where
          other : (f : Bool) → (seat.step == k) ≡ f
              → count_at is_out k (with_stage n (stage.Idle a b) t.seats) + one (f && is_out seat.stage) ≡ count_at is_out k t.seats + one (f && false)
              → count_at is_out k (with_stage n (stage.Idle a b) t.seats) ≡ count_at is_out k t.seats
          other true f h = let same : true ≡ false = sym (eq-eqb k seat.step (sym (eqb-true seat.step k f))) ∙ e in cc
          other false f h = omega (arith, h)

-- ---- rooms, taken for one step after the other

module _ (rooms after : List ℕ) (n c : ℕ) (outs : ℕ → ℕ) (are : after ≡ slice_set rooms n c) (taken : back_room after n ≡ c) (is : c ≡ outs n) where
  at-step : (k : ℕ) → (back_room after k ≡ outs k) ⊎ (back_room after k ≡ back_room rooms k)
  at-step k = by (k == n) refl
    where
      by : (e : Bool) → (k == n) ≡ e → (back_room after k ≡ outs k) ⊎ (back_room after k ≡ back_room rooms k)
      by true e = let same : k ≡ n = eqb-true k n e in inl (ap (back_room after) same ∙ taken ∙ is ∙ ap outs (sym same))
      by false e =
          let ne : k ≢ n = λ same. let f : false ≡ true = sym e ∙ eq-eqb k n same in cc in
          inr (ap (λ rs. back_room rs k) are ∙ get_or-set_other rooms n k c 0 ne)

  pub reserved-more : ((k : ℕ) → k < n → outs k ≤ back_room rooms k) → (k : ℕ) → k < n + 1 → outs k ≤ back_room after k
  reserved-more before k low = by (k == n) refl
    where
      by : (e : Bool) → (k == n) ≡ e → outs k ≤ back_room after k
      by true e =
          let same : k ≡ n = eqb-true k n e in
          let all : back_room after k ≡ outs k = ap (back_room after) same ∙ taken ∙ is ∙ ap outs (sym same) in
          omega (arith, all)
      by false e =
          let ne : k ≢ n = λ same. let f : false ≡ true = sym e ∙ eq-eqb k n same in cc in
          let b = before k (omega (arith, low, ne)) in
          elim (at-step k) [
            | inl h ↦ omega (arith, h)
            | inr h ↦ omega (arith, h, b)
          ]

  pub reserved-as : (first : List ℕ) → ((k : ℕ) → (back_room rooms k ≡ back_room first k) ⊎ (back_room rooms k ≡ outs k))
      → (k : ℕ) → (back_room after k ≡ back_room first k) ⊎ (back_room after k ≡ outs k)
  reserved-as first before k =
      elim (at-step k) [
        | inl h ↦ inr h
        | inr h ↦
            elim (before k) [
              | inl b ↦ inl (h ∙ b)
              | inr b ↦ inr (h ∙ b)
            ]
      ]

-- ---- all of them

-- the first n
abbrev pub backed : ℕ → List Seat → List Seat
backed zero seats = seats
backed (suc n) [] = []
backed (suc n) (s ∷ seats) = back s ∷ backed n seats

pub backed-long : (n : ℕ) (seats : List Seat) → length (backed n seats) ≡ length seats
backed-long zero seats = refl
backed-long (suc n) [] = refl
backed-long (suc n) (s ∷ seats) = ap suc (backed-long n seats)

pub backed-all : (seats : List Seat) → backed (length seats) seats ≡ map back seats
backed-all [] = refl
backed-all (s ∷ seats) = ap (λ l. back s ∷ l) (backed-all seats)

-- one more
pub backed-more : (n : ℕ) (seats : List Seat) → n < length seats → with_back n (backed n seats) ≡ backed (n + 1) seats
backed-more n seats l = more n seats l ∙ (let e : suc n ≡ n + 1 = omega arith in ap (λ m. backed m seats) e)
  where
    deeper : (s : Seat) (n : ℕ) (seats : List Seat) → with_back (suc n) (s ∷ seats) ≡ s ∷ with_back n seats
    deeper s n seats = by (slice_get seats n)
      where
        by : (o : Option Seat) → option_map_or (λ t. s ∷ slice_set seats n (back t)) o (s ∷ seats) ≡ s ∷ option_map_or (λ t. slice_set seats n (back t)) o seats
        by None = refl
        by (Some t) = refl

    more : (n : ℕ) (seats : List Seat) → n < length seats → with_back n (backed n seats) ≡ backed (suc n) seats
    more n [] l = absurd (omega arith)
    more zero (s ∷ seats) l = refl
    more (suc n) (s ∷ seats) l = deeper (back s) n (backed n seats) ∙ ap (λ l. back s ∷ l) (more n seats (omega arith))
