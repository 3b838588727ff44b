-- What is told of a step.
use Rattle.std.specs.Prelude.{◌≡◌, ℕ, ◌<◌, ◌&&◌, nat_lt, true, Bool, List, [], ◌∷◌, Option, Some, length, option_map, slice_get, slice_index_or, refl}
use Rattle.std.specs.Cmp.Lexicographic.{slice_cmp}
use Rattle.std.specs.List.{list_all}
use Rattle.std.specs.Option.{option_map_or}
use Rattle.std.specs.Ordering.{is_lt, nat_cmp}
use Rattle.std.proofs.Common.{arith, ap, subst, sym, ◌∙◌, inl, inr}
use Rattle.std.proofs.lemmas.Bool.{lt-ltb}
use Rattle.std.proofs.lemmas.Option.{slice_get_read, slice_get_within}
use Rattle.tv_seats.specs.declared.stage.Stage.{Stage}
use Rattle.tv_seats.specs.declared.steps.StepSeats.{StepSeats}
use Rattle.tv_seats.specs.Firsts.{IsFirstAsideOf, IsFirstOf}
use Rattle.tv_seats.specs.Kept.{AreJobsAt, AreKept, AreNumbersAt, IsJobAt, IsOneOf, IsSeatAt, StepIsKept, all_levels, numbers_of}
use Rattle.tv_seats.specs.Nested.{AreNested, StandsBehind, is_before}
use Rattle.tv_seats.specs.Seats.{Seat, place_at}
use Rattle.tv_seats.specs.Stages.{is_aside, is_idle, is_nested}
use Rattle.tv_seats.specs.Tables.{Rows}
use Rattle.tv_seats.proofs.Keeping.{many-levels}
use Rattle.tv_seats.proofs.Listing.{IsPlaced, Job, earlier-before, first-is, get-one, lt, none-at, number-of, number-there, one-at}
use Rattle.tv_seats.proofs.Staging.{some-same}
use Rattle.tv_seats.proofs.Telling.{aside-is, idle-is, is-first-aside, is-first-idle, is-nested, nested-is}

module _ (t : Rows) (steps : List StepSeats) (out : ℕ) (kept : AreKept t steps out) (k : ℕ) (y : StepSeats) where
  pub step-of : k < length (all_levels steps) → y ≡ slice_index_or steps k y → slice_get steps k ≡ Some y
  step-of l e = let a = many-levels steps in slice_get_read steps (length steps) k y refl (omega (arith, a, l)) e

  pub kept-of : k < length (all_levels steps) → y ≡ slice_index_or steps k y → StepIsKept t.seats k y
  kept-of l e = kept.each k y (step-of l e)

pub first-of : (seats : List Seat) (k : ℕ) (js : List Job) (o : Option ℕ) → AreJobsAt is_idle seats k js
    → o ≡ option_map (λ j. j.0) (slice_get js 0) → IsFirstOf seats k o
first-of seats k [] o a e = subst (IsFirstOf seats k) (sym e) (λ n s i. none-at is_idle seats k n s a (idle-is seats k n s i))
first-of seats k (j ∷ js) o a e = subst (IsFirstOf seats k) (sym e) (is-first-idle seats k j.0 (first-is is_idle seats k j js a))

pub first-aside-of : (seats : List Seat) (k : ℕ) (js : List Job) (o : Option ℕ) → AreJobsAt is_aside seats k js
    → o ≡ option_map (λ j. j.0) (slice_get js 0) → IsFirstAsideOf seats k o
first-aside-of seats k [] o a e = subst (IsFirstAsideOf seats k) (sym e) (λ n s i. none-at is_aside seats k n s a (aside-is seats k n s i))
first-aside-of seats k (j ∷ js) o a e = subst (IsFirstAsideOf seats k) (sym e) (is-first-aside seats k j.0 (first-is is_aside seats k j js a))

-- ---- open flows

pub place-there : (seats : List Seat) (n : ℕ) (s : Seat) → slice_get seats n ≡ Some s → place_at seats n ≡ s.place
place-there seats n s e = ap (λ o. option_map_or (λ (s : Seat). s.place) o []) e

-- a number's seat, by its job
numbered : (p : Stage → Bool) (seats : List Seat) (k n : ℕ) (j : Job) → IsJobAt p seats k j → j.0 ≡ n → (s : Seat) × IsSeatAt p seats k n s × (s.place ≡ j.1)
numbered p seats k n j i is = (
  i.0,
  record { there = ap (slice_get seats) (sym is) ∙ i.1.there; of_step = i.1.of_step; stands = i.1.stands },
  i.2,
)

pub nested-of : (seats : List Seat) (k : ℕ) (ns : List ℕ) → AreNumbersAt is_nested seats k ns → AreNested seats k ns
nested-of seats k ns a = record {
  nested = λ i n e.
      let j = job i n e in
      let s = numbered is_nested seats k n j.0 (a.are.each j.0 (get-one a.jobs i j.0 j.1)) j.2 in
      (s.0, is-nested seats k n s.0 s.1);
  all = λ n s i.
      let o = one-at a.jobs (n, s.place) (a.are.all (n, s.place) (s, nested-is seats k n s i, refl)) in
      (o.0, ap (λ l. slice_get l o.0) a.numbers ∙ number-there a.jobs o.0 (n, s.place) o.1);
  in_order = λ i j n m s t e f g h l.
      let x = job i n e in
      let y = job j m f in
      let u = numbered is_nested seats k n x.0 (a.are.each x.0 (get-one a.jobs i x.0 x.1)) x.2 in
      let v = numbered is_nested seats k m y.0 (a.are.each y.0 (get-one a.jobs j y.0 y.1)) y.2 in
      let first : s.place ≡ x.0.1 = ap (λ (s : Seat). s.place) (some-same (sym g.there ∙ u.1.there)) ∙ u.2 in
      let second : t.place ≡ y.0.1 = ap (λ (s : Seat). s.place) (some-same (sym h.there ∙ v.1.there)) ∙ v.2 in
      ap (λ q. is_lt (slice_cmp nat_cmp q t.place)) first
      ∙ ap (λ q. is_lt (slice_cmp nat_cmp x.0.1 q)) second
      ∙ earlier-before a.jobs i j x.0 y.0 a.are.in_order l x.1 y.1;
}
  where
    job : (i n : ℕ) → slice_get ns i ≡ Some n → (j : Job) × (slice_get a.jobs i ≡ Some j) × (j.0 ≡ n)
    job i n e = number-of a.jobs i n (ap (λ l. slice_get l i) (sym a.numbers) ∙ e)

-- they all have seats
pub numbers-within : (p : Stage → Bool) (seats : List Seat) (k : ℕ) (ns : List ℕ) → AreNumbersAt p seats k ns
    → list_all (λ n. nat_lt n (length seats)) ns ≡ true
numbers-within p seats k ns a =
    ap (list_all (λ n. nat_lt n (length seats))) a.numbers ∙ by a.jobs (λ j o. let i = a.are.each j o in (i.0, i.1.there))
  where
    by : (js : List Job) → ((j : Job) → (o : IsOneOf j js) → (s : Seat) × (slice_get seats j.0 ≡ Some s)) → list_all (λ n. nat_lt n (length seats)) (numbers_of js) ≡ true
    by [] h = refl
    by (j ∷ js) h =
        let f = h j (inl refl) in
        ap (λ b. b && list_all (λ n. nat_lt n (length seats)) (numbers_of js)) (lt-ltb j.0 (length seats) (slice_get_within seats j.0 f.0 f.1))
        ∙ by js (λ m o. h m (inr o))

-- the position of a job among them is that of its number
pub placed-among : (p : Stage → Bool) (seats : List Seat) (k : ℕ) (ns : List ℕ) (a : AreNumbersAt p seats k ns) (n : ℕ) (s : Seat) (q : ℕ)
    → slice_get seats n ≡ Some s → StandsBehind seats ns n q → IsPlaced a.jobs (n, s.place) q
placed-among p seats k ns a n s q there w = record {
  before = λ i m l e. same i m e ∙ w.before i m.0 l (number i m e);
  behind = λ m e. same q m e ∙ w.behind m.0 (number q m e);
}
  where
    number : (i : ℕ) (m : Job) → slice_get a.jobs i ≡ Some m → slice_get ns i ≡ Some m.0
    number i m e = ap (λ l. slice_get l i) a.numbers ∙ number-there a.jobs i m e

    same : (i : ℕ) (m : Job) → slice_get a.jobs i ≡ Some m → lt m (n, s.place) ≡ is_before seats m.0 n
    same i m e =
        let f = a.are.each m (get-one a.jobs i m e) in
        ap (λ o. is_lt (slice_cmp nat_cmp o s.place)) (sym (place-there seats m.0 f.0 f.1.there ∙ f.2))
        ∙ ap (λ o. is_lt (slice_cmp nat_cmp (place_at seats m.0) o)) (sym (place-there seats n s there))
