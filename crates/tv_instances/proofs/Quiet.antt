-- The steps that are passed stay quiet: a job that has begun stays so, and one that goes on next isn't at a step that is passed.
use Rattle.std.specs.Option.{option_map_or}
use Rattle.std.specs.Prelude.{◌≡◌, ◌⊎◌, refl, ℕ, ◌<◌, ◌≤◌, Bool, true, false, nat_lt, ◌||◌, List, [], ◌∷◌, ◌++◌, Option, None, Some, length, slice_get, slice_set}
use Rattle.std.proofs.Common.{ap, arith, subst, sym, ◌∙◌}
use Rattle.std.proofs.lemmas.Bool.{ltb-false, ltb-true, true≢false, cases_eq}
use Rattle.std.proofs.lemmas.Option.{same_Some}
use Rattle.tv_lemmas.proofs.Cases.{on_either, on_test}
use Rattle.tv_lemmas.proofs.Lists.{get-within, in-front}
use Rattle.tv_value.specs.Nested.{Place}
use Rattle.tv_value.specs.Values.{Name}
use Rattle.tv_flow.specs.Flows.{Flow, Step}
use Rattle.tv_model.specs.instance.Events.{Event, Events, gives_at, has_result, is_taken, takes_at}
use Rattle.tv_frame.specs.FramingViews.{View}
use Rattle.tv_frame.specs.turns.FirstReady.{by_falling_rank}
use Rattle.tv_seats.specs.Seats.{Seat, staged, step_at, with_stage}
use Rattle.tv_seats.specs.declared.stage.Stage.{Stage}
use Rattle.tv_seats.proofs.Staging.{staged-here, staged-other}
use Rattle.tv_forest.specs.seats.Seated.{spot_of}
use Rattle.tv_instances.specs.Firsts.{IsReadySeat}
use Rattle.tv_instances.specs.Quiet.{AreQuiet, has_begun, is_calm}
use Rattle.tv_instances.specs.Turns.{AreTurns, turn_of}
use Rattle.tv_instances.specs.declared.turns.Turns.{Turns}

-- ---- jobs that have begun

-- with one event more they still have
pub begun-still : (e : Event) (es : Events) (j : Name × Place) → has_begun es j ≡ true → has_begun (e ∷ es) j ≡ true
begun-still e es j h = by (is_taken es j.0 j.1) (has_result es j.0 j.1) (takes_at j.0 j.1 e) (gives_at j.0 j.1 e) h
  where
    by : (a b c d : Bool) → (a || b) ≡ true → ((c || a) || (d || b)) ≡ true
    by a b true d h = refl
    by true b false d h = refl
    by false true false true h = refl
    by false true false false h = refl
    by false false c d h = absurd (true≢false (sym h))

-- at every event
abbrev pub StillBegun : View → View → Type 0
StillBegun v w = (j : Name × Place) → has_begun v.events j ≡ true → has_begun w.events j ≡ true

pub begun-then : (v w : View) (e : Event) → w.events ≡ e ∷ v.events → StillBegun v w
begun-then v w e is j h = subst (λ es. has_begun es j ≡ true) (sym is) (begun-still e v.events j h)

-- they aren't ready
pub begun-unready : (v : View) (s : Seat) → IsReadySeat v s → has_begun v.events (spot_of v.flow.steps s) ≡ true → ⊥
begun-unready v s ready h =
    true≢false
    (sym h
    ∙ ap (λ b. b || has_result v.events (spot_of v.flow.steps s).0 s.place) ready.idle
    ∙ ready.without_result)

-- ---- seats

-- a seat of the job of one of these, at which nothing comes next where nothing came next before
pub record IsOneOf (ss : List Seat) (t : Seat) : Type 0 where
  pub number : ℕ
  pub seat : Seat
  pub there : slice_get ss number ≡ Some seat
  pub step : t.step ≡ seat.step
  pub place : t.place ≡ seat.place
  pub calm : is_calm seat.stage ≡ true → is_calm t.stage ≡ true

-- so is each of those whose steps are passed
abbrev pub AreOf : List Seat → List Seat → List ℕ → ℕ → Type 0
AreOf ss us ps g = (m : ℕ) (t : Seat) → slice_get us m ≡ Some t → turn_of ps t.step < g → IsOneOf ss t

itself : (ss : List Seat) (m : ℕ) (t : Seat) → slice_get ss m ≡ Some t → IsOneOf ss t
itself ss m t e = record { number = m; seat = t; there = e; step = refl; place = refl; calm = λ h. h }

pub of-same : (ss us : List Seat) (ps : List ℕ) (g : ℕ) → us ≡ ss → AreOf ss us ps g
of-same ss us ps g same m t e low = itself ss m t (ap (λ l. slice_get l m) (sym same) ∙ e)

-- where none is passed
pub of-none : (ss us : List Seat) (ps : List ℕ) (g : ℕ) → g ≡ 0 → AreOf ss us ps g
of-none ss us ps g none m t e low = absurd (omega (arith, none, low))

-- one at another stage
pub of-staged : (ss us : List Seat) (ps : List ℕ) (g n : ℕ) (x : Stage) → us ≡ with_stage n x ss
    → (is_calm x ≡ true) ⊎ (g ≤ turn_of ps (step_at ss n)) → AreOf ss us ps g
of-staged ss us ps g n x is either m t e low = by (slice_get ss n) refl
  where
    moved : slice_get (with_stage n x ss) m ≡ Some t
    moved = ap (λ l. slice_get l m) (sym is) ∙ e

    by : (o : Option Seat) → slice_get ss n ≡ o → IsOneOf ss t
    by None none =
        itself ss m t
        (ap (λ l. slice_get l m) (sym (ap (λ o. option_map_or (λ s. slice_set ss n (staged x s)) o ss) none)) ∙ moved)
    by (Some s) there =
        on_either (cases_eq m n) here
        (λ ne. itself ss m t (sym (staged-other ss n s x there m ne) ∙ moved))
      where
        here : m ≡ n → IsOneOf ss t
        here same =
            let one : t ≡ staged x s =
            same_Some t (staged x s)
            (sym (ap (slice_get (with_stage n x ss)) (sym same) ∙ moved) ∙ staged-here ss n s x there) in
            let step = ap (λ (u : Seat). u.step) one in
            on_either either
            (λ calm. record {
              number = n;
              seat = s;
              there = there;
              step = step;
              place = ap (λ (u : Seat). u.place) one;
              calm = λ h. ap (λ (u : Seat). is_calm u.stage) one ∙ calm;
            })
            (λ behind.
            let at = ap (λ o. option_map_or (λ (u : Seat). u.step) o 0) there in
            let b = subst (λ k. g ≤ turn_of ps k) (at ∙ sym step) behind in
            absurd (omega (arith, low, b)))

-- and new ones behind them, whose steps aren't passed
pub of-more : (ss us zs ns : List Seat) (ps : List ℕ) (g : ℕ) → zs ≡ us ++ ns → AreOf ss us ps g
    → ((m : ℕ) (s : Seat) → slice_get zs m ≡ Some s → length us ≤ m → g ≤ turn_of ps s.step) → AreOf ss zs ps g
of-more ss us zs ns ps g is of ahead m t e low =
    on_test (nat_lt m (length us))
    (λ h.
    let u = get-within us m (ltb-true m (length us) h) in
    let one = same_Some u.0 t (sym (in-front us ns m u.0 u.1) ∙ ap (λ l. slice_get l m) (sym is) ∙ e) in
    of m t (u.1 ∙ ap Some one) low)
    (λ h.
    let b = ahead m t e (ltb-false m (length us) h) in
    absurd (omega (arith, low, b)))

-- ---- quiet ones

spot-same : (steps ts : List (Name × Step)) (s t : Seat) → ts ≡ steps → t.step ≡ s.step → t.place ≡ s.place
    → spot_of ts t ≡ spot_of steps s
spot-same steps ts s t e step place =
    λ i. (option_map_or (λ (u : Name × Step). u.0) (slice_get (e i) (step i)) [], place i)

pub still-quiet : (v w : View) → w.flow ≡ v.flow → StillBegun v w → (ss us : List Seat) (t u : Turns)
    → AreQuiet v ss t.positions.items t.from → u.positions.items ≡ t.positions.items → u.from ≤ t.from
    → AreOf ss us t.positions.items u.from → AreQuiet w us u.positions.items u.from
still-quiet v w flow begun ss us t u k positions fewer of = record {
  turns =
      subst (λ (f : Flow). AreTurns (by_falling_rank f) u.positions.items) (sym flow)
      (subst (AreTurns (by_falling_rank v.flow)) (sym positions) k.turns);
  inside =
      subst (λ (f : Flow). u.from ≤ length (by_falling_rank f)) (sym flow)
      (let a = k.inside in omega (arith, a, fewer));
  quiet = λ n s e low.
      let c = of n s e (subst (λ ps. turn_of ps s.step < u.from) positions low) in
      let passed = subst (λ k. turn_of t.positions.items k < u.from) c.step
      (subst (λ ps. turn_of ps s.step < u.from) positions low) in
      let q = k.quiet c.number c.seat c.there (omega (arith, passed, fewer)) in
      record {
        begun =
            ap (has_begun w.events)
            (spot-same v.flow.steps w.flow.steps c.seat s (ap (λ (f : Flow). f.steps) flow) c.step c.place)
            ∙ begun (spot_of v.flow.steps c.seat) q.begun;
        calm = c.calm q.calm;
      };
}

-- the same seats in the same turns
pub quiet-as : (v : View) (ss us : List Seat) (t u : Turns) → us ≡ ss → u ≡ t
    → AreQuiet v ss t.positions.items t.from → AreQuiet v us u.positions.items u.from
quiet-as v ss us t u seats turns k =
    subst (λ (x : Turns). AreQuiet v us x.positions.items x.from) (sym turns)
    (subst (λ l. AreQuiet v l t.positions.items t.from) (sym seats) k)
