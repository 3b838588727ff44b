-- The first in turn is the first ready one of a frame.
use Rattle.std.specs.Prelude.{◌≡◌, refl, ℕ, zero, suc, ◌<◌, Bool, true, false, nat_lt, if◌then◌else◌, List, [], ◌∷◌, length, Option, Some, None, option_map, slice_get}
use Rattle.std.specs.Option.{option_map_or}
use Rattle.std.proofs.Common.{arith, ap, sym, subst, ◌∙◌}
use Rattle.std.proofs.lemmas.Bool.{eq-eqb, ne_eqb}
use Rattle.tv_lemmas.specs.Members.{In}
use Rattle.tv_value.specs.Nested.{Place}
use Rattle.tv_value.specs.Orders.{same_name}
use Rattle.tv_value.specs.Values.{Name}
use Rattle.tv_value.proofs.NameLemmas.{same_name-is, same_name-refl}
use Rattle.tv_flow.specs.Flows.{Step}
use Rattle.tv_flow.specs.Formed.{is_ascending}
use Rattle.tv_naming.specs.Numbers.{position}
use Rattle.tv_naming.proofs.ByPosition.{names_of}
use Rattle.tv_naming.proofs.Forms.{steps-named}
use Rattle.tv_model.specs.instance.Ranks.{ranked}
use Rattle.tv_check.proofs.Ranked.{one-place}
use Rattle.tv_check.specs.Wirings.{wiring}
use Rattle.tv_telling.specs.declared.endings.endings.Endings.{Endings}
use Rattle.tv_idle.specs.Sought.{stands_after}
use Rattle.tv_idle.specs.Idles.{StepIdle}
use Rattle.tv_model.specs.instance.ByResults.{last_first}
use Rattle.tv_model.specs.instance.Counting.{have_ended_by}
use Rattle.tv_model.specs.JobOrder.{place_before, rank_in}
use Rattle.tv_framing.specs.Answers.{after_of, numbered}
use Rattle.tv_framing.specs.Views.{View}
use Rattle.tv_framing.specs.engine.EndedSteps.{AreEndingsOf}
use Rattle.tv_framing.specs.engine.WiredFlows.{IsWired}
use Rattle.tv_framing.specs.turns.FirstReady.{CanBeNext, IsFirstReady, StandsAfter, by_falling_rank, spot_given, stands_before}
use Rattle.tv_framing.specs.turns.IdleJobs.{AreIdleOf}
use Rattle.tv_framing.specs.turns.Stated.{FirstInTurnIsFirstReady}
use Rattle.tv_telling.specs.endings.Turns.{first_in_turn, may_settle}
use Rattle.tv_framing.proofs.turns.Ranks.{at-in, falling, has-number, number-of, numbers-step, place-is, rank_of, step-at}
use Rattle.tv_framing.proofs.turns.Settling.{may-is}
use Rattle.tv_framing.proofs.turns.Turns.{Comes, Falls, IsAmong, IsFirstOf, Waits, first-in_turn, is_before}

module _ (v : View) (wired : IsWired v.flow) (levels : Name → ℕ) (e : Endings) (are : AreEndingsOf v.flow levels v.events e) (ss : List StepIdle) (idle : AreIdleOf v ss) where
  abbrev steps : List (Name × Step)
  steps = v.flow.steps

  abbrev order : List ℕ
  order = by_falling_rank v.flow

  abbrev may : ℕ → Bool
  may = may_settle (wiring v.flow) e

  rise : is_ascending (names_of steps) ≡ true
  rise = (steps-named v.flow wired.formed).rise

  -- the rank of a step by its number
  abbrev rank : ℕ → ℕ
  rank k = option_map_or (rank_of (ranked steps)) (slice_get steps k) 0

  rank-at : (k : ℕ) (s : Name × Step) → slice_get steps k ≡ Some s → rank k ≡ rank_in (ranked steps) s.0
  rank-at k s h = ap (λ o. option_map_or (rank_of (ranked steps)) o 0) h

  falls : Falls rank order
  falls = falling steps (λ s. position s.0 steps) rank (λ s i. let p = at-in steps s i in rank-at (position s.0 steps) s (subst (λ k. slice_get steps k ≡ Some s) (sym (number-of steps p.0 s rise p.1)) p.1))

  -- a step of the order
  step-of : (t : ℕ) → In t order → (s : Name × Step) × (slice_get steps t ≡ Some s)
  step-of t i =
      let m = numbers-step steps (λ s. position s.0 steps) t i in
      let p = at-in steps m.0 m.1 in
      (m.0, subst (λ k. slice_get steps k ≡ Some m.0) (sym (m.2 ∙ number-of steps p.0 m.0 rise p.1)) p.1)

  in-order : (k : ℕ) (s : Name × Step) → slice_get steps k ≡ Some s → In k order
  in-order k s h = subst (λ n. In n order) (number-of steps k s rise h) (has-number steps (λ s. position s.0 steps) rise wired.ranked k s h)

  -- by numbers as by names
  same-order : (k l : ℕ) (s t : Name × Step) (r q : Place) → slice_get steps k ≡ Some s → slice_get steps l ≡ Some t → is_before rank (k, r) (l, q) ≡ stands_before v (s.0, r) (t.0, q)
  same-order k l s t r q h g = by (same_name s.0 t.0) refl
    where
      ranks : nat_lt (rank l) (rank k) ≡ nat_lt (rank_in (ranked steps) t.0) (rank_in (ranked steps) s.0)
      ranks = ap (λ a. nat_lt a (rank k)) (rank-at l t g) ∙ ap (nat_lt (rank_in (ranked steps) t.0)) (rank-at k s h)

      by : (b : Bool) → same_name s.0 t.0 ≡ b → is_before rank (k, r) (l, q) ≡ (if b then place_before r q else nat_lt (rank_in (ranked steps) t.0) (rank_in (ranked steps) s.0))
      by true f =
          ap (λ b. if b then stands_after r q else nat_lt (rank l) (rank k)) (eq-eqb k l (one-place steps k l s t rise h g (same_name-is s.0 t.0 f)))
          ∙ sym (place-is r q)
      by false f = ap (λ b. if b then stands_after r q else nat_lt (rank l) (rank k)) (ne_eqb k l apart) ∙ ranks
        where
          apart : k ≡ l → ⊥
          apart e =
              let same : Some s ≡ Some t = sym h ∙ ap (slice_get steps) e ∙ g in
              let is : s ≡ t = cc in
              let no : false ≡ true = sym f ∙ ap (λ (x : Name × Step). same_name x.0 t.0) is ∙ same_name-refl t.0 in
              cc

  -- ---- the job after which the others stand

  -- its step and place
  abbrev Spots : Option ℕ → Option (ℕ × Place) → Type 0
  Spots None None = Unit {0}
  Spots None (Some a) = ⊥
  Spots (Some m) None = ⊥
  Spots (Some m) (Some a) = (y : Name × Place) × (numbered v m ≡ Some y) × (a ≡ (position y.0 steps, y.1))

  spots : (after : Option ℕ) → ((m : ℕ) → after ≡ Some m → m < length v.jobs) → Spots after (spot_given v after)
  spots None known = tt
  spots (Some m) known =
      let y = there v.jobs m (known m refl) in
      subst (Spots (Some m)) (sym (ap (option_map (λ (x : Name × Place). (position x.0 steps, x.1))) y.1)) (y.0, y.1, refl)
    where
      there : (xs : List (Name × Place)) (i : ℕ) → i < length xs → (x : Name × Place) × (slice_get xs i ≡ Some x)
      there [] i l = absurd (omega arith)
      there (x ∷ xs) zero l = (x, refl)
      there (x ∷ xs) (suc i) l = there xs i (omega arith)

  -- a known job's step
  own : (m : ℕ) (y : Name × Place) → numbered v m ≡ Some y → (s : Name × Step) × (slice_get steps (position y.0 steps) ≡ Some s) × (s.0 ≡ y.0)
  own m y h = step-at steps y.0 (idle.steps m y h)

  from-spot : (m : ℕ) (y : Name × Place) (t : ℕ) (s : Name × Step) (q : Place) → numbered v m ≡ Some y → slice_get steps t ≡ Some s
      → is_before rank (position y.0 steps, y.1) (t, q) ≡ stands_before v y (s.0, q)
  from-spot m y t s q h g =
      let o = own m y h in
      same-order (position y.0 steps) t o.0 s y.1 q o.1 g ∙ ap (λ n. stands_before v (n, y.1) (s.0, q)) o.2

  abbrev Next : Option (ℕ × Place) → ℕ → ℕ × Place → Type 0
  Next given = Comes rank may ss idle.order given

  later-to : (after : Option ℕ) (given : Option (ℕ × Place)) → Spots after given → (t : ℕ) (s : Name × Step) (j : ℕ × Place) → slice_get steps t ≡ Some s
      → Next given t j → Waits rank may ss idle.order t j × StandsAfter v after (s.0, j.1)
  later-to None None k t s j g w = (w, tt)
  later-to None (Some a) k t s j g w = absurd k
  later-to (Some m) None k t s j g w = absurd k
  later-to (Some m) (Some a) k t s j g w = (w.0, stands)
    where
      stands : (z : Name × Place) → numbered v m ≡ Some z → stands_before v z (s.0, j.1) ≡ true
      stands z h =
          let both : Some k.0 ≡ Some z = sym k.1 ∙ h in
          let same : k.0 ≡ z = cc in
          ap (λ x. stands_before v x (s.0, j.1)) (sym same)
          ∙ sym (from-spot m k.0 t s j.1 k.1 g)
          ∙ ap (λ x. is_before rank x (t, j.1)) (sym k.2)
          ∙ w.1

  later-from : (after : Option ℕ) (given : Option (ℕ × Place)) → Spots after given → (t : ℕ) (s : Name × Step) (j : ℕ × Place) → slice_get steps t ≡ Some s
      → Waits rank may ss idle.order t j → StandsAfter v after (s.0, j.1) → Next given t j
  later-from None None k t s j g w a = w
  later-from None (Some b) k t s j g w a = absurd k
  later-from (Some m) None k t s j g w a = absurd k
  later-from (Some m) (Some b) k t s j g w a = (w, ap (λ x. is_before rank x (t, j.1)) k.2 ∙ from-spot m k.0 t s j.1 k.1 g ∙ a k.0 k.1)

  among : (after : Option ℕ) (given : Option (ℕ × Place)) → Spots after given → IsAmong rank may ss idle.order order given
  among None None k = tt
  among None (Some a) k = absurd k
  among (Some m) None k = tt
  among (Some m) (Some a) k =
      let o = own m k.0 k.1 in
      subst (λ x. In x.0 order) (sym k.2) (in-order (position k.0.0 steps) o.0 o.1)

  -- ---- ready as a frame has it

  module _ (after : Option ℕ) (known : (m : ℕ) → after ≡ Some m → m < length v.jobs) where
    abbrev given : Option (ℕ × Place)
    given = spot_given v after

    can : (t : ℕ) (s : Name × Step) (j : ℕ × Place) → slice_get steps t ≡ Some s → Next given t j → CanBeNext levels v after j.0 (s.0, j.1)
    can t s j g w =
        let l = later-to after given (spots after known) t s j g w in
        let f = idle.free t s j g l.0.1 in
        record {
          job = idle.known t s j g l.0.1;
          ready = record { idle = f.0; without_result = f.1; after = sym (may-is v wired levels e are t s g) ∙ l.0.0 };
          later = l.1;
        }

    wanted : (n : ℕ) (x : Name × Place) → CanBeNext levels v after n x → (s : Name × Step) × (slice_get steps (position x.0 steps) ≡ Some s) × (s.0 ≡ x.0) × Next given (position x.0 steps) (n, x.1)
    wanted n x c =
        let o = own n x c.job in
        let waits : Waits rank may ss idle.order (position x.0 steps) (n, x.1) = (
          may-is v wired levels e are (position x.0 steps) o.0 o.1 ∙ ap (λ m. have_ended_by v.events levels (last_first (ranked steps) []) (after_of v m)) o.2 ∙ c.ready.after,
          idle.all n x c.job c.ready.idle c.ready.without_result,
        )
        in
        (o.0, o.1, o.2, later-from after given (spots after known) (position x.0 steps) o.0 (n, x.1) o.1 waits (subst (λ m. StandsAfter v after (m, x.1)) (sym o.2) c.later))

    answer : (o : Option ℕ) → IsFirstOf rank (Next given) order o → IsFirstReady levels v after o
    answer None f = λ n x c. let w = wanted n x c in f (position x.0 steps) (n, x.1) (in-order (position x.0 steps) w.0 w.1) w.3
    answer (Some n) f =
        let s = step-of f.step f.among in
        record {
          which = (s.0.0, f.place);
          can = can f.step s.0 (n, f.place) s.1 f.wanted;
          first =
              λ m y c.
              let w = wanted m y c in
              ap (λ a. stands_before v (a, y.1) (s.0.0, f.place)) (sym w.2)
              ∙ sym (same-order (position y.0 steps) f.step w.0 s.0 y.1 f.place w.1 s.1)
              ∙ f.first (position y.0 steps) (m, y.1) (in-order (position y.0 steps) w.0 w.1) w.3;
        }

    first-ready : IsFirstReady levels v after (first_in_turn may ss order given)
    first-ready = answer (first_in_turn may ss order given) (first-in_turn rank may ss idle.order order falls given (among after given (spots after known)))

-- THE FIRST IN TURN
pub first-is-ready : FirstInTurnIsFirstReady
first-is-ready v wired levels e are ss idle after known = first-ready v wired levels e are ss idle after known
