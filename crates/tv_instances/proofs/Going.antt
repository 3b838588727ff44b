-- The steps of an open instance that aren't passed, and those that are passed next.
use Rattle.std.specs.Prelude.{◌≡◌, ◌||◌, ◌==◌, refl, ℕ, ◌+◌, ◌<◌, Bool, true, false, nat_lt, not, List, [], ◌∷◌, ◌++◌, None, Option, Some, drop, get_or, is_some, length, slice_get, take}
use Rattle.std.proofs.Common.{ap, arith, subst, sym, ◌∙◌}
use Rattle.std.proofs.lemmas.Bool.{eqb-true, ltb-false, ltb-true, true≢false}
use Rattle.std.proofs.lemmas.List.{length-map, take-append-drop}
use Rattle.std.proofs.lemmas.Option.{get_or_from_slice_get, none-some, same_Some, slice_get_within}
use Rattle.tv_lemmas.proofs.Cases.{on_test}
use Rattle.tv_lemmas.proofs.Lists.{get-within, in-front}
use Rattle.tv_value.specs.Values.{Name}
use Rattle.tv_flow.specs.Flows.{Document, Step}
use Rattle.tv_check.specs.declared.plans.FlowPlan.{FlowPlan}
use Rattle.tv_outputs.specs.Known.{Nodes}
use Rattle.tv_model.specs.instance.Events.{has_result, is_taken}
use Rattle.tv_frame.specs.FramingViews.{View}
use Rattle.tv_frame.specs.matches.Steps.{IsStepAt}
use Rattle.tv_frame.specs.Ready.{HasIdle}
use Rattle.tv_frame.specs.Tables.{levels_in}
use Rattle.tv_frame.specs.turns.FirstReady.{by_falling_rank}
use Rattle.tv_seats.specs.Firsts.{IsFirstAsideOf, IsFirstOf}
use Rattle.tv_seats.specs.Nested.{AreNested}
use Rattle.tv_seats.specs.Seats.{Seat}
use Rattle.tv_seats.specs.Stages.{is_aside, is_idle, is_nested}
use Rattle.tv_forest.specs.seats.Seated.{spot_of}
use Rattle.tv_instances.specs.Quiet.{AreGoing, AreQuiet, IsQuietStep, has_begun}
use Rattle.tv_instances.specs.Standing.{IsOpen}
use Rattle.tv_instances.specs.Turns.{turn_of}
use Rattle.tv_instances.specs.declared.open.Open.{Open}
use Rattle.tv_instances.proofs.Faulty.{turn-of}
use Rattle.tv_instances.proofs.OpenLemmas.{numbered-step, spot-at}

-- ---- those that aren't passed

pub are-going : (v : View) (ss : List Seat) (ps : List ℕ) (from : ℕ) → AreQuiet v ss ps from → (order front back : List ℕ)
    → order ≡ by_falling_rank v.flow → front ≡ take from order → back ≡ drop from order → length front ≡ from
    → AreGoing v ss back
are-going v ss ps from q order front back same is rest long = record {
  passed = front;
  in_order = all ∙ same;
  quiet = λ n k e m s there of.
      let low = slice_get_within front n k e in
      let first = q.turns.first n k (ap (λ l. slice_get l n) (sym (all ∙ same)) ∙ in-front front back n k e) in
      q.quiet m s there (subst (λ i. turn_of ps i < from) (sym of) (omega (arith, low, first, long)));
}
  where
    all : front ++ back ≡ order
    all = (λ i. is i ++ rest i) ∙ take-append-drop from order

-- ---- one more is passed

-- none of its jobs is idle, aside or nested, and each has begun
calm-by : (a b c : Bool) → (a ≡ true → ⊥) → (b ≡ true → ⊥) → (c ≡ true → ⊥) → not (a || b || c) ≡ true
calm-by true b c f g h = absurd (f refl)
calm-by false true c f g h = absurd (g refl)
calm-by false false true f g h = absurd (h refl)
calm-by false false false f g h = refl

module _ (d : Document) (plan : FlowPlan) (pool : Nodes) (o : Open) (v : View) (io : IsOpen d plan pool o v) where
  abbrev ss : List Seat
  ss = o.seats.seats

  module _ (k : ℕ) where
    begun-by : (t : Name × Step) → IsStepAt v k t → (b : Bool) → b ≡ false → HasIdle v t.0 b → (n : ℕ) (s : Seat)
        → slice_get ss n ≡ Some s → s.step ≡ k → has_begun v.events (spot_of v.flow.steps s) ≡ true
    begun-by t at b none idle n s there of =
        by (is_taken v.events (spot_of v.flow.steps s).0 s.place) refl
        (has_result v.events (spot_of v.flow.steps s).0 s.place) refl
      where
        here : IsStepAt v s.step t
        here = ap (slice_get v.flow.steps) of ∙ at

        spot : (spot_of v.flow.steps s).0 ≡ t.0
        spot = ap (λ x. x.0) (spot-at v.flow.steps s t here)

        by : (x : Bool) → is_taken v.events (spot_of v.flow.steps s).0 s.place ≡ x → (y : Bool)
            → has_result v.events (spot_of v.flow.steps s).0 s.place ≡ y → (x || y) ≡ true
        by true e y f = refl
        by false e true f = refl
        by false e false f =
            absurd
            (subst (HasIdle v t.0) none idle n s.place
            (record {
              job = numbered-step d plan pool o v io n s there t here;
              free = ap (λ a. is_taken v.events a s.place) (sym spot) ∙ e;
              without_result = ap (λ a. has_result v.events a s.place) (sym spot) ∙ f;
            }))

    pub quiet-step : k < length v.flow.steps → (b : Bool) → b ≡ false
        → ((t : Name × Step) → IsStepAt v k t → HasIdle v t.0 b)
        → IsFirstOf ss k None → IsFirstAsideOf ss k None → AreNested ss k [] → IsQuietStep v ss k
    quiet-step low b none idle first aside nested n s there of =
        let t = get-within v.flow.steps k low in
        record {
          begun = begun-by t.0 t.1 b none (idle t.0 t.1) n s there of;
          calm =
              calm-by (is_idle s.stage) (is_aside s.stage) (is_nested s.stage)
              (λ e. first n s (record { there = there; of_step = of; idle = e }))
              (λ e. aside n s (record { there = there; of_step = of; aside = e }))
              (λ e.
              let p = nested.all n s (record { there = there; of_step = of; nested = e }) in
              none-some n p.1);
        }

  -- where that many are quiet, and the next is
  pub one-passed : (at k : ℕ) → slice_get (by_falling_rank v.flow) at ≡ Some k → AreQuiet v ss o.turns.positions.items at
      → IsQuietStep v ss k → AreQuiet v ss o.turns.positions.items (at + 1)
  one-passed at k here q quiet = record {
    turns = q.turns;
    inside = let l = slice_get_within (by_falling_rank v.flow) at k here in omega (arith, l);
    quiet = λ n s there low.
        on_test (nat_lt (turn_of o.turns.positions.items s.step) at)
        (λ h. q.quiet n s there (ltb-true (turn_of o.turns.positions.items s.step) at h))
        (λ h.
        let high = ltb-false (turn_of o.turns.positions.items s.step) at h in
        let i = turn-of d plan pool o v io n s there in
        let t = q.turns.there i.0 s.step i.1 in
        let same : turn_of o.turns.positions.items s.step ≡ at = omega (arith, low, high) in
        quiet n s there
        (same_Some s.step k (sym t ∙ ap (slice_get (by_falling_rank v.flow)) same ∙ here)));
  }

-- the step that stands there
pub order-at : (v : View) (order : List ℕ) → order ≡ by_falling_rank v.flow → (n : ℕ) → n < length order
    → slice_get (by_falling_rank v.flow) n ≡ Some (get_or order n 0)
order-at v order same n low =
    let x = get-within order n low in
    ap (λ l. slice_get l n) (sym same) ∙ x.1 ∙ ap Some (sym (get_or_from_slice_get order n x.0 0 x.1))

-- a step of which places have so many indices is one of the flow's
pub leveled-step : (d : Document) (plan : FlowPlan) (pool : Nodes) (o : Open) (v : View) → IsOpen d plan pool o v → (n : ℕ)
    → n < length o.seats.levels → n < length v.flow.steps
leveled-step d plan pool o v io n low =
    subst (λ m. n < m) (length-map v.flow.steps (λ (s : Name × Step). levels_in v.flow s.0))
    (subst (λ l. n < length l) io.levels low)

-- ---- lists and options that are empty

pub none-so : (P : Option ℕ → Type 0) (u : Option ℕ) (b : Bool) → is_some u ≡ not b → b ≡ true → P u → P None
none-so P None b is h p = p
none-so P (Some n) b is h p = absurd (true≢false (is ∙ ap not h))

pub empty-so : (P : List ℕ → Type 0) (ns : List ℕ) (b : Bool) → b ≡ (length ns == 0) → b ≡ true → P ns → P []
empty-so P [] b is h p = p
empty-so P (n ∷ ns) b is h p =
    let none = eqb-true (length (n ∷ ns)) 0 (sym is ∙ h) in absurd (omega (arith, none))
