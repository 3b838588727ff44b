-- Which of two jobs of an instance stands behind the other, by their seats.
use Rattle.std.specs.Prelude.{◌≡◌, refl, ℕ, zero, suc, ◌<◌, ◌≤◌, ◌⊎◌, Bool, true, false, nat_lt, List, [], ◌∷◌, ◌++◌, Some, if◌then◌else◌, slice_get}
use Rattle.std.specs.Cmp.Lexicographic.{bytes_decides}
use Rattle.std.specs.Option.{option_map_or}
use Rattle.std.proofs.Common.{ap, arith, inl, inr, subst, sym, ◌∙◌}
use Rattle.std.proofs.lemmas.Bool.{le-ltb}
use Rattle.std.proofs.lemmas.Option.{none-some, same_Some}
use Rattle.tv_lemmas.specs.Members.{In}
use Rattle.tv_lemmas.proofs.Members.{in-map, get-in, in-slice}
use Rattle.tv_lemmas.proofs.Cases.{on_either}
use Rattle.tv_value.specs.Nested.{Place}
use Rattle.tv_value.specs.Orders.{same_name}
use Rattle.tv_value.specs.Values.{JobName, Name}
use Rattle.tv_gate.specs.Outcomes.{Giving}
use Rattle.tv_flow.specs.Flows.{Document, Step}
use Rattle.tv_naming.specs.Numbers.{position}
use Rattle.tv_model.specs.instance.Ranks.{ranked}
use Rattle.tv_model.specs.instance.ByResults.{last_first}
use Rattle.tv_model.specs.Jobs.{Job}
use Rattle.tv_model.specs.Made.{Meaning}
use Rattle.tv_model.specs.Meanings.{meaning, nesting_limit}
use Rattle.tv_model.proofs.Members.{once-of_apart}
use Rattle.tv_model.proofs.Tests.{true≠false}
use Rattle.tv_model.proofs.MemberLemmas.{named-in}
use Rattle.tv_history.specs.Entries.{History}
use Rattle.tv_history.proofs.OneWorker.{Before, one-first}
use Rattle.tv_history.proofs.Ready.{document-whole}
use Rattle.tv_history.specs.order.FirstIn.{StandsBefore}
use Rattle.tv_model.specs.JobOrder.{job_before, place_before, rank_in, spot_before, steps_at}
use Rattle.tv_history.proofs.OrderLemmas.{jobs-in_order}
use Rattle.tv_history.proofs.Strict.{pair-before}
use Rattle.tv_history.proofs.Instances.{spots-of}
use Rattle.tv_framing.specs.Views.{View}
use Rattle.tv_seats.specs.Seats.{Seat}
use Rattle.tv_framing.specs.turns.FirstReady.{by_falling_rank}
use Rattle.tv_framing.proofs.turns.Ranks.{falling, in-turned, named-step, number-of, step-at}
use Rattle.tv_framing.proofs.turns.Turns.{Falls}
use Rattle.tv_forest.specs.seats.Seated.{Sit, spot_of}
use Rattle.tv_forest.specs.stands.Offers.{ComesNotBefore, OrderBySeats}
use Rattle.tv_forest.specs.stands.Seats.{IsJobOf}
use Rattle.tv_forest.proofs.stands.Offers.{step-name, step-ranked}
use Rattle.tv_forest.proofs.stands.Told.{steps-rise}

-- ---- ranks

-- what stands behind another has a lesser rank
falls-at : (rank : ℕ → ℕ) (ks : List ℕ) → Falls rank ks → (i n a b : ℕ) → slice_get ks i ≡ Some a
    → slice_get ks n ≡ Some b → i ≤ n → rank b ≤ rank a
falls-at rank [] f i n a b e g l = absurd (none-some a e)
falls-at rank (k ∷ ks) f zero zero a b e g l =
    same (rank a) (rank b) (ap rank (sym (same_Some k a e) ∙ same_Some k b g))
  where
    same : (x y : ℕ) → x ≡ y → y ≤ x
    same x y p = omega arith
falls-at rank (k ∷ ks) f zero (suc n) a b e g l =
    less (rank a) (rank b) (rank k) (ap rank (same_Some k a e)) (f.0 b (in-slice ks n b g))
  where
    less : (x y z : ℕ) → z ≡ x → y < z → y ≤ x
    less x y z p q = omega arith
falls-at rank (k ∷ ks) f (suc i) zero a b e g l = absurd (omega (arith, l))
falls-at rank (k ∷ ks) f (suc i) (suc n) a b e g l = falls-at rank ks f.1 i n a b e g (omega (arith, l))

module _ (gives : Giving) (d : Document) (past : History) (I : JobName) (levels : Name → ℕ) (v : View)
    (ss : List Seat) (sit : Sit gives d past I levels v ss) where
  abbrev m : Meaning
  m = meaning gives d

  abbrev steps : List (Name × Step)
  steps = v.flow.steps

  abbrev spot_here : Seat → Name × Place
  spot_here s = spot_of steps s

  -- ---- ranks by number

  abbrev name_of : ℕ → Name
  name_of k = option_map_or (λ t. t.0) (slice_get steps k) []

  name-is : (k : ℕ) (t : Name × Step) → slice_get steps k ≡ Some t → name_of k ≡ t.0
  name-is k t e = ap (λ o. option_map_or (λ (u : Name × Step). u.0) o []) e

  abbrev rank_by : ℕ → ℕ
  rank_by k = rank_in (ranked steps) (name_of k)

  falls : Falls rank_by (by_falling_rank v.flow)
  falls =
      falling steps (λ s. position s.0 steps) rank_by
      (λ s i.
      let w = step-at steps s.0 (named-step steps s i) in
      ap (rank_in (ranked steps)) (name-is (position s.0 steps) w.0 w.1 ∙ w.2))

  -- the step of a seat has a place in their order
  pub in-order : (n : ℕ) (s : Seat) (j : Job) → slice_get ss n ≡ Some s → IsJobOf gives d I v j s
      → (i : ℕ) × (slice_get (by_falling_rank v.flow) i ≡ Some s.step)
  in-order n s j there it =
      let t = sit.steps n s there in
      let name = step-name gives d past I levels v ss sit n s j there it t.0 t.1 in
      let own = step-ranked gives d past I levels v ss sit n s j there it t.0 t.1 in
      let turned = in-turned (ranked steps) [] (j.step, t.0.1) (inl (named-in j.step (ranked steps) t.0.1 own)) in
      let rise = steps-rise gives d past I levels v ss sit in
      let number = ap (λ k. position k steps) name ∙ number-of steps s.step t.0 rise t.1 in
      get-in s.step (by_falling_rank v.flow)
      (subst (λ k. In k (by_falling_rank v.flow)) number
      (in-map (λ (w : Name × Step). position w.0 steps) (j.step, t.0.1) (last_first (ranked steps) []) turned))

  -- ---- two seats

  module _ (n : ℕ) (s : Seat) (j : Job) (there : slice_get ss n ≡ Some s) (it : IsJobOf gives d I v j s)
      (k : ℕ) (t : Seat) (i : Job) (t_there : slice_get ss k ≡ Some t) (t_it : IsJobOf gives d I v i t)
      (w : ComesNotBefore v t s) where
    same-step : same_name (spot_here t).0 (spot_here s).0 ≡ true → s.step ≡ t.step
    same-step h =
        let a = sit.steps n s there in
        let b = sit.steps k t t_there in
        let rise = steps-rise gives d past I levels v ss sit in
        let name : b.0.0 ≡ a.0.0 =
        sym (name-is t.step b.0 b.1) ∙ (bytes_decides (spot_here t).0 (spot_here s).0).0 h ∙ name-is s.step a.0 a.1 in
        sym (number-of steps s.step a.0 rise a.1) ∙ ap (λ c. position c steps) (sym name)
        ∙ number-of steps t.step b.0 rise b.1

    pub not-before : spot_before (ranked steps) (spot_here t) (spot_here s) ≡ false
    not-before = by (same_name (spot_here t).0 (spot_here s).0) refl
      where
        by : (b : Bool) → same_name (spot_here t).0 (spot_here s).0 ≡ b
            → (
            if b then place_before t.place s.place
            else nat_lt (rank_in (ranked steps) (spot_here s).0) (rank_in (ranked steps) (spot_here t).0)
            )
            ≡ false
        by true h = w.places (same-step h)
        by false h =
            let first = w.steps in
            let second = in-order k t i t_there t_it in
            le-ltb (rank_by s.step) (rank_by t.step)
            (falls-at rank_by (by_falling_rank v.flow) falls first.0 second.0 s.step t.step first.1 second.1
            (first.2 second.0 second.1))

    -- where the flow is that to which the name leads
    module _ (leads : steps_at d.flows nesting_limit d.main I ≡ ranked steps) where
      same-job : spot_here t ≡ spot_here s → i ≡ j
      same-job e =
          once-of_apart (λ (k : Job). k.name) m.jobs (document-whole gives d).jobs_apart i j t_it.listed it.listed
          (t_it.name ∙ ap (λ x. I ++ x ∷ []) e ∙ sym it.name)

      behind : Before i j m.jobs → i ≡ j
      behind b =
          let ordered = pair-before (λ (a c : Job). job_before d.flows nesting_limit d.main a.name c.name ≡ true) m.jobs (jobs-in_order gives d) i j b in
          let spots =
          subst (λ c. job_before d.flows nesting_limit d.main (I ++ spot_here t ∷ []) c ≡ true) it.name
          (subst (λ a. job_before d.flows nesting_limit d.main a j.name ≡ true) t_it.name ordered)
          in
          on_either (spots-of d.flows nesting_limit d.main I (spot_here t) (spot_here s) spots) (λ e. same-job e)
          (λ q.
          absurd
          (true≠false
          (sym (subst (λ l. spot_before l (spot_here t) (spot_here s) ≡ true) leads q) ∙ not-before)))

      pub stands-behind : (i ≡ j) ⊎ StandsBefore j i m.jobs
      stands-behind =
          on_either (one-first m.jobs j i it.listed t_it.listed) (λ e. inl (sym e))
          (λ q. on_either q (λ b. inr b) (λ b. inl (behind b)))

pub order-by_seats : OrderBySeats
order-by_seats gives d past I levels v ss sit n s j there it leads k t i t_there t_it w =
    stands-behind gives d past I levels v ss sit n s j there it k t i t_there t_it w leads
