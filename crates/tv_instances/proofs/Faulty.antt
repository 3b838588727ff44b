-- The first job that can be bounced, of the steps in turn.
use Rattle.std.specs.Prelude.{◌≡◌, refl, ℕ, ◌+◌, ◌<◌, ◌≤◌, true, false, nat_lt, List, ◌++◌, Option, None, Some, get_or, length, slice_get}
use Rattle.std.proofs.Common.{ap, arith, length-append, subst, sym, ◌∙◌}
use Rattle.std.proofs.lemmas.Bool.{ltb-false, ltb-true}
use Rattle.std.proofs.lemmas.Option.{get_or_from_slice_get, same_Some, slice_get_within}
use Rattle.tv_lemmas.specs.Members.{In}
use Rattle.tv_lemmas.proofs.Cases.{on_test}
use Rattle.tv_lemmas.proofs.Lists.{get-within, in-front, in-behind}
use Rattle.tv_lemmas.proofs.Members.{get-in}
use Rattle.tv_value.specs.Values.{Name}
use Rattle.tv_flow.specs.Flows.{Document, Step}
use Rattle.tv_naming.specs.Numbers.{position}
use Rattle.tv_naming.proofs.FormedParts.{steps-ascend}
use Rattle.tv_check.specs.declared.plans.FlowPlan.{FlowPlan}
use Rattle.tv_outputs.specs.Known.{Nodes}
use Rattle.tv_frame.specs.Spreads.{is_faulty_now}
use Rattle.tv_frame.specs.FramingViews.{View}
use Rattle.tv_frame.specs.matches.Steps.{IsStepAt}
use Rattle.tv_frame.specs.turns.FirstReady.{by_falling_rank}
use Rattle.tv_frame.proofs.turns.Ranks.{has-number, number-of}
use Rattle.tv_frame.specs.Ready.{IsFirstOfStep}
use Rattle.tv_frame.specs.Tables.{levels_in}
use Rattle.tv_frame.proofs.Keeping.{kept-ranked, kept-wired}
use Rattle.tv_seats.specs.Seats.{Seat}
use Rattle.tv_instances.specs.Firsts.{BindsFault, IsFirstFaulty, IsReadySeat}
use Rattle.tv_instances.specs.Quiet.{AreGoing}
use Rattle.tv_instances.specs.Standing.{IsOpen}
use Rattle.tv_instances.specs.declared.open.Open.{Open}
use Rattle.tv_instances.proofs.FirstLemmas.{binds-said, ready-seat, seat-ready}
use Rattle.tv_instances.proofs.OpenLemmas.{its-step-at}
use Rattle.tv_instances.proofs.Order.{ordered-low}
use Rattle.tv_instances.proofs.Quiet.{begun-unready}

-- no ready job of the step binds a fault
abbrev pub NoneFaulty : View → List Seat → ℕ → Type 0
NoneFaulty v ss k = (n : ℕ) (s : Seat) → slice_get ss n ≡ Some s → s.step ≡ k → IsReadySeat v s → BindsFault v s false

-- so it is of the first so many steps
abbrev pub NoneFaultyBefore : View → List Seat → ℕ → Type 0
NoneFaultyBefore v ss n = (i k : ℕ) → i < n → slice_get (by_falling_rank v.flow) i ≡ Some k → NoneFaulty v ss k

-- what a loop over the steps that aren't passed says of those gone through
abbrev pub NoneFaultyYet : FlowPlan → Nodes → Open → List ℕ → ℕ → Type 0
NoneFaultyYet plan pool o going n =
    (d : Document) (v : View) → IsOpen d plan pool o v → (passed : List ℕ)
    → passed ++ going ≡ by_falling_rank v.flow → NoneFaultyBefore v o.seats.seats (length passed + n)

-- the first of a step, or none is
abbrev IsFaultyOf : View → List Seat → ℕ → Option ℕ → Type 0
IsFaultyOf v ss k None = NoneFaulty v ss k
IsFaultyOf v ss k (Some n) = IsFirstFaulty v ss (Some n)

-- of those that are passed none is, since each of their jobs has begun
pub none-first : (v : View) (ss : List Seat) (going : List ℕ) → AreGoing v ss going → (passed : List ℕ)
    → passed ++ going ≡ by_falling_rank v.flow → NoneFaultyBefore v ss (length passed + 0)
none-first v ss going g passed same i k l at n s there of ready =
    absurd (begun-unready v s ready (g.quiet i k was n s there of).begun)
  where
    as-many : length g.passed + length going ≡ length passed + length going
    as-many =
        sym (length-append g.passed going) ∙ ap length (g.in_order ∙ sym same) ∙ length-append passed going

    was : slice_get g.passed i ≡ Some k
    was =
        let x = get-within g.passed i (let m = as-many in omega (arith, l, m)) in
        x.1
        ∙ ap Some
        (same_Some x.0 k (sym (in-front g.passed going i x.0 x.1) ∙ ap (λ l. slice_get l i) g.in_order ∙ at))

none-more : (v : View) (ss : List Seat) (n k : ℕ) → slice_get (by_falling_rank v.flow) n ≡ Some k → NoneFaulty v ss k
    → NoneFaultyBefore v ss n → NoneFaultyBefore v ss (n + 1)
none-more v ss n k at none before i l e at-l =
    on_test (nat_lt i n) (λ h. before i l (ltb-true i n h) at-l)
    (λ h.
    let low = ltb-false i n h in
    let same : i ≡ n = omega (arith, low, e) in
    subst (NoneFaulty v ss)
    (same_Some k l (sym at ∙ ap (slice_get (by_falling_rank v.flow)) (sym same) ∙ at-l)) none)

module _ (d : Document) (plan : FlowPlan) (pool : Nodes) (o : Open) (v : View) (io : IsOpen d plan pool o v) where
  -- ---- the steps in turn

  turn-at : (passed going : List ℕ) → passed ++ going ≡ by_falling_rank v.flow → (n : ℕ) → n < length going
      → slice_get (by_falling_rank v.flow) (length passed + n) ≡ Some (get_or going n 0)
  turn-at passed going same n low =
      let x = get-within going n low in
      ap (λ l. slice_get l (length passed + n)) (sym same)
      ∙ in-behind passed going n
      ∙ x.1
      ∙ ap Some (sym (get_or_from_slice_get going n x.0 0 x.1))

  -- each of them is a step
  pub turn-within : (going : List ℕ) → AreGoing v o.seats.seats going → (n : ℕ) → n < length going
      → get_or going n 0 < length v.flow.steps
  turn-within going g n low =
      ordered-low d.flows plan pool o.frame v io.keeps (length g.passed + n) (get_or going n 0)
      (turn-at g.passed going g.in_order n low)

  -- and each step of a seat is one of them
  pub turn-of : (n : ℕ) (s : Seat) → slice_get o.seats.seats n ≡ Some s
      → (i : ℕ) × (slice_get (by_falling_rank v.flow) i ≡ Some s.step)
  turn-of n s e =
      let rise = steps-ascend v.flow (kept-ranked d.flows plan pool o.frame v io.keeps).formed in
      let t = its-step-at d plan pool o v io n s e in
      let wired = kept-wired d.flows plan pool o.frame v io.keeps in
      get-in s.step (by_falling_rank v.flow)
      (subst (λ m. In m (by_falling_rank v.flow)) (number-of v.flow.steps s.step t.0 rise t.1)
      (has-number v.flow.steps (λ u. position u.0 v.flow.steps) rise wired.ranked s.step t.0 t.1))

  -- ---- one step

  faulty-of : (k : ℕ) → k < length v.flow.steps → (u : Option ℕ)
      → (
      (t : Name × Step) → IsStepAt v k t
      → IsFirstOfStep (levels_in v.flow) v (λ q. is_faulty_now o.frame.intakes (k, q)) t.0 true u)
      → IsFaultyOf v o.seats.seats k u
  faulty-of k low u first = let t = get-within v.flow.steps k low in by t.0 t.1 u (first t.0 t.1)
    where
      by : (t : Name × Step) → IsStepAt v k t → (u : Option ℕ)
          → IsFirstOfStep (levels_in v.flow) v (λ q. is_faulty_now o.frame.intakes (k, q)) t.0 true u
          → IsFaultyOf v o.seats.seats k u
      by t at None none =
          λ n s there same ready.
          on_test (is_faulty_now o.frame.intakes (s.step, s.place))
          (λ b. absurd (none n s.place (ready-seat d plan pool o v io k t at n s true there same ready b)))
          (λ b. subst (BindsFault v s) b (binds-said d plan pool o v io n s there))
      by t at (Some n) f =
          let w = seat-ready d plan pool o v io k t at n f.place true f.is in (w.seat, w.there, w.ready, w.binds)

  -- where no step has a ready job that binds a fault, none can be bounced
  pub none-faulty :
      ((k : ℕ) (t : Name × Step) → IsStepAt v k t
      → IsFirstOfStep (levels_in v.flow) v (λ q. is_faulty_now o.frame.intakes (k, q)) t.0 true None)
      → IsFirstFaulty v o.seats.seats None
  none-faulty none n s there ready =
      let t = its-step-at d plan pool o v io n s there in
      on_test (is_faulty_now o.frame.intakes (s.step, s.place))
      (λ b.
      absurd (none s.step t.0 t.1 n s.place (ready-seat d plan pool o v io s.step t.0 t.1 n s true there refl ready b)))
      (λ b. subst (BindsFault v s) b (binds-said d plan pool o v io n s there))

  module _ (going : List ℕ) (g : AreGoing v o.seats.seats going) (n : ℕ) where
    abbrev k : ℕ
    k = get_or going n 0

    abbrev Found : Option ℕ → Type 0
    Found u =
        (t : Name × Step) → IsStepAt v k t
        → IsFirstOfStep (levels_in v.flow) v (λ q. is_faulty_now o.frame.intakes (k, q)) t.0 true u

    pub faulty-first : n < length going → (u : Option ℕ) (job : ℕ) → u ≡ Some job → Found u
        → IsFirstFaulty v o.seats.seats (Some job)
    faulty-first low u job is first =
        subst (IsFaultyOf v o.seats.seats k) is (faulty-of k (turn-within going g n low) u first)

    pub faulty-none : n < length going → (u : Option ℕ) → u ≡ None → Found u → (passed : List ℕ)
        → passed ++ going ≡ by_falling_rank v.flow → NoneFaultyBefore v o.seats.seats (length passed + n)
        → NoneFaultyBefore v o.seats.seats (length passed + (n + 1))
    faulty-none low u is first passed same before =
        let next : length passed + n + 1 ≡ length passed + (n + 1) = omega arith in
        subst (NoneFaultyBefore v o.seats.seats) next
        (none-more v o.seats.seats (length passed + n) k (turn-at passed going same n low)
        (subst (IsFaultyOf v o.seats.seats k) is (faulty-of k (turn-within going g n low) u first)) before)

    -- where no step is left, none is
    pub none-left : length going ≤ n → NoneFaultyYet plan pool o going n → IsFirstFaulty v o.seats.seats None
    none-left all none m s there ready =
        let i = turn-of m s there in
        let low = slice_get_within (by_falling_rank v.flow) i.0 s.step i.1 in
        let many = sym (length-append g.passed going) ∙ ap length g.in_order in
        none d v io g.passed g.in_order i.0 s.step (omega (arith, low, all, many)) i.1 m s there refl ready
