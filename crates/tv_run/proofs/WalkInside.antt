-- The walk through the steps of an open instance: the first job inside it that passes.
use Rattle.std.specs.Prelude.{◌≡◌, refl, ℕ, ◌+◌, ◌<◌, ◌≤◌, true, false, nat_lt, List, [], ◌++◌, ◌∷◌, None, Option, Some, is_none, is_some, length, slice_get}
use Rattle.std.proofs.Common.{ap, arith, inl, inr, length-append, subst, sym, ◌∙◌}
use Rattle.std.proofs.lemmas.Bool.{false_from_ne_true, ltb-false, ltb-true}
use Rattle.std.proofs.lemmas.Option.{same_Some, slice_get_within}
use Rattle.tv_lemmas.proofs.Cases.{on_test}
use Rattle.tv_lemmas.proofs.Lists.{get-within, in-front}
use Rattle.tv_value.specs.Nested.{Place}
use Rattle.tv_value.specs.Values.{JobName, Name}
use Rattle.tv_gate.specs.Outcomes.{Giving}
use Rattle.tv_check.specs.RunViews.{run_view}
use Rattle.tv_model.specs.Jobs.{Job}
use Rattle.tv_model.proofs.Tests.{true≠false}
use Rattle.tv_history.specs.Entries.{History}
use Rattle.tv_model.specs.JobOrder.{place_before}
use Rattle.tv_history.proofs.Documents.{name-length}
use Rattle.tv_history.proofs.Still.{inside-parts}
use Rattle.tv_instances.specs.FramingViews.{View}
use Rattle.tv_frame.specs.Tables.{levels_in}
use Rattle.tv_instances.specs.framing_turns.FirstReady.{by_falling_rank}
use Rattle.tv_seats.specs.Seats.{Seat}
use Rattle.tv_instances.specs.stands.Offers.{ComesNotBefore}
use Rattle.tv_instances.specs.Forest.{Instance, Instances, IsAt, IsJobAt}
use Rattle.tv_instances.specs.forest_firsts.FirstWithin.{IsFirstOfSeats, IsFirstWithin, IsFoundAt, Passing}
use Rattle.tv_instances.proofs.forest_firsts.Firsts.{first-by_seats}
use Rattle.tv_instances.proofs.forest_firsts.Histories.{first-of_all_jobs}
use Rattle.tv_history.specs.Runs.{past_of}
use Rattle.tv_instances.specs.Quiet.{AreGoing}
use Rattle.tv_instances.specs.declared.firsts.Seeking.{Seeking}
use Rattle.tv_instances.specs.declared.firsts.Seeking.TheVariants as seeking
use Rattle.tv_run.specs.Standing.{OutsAre, Stands, run_of}
use Rattle.tv_run.specs.Walking.{IsFound, IsFoundAtStep, IsFoundInside, IsFoundOf, passes}
use Rattle.tv_run.specs.declared.run.OpenRun.{OpenRun}
use Rattle.tv_run.proofs.WalkFound.{found-by, found_at, found_by, is-found, one-found}
use Rattle.tv_run.proofs.WalkOpen.{job-there, turn-of}
use Rattle.tv_run.proofs.WalkQuiet.{none-quiet}

-- what is sought is what is offered, or all that goes on
passing-is : (gives : Giving) (r : OpenRun) (k : Seeking) → Passing gives (run_view r.run) (past_of (run_of r)) (passes gives r k)
passing-is gives r seeking.Offers = inl refl
passing-is gives r seeking.All = inr refl

-- nothing is found at the first so many steps
abbrev pub NoneOfFirst : Giving → OpenRun → Instances → Seeking → ℕ → Instance → View → ℕ → Type 0
NoneOfFirst gives r xs k i x v q =
    (p step : ℕ) → p < q → slice_get (by_falling_rank v.flow) p ≡ Some step → IsFoundOf gives r xs k i x step None

module _ (gives : Giving) (r : OpenRun) (xs : Instances) (st : Stands gives r xs) (i : ℕ) (x : Instance) (v : View)
    (at : IsAt xs i x) (told : x.view ≡ Some v) (k : Seeking) where
  abbrev past : History
  past = past_of (run_of r)

  abbrev NoneTo : ℕ → Type 0
  NoneTo q = NoneOfFirst gives r xs k i x v q

  -- at those that are passed nothing is
  pub none-passed : (going : List ℕ) → AreGoing v x.seats going → (passed : List ℕ)
      → passed ++ going ≡ by_falling_rank v.flow → NoneTo (length passed + 0)
  none-passed going g passed same p step low here =
      none-quiet gives r xs st i x v at told k step (g.quiet p step was)
    where
      as-many : length g.passed + length going ≡ length passed + length going
      as-many =
          sym (length-append g.passed going) ∙ ap (λ (l : List ℕ). length l) (g.in_order ∙ sym same)
          ∙ length-append passed going

      was : slice_get g.passed p ≡ Some step
      was =
          let u = get-within g.passed p (let m = as-many in omega (arith, low, m)) in
          u.1
          ∙ ap Some
          (same_Some u.0 step
          (sym (in-front g.passed going p u.0 u.1) ∙ ap (λ (l : List ℕ). slice_get l p) g.in_order ∙ here))

  pub one-more : (q step : ℕ) → slice_get (by_falling_rank v.flow) q ≡ Some step → NoneTo q
      → IsFoundOf gives r xs k i x step None → NoneTo (q + 1)
  one-more q step here none now p l low e =
      on_test (nat_lt p q) (λ h. none p l (ltb-true p q h) e)
      (λ h.
      let high = ltb-false p q h in
      let one : q ≡ p = omega (arith, low, high) in
      subst (λ n. IsFoundOf gives r xs k i x n None)
      (same_Some step l (sym here ∙ ap (slice_get (by_falling_rank v.flow)) one ∙ e)) now)

  -- ---- by what is found at all seats

  abbrev found : ℕ → Option Job
  found n = found_by gives (run_view r.run) (passes gives r k) past x n

  at-job : (n : ℕ) (s : Seat) (j : Job) → IsJobAt gives (run_view r.run) xs i n x s j
      → found n ≡ found_at gives (run_view r.run) (passes gives r k) past j
  at-job n s j it = found-by gives (run_view r.run) (passes gives r k) past xs i n x s j it

  first-of : IsFirstOfSeats gives (run_view r.run) (passes gives r k) x.name v x.seats found
  first-of =
      first-by_seats gives (run_view r.run) levels_in past xs st.stand i x v at told (passes gives r k) (passing-is gives r k)
      found
      (λ n s j it.
      subst (IsFoundAt gives (run_view r.run) (passes gives r k) past j) (sym (at-job n s j it))
      (is-found gives (run_view r.run) (passes gives r k) past j))

  found-as : (n : ℕ) (s : Seat) (j : Job) → IsJobAt gives (run_view r.run) xs i n x s j → (o : Option Job)
      → IsFoundAt gives (run_view r.run) (passes gives r k) past j o → found n ≡ o
  found-as n s j it o w = at-job n s j it ∙ one-found gives (run_view r.run) (passes gives r k) past j o w

  none-found : (n : ℕ) (s : Seat) → slice_get x.seats n ≡ Some s → IsFoundOf gives r xs k i x s.step None → found n ≡ None
  none-found n s e none =
      let j = job-there gives r xs st i x v at told n s e in
      found-as n s j.0 j.1 None (none n s j.0 j.1 refl)

  -- where nothing is found at any step
  none-inside : (q : ℕ) → length (by_falling_rank v.flow) ≤ q → NoneTo q → IsFoundInside gives r xs k x None
  none-inside q all none =
      first-of.none
      (λ n s e.
      let l = turn-of gives r xs st i x v at told n s e in
      none-found n s e
      (none l.0 s.step (omega (arith, all, slice_get_within (by_falling_rank v.flow) l.0 s.step l.1)) l.1))

  pub none-left : (going : List ℕ) (g : AreGoing v x.seats going) (q : ℕ) → length going ≤ q
      → NoneTo (length g.passed + q) → IsFoundInside gives r xs k x None
  none-left going g q all =
      let many = sym (length-append g.passed going) ∙ ap (λ (l : List ℕ). length l) g.in_order in
      none-inside (length g.passed + q) (omega (arith, all, many))

  -- where something is found at this step first
  pub some-at : (q step number : ℕ) → slice_get (by_falling_rank v.flow) q ≡ Some step → NoneTo q
      → IsFoundAtStep gives r xs k i x step number → IsFoundInside gives r xs k x (Some number)
  some-at q step number here none w = (
    w.found,
    first-of.first w.number w.seat w.found w.is_job.seat
        (found-as w.number w.seat w.job w.is_job (Some w.found) w.is_found) not-before,
    w.may,
  )
    where
      not-before : (m : ℕ) (t : Seat) → slice_get x.seats m ≡ Some t → is_some (found m) ≡ true → ComesNotBefore v t w.seat
      not-before m t e some = record {
        steps = (
          q,
          here ∙ ap Some (sym w.of_step),
          λ p g.
              on_test (nat_lt p q)
              (λ h.
              absurd
              (true≠false (sym some ∙ ap is_some (none-found m t e (none p t.step (ltb-true p q h) g)))))
              (λ h. ltb-false p q h),
        );
        places = λ g.
            false_from_ne_true (place_before t.place w.seat.place)
            (λ h.
            let j = job-there gives r xs st i x v at told m t e in
            true≠false
            (sym some
            ∙ ap is_some (found-as m t j.0 j.1 None (w.first m t j.0 j.1 (sym g ∙ w.of_step) h))));
      }

  -- ---- so deep nothing is

  pub none-deeper : length x.name ≡ 8 → IsFoundInside gives r xs k x None
  none-deeper deep j is ins = absurd (too-deep (inside-parts x.name j.name ins))
    where
      too-deep : (c : Name × Place) × (rest : JobName) × (j.name ≡ x.name ++ c ∷ rest) → ⊥
      too-deep p =
          omega (
            arith,
            deep,
            name-length gives (run_view r.run) j is,
            ap (λ (l : JobName). length l) p.2 ∙ length-append x.name (p.0 ∷ p.1),
          )

-- ---- inside the main instance

pub found-of_all : (gives : Giving) (r : OpenRun) (xs : Instances) (k : Seeking) (x : Instance) → x.name ≡ []
    → (o : Option ℕ) → IsFoundInside gives r xs k x o → IsFound gives r xs k o
found-of_all gives r xs k x main None w =
    first-of_all_jobs gives (run_view r.run) (passes gives r k) None
    (subst (λ n. IsFirstWithin gives (run_view r.run) (passes gives r k) n None) main w)
found-of_all gives r xs k x main (Some number) w = (
  w.0,
  first-of_all_jobs gives (run_view r.run) (passes gives r k) (Some w.0)
      (subst (λ n. IsFirstWithin gives (run_view r.run) (passes gives r k) n (Some w.0)) main w.1),
  w.2,
)

-- it is open as long as there are no outputs
pub record IsMainOpen (r : OpenRun) (xs : Instances) : Type 0 where
  pub main : Instance
  pub view : View
  pub there : IsAt xs 0 main
  pub is_open : main.view ≡ Some view
  pub unnamed : main.name ≡ []

pub main-open : (gives : Giving) (r : OpenRun) (xs : Instances) → Stands gives r xs → r.outs ≡ None → IsMainOpen r xs
main-open gives r xs st none = by st.stand.main.0.view refl
  where
    x : Instance
    x = st.stand.main.0

    not-ended : is_none x.view ≡ false
    not-ended = subst (λ o. OutsAre gives (run_view r.run) o (is_none x.view)) none (st.outs_are x st.stand.main.1)

    by : (w : Option View) → x.view ≡ w → IsMainOpen r xs
    by None e = absurd (true≠false (sym (ap is_none e) ∙ not-ended))
    by (Some v) e = record {
      main = x;
      view = v;
      there = st.stand.main.1;
      is_open = e;
      unnamed = st.stand.main.2.unnamed;
    }
