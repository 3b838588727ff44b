-- The instances that are busy, the last of them first: one that is left, and the first job there that can be bounced.
use Rattle.std.specs.Prelude.{◌≡◌, refl, ℕ, ◌+◌, ◌-◌, ◌<◌, ◌++◌, Bool, true, List, [], ◌∷◌, MatchOption, None, Option, Some, false, length, slice_get, slice_index_or, vec_capacity}
use Rattle.std.specs.Vec.{with_item}
use Rattle.std.proofs.Common.{ap, arith, inl, inr, subst, sym, ◌∙◌}
use Rattle.std.proofs.lemmas.List.{length-set}
use Rattle.std.proofs.lemmas.Option.{same_Some, slice_get_read}
use Rattle.tv_lemmas.specs.Members.{In}
use Rattle.tv_gate.specs.Outcomes.{Giving}
use Rattle.tv_flow.specs.Flows.{Document}
use Rattle.tv_flow.specs.Views.{flow_view}
use Rattle.tv_check.specs.RunViews.{run_view}
use Rattle.tv_check.specs.declared.plans.FlowPlan.{FlowPlan}
use Rattle.tv_instances.specs.FramingViews.{View}
use Rattle.tv_seats.specs.Seats.{Seat}
use Rattle.tv_seats.proofs.Staging.{set-other}
use Rattle.tv_instances.specs.Forest.{Instance, Instances, IsAt}
use Rattle.tv_instances.proofs.Lists.{at-set}
use Rattle.tv_instances.specs.Firsts.{IsFirstFaulty}
use Rattle.tv_instances.specs.Standing.{IsOpen}
use Rattle.tv_instances.specs.declared.open.Open.{Open}
use Rattle.tv_run.specs.Changes.{IsOpenHere}
use Rattle.tv_run.specs.Rooms.{IsAsBefore}
use Rattle.tv_run.specs.Settlements.{BouncesIn, IsOpenIn, LastIsStill, LeavesLast, NothingBouncesIn, OfOpen, SettlesIn, SettlesLast, last_busy}
use Rattle.tv_run.specs.Standing.{Fits, StandsOpen}
use Rattle.tv_run.specs.Turns.{StaysAs}
use Rattle.tv_run.specs.declared.instances.Instance as code
use Rattle.tv_run.specs.declared.run.OpenRun.{OpenRun}
use Rattle.tv_run.proofs.Itself.{its-code, o, open-by, seats-are}
use Rattle.tv_run.proofs.JobLemmas.{instance-there, instance-told, open-is, view-is}
use Rattle.tv_run.proofs.Leaving.{left}
use Rattle.tv_run.proofs.Opens.{first-open, nothing-open}
use Rattle.tv_run.proofs.Rooms.{before-itself, stays-before}
use Rattle.tv_run.proofs.Settled.{stays-from}

-- ---- lists

pub in-last : {A : Type 0} (xs : List A) (y : A) → In y (xs ++ y ∷ [])
in-last [] y = inl refl
in-last (z ∷ xs) y = inr (in-last xs y)

-- ---- the last one is left

module _ (r : OpenRun) (bs : List ℕ) (last : ℕ) (busy : r.busy.items ≡ bs ++ last ∷ []) where
  pub last-low : (xs : Instances) → Fits r xs → last < length r.instances.items
  last-low xs fits = fits.busy_low last (subst (In last) (sym busy) (in-last bs last))

  module _ (xs : Instances) (fits : Fits r xs) (c : code.Instance) (read : c ≡ slice_index_or r.instances.items last c)
    where
      was-there : slice_get r.instances.items last ≡ Some c
      was-there =
          slice_get_read r.instances.items (length r.instances.items) last c refl (last-low xs fits) read

      pub leaves : (s : OpenRun) → s.run ≡ r.run → s.looks ≡ r.looks → s.pool ≡ r.pool → s.jobs ≡ r.jobs
          → s.entries ≡ r.entries → s.due ≡ r.due → s.failed ≡ r.failed → s.outs ≡ r.outs
          → s.instances.items ≡ (with_item r.instances last (record c { is_busy = false })).items → s.busy.items ≡ bs
          → LeavesLast r s
      leaves s run looks pool jobs entries due failed outs instances rest =
          left r s last
          (record {
            run = run;
            looks = looks;
            pool = pool;
            jobs = jobs;
            entries = entries;
            due = due;
            failed = failed;
            outs = outs;
            before = c;
            was = was-there;
            there =
                ap (λ l. slice_get l last) instances
                ∙ at-set r.instances.items last c (record c { is_busy = false }) was-there;
            others =
                record {
                  as_many =
                      ap length instances ∙ length-set r.instances.items last (record c { is_busy = false });
                  others = λ k ne.
                      ap (λ l. slice_get l k) instances
                      ∙ set-other r.instances.items last k (record c { is_busy = false }) ne;
                };
            busy = busy ∙ ap (λ l. l ++ last ∷ []) (sym rest);
          })

-- ---- the first job of an open instance that can be bounced

module _ (r : OpenRun) (i : ℕ) (p : Open)
    (read : (c : code.Instance) → slice_get r.instances.items i ≡ Some c → (os : List Open) × (c.open.items ≡ p ∷ os))
    (plan : FlowPlan)
    (of_flow : (xs : Instances) (x : Instance) → Fits r xs → IsAt xs i x → flow_view plan.flow ≡ x.flow) where
  module _ (xs : Instances) (x : Instance) (v : View) (here : IsOpenHere r xs i x v) where
    same : o r i xs x v here ≡ p
    same =
        let w = its-code r i xs x v here in
        let q = read w.itself w.there in
        first-open w.opened.itself p [] q.0 w.itself.open.items w.opened.there q.1

    pub it-is : IsOpen (run_view r.run) plan r.pool p v
    it-is =
        subst (λ q. IsOpen (run_view r.run) plan r.pool q v) same
        (open-by r i xs x v here plan (of_flow xs x here.fits here.there))

    its-seats : p.seats.seats ≡ x.seats
    its-seats = ap (λ (q : Open). q.seats.seats) (sym same) ∙ seats-are r i xs x v here

  pub first-faulty : (b : Option ℕ)
      → ((d : Document) (v : View) → IsOpen d plan r.pool p v → IsFirstFaulty v p.seats.seats b)
      → MatchOption b (OfOpen r i NothingBouncesIn) (λ n. OfOpen r i (BouncesIn n))
  first-faulty None h = λ xs x v fits at e.
      let here : IsOpenHere r xs i x v = record { fits = fits; there = at; is_open = e } in
      subst (λ (ss : List Seat). IsFirstFaulty v ss None) (its-seats xs x v here)
      (h (run_view r.run) v (it-is xs x v here))
  first-faulty (Some n) h = λ xs x v fits at e.
      let here : IsOpenHere r xs i x v = record { fits = fits; there = at; is_open = e } in
      subst (λ (ss : List Seat). IsFirstFaulty v ss (Some n)) (its-seats xs x v here)
      (h (run_view r.run) v (it-is xs x v here))

-- ---- the last busy instance

module _ (r : OpenRun) (last : ℕ) (is : last_busy r ≡ Some last) where
  module _ (c : code.Instance) (there : slice_get r.instances.items last ≡ Some c) where
    -- it has ended
    pub ended-last : (gives : Giving) → c.open.items ≡ [] → SettlesLast gives r r false
    ended-last gives none = (
      before-itself r,
      refl,
      λ xs fits i x v e at told.
          let w = instance-there r xs fits i x at in
          let same : last ≡ i = same_Some last i (sym is ∙ e) in
          let itself : c ≡ w.0 =
          same_Some c w.0 (sym there ∙ ap (λ n. slice_get r.instances.items n) same ∙ w.1) in
          let opened = open-is r i w.0 x v w.2 told in
          absurd
          (nothing-open opened.itself [] w.0.open.items (ap (λ (y : code.Instance). y.open.items) (sym itself) ∙ none)
          opened.there),
    )

    -- it is open
    pub open-last : (gives : Giving) → StandsOpen gives r → (p : Open) (os : List Open) → c.open.items ≡ p ∷ os
        → IsOpenIn gives r last
    open-last gives so p os e =
        let w = instance-told r so.0 so.1.fits last c there in
        let t = view-is r last c w.0 p os w.2 e in
        record {
          instances = so.0;
          stands = so.1;
          going = so.2;
          instance = w.0;
          there = w.1;
          view = t.0;
          is_open = t.1;
        }

  pub settles-last : (gives : Giving) (s : OpenRun) (b : Bool) → SettlesIn gives r s last b → SettlesLast gives r s b
  settles-last gives s true h = h
  settles-last gives s false h = (
    h.0,
    h.1,
    λ xs fits i x v e at told.
        h.2 xs x v fits (subst (λ n. IsAt xs n x) (same_Some i last (sym e ∙ is)) at) told,
  )

-- ---- one after another is left

module _ (s t u : OpenRun) (before : IsAsBefore s t) (busy : t.busy.items ≡ s.busy.items)
    (still : (xs : Instances) → Fits s xs → LastIsStill s xs) (l : LeavesLast t u) where
  still-then : (xs : Instances) → Fits s xs → LastIsStill t xs
  still-then xs fits i x v e at told =
      still xs fits i x v (ap (λ (k : List ℕ). slice_get k (length k - 1)) (sym busy) ∙ e) at told

  pub left-before : IsAsBefore s u
  left-before = record {
    fits = λ xs f. l.fits xs (before.fits xs f) (still-then xs f);
    same = l.same ∙ before.same;
    regions = λ n. l.regions n ∙ before.regions n;
    capacity = let h = before.capacity in let e = ap vec_capacity l.entries in omega (arith, h, e);
    due = l.due ∙ before.due;
    failed = l.failed ∙ before.failed;
    outs = l.outs ∙ before.outs;
  }

-- of the busy ones of r so many were left, and else s is as r was
pub record HasLeft (r s : OpenRun) (k : ℕ) : Type 0 where
  pub stays : (gives : Giving) → StandsOpen gives r → StaysAs gives r s
  pub fewer : length s.busy.items + k ≡ length r.busy.items

pub none-left : (r : OpenRun) → HasLeft r r 0
none-left r = record {
  stays = λ gives so. record { stands = so; same = refl; regions = λ n. refl };
  fewer = omega arith;
}

pub one-left : (gives : Giving) (r s t u : OpenRun) (k : ℕ) → StandsOpen gives r → HasLeft r s k
    → ((g : Giving) → StandsOpen g s → SettlesLast g s t false) → LeavesLast t u → HasLeft r u (k + 1)
one-left gives r s t u k so h settled l = record {
  stays = λ g st.
      let now = h.stays g st in
      let x = settled g now.stands in
      stays-from g r s u now (stays-before g s u (left-before s t u x.0 x.1 x.2 l) now.stands);
  fewer =
      let x = settled gives (h.stays gives so).stands in
      let many = ap length x.1 in
      omega (arith, h.fewer, l.fewer, many);
}
