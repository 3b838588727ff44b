-- Levels tell of the iteration of a step: all of them of all of it, and those so far of what is known.
use Rattle.std.specs.List.{list_all}
use Rattle.std.specs.Prelude.{◌≡◌, refl, ◌<◌, ◌≤◌, ℕ, suc, Bool, true, List, [], ◌∷◌, ◌++◌, Option, Some, None, option_and_then, slice_get}
use Rattle.std.proofs.Common.{arith, sym, ap, ap₂, subst, ◌∙◌, inl, inr}
use Rattle.std.proofs.lemmas.Option.{none-some, same_Some}
use Rattle.std.specs.Cmp.Derive.{one_truth}
use Rattle.tv_lemmas.specs.Members.{In}
use Rattle.tv_value.specs.Nested.{Place, at, count, item_at, leaf, list}
use Rattle.tv_value.specs.Values.{ErrorDoc, JobName, Name}
use Rattle.tv_flow.specs.Flows.{Flow, Step}
use Rattle.tv_strategy.specs.Iterations.{Binding, Iteration, Iterations, job, passed}
use Rattle.tv_strategy.specs.Origins.{Mark, Origin}
use Rattle.tv_model.specs.instance.Delivered.{StepMeaning}
use Rattle.tv_model.specs.instance.Wholeness.{origin_at}
use Rattle.tv_frame.specs.Levels.{AreLevels, CameFrom, Fit, FitsThere, IsAmong, IsNoJob, Level, What, came, closed}
use Rattle.tv_traces.specs.Feeds.{job_at}
use Rattle.tv_traces.specs.Seen.{AreKnownBy, AreSeen, CameFromKnown, IsKnownBy, IsSeen, Spot}
use Rattle.tv_traces.specs.Tables.{AreDone, AreGrown, IsTableOf, IsThere, or_else, told_or}
use Rattle.tv_traces.specs.Walking.{IsFault, IsListOf}
use Rattle.tv_frame.proofs.engine.Showing.{within}

-- ---- all origins pass

pub all-so : (os : List Origin) → list_all (λ o. true) os ≡ true
all-so [] = refl
all-so (o ∷ os) = all-so os

-- ---- what stands around a node

-- the list at q, which has item i
record IsListAround (t : Iteration) (q : Place) (i : ℕ) : Type 0 where
  sources : List Origin
  items : Iterations
  there : at t q ≡ Some (list sources items)
  less : i < count items

list-around : (t : Iteration) (q : Place) (i : ℕ) (p : Place) (u : Iteration) → at t (q ++ i ∷ p) ≡ Some u → IsListAround t q i
list-around (leaf r e) [] i p u h = absurd (none-some u h)
list-around (list r ts) [] i p u h = by (item_at ts i) refl h
  where
    by : (o : Option Iteration) → item_at ts i ≡ o → option_and_then (λ v. at v p) o ≡ Some u → IsListAround (list r ts) [] i
    by None e k = absurd (none-some u k)
    by (Some v) e k = record { sources = r; items = ts; there = refl; less = within ts i v e }
list-around (leaf r e) (j ∷ q) i p u h = absurd (none-some u h)
list-around (list r ts) (j ∷ q) i p u h = by (item_at ts j) refl h (λ v k. list-around v q i p u k)
  where
    by : (o : Option Iteration) → item_at ts j ≡ o → option_and_then (λ v. at v (q ++ i ∷ p)) o ≡ Some u → ((v : Iteration) → at v (q ++ i ∷ p) ≡ Some u → IsListAround v q i) → IsListAround (list r ts) (j ∷ q) i
    by None e k rec = absurd (none-some u k)
    by (Some v) e k rec = let x = rec v k in record { sources = x.sources; items = x.items; there = ap (option_and_then (λ w. at w q)) e ∙ x.there; less = x.less }

-- ---- levels that fit

module _ (flow : Flow) (fs : List StepMeaning) (ls : List Level) (fit : Fit flow fs ls) (what : ℕ → Place → Option What) (table : IsTableOf ls what)
    (n : ℕ) (s : Name × Step) (f : StepMeaning) (here : slice_get flow.steps n ≡ Some s) (among : In f fs) (named_so : f.step ≡ s.0) where
  -- what is told of a place fits what stands there
  what-fits : (q : Place) (w : What) → what n q ≡ Some w → FitsThere s.1 f q w (at f.iteration q)
  what-fits q w e =
      let l = table.from n q w e in
      let at_place : slice_get flow.steps l.level.step ≡ Some s = ap (slice_get flow.steps) l.of_step ∙ here in
      let fits = fit.there l.level s f l.among at_place among named_so in
      subst (λ p. FitsThere s.1 f p w (at f.iteration p)) l.place (subst (λ x. FitsThere s.1 f l.level.place x (at f.iteration l.level.place)) l.is fits)

  -- and where one of the levels stands there, something is told
  among-told : (q : Place) → IsAmong ls n q → (w : What) × (what n q ≡ Some w)
  among-told q a = let w = table.told a.level a.among in (w.0, ap₂ what (sym a.of_step) (sym a.place) ∙ w.1)

  among-there : (q : Place) → IsAmong ls n q → (t : Iteration) × (at f.iteration q ≡ Some t)
  among-there q a = let w = among-told q a in by (at f.iteration q) refl w.0 (what-fits q w.0 w.1)
    where
      by : (o : Option Iteration) → at f.iteration q ≡ o → (w : What) → FitsThere s.1 f q w o → (t : Iteration) × (at f.iteration q ≡ Some t)
      by None e w h = absurd h
      by (Some t) e w h = (t, e)

  list-told : (q : Place) (r : List Origin) (ts : Iterations) → at f.iteration q ≡ Some (list r ts) → (w : What) → what n q ≡ Some w → w ≡ closed (count ts)
  list-told q r ts e w h = by w (subst (FitsThere s.1 f q w) e (what-fits q w h))
    where
      by : (w : What) → FitsThere s.1 f q w (Some (list r ts)) → w ≡ closed (count ts)
      by (closed k) g = ap closed (sym g)
      by (came k) g = absurd g

  fault-told : (q : Place) (r : List Origin) (m : Option Mark) (e : ErrorDoc) → at f.iteration q ≡ Some (leaf r (passed m e)) → (w : What) → what n q ≡ Some w → (k : ℕ) × (w ≡ came k) × CameFrom s.1 f q k m
  fault-told q r m d e w h = by w (subst (FitsThere s.1 f q w) e (what-fits q w h))
    where
      by : (w : What) → FitsThere s.1 f q w (Some (leaf r (passed m d))) → (k : ℕ) × (w ≡ came k) × CameFrom s.1 f q k m
      by (closed k) g = absurd g
      by (came k) g = (k, refl, g)

  closed-long : (q : Place) (k : ℕ) (t : Iteration) → what n q ≡ Some (closed k) → at f.iteration q ≡ Some t → IsListOf k t
  closed-long q k t h e = by t (subst (FitsThere s.1 f q (closed k)) e (what-fits q (closed k) h))
    where
      less : (a b : ℕ) → a ≡ b → b ≤ a
      less a b e = omega arith

      by : (t : Iteration) → FitsThere s.1 f q (closed k) (Some t) → IsListOf k t
      by (leaf r x) g = g
      by (list r ts) g = less (count ts) k g

  came-fault : (q : Place) (k : ℕ) (t : Iteration) → what n q ≡ Some (came k) → at f.iteration q ≡ Some t → IsFault t
  came-fault q k t h e = by t (subst (FitsThere s.1 f q (came k)) e (what-fits q (came k) h))
    where
      by : (t : Iteration) → FitsThere s.1 f q (came k) (Some t) → IsFault t
      by (leaf r (job b)) g = g
      by (leaf r (passed m d)) g = tt
      by (list r ts) g = g

-- ---- all of them

pub whole-seen : (flow : Flow) (fs : List StepMeaning) (ls : List Level) → AreLevels flow fs ls → (what : ℕ → Place → Option What) → IsTableOf ls what → AreSeen (λ o. true) (λ n. true) flow fs what (λ n q. true)
whole-seen flow fs ls levels what table n s f here among named_so = record {
  lists = λ q r ts e k. told-list q r ts e;
  faults = λ q r m d e k.
      let w = told q (leaf r (passed m d)) e tt in
      let x = fault-told flow fs ls levels.fit what table n s f here among named_so q r m d e w.0 w.1 in
      (x.0, w.1 ∙ ap (λ y. Some y) x.1, record { from = x.2; is_known = refl });
  around = λ q i p t e k.
      let x = list-around f.iteration q i p t e in (count x.items, told-list q x.sources x.items x.there, x.less);
  long = closed-long flow fs ls levels.fit what table n s f here among named_so;
  came_there = came-fault flow fs ls levels.fit what table n s f here among named_so;
  jobs = λ q r b e. refl;
  bind = λ q r b e z. (refl, all-so r);
}
  where
    told : (q : Place) (t : Iteration) → at f.iteration q ≡ Some t → IsNoJob t → (w : What) × (what n q ≡ Some w)
    told q t e no_job = among-told flow fs ls levels.fit what table n s f here among named_so q (levels.all n s f q t here among named_so e no_job)

    told-list : (q : Place) (r : List Origin) (ts : Iterations) → at f.iteration q ≡ Some (list r ts) → what n q ≡ Some (closed (count ts))
    told-list q r ts e = let w = told q (list r ts) e tt in w.1 ∙ ap (λ y. Some y) (list-told flow fs ls levels.fit what table n s f here among named_so q r ts e w.0 w.1)

-- ---- those so far

module _ (known : Origin → Bool) (settled : JobName → Bool) (flow : Flow) (fs : List StepMeaning) (ls : List Level) (js : List Spot) (k : AreKnownBy known settled flow fs ls js)
    (what grown : ℕ → Place → Option What) (done : ℕ → Place → Bool) (table : IsTableOf ls what) (grows : AreGrown ls js grown) (dones : AreDone js done)
    (n : ℕ) (s : Name × Step) (f : StepMeaning) (here : slice_get flow.steps n ≡ Some s) (among : In f fs) (named_so : f.step ≡ s.0) where
  abbrev by_step : IsKnownBy known settled ls js n s f
  by_step = k.each n s f here among named_so

  told-so : (q : Place) (w : What) → what n q ≡ Some w → told_or what grown n q ≡ Some w
  told-so q w e = ap (λ o. or_else o (grown n q)) e

  told-there : (q : Place) (t : Iteration) → at f.iteration q ≡ Some t → IsNoJob t → known (origin_at (job_at s.0) q t) ≡ true → (w : What) × (what n q ≡ Some w)
  told-there q t e no_job h = among-told flow fs ls k.fit what table n s f here among named_so q (by_step.levels q t e no_job h)

  lists-seen : (q : Place) (r : List Origin) (ts : Iterations) → at f.iteration q ≡ Some (list r ts) → known (origin_at (job_at s.0) q (list r ts)) ≡ true → told_or what grown n q ≡ Some (closed (count ts))
  lists-seen q r ts e h =
      let w = told-there q (list r ts) e tt h in
      told-so q w.0 w.1 ∙ ap (λ y. Some y) (list-told flow fs ls k.fit what table n s f here among named_so q r ts e w.0 w.1)

  faults-seen : (q : Place) (r : List Origin) (m : Option Mark) (d : ErrorDoc) → at f.iteration q ≡ Some (leaf r (passed m d)) → known (origin_at (job_at s.0) q (leaf r (passed m d))) ≡ true → (l : ℕ) × (told_or what grown n q ≡ Some (came l)) × CameFromKnown known s.1 f q l m
  faults-seen q r m d e h =
      let w = told-there q (leaf r (passed m d)) e tt h in
      let x = fault-told flow fs ls k.fit what table n s f here among named_so q r m d e w.0 w.1 in
      let l = table.from n q w.0 w.1 in (
        x.0,
        told-so q w.0 w.1 ∙ ap (λ y. Some y) x.1,
        record {
          from = x.2;
          is_known =
              subst (λ p. (c : CameFrom s.1 f p x.0 m) → known c.origin ≡ true) l.place
              (by_step.faults l.level l.among l.of_step x.0 (l.is ∙ x.1) m) x.2;
        },
      )

  -- a level or a settled job that is known stands there
  known-there : (q : Place) (t : Iteration) → at f.iteration q ≡ Some t → known (origin_at (job_at s.0) q t) ≡ true → IsThere ls js n q
  known-there q (leaf r (job b)) e h = inr (by_step.all q r b e (sym (by_step.jobs q r b e) ∙ h)).0
  known-there q (leaf r (passed m d)) e h = inl (by_step.levels q (leaf r (passed m d)) e tt h)
  known-there q (list r ts) e h = inl (by_step.levels q (list r ts) e tt h)

  there-stands : (q : Place) → IsThere ls js n q → (t : Iteration) × (at f.iteration q ≡ Some t)
  there-stands q (inl a) = among-there flow fs ls k.fit what table n s f here among named_so q a
  there-stands q (inr i) = let x = by_step.there q i in (leaf x.0 (job x.1), x.2)

  around-seen : (q : Place) (i : ℕ) (p : Place) (t : Iteration) → at f.iteration (q ++ i ∷ p) ≡ Some t → known (origin_at (job_at s.0) (q ++ i ∷ p) t) ≡ true → (m : ℕ) × (told_or what grown n q ≡ Some (closed m)) × (i < m)
  around-seen q i p t e h = by (what n q) refl
    where
      by : (o : Option What) → what n q ≡ o → (m : ℕ) × (or_else o (grown n q) ≡ Some (closed m)) × (i < m)
      by None g = grows.told n q i p (known-there (q ++ i ∷ p) t e h)
      by (Some w) g =
          let x = list-around f.iteration q i p t e in
          (count x.items, ap (λ y. Some y) (list-told flow fs ls k.fit what table n s f here among named_so q x.sources x.items x.there w g), x.less)

  long-seen : (q : Place) (m : ℕ) (t : Iteration) → told_or what grown n q ≡ Some (closed m) → at f.iteration q ≡ Some t → IsListOf m t
  long-seen q m t h e = by (what n q) refl h
    where
      same : (a b : ℕ) → closed a ≡ closed b → a ≡ b
      same a b g = cc

      enough : (a b c : ℕ) → a ≡ suc b → b < c → a ≤ c
      enough a b c g lt = omega arith

      by : (o : Option What) → what n q ≡ o → or_else o (grown n q) ≡ Some (closed m) → IsListOf m t
      by (Some w) g j = closed-long flow fs ls k.fit what table n s f here among named_so q m t (g ∙ j) e
      by None g j =
          let x = grows.from n q (closed m) j in
          let u = there-stands (q ++ x.2.index ∷ x.2.rest) x.2.there in
          let y = list-around f.iteration q x.2.index x.2.rest u.0 u.1 in
          subst (IsListOf m) (same_Some (list y.sources y.items) t (sym y.there ∙ e)) (enough m x.2.index (count y.items) (same m x.0 x.1 ∙ x.2.last) y.less)

  came-seen : (q : Place) (l : ℕ) (t : Iteration) → told_or what grown n q ≡ Some (came l) → at f.iteration q ≡ Some t → IsFault t
  came-seen q l t h e = by (what n q) refl h
    where
      no : (a b : ℕ) → came a ≡ closed b → ⊥
      no a b g = cc

      by : (o : Option What) → what n q ≡ o → or_else o (grown n q) ≡ Some (came l) → IsFault t
      by (Some w) g j = came-fault flow fs ls k.fit what table n s f here among named_so q l t (g ∙ j) e
      by None g j = let x = grows.from n q (came l) j in absurd (no l x.0 x.1)

  jobs-seen : (q : Place) (r : List Origin) (b : Binding) → at f.iteration q ≡ Some (leaf r (job b)) → done n q ≡ settled (job_at s.0 q)
  jobs-seen q r b e = one_truth (done n q) (settled (job_at s.0 q)) (λ h. (by_step.there q (dones.from n q h)).3) (λ h. dones.told n q (by_step.all q r b e h).0)

  so_far-seen_of : IsSeen known settled (told_or what grown n) (done n) s f
  so_far-seen_of = record {
    lists = lists-seen;
    faults = faults-seen;
    around = around-seen;
    long = long-seen;
    came_there = came-seen;
    jobs = jobs-seen;
    bind = λ q r b e z. (by_step.jobs q r b e ∙ z, (by_step.all q r b e z).1);
  }

pub so_far-seen : (known : Origin → Bool) (settled : JobName → Bool) (flow : Flow) (fs : List StepMeaning) (ls : List Level) (js : List Spot) → AreKnownBy known settled flow fs ls js → (what grown : ℕ → Place → Option What) (done : ℕ → Place → Bool) → IsTableOf ls what → AreGrown ls js grown → AreDone js done → AreSeen known settled flow fs (told_or what grown) done
so_far-seen known settled flow fs ls js k what grown done table grows dones n s f here among named_so = so_far-seen_of known settled flow fs ls js k what grown done table grows dones n s f here among named_so
