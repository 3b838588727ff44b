-- The flow that a job opened ends.
use Rattle.std.specs.Prelude.{◌≡◌, ◌≢◌, refl, ℕ, ◌∷◌, ◌++◌, List, Some, true, is_some, slice_get}
use Rattle.std.proofs.Common.{ap, subst, sym, ◌∙◌}
use Rattle.std.proofs.lemmas.Bool.{false_from_ne_true}
use Rattle.std.proofs.lemmas.Option.{none-some, same_Some}
use Rattle.tv_lemmas.proofs.Options.{is_some-some}
use Rattle.tv_lemmas.proofs.Lists.{in-front, get-map}
use Rattle.tv_value.specs.Nested.{Place}
use Rattle.tv_value.specs.Orders.{same_job}
use Rattle.tv_value.specs.Values.{Name}
use Rattle.tv_value.proofs.JobNameLemmas.{same_job_decides}
use Rattle.tv_gate.specs.Outcomes.{Giving}
use Rattle.tv_flow.specs.Flows.{Document, Flow}
use Rattle.tv_model.specs.instance.Events.{gave}
use Rattle.tv_model.specs.Jobs.{Job}
use Rattle.tv_model.specs.Made.{Meaning}
use Rattle.tv_model.specs.Meanings.{meaning}
use Rattle.tv_model.proofs.Sound.{spot-step}
use Rattle.tv_history.specs.Entries.{Entry, History, ended}
use Rattle.tv_history.specs.Histories.{can_end}
use Rattle.tv_framing.specs.Views.{View}
use Rattle.tv_framing.proofs.Numbers.{jobs-differ}
use Rattle.tv_seats.specs.Seats.{Seat, staged, with_stage}
use Rattle.tv_seats.specs.declared.stage.Stage.TheVariants as stage
use Rattle.tv_seats.proofs.Staging.{staged-here, staged-other}
use Rattle.tv_forest.specs.views.InRun.{IsJobThere}
use Rattle.tv_forest.proofs.runs.Elsewhere.{others-are_elsewhere}
use Rattle.tv_forest.specs.seats.GoingOn.{MaySettle}
use Rattle.tv_forest.specs.seats.Seated.{HasEnded, Sit, spot_of}
use Rattle.tv_forest.proofs.seats.Entries.{end-settles_job, job-settles}
use Rattle.tv_forest.proofs.seats.Ends.{ends-settled}
use Rattle.tv_forest.specs.Entries.{Ending, shut, with_view, with_instance}
use Rattle.tv_forest.specs.Forest.{Instance, Instances, IsAt, IsJobAt, IsOpenAt, Stand}
use Rattle.tv_forest.proofs.Entries.{On, by-view, its-seat, same-flow, sit}
use Rattle.tv_forest.proofs.Instances.{Becomes, IsOpenNumber, Later, StaysThen, job-was, later-itself, later-shut, one-job, sits, stand-then}
use Rattle.tv_forest.proofs.Lists.{at-each, at-set, no-longer, of-set, one-at, same-number, set-swap, to-set}
use Rattle.tv_forest.proofs.One.{stays-elsewhere}
use Rattle.tv_forest.proofs.SeatLemmas.{Spots, WereNested, not-nested, number_of, spots-behind, spots-staged, was-here, were-behind, were-same, were-staged}

module _ (gives : Giving) (d : Document) (levels : Flow → Name → ℕ) (past : History) (xs : Instances)
    (stand : Stand gives d levels past xs) (i n : ℕ) (x : Instance) (s : Seat) (j : Job) (v : View)
    (is : IsJobAt gives d xs i n x s j) (is_open : x.view ≡ Some v) (k : ℕ) (y : Instance) (w : View) (ns : List Seat)
    (nests : s.stage ≡ stage.Nested k) (y_at : IsAt xs k y) (can : can_end (meaning gives d) past j.name ≡ true)
    (goes : On gives d levels past xs stand i n x s j v is is_open w (λ l. gave l s.place j.result) ns) where
  abbrev m : Meaning
  m = meaning gives d

  abbrev p : Name × Place
  p = spot_of x.flow.steps s

  abbrev e : Entry
  e = ended j.name

  abbrev us : List Seat
  us = with_stage n stage.Settled x.seats ++ ns

  abbrev x' : Instance
  x' = with_view x w us

  abbrev zs : Instances
  zs = with_instance xs i x'

  abbrev ys : Instances
  ys = with_instance zs k (shut y)

  abbrev its_sit : Sit gives d past x.name (levels x.flow) v x.seats
  its_sit = sit gives d levels past xs stand i n x s j v is is_open

  abbrev opened : IsOpenAt xs k j.name
  opened = stand.nested i n k x s j is nests

  named : y.name ≡ j.name
  named = ap (λ (z : Instance). z.name) (one-at xs k y opened.instance y_at opened.there) ∙ opened.is_its

  -- ---- the two numbers differ

  pub differ : i ≡ k → ⊥
  differ q =
      let same = one-at xs k x y (subst (λ l. IsAt xs l x) q is.instance) y_at in
      no-longer x.name p (ap (λ (z : Instance). z.name) same ∙ named ∙ is.job.name)

  x-at : IsAt zs i x'
  x-at = at-set xs i x x' is.instance

  y-between : IsAt zs k y
  y-between = to-set xs i x x' is.instance k y (λ q. differ (sym q)) y_at

  y-there : IsAt ys k (shut y)
  y-there = at-set zs k y (shut y) y-between

  x-there : IsAt ys i x'
  x-there = to-set zs k y (shut y) y-between i x' differ x-at

  there : (l : ℕ) (z : Instance) → l ≢ i → l ≢ k → IsAt xs l z → IsAt ys l z
  there l z ne nq a = to-set zs k y (shut y) y-between l z nq (to-set xs i x x' is.instance l z ne a)

  before : (l : ℕ) (z : Instance) → l ≢ i → l ≢ k → IsAt ys l z → IsAt xs l z
  before l z ne nq b = of-set xs i x x' is.instance l z ne (of-set zs k y (shut y) y-between l z nq b)

  -- what is so of the two and of all others
  each-before : (P : ℕ → Instance → Type 0) → P i x → P k y
      → ((l : ℕ) (z : Instance) → l ≢ i → l ≢ k → IsAt xs l z → P l z)
      → (l : ℕ) (z : Instance) → IsAt xs l z → P l z
  each-before P of_x of_y others =
      at-each xs i x is.instance P of_x
      (λ l z ne a. at-each xs k y y_at (λ l z. l ≢ i → P l z) (λ f. of_y) (λ l z nq a ne. others l z ne nq a) l z a ne)

  each-then : (P : ℕ → Instance → Type 0) → P i x' → P k (shut y)
      → ((l : ℕ) (z : Instance) → l ≢ i → l ≢ k → IsAt xs l z → P l z)
      → (l : ℕ) (z : Instance) → IsAt ys l z → P l z
  each-then P of_x of_y others =
      at-each ys i x' x-there P of_x
      (λ l z ne b.
      at-each ys k (shut y) y-there (λ l z. l ≢ i → P l z) (λ f. of_y)
      (λ l z nq b ne. others l z ne nq (before l z ne nq b)) l z b ne)

  -- ---- later on

  no-view : IsOpenNumber ys k → ⊥
  no-view o =
      let same = one-at ys k (shut y) o.instance y-there o.there in
      none-some o.view (ap (λ (z : Instance). z.view) same ∙ o.is_open)

  spots : Spots x.seats us
  spots =
      spots-behind x.seats (with_stage n stage.Settled x.seats) ns (spots-staged x.seats n s stage.Settled is.seat)

  -- all flows are open still but the one that ended
  still-open : (l a : ℕ) (r t : Seat) → slice_get x.seats l ≡ Some r → slice_get us l ≡ Some t
      → r.stage ≡ stage.Nested a → IsOpenNumber ys a → t.stage ≡ stage.Nested a
  still-open l a r t f g h o =
      same-number l n
      (λ same.
      let q = was-here x.seats n s stage.Settled is.seat l r same f in
      let number = ap number_of (sym h ∙ ap (λ (u : Seat). u.stage) (sym q) ∙ nests) in
      absurd (no-view (subst (IsOpenNumber ys) number o)))
      (λ ne.
      let staged_there = staged-there l r ne f in
      ap (λ (u : Seat). u.stage)
      (one-at us l t r g (in-front (with_stage n stage.Settled x.seats) ns l r staged_there)) ∙ h)
    where
      staged-there : (l : ℕ) (r : Seat) → l ≢ n → slice_get x.seats l ≡ Some r
          → slice_get (with_stage n stage.Settled x.seats) l ≡ Some r
      staged-there l r ne f = staged-other x.seats n s stage.Settled is.seat l ne ∙ f

  later-x : Later ys x x'
  later-x = record {
    name = refl;
    flow = refl;
    views = λ z f. (v, is_open, ap (λ (a : View). a.inputs) (sym (same_Some w z f)) ∙ goes.follows.inputs);
    spots = spots;
    still = still-open;
  }

  were-x : WereNested x.seats us
  were-x =
      were-behind x.seats (with_stage n stage.Settled x.seats) ns goes.new.waiting
      (were-staged x.seats n s stage.Settled is.seat refl)

  on : (l : ℕ) (z : Instance) → IsAt xs l z → Becomes gives d levels past xs stand e ys l z
  on =
      each-before (λ l z. Becomes gives d levels past xs stand e ys l z)
      (record { after = x'; there = x-there; later = later-x })
      (record { after = shut y; there = y-there; later = later-shut ys y })
      (λ l z ne nq a. record { after = z; there = there l z ne nq a; later = later-itself ys z })

  abbrev Was : ℕ → Instance → Type 0
  Was l z = (a : Instance) × IsAt xs l a × Later ys a z × WereNested a.seats z.seats

  was : (l : ℕ) (z : Instance) → IsAt ys l z → Was l z
  was =
      each-then Was (x, is.instance, later-x, were-x) (y, y_at, later-shut ys y, were-same y.seats)
      (λ l z ne nq a. (z, a, later-itself ys z, were-same z.seats))

  -- ---- how each stands then

  x-stays : Sit gives d (e ∷ past) x.name (levels x.flow) w us
  x-stays =
      let seat = its-seat gives d levels past xs stand i n x s j v is is_open in
      job-settles gives d past x.name (levels x.flow) v x.seats its_sit j n s.stage seat e
      (subst (λ b. MaySettle j b e) (sym nests) refl) can
      (end-settles_job gives d past x.name (levels x.flow) v x.seats its_sit j n s.stage seat k nests) w ns
      (by-view gives d levels past xs stand i n x s j v is is_open w (λ l. gave l s.place j.result) ns goes)

  y-ends : HasEnded gives d (e ∷ past) y.name y.flow y.seats
  y-ends =
      let f = is_some-some opened.instance.view opened.is_open in
      let u = f.0 in
      let q = one-at xs k opened.instance y opened.there y_at in
      let h = sits gives d levels past xs stand k y u y_at (subst (λ (z : Instance). z.view ≡ Some u) q f.1) in
      let last =
      ends-settled gives d past y.name (levels y.flow) u y.seats h.1
      (subst (λ J. can_end m past J ≡ true) (sym named) can) in
      subst (λ J. HasEnded gives d (ended J ∷ past) y.name y.flow y.seats) named
      (subst (λ g. HasEnded gives d (ended y.name ∷ past) y.name g y.seats) h.0 last)

  each : (l : ℕ) (z : Instance) → IsAt ys l z → StaysThen gives d levels past xs stand e ys z
  each =
      each-then (λ l z. StaysThen gives d levels past xs stand e ys z)
      (goes.follows.flow ∙ same-flow gives d levels past xs stand i n x s j v is is_open, x-stays) y-ends
      (λ l z ne nq a.
      let other =
      false_from_ne_true (same_job z.name j.name)
      (λ h. nq (stand.apart l k z y a y_at ((same_job_decides z.name j.name).0 h ∙ sym named))) in
      let elsewhere =
      others-are_elsewhere e x.name z.name p.0 p.1 (ap Some is.job.name)
      (λ h. ne (stand.apart l i z x a is.instance h)) other in
      stays-elsewhere gives d levels past e can z elsewhere z.view (stand.each l z a))

  -- ---- open flows

  listed : (l : ℕ) (t : Seat) → slice_get x.seats l ≡ Some t → slice_get v.jobs l ≡ Some (spot_of v.flow.steps t)
  listed l t f =
      ap (λ ps. slice_get ps l) (sym its_sit.jobs) ∙ get-map (spot_of v.flow.steps) x.seats l t f

  one-seat : (l : ℕ) (t : Seat) → slice_get x.seats l ≡ Some t
      → spot_of v.flow.steps t ≡ spot_of v.flow.steps s → l ≡ n
  one-seat l t f q =
      let there = spot_of v.flow.steps s in
      jobs-differ v its_sit.in_run.frame there.0 there.1 l n (listed l t f ∙ ap Some q) (listed n s is.seat)

  -- no other seat had the one that ended
  is-it : (o l : ℕ) (z : Instance) (t : Seat) (a : Job) → IsJobAt gives d xs o l z t a → a.name ≡ j.name
      → (o ≡ i) × (l ≡ n)
  is-it o l z t a b q =
      let same = one-job gives d a j b.job.listed is.job.listed q in
      let around = sym b.job.within ∙ ap (λ (r : Job). r.instance) same ∙ is.job.within in
      let number = stand.apart o i z x b.instance is.instance around in
      let here = one-at xs i z x (subst (λ r. IsAt xs r z) number b.instance) is.instance in
      let mine = subst (λ (r : Instance). IsJobThere gives d r.name a (spot_of r.flow.steps t)) here b.job in
      let spot_same = spot-step x.name (spot_of x.flow.steps t).0 p.0 t.place p.1 (sym mine.name ∙ q ∙ is.job.name) in
      let flow = same-flow gives d levels past xs stand i n x s j v is is_open in (
        number,
        one-seat l t (subst (λ (r : Instance). slice_get r.seats l ≡ Some t) here b.seat)
            (subst (λ (g : Flow). spot_of g.steps t ≡ spot_of g.steps s) (sym flow)
            (λ c. (spot_same.0 c, spot_same.1 c))),
      )

  settled-now : (t : Seat) (a : ℕ) → slice_get us n ≡ Some t → t.stage ≡ stage.Nested a → ⊥
  settled-now t a f h =
      let u = in-front (with_stage n stage.Settled x.seats) ns n (staged stage.Settled s)
      (staged-here x.seats n s stage.Settled is.seat) in
      not-nested stage.Settled a refl
      (ap (λ (r : Seat). r.stage) (one-at us n (staged stage.Settled s) t u f) ∙ h)

  stay-open : (o l a : ℕ) (z : Instance) (t : Seat) (b : Job) → IsJobAt gives d ys o l z t b
      → t.stage ≡ stage.Nested a → IsOpenAt xs a b.name → IsOpenAt ys a b.name
  stay-open o l a z t b c h old =
      each-before (λ a r. r.name ≡ b.name → is_some r.view ≡ true → t.stage ≡ stage.Nested a → IsOpenAt ys a b.name)
      (λ q f h. record { instance = x'; there = x-there; is_its = q; is_open = refl })
      (λ q f h. absurd (not-this q h))
      (λ a r ne nq g q f h. record { instance = r; there = there a r ne nq g; is_its = q; is_open = f })
      a old.instance old.there old.is_its old.is_open h
    where
      not-this : y.name ≡ b.name → t.stage ≡ stage.Nested k → ⊥
      not-this q h =
          let u = was o z c.instance in
          let job = job-was gives d levels past xs stand e ys on each o l k u.0 z t b u.1 u.2 u.3 c h in
          let r = is-it o l u.0 (u.3 l k t c.seat h).0 b job (sym q ∙ named) in
          let here = one-at ys i x' z x-there (subst (λ g. IsAt ys g z) r.0 c.instance) in
          settled-now t k
          (subst (λ g. slice_get us g ≡ Some t) r.1
          (subst (λ (g : Instance). slice_get g.seats l ≡ Some t) (sym here) c.seat))
          h

  ends : Stand gives d levels (e ∷ past) ys
  ends = stand-then gives d levels past xs stand e ys on each can (λ r. refl) was stay-open

pub ending : Ending
ending gives d levels past xs stand i n x s j v is is_open k y w ns nests y_at can goes =
    ends gives d levels past xs stand i n x s j v is is_open k y w ns nests y_at can goes

-- the same, where the instance that ended is shut first
pub ending-shut_first : (gives : Giving) (d : Document) (levels : Flow → Name → ℕ) (past : History) (xs : Instances)
    (stand : Stand gives d levels past xs) (i n : ℕ) (x : Instance) (s : Seat) (j : Job) (v : View)
    (is : IsJobAt gives d xs i n x s j) (is_open : x.view ≡ Some v) (k : ℕ) (y : Instance) (w : View) (ns : List Seat)
    (nests : s.stage ≡ stage.Nested k) (y_at : IsAt xs k y) (can : can_end (meaning gives d) past j.name ≡ true)
    (goes : On gives d levels past xs stand i n x s j v is is_open w (λ l. gave l s.place j.result) ns)
    → Stand gives d levels (ended j.name ∷ past)
    (with_instance (with_instance xs k (shut y)) i (with_view x w (with_stage n stage.Settled x.seats ++ ns)))
ending-shut_first gives d levels past xs stand i n x s j v is is_open k y w ns nests y_at can goes =
    subst (Stand gives d levels (ended j.name ∷ past))
    (set-swap xs i k (with_view x w (with_stage n stage.Settled x.seats ++ ns)) (shut y)
    (differ gives d levels past xs stand i n x s j v is is_open k y w ns nests y_at can goes))
    (ends gives d levels past xs stand i n x s j v is is_open k y w ns nests y_at can goes)
