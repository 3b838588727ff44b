-- A run of which all that was out is idle again fits the instances with all of it called back, with the same names.
use Rattle.std.specs.List.{sum_by}
use Rattle.std.specs.Option.{option_map_or}
use Rattle.std.specs.Prelude.{◌≡◌, ◌⊎◌, refl, ℕ, suc, ◌+◌, ◌<◌, ◌≤◌, ◌++◌, true, List, [], ◌∷◌, None, Option, Some, cond, count_by, length, map, option_and_then, option_map, slice_get, is_some}
use Rattle.std.proofs.Common.{ap, ap₂, arith, inl, inr, subst, sym, ◌∙◌}
use Rattle.std.proofs.lemmas.List.{length-map}
use Rattle.std.proofs.lemmas.List.Sums.{sum_by-cons}
use Rattle.std.proofs.lemmas.Option.{slice_get_cases, slice_get_past, slice_get_within}
use Rattle.std.proofs.lemmas.Simd.{map-map}
use Rattle.tv_lemmas.specs.Members.{In}
use Rattle.tv_lemmas.proofs.Cases.{on_either}
use Rattle.tv_lemmas.proofs.Counts.{count-cons}
use Rattle.tv_lemmas.proofs.Lists.{get-within, of-image, get-map}
use Rattle.tv_value.specs.Values.{JobName, Name}
use Rattle.tv_flow.specs.Flows.{Flow}
use Rattle.tv_check.specs.RunViews.{run_view}
use Rattle.tv_check.specs.declared.plans.FlowPlan.{FlowPlan}
use Rattle.tv_intake.specs.Intaken.{known_jobs}
use Rattle.tv_model.proofs.Tests.{true≠false}
use Rattle.tv_instances.specs.FramingViews.{View}
use Rattle.tv_frame.specs.Kept.{Keeps}
use Rattle.tv_frame.specs.Tables.{levels_in}
use Rattle.tv_frame.specs.declared.frame.Frame.{Frame}
use Rattle.tv_frame_laws.specs.Theirs.{AreTheirs}
use Rattle.tv_seats.specs.Seats.{Seat, back, seats_out, staged}
use Rattle.tv_seats.specs.Tables.{Rows}
use Rattle.tv_seats.specs.Stages as stages
use Rattle.tv_seats.specs.Stages.{is_waiting}
use Rattle.tv_seats.specs.declared.stage.Stage.{Stage}
use Rattle.tv_seats.specs.declared.stage.Stage.TheVariants as stage
use Rattle.tv_instances.specs.seats.Seated.{spot_of}
use Rattle.tv_instances.specs.Entries.{called_back}
use Rattle.tv_instances.specs.Forest.{AreNumbered, Instance, Instances, IsAt, names_by}
use Rattle.tv_instances.proofs.Recalls.{settled-back}
use Rattle.tv_instances.specs.forest_firsts.Opening.{IsStill}
use Rattle.tv_instances.specs.forest_firsts.Told.{KeepsSpots}
use Rattle.tv_instances.proofs.forest_firsts.Names.{names-stay}
use Rattle.tv_instances.specs.Standing.{IsOpen, job_of}
use Rattle.tv_instances.specs.declared.open.Open.{Open}
use Rattle.tv_instances.proofs.TrieLemmas.{kept-with, quiet-none}
use Rattle.tv_run.specs.Looks.{AreLooks}
use Rattle.tv_run.specs.Recalling.{IsBack, IsCalledBack, out_in}
use Rattle.tv_run.specs.Standing.{Fits, IsKept, IsLife, due_in, frame_at, is_due, name_behind, names_from, names_of, numbered_as, numbers_of, opener_name, seats_of, steps_of}
use Rattle.tv_run.specs.declared.instances.Instance as code
use Rattle.tv_run.specs.declared.instances.Numbered.{Numbered}
use Rattle.tv_run.specs.declared.run.OpenRun.{OpenRun}
use Rattle.tv_run.proofs.JobLemmas.{seats-open}
use Rattle.tv_run.proofs.Moved.{HasSameJobs, at-steps, spot_by, at-spot}
use Rattle.tv_run.proofs.Rooms.{theirs-as}

-- ---- seats

none-out : (ss : List Seat) → ((n : ℕ) (s : Seat) → slice_get ss n ≡ Some s → s.stage ≡ stage.Settled)
    → seats_out ss ≡ 0
none-out [] h = refl
none-out (s ∷ ss) h =
    let all = count-cons (λ (t : Seat). stages.is_out t.stage) s ss in
    let rest = none-out ss (λ n t g. h (suc n) t g) in
    let here : ◌≡◌ {A = ℕ} (cond (stages.is_out s.stage) 1 0) 0 = ap (λ y. cond (stages.is_out y) 1 0) (h 0 s refl) in
    omega (arith, all, rest, here)

-- what was out is due
due-back : (x : Stage)
    → ◌≡◌ {A = ℕ} (cond (is_due (stages.called_back x)) 1 0) (cond (is_due x) 1 0 + cond (stages.is_out x) 1 0)
due-back stage.Waiting = refl
due-back (stage.Out a t) = refl
due-back (stage.Idle a t) = refl
due-back (stage.Aside a) = refl
due-back (stage.Nested i) = refl
due-back stage.Settled = refl

due-seats : (ss : List Seat)
    → count_by (λ (s : Seat). is_due s.stage) (map back ss) ≡ count_by (λ (s : Seat). is_due s.stage) ss + seats_out ss
due-seats [] = refl
due-seats (s ∷ ss) =
    let now = count-cons (λ (t : Seat). is_due t.stage) (back s) (map back ss) in
    let was = count-cons (λ (t : Seat). is_due t.stage) s ss in
    let out = count-cons (λ (t : Seat). stages.is_out t.stage) s ss in
    let rest = due-seats ss in
    let here = due-back s.stage in
    omega (arith, now, was, out, rest, here)

due-all : (xs : Instances)
    → sum_by due_in (map called_back xs) ≡ sum_by due_in xs + sum_by (λ (x : Instance). seats_out x.seats) xs
due-all [] = refl
due-all (x ∷ xs) =
    let now = sum_by-cons due_in (called_back x) (map called_back xs) in
    let was = sum_by-cons due_in x xs in
    let out = sum_by-cons (λ (y : Instance). seats_out y.seats) x xs in
    let rest = due-all xs in
    let here = due-seats x.seats in
    omega (arith, now, was, out, rest, here)

-- none waits that didn't
waits-back : (x : Stage) → is_waiting (stages.called_back x) ≡ true → stages.called_back x ≡ x
waits-back stage.Waiting h = refl
waits-back (stage.Out a t) h = absurd (true≠false (sym h))
waits-back (stage.Idle a t) h = refl
waits-back (stage.Aside a) h = refl
waits-back (stage.Nested i) h = refl
waits-back stage.Settled h = refl

still-back : (x : Instance) (v : View) → IsStill levels_in x v → IsStill levels_in (called_back x) v
still-back x v still = record {
  bounces = λ n u at ready.
      let w = of-image back x.seats n u at in
      let same : back w.0 ≡ w.0 =
      ap (λ y. staged y w.0)
      (waits-back w.0.stage (ap (λ (z : Seat). is_waiting z.stage) w.2 ∙ ready.0)) in
      still.bounces n u (w.1 ∙ ap Some (sym (sym w.2 ∙ same))) ready;
  settles = still.settles;
  ends = still.ends;
}

same-back : (ss : List Seat) → map job_of (map back ss) ≡ map job_of ss
same-back ss = map-map job_of back ss

-- ---- one instance of the code

abbrev seats_by : Option Rows → List Open → List Seat
seats_by ended [] = option_map_or (λ (s : Rows). s.seats) ended []
seats_by ended (o ∷ os) = o.seats.seats

-- it has ended, or is open
IsEither : List Open → Type 0
IsEither [] = Unit {0}
IsEither (o ∷ os) = os ≡ []

-- one that is open with this Open has another then
record IsBackOpen (c e : code.Instance) (o : Open) : Type 0 where
  then_is : Open
  there : e.open.items ≡ then_is ∷ []
  is_back : IsBack o then_is

module _ (c e : code.Instance) (b : IsCalledBack c e) where
  shut-back : c.open.items ≡ [] → e.open.items ≡ []
  shut-back h = by e.open.items (b.as_many ∙ ap length h)
    where
      by : (l : List Open) → length l ≡ 0 → l ≡ []
      by [] k = refl
      by (o ∷ os) k = absurd (some (length os) k)
        where
          some : (n : ℕ) → suc n ≡ 0 → ⊥
          some n q = omega (arith, q)

  open-back : (o : Open) → c.open.items ≡ o ∷ [] → IsBackOpen c e o
  open-back o h =
      by e.open.items refl (b.as_many ∙ ap length h)
    where
      by : (l : List Open) → e.open.items ≡ l → length l ≡ 1 → IsBackOpen c e o
      by [] f k = absurd (none k)
        where
          none : ◌≡◌ {A = ℕ} 0 1 → ⊥
          none q = omega (arith, q)
      by (p ∷ []) f k = record {
        then_is = p;
        there = f;
        is_back = b.opens o p (ap (λ l. slice_get l 0) h) (ap (λ l. slice_get l 0) f);
      }
      by (p ∷ q ∷ ps) f k = absurd (more (length ps) k)
        where
          more : (n : ℕ) → suc (suc n) ≡ 1 → ⊥
          more n q = omega (arith, q)

  seats-back : (o : Open) → c.open.items ≡ o ∷ [] → seats_of e ≡ map back (seats_of c)
  seats-back o h =
      let p = open-back o h in
      seats-open e p.then_is [] p.there ∙ p.is_back.seats ∙ ap (map back) (sym (seats-open c o [] h))

  seats-shut : c.open.items ≡ [] → seats_of e ≡ seats_of c
  seats-shut h = λ i. seats_by (b.seats i) ((shut-back h ∙ sym h) i)

  jobs-back : (c.open.items ≡ []) ⊎ ((o : Open) × (c.open.items ≡ o ∷ [])) → HasSameJobs c e
  jobs-back either = record {
    flow = b.flow;
    opener = b.opener;
    numbers = ap (λ v. v.items) b.jobs;
    is_busy = b.is_busy;
    jobs =
        on_either either
        (λ h. ap (map job_of) (seats-shut h))
        (λ h. ap (map job_of) (seats-back h.0 h.1) ∙ same-back (seats_of c));
  }

-- an instance that is kept has ended, or is open
either-way : (r : OpenRun) (i : ℕ) (c : code.Instance) (x : Instance) → IsKept r i c x
    → (c.open.items ≡ []) ⊎ ((o : Open) × (c.open.items ≡ o ∷ []))
either-way r i c x kept = by x.view kept.life
  where
    by : (w : Option View) → IsLife r c x w → (c.open.items ≡ []) ⊎ ((o : Open) × (c.open.items ≡ o ∷ []))
    by None life = inl life.0
    by (Some v) life = inr (life.itself, life.there)

-- ---- all of them

-- an instance that has ended has settled seats alone
abbrev pub AllRest : Instances → Type 0
AllRest xs =
    (i : ℕ) (x : Instance) → IsAt xs i x → x.view ≡ None → (n : ℕ) (s : Seat) → slice_get x.seats n ≡ Some s
    → s.stage ≡ stage.Settled

-- two lists of which the members are alike have one sum
sums-alike : {A B : Type 0} (f : A → ℕ) (g : B → ℕ) (xs : List A) (ys : List B) → length xs ≡ length ys
    → ((i : ℕ) (x : A) (y : B) → slice_get xs i ≡ Some x → slice_get ys i ≡ Some y → f x ≡ g y) → sum_by f xs ≡ sum_by g ys
sums-alike f g [] [] many h = refl
sums-alike f g [] (y ∷ ys) many h = absurd (none (length ys) many)
  where
    none : (n : ℕ) → 0 ≡ suc n → ⊥
    none n e = omega (arith, e)
sums-alike f g (x ∷ xs) [] many h = absurd (none (length xs) many)
  where
    none : (n : ℕ) → suc n ≡ 0 → ⊥
    none n e = omega (arith, e)
sums-alike f g (x ∷ xs) (y ∷ ys) many h =
    sum_by-cons f x xs
    ∙ ap₂ (λ a b. a + b) (h 0 x y refl refl)
    (sums-alike f g xs ys (less (length xs) (length ys) many) (λ i a b e k. h (suc i) a b e k))
    ∙ sym (sum_by-cons g y ys)
  where
    less : (m n : ℕ) → suc m ≡ suc n → m ≡ n
    less m n e = omega (arith, e)

module _ (r : OpenRun) (xs : Instances) (fits : Fits r xs) (rests : AllRest xs) where
  out-here : (i : ℕ) (c : code.Instance) (x : Instance) → IsAt xs i x → IsKept r i c x
      → sum_by (λ (o : Open). seats_out o.seats.seats) c.open.items ≡ seats_out x.seats
  out-here i c x at kept = by x.view refl kept.life
    where
      by : (w : Option View) → x.view ≡ w → IsLife r c x w
          → sum_by (λ (o : Open). seats_out o.seats.seats) c.open.items ≡ seats_out x.seats
      by None e life =
          ap (sum_by (λ (o : Open). seats_out o.seats.seats)) life.0 ∙ sym (none-out x.seats (rests i x at e))
      by (Some v) e life =
          let one = sum_by-cons (λ (o : Open). seats_out o.seats.seats) life.itself [] in
          let same = ap seats_out (sym (seats-open c life.itself [] life.there) ∙ kept.seats) in
          ap (sum_by (λ (o : Open). seats_out o.seats.seats)) life.there ∙ plus-none _ _ one ∙ same
        where
          plus-none : (a b : ℕ) → a ≡ b + 0 → a ≡ b
          plus-none a b h = omega (arith, h)

  -- as many are out in the code
  pub out-all : out_in r.instances.items ≡ sum_by (λ (x : Instance). seats_out x.seats) xs
  out-all =
      sums-alike (λ (c : code.Instance). sum_by (λ (o : Open). seats_out o.seats.seats) c.open.items)
      (λ (x : Instance). seats_out x.seats) r.instances.items xs fits.as_many
      (λ i c x e at. out-here i c x at (fits.kept i c x e at))

-- s is the run r with all that was out idle, and so many more due
pub record IsAllBack (r s : OpenRun) (n : ℕ) : Type 0 where
  pub run : s.run ≡ r.run
  pub looks : s.looks ≡ r.looks
  pub pool : s.pool ≡ r.pool
  pub entries : s.entries ≡ r.entries
  pub failed : s.failed ≡ r.failed
  pub outs : s.outs ≡ r.outs
  pub jobs : s.jobs ≡ r.jobs
  pub busy : s.busy ≡ r.busy
  pub as_many : length s.instances.items ≡ length r.instances.items
  pub each :
      (i : ℕ) (c e : code.Instance) → slice_get r.instances.items i ≡ Some c → slice_get s.instances.items i ≡ Some e
      → IsCalledBack c e
  pub due : s.due ≡ r.due + n

abbrev frame_of : Option code.Instance → Option Frame
frame_of o = option_and_then (λ (c : code.Instance). option_map (λ (p : Open). p.frame) (slice_get c.open.items 0)) o

module _ (r s : OpenRun) (n : ℕ) (all : IsAllBack r s n) (xs : Instances) (fits : Fits r xs) (rests : AllRest xs)
    (many : n ≡ out_in r.instances.items) where
  abbrev ys : Instances
  ys = map called_back xs

  -- what was there
  record WasThere (i : ℕ) (e : code.Instance) : Type 0 where
    was : code.Instance
    there : slice_get r.instances.items i ≡ Some was
    instance : Instance
    at : IsAt xs i instance
    kept : IsKept r i was instance
    is_back : IsCalledBack was e
    same : HasSameJobs was e

  was-there : (i : ℕ) (e : code.Instance) → slice_get s.instances.items i ≡ Some e → WasThere i e
  was-there i e is =
      let low = subst (λ m. i < m) all.as_many (slice_get_within s.instances.items i e is) in
      let c = get-within r.instances.items i low in
      let x = get-within xs i (subst (λ m. i < m) fits.as_many low) in
      let kept = fits.kept i c.0 x.0 c.1 x.1 in
      let b = all.each i c.0 e c.1 is in
      record {
        was = c.0;
        there = c.1;
        instance = x.0;
        at = x.1;
        kept = kept;
        is_back = b;
        same = jobs-back c.0 e b (either-way r i c.0 x.0 kept);
      }

  pub numbers-back : numbers_of s ≡ numbers_of r
  numbers-back = ap (λ v. map numbered_as v.items) all.jobs

  -- ---- names

  abbrev name_in : OpenRun → List JobName → ℕ → code.Instance → JobName
  name_in q so_far n c =
      opener_name so_far c.opener
      ++ option_map_or (λ t. spot_of (steps_of (run_view q.run) c) t ∷ []) (slice_get (seats_of c) n) []

  steps-same : (c e : code.Instance) → HasSameJobs c e → steps_of (run_view s.run) e ≡ steps_of (run_view r.run) c
  steps-same c e h =
      λ j. option_map_or (λ (f : Name × Flow). f.1.steps) (slice_get (run_view (all.run j)).flows (h.flow j)) []

  named-same : (so_far : List JobName) (n : ℕ) (c e : code.Instance) → HasSameJobs c e
      → name_in s so_far n e ≡ name_in r so_far n c
  named-same so_far n c e h =
      ap (λ l. opener_name so_far e.opener ++ l) (at-spot (steps_of (run_view s.run) e) (seats_of e) n)
      ∙ (λ j.
      opener_name so_far (h.opener j)
      ++ option_map_or (λ q. spot_by (steps-same c e h j) q ∷ []) (slice_get (h.jobs j) n) [])
      ∙ ap (λ l. opener_name so_far c.opener ++ l) (sym (at-spot (steps_of (run_view r.run) c) (seats_of c) n))

  behind-same : (so_far : List JobName) (k : Numbered) → name_behind s so_far k ≡ name_behind r so_far k
  behind-same so_far k =
      on_either (slice_get_cases s.instances.items k.instance).1
      (λ w.
      let c = was-there k.instance w.0 w.2 in
      ap (λ o. option_map_or (name_in s so_far k.number) o []) w.2
      ∙ named-same so_far k.number c.was w.0 c.same
      ∙ sym (ap (λ o. option_map_or (name_in r so_far k.number) o []) c.there))
      (λ w.
      ap (λ o. option_map_or (name_in s so_far k.number) o []) w.1
      ∙ sym
      (ap (λ o. option_map_or (name_in r so_far k.number) o [])
      (slice_get_past r.instances.items k.instance (subst (λ n. n ≤ k.instance) all.as_many w.0))))

  from-same : (so_far : List JobName) (ks : List Numbered) → names_from s so_far ks ≡ names_from r so_far ks
  from-same so_far [] = refl
  from-same so_far (k ∷ ks) =
      ap (λ n. names_from s (so_far ++ n ∷ []) ks) (behind-same so_far k)
      ∙ from-same (so_far ++ name_behind r so_far k ∷ []) ks

  pub names-back : names_of s ≡ names_of r
  names-back = ap (λ v. names_from s [] v.items) all.jobs ∙ from-same [] r.jobs.items

  -- ---- what it fits

  keeps : KeepsSpots xs ys
  keeps k x there = (
    called_back x,
    get-map called_back xs k x there,
    refl,
    refl,
    λ n t e. (back t, get-map back x.seats n t e, refl, refl),
  )

  numbered : AreNumbered ys (numbers_of r)
  numbered = record {
    seats = λ a k m e.
        let w = fits.numbered.seats a k m e in
        (called_back w.0, back w.1, get-map called_back xs k w.0 w.2, get-map back w.0.seats m w.1 w.3);
    all = λ k m y t there sits.
        let u = of-image called_back xs k y there in
        let w = of-image back u.0.seats m t (ap (λ (z : Instance). slice_get z.seats m) u.2 ∙ sits) in
        fits.numbered.all k m u.0 w.0 u.1 w.1;
    apart = fits.numbered.apart;
  }

  life-back : (c e : code.Instance) (x : Instance) (w : Option View) → IsCalledBack c e → IsLife r c x w
      → IsLife s e (called_back x) w
  life-back c e x None b life = (shut-back c e b life.0, ap is_some b.seats ∙ life.1)
  life-back c e x (Some v) b life =
      let p = open-back c e b life.itself life.there in
      record {
        itself = p.then_is;
        there = p.there;
        flow = life.flow;
        is_open = λ plan h. is-open life.itself p.then_is p.is_back plan (life.is_open plan h);
        still = λ idle. still-back x v (life.still (sym b.is_busy ∙ idle));
      }
    where
      is-open : (o p : Open) → IsBack o p → (plan : FlowPlan) → IsOpen (run_view r.run) plan r.pool o v
          → IsOpen (run_view s.run) plan s.pool p v
      is-open o p is plan was =
          subst (λ q. IsOpen (run_view q) plan s.pool p v) (sym all.run)
          (subst (λ q. IsOpen (run_view r.run) plan q p v) (sym all.pool)
          (record {
            keeps = subst (λ f. Keeps (run_view r.run).flows plan r.pool f v) (sym is.frame) was.keeps;
            known =
                ap (map job_of) is.seats ∙ same-back o.seats.seats ∙ was.known
                ∙ ap (λ (f : Frame). known_jobs f.intakes) (sym is.frame);
            levels = is.levels ∙ was.levels;
            quiet = quiet-none v o.seats.seats p.seats.seats o.turns p.turns is.turns was.quiet;
            kept = kept-with v o p is.kept was.kept;
          }))

  seats-then : (i : ℕ) (c e : code.Instance) (x : Instance) → IsAt xs i x → IsKept r i c x → IsCalledBack c e
      → seats_of e ≡ map back x.seats
  seats-then i c e x at kept b = by x.view refl kept.life
    where
      by : (w : Option View) → x.view ≡ w → IsLife r c x w → seats_of e ≡ map back x.seats
      by None h life =
          seats-shut c e b life.0 ∙ kept.seats ∙ sym (settled-back x.seats (rests i x at h))
      by (Some v) h life = seats-back c e b life.itself life.there ∙ ap (map back) kept.seats

  kept-then : (i : ℕ) (e : code.Instance) → WasThere i e → (x : Instance) → IsAt xs i x → IsKept s i e (called_back x)
  kept-then i e w x at =
      let kept = fits.kept i w.was x w.there at in
      record {
        flow =
            (λ j. option_map (λ (f : Name × Flow). f.1) (slice_get (run_view (all.run j)).flows (w.same.flow j)))
            ∙ kept.flow;
        seats = seats-then i w.was e x at kept w.is_back;
        steps = at-steps x.flow.steps x.seats (map back x.seats) (same-back x.seats) kept.steps;
        main = λ h. kept.main (sym w.same.opener ∙ h);
        opener = λ m h. ap (λ l. slice_get l m) names-back ∙ kept.opener m (sym w.same.opener ∙ h);
        numbered = λ m a h.
            ap (λ l. slice_get l a) numbers-back ∙ kept.numbered m a (ap (λ l. slice_get l m) (sym w.same.numbers) ∙ h);
        as_many = λ now. ap length w.same.numbers ∙ kept.as_many now ∙ sym (length-map x.seats back);
        life = life-back w.was e x x.view w.is_back kept.life;
      }

  frames-back : (i : ℕ) → frame_at s i ≡ frame_at r i
  frames-back i =
      on_either (slice_get_cases s.instances.items i).1
      (λ w.
      let c = was-there i w.0 w.2 in
      ap frame_of w.2 ∙ frame-same c.was w.0 c.is_back (either-way r i c.was c.instance c.kept)
      ∙ sym (ap frame_of c.there))
      (λ w.
      ap frame_of w.1
      ∙ sym (ap frame_of (slice_get_past r.instances.items i (subst (λ m. m ≤ i) all.as_many w.0))))
    where
      frame-same : (c e : code.Instance) → IsCalledBack c e
          → (c.open.items ≡ []) ⊎ ((o : Open) × (c.open.items ≡ o ∷ []))
          → frame_of (Some e) ≡ frame_of (Some c)
      frame-same c e b either =
          on_either either
          (λ h. ap (λ l. option_map (λ (p : Open). p.frame) (slice_get l 0)) (shut-back c e b h ∙ sym h))
          (λ h.
          let p = open-back c e b h.0 h.1 in
          ap (λ l. option_map (λ (q : Open). q.frame) (slice_get l 0)) p.there
          ∙ ap Some p.is_back.frame
          ∙ sym (ap (λ l. option_map (λ (q : Open). q.frame) (slice_get l 0)) h.1))

  pub fits-back : Fits s ys
  fits-back = record {
    as_many = all.as_many ∙ fits.as_many ∙ sym (length-map xs called_back);
    kept = λ i e y is there.
        let u = of-image called_back xs i y there in
        subst (IsKept s i e) u.2 (kept-then i e (was-there i e is) u.0 u.1);
    looks =
        subst (λ q. AreLooks (run_view q) s.looks.items) (sym all.run)
        (subst (λ l. AreLooks (run_view r.run) l) (sym (ap (λ l. l.items) all.looks)) fits.looks);
    numbered = subst (AreNumbered ys) (sym numbers-back) numbered;
    names_are =
        names-back ∙ fits.names_are ∙ sym (names-stay xs ys (numbers_of r) fits.numbered keeps)
        ∙ ap (names_by ys) (sym numbers-back);
    behind = λ k m e a is there opener.
        let c = was-there m.instance e there in
        fits.behind k m c.was a (ap (λ l. slice_get l.items k) (sym all.jobs) ∙ is) c.there (sym c.same.opener ∙ opener);
    theirs =
        subst (λ p. AreTheirs p (frame_at s)) (sym all.pool)
        (theirs-as r.pool (frame_at r) (frame_at s) frames-back fits.theirs);
    busy = λ i e is busy.
        let c = was-there i e is in
        subst (λ l. In i l.items) (sym all.busy) (fits.busy i c.was c.there (sym c.same.is_busy ∙ busy));
    busy_low = λ i h.
        subst (λ m. i < m) (sym all.as_many) (fits.busy_low i (subst (λ l. In i l.items) all.busy h));
    due_is =
        let sum = due-all xs in
        let out = out-all r xs fits rests in
        let due = all.due in
        let was = fits.due_is in
        omega (arith, sum, out, due, was, many);
  }
