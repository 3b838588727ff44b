-- The instances of a run: those that are open are there, and so are those of all jobs that stand anywhere.
use Rattle.std.specs.Prelude.{◌≡◌, refl, ℕ, ◌||◌, true, false, Option, Some, None, slice_get}
use Rattle.std.proofs.Common.{ap, inl, inr, subst, sym, ◌∙◌}
use Rattle.std.proofs.lemmas.Option.{same_Some}
use Rattle.tv_lemmas.specs.Members.{In}
use Rattle.tv_lemmas.proofs.Cases.{on_or}
use Rattle.tv_value.specs.Values.{JobName, Name}
use Rattle.tv_gate.specs.Outcomes.{Giving}
use Rattle.tv_flow.specs.Flows.{Document, Flow}
use Rattle.tv_model.specs.Jobs.{Job}
use Rattle.tv_model.specs.Made.{Meaning}
use Rattle.tv_model.specs.Meanings.{meaning}
use Rattle.tv_model.proofs.Sound.{spot-step}
use Rattle.tv_model.proofs.Tests.{or_left, or_right, true≠false}
use Rattle.tv_history.specs.Entries.{History, is_out}
use Rattle.tv_history.specs.Histories.{is_open, is_ready, is_running, is_settled}
use Rattle.tv_history.proofs.Ready.{AnyNumber, document-whole}
use Rattle.tv_history.proofs.Running.{out-begun}
use Rattle.tv_history.proofs.First.{running-open}
use Rattle.tv_framing.specs.Views.{View}
use Rattle.tv_seats.specs.Seats.{Seat}
use Rattle.tv_forest.specs.seats.Seated.{IsStage, Sit, spot_of}
use Rattle.tv_forest.specs.stands.Seats.{stands_anywhere}
use Rattle.tv_forest.specs.Forest.{Instance, Instances, IsAt, IsJobAt, IsNamed, IsOfSeat, Stand, Stays}
use Rattle.tv_forest.specs.firsts.Told.{HasSeat, JobsHaveSeats, SeatsHaveJobs}
use Rattle.tv_forest.proofs.firsts.Opened.{WasOpened, begun-was, ended-shut, open-was, ready-open, settled-was}
use Rattle.tv_forest.proofs.firsts.Seats.{AreSeats, of-ended, of-open}

-- ---- where a job stands

module _ (m : Meaning) (past : History) (j : Job) where
  pub ready-anywhere : is_ready m past j ≡ true → stands_anywhere m past j ≡ true
  ready-anywhere h =
      or_left (is_ready m past j || is_running past j || is_settled past j) (is_out past j.name)
      (or_left (is_ready m past j || is_running past j) (is_settled past j) (or_left (is_ready m past j) (is_running past j) h))

  pub running-anywhere : is_running past j ≡ true → stands_anywhere m past j ≡ true
  running-anywhere h =
      or_left (is_ready m past j || is_running past j || is_settled past j) (is_out past j.name)
      (or_left (is_ready m past j || is_running past j) (is_settled past j) (or_right (is_ready m past j) (is_running past j) h))

  pub settled-anywhere : is_settled past j ≡ true → stands_anywhere m past j ≡ true
  settled-anywhere h =
      or_left (is_ready m past j || is_running past j || is_settled past j) (is_out past j.name)
      (or_right (is_ready m past j || is_running past j) (is_settled past j) h)

  pub out-anywhere : is_out past j.name ≡ true → stands_anywhere m past j ≡ true
  out-anywhere h = or_right (is_ready m past j || is_running past j || is_settled past j) (is_out past j.name) h

module _ (gives : Giving) (d : Document) (levels : Flow → Name → ℕ) (past : History) (xs : Instances)
    (stand : Stand gives d levels past xs) where
  abbrev m : Meaning
  m = meaning gives d

  -- ---- instances

  -- an open instance of this name, told so much
  pub record IsThere (I : JobName) : Type 0 where
    pub number : ℕ
    pub instance : Instance
    pub view : View
    pub there : IsAt xs number instance
    pub named : instance.name ≡ I
    pub told : instance.view ≡ Some view
    pub sit : Sit gives d past instance.name (levels instance.flow) view instance.seats

  -- what stays of an instance whose view is this
  pub stays-so : (i : ℕ) (x : Instance) (o : Option View) → IsAt xs i x → x.view ≡ o → Stays gives d levels past x o
  stays-so i x o e q = subst (Stays gives d levels past x) q (stand.each i x e)

  pub was-named : (n : JobName) → WasOpened gives d past n → IsNamed xs n
  was-named n (inl e) = record {
    number = 0;
    instance = stand.main.0;
    there = stand.main.1;
    is_its = stand.main.2.unnamed ∙ sym e;
  }
  was-named n (inr j) = subst (IsNamed xs) j.2 (stand.all j.0 j.1 j.3)

  pub open-there : (I : JobName) → is_open past I ≡ true → IsThere I
  open-there I o = by (was-named I (open-was gives d past stand.legal I o))
    where
      by : IsNamed xs I → IsThere I
      by n = of-view n.instance.view refl
        where
          of-view : (w : Option View) → n.instance.view ≡ w → IsThere I
          of-view None e =
              let h = stays-so n.number n.instance None n.there e in
              absurd (true≠false (sym o ∙ subst (λ k. is_open past k ≡ false) n.is_its (ended-shut past n.instance.name h.ended)))
          of-view (Some v) e = record {
            number = n.number;
            instance = n.instance;
            view = v;
            there = n.there;
            named = n.is_its;
            told = e;
            sit = (stays-so n.number n.instance (Some v) n.there e).1;
          }

  -- its seats tell of its jobs
  pub seats-of : (i : ℕ) (x : Instance) → IsAt xs i x → AreSeats gives d past x.name x.flow x.seats
  seats-of i x e = by x.view refl
    where
      by : (o : Option View) → x.view ≡ o → AreSeats gives d past x.name x.flow x.seats
      by None q = of-ended gives d past x.name x.flow x.seats (stays-so i x None e q)
      by (Some v) q =
          let s = stays-so i x (Some v) e q in
          subst (λ f. AreSeats gives d past x.name f x.seats) s.0
          (of-open gives d past x.name (levels x.flow) v x.seats s.1)

  -- ---- jobs

  instance-was : (j : Job) → In j m.jobs → stands_anywhere m past j ≡ true → WasOpened gives d past j.instance
  instance-was j i h =
      on_or (is_ready m past j || is_running past j || is_settled past j) (is_out past j.name) h
      (λ k.
      on_or (is_ready m past j || is_running past j) (is_settled past j) k
      (λ k.
      on_or (is_ready m past j) (is_running past j) k
      (λ r. open-was gives d past stand.legal j.instance (ready-open gives d past j r))
      (λ r. open-was gives d past stand.legal j.instance (running-open gives AnyNumber m (document-whole gives d) past stand.legal j i r)))
      (λ s. settled-was gives d stand.formed past stand.legal j i s))
      (λ o. begun-was gives d past stand.legal j i (out-begun past j.name o))

  pub job-seat : (j : Job) → In j m.jobs → stands_anywhere m past j ≡ true → HasSeat gives d xs j
  job-seat j i h =
      let n = was-named j.instance (instance-was j i h) in
      let w = (seats-of n.number n.instance n.there).have j i (sym n.is_its) h in
      record {
        outer = n.number;
        number = w.number;
        instance = n.instance;
        seat = w.seat;
        is_its = record { instance = n.there; seat = w.there; job = w.is_its };
      }

  -- the seat of a job is the only one
  pub one-seat : (i n k l : ℕ) (x y : Instance) (s t : Seat) (j : Job) → IsJobAt gives d xs i n x s j
      → IsJobAt gives d xs k l y t j → (k ≡ i) × (l ≡ n)
  one-seat i n k l x y s t j a b = (same, number)
    where
      same : k ≡ i
      same = stand.apart k i y x b.instance a.instance (sym b.job.within ∙ a.job.within)

      one : y ≡ x
      one = same_Some y x (sym b.instance ∙ ap (slice_get xs) same ∙ a.instance)

      its : IsOfSeat gives d x t j
      its = subst (λ z. IsOfSeat gives d z t j) one b.job

      spots : spot_of x.flow.steps t ≡ spot_of x.flow.steps s
      spots =
          let u = spot_of x.flow.steps t in
          let w = spot_of x.flow.steps s in
          let p = spot-step x.name u.0 w.0 u.1 w.1 (sym its.name ∙ a.job.name) in
          λ i. (p.0 i, p.1 i)

      number : l ≡ n
      number =
          (seats-of i x a.instance).apart l n t s (subst (λ (z : Instance). slice_get z.seats l ≡ Some t) one b.seat) a.seat spots

  pub stage-of : (i n : ℕ) (x : Instance) (s : Seat) (j : Job) → IsJobAt gives d xs i n x s j → IsStage past j s.stage
  stage-of i n x s j a = (seats-of i x a.instance).stages n s j a.seat a.job

  pub seat-job : (i n : ℕ) (x : Instance) (s : Seat) → IsAt xs i x → slice_get x.seats n ≡ Some s
      → (j : Job) × IsJobAt gives d xs i n x s j
  seat-job i n x s e f =
      let w = (seats-of i x e).jobs n s f in (w.0, record { instance = e; seat = f; job = w.1 })

-- ---- the laws

pub jobs-have_seats : JobsHaveSeats
jobs-have_seats gives d levels past xs stand j i h = job-seat gives d levels past xs stand j i h

pub seats-have_jobs : SeatsHaveJobs
seats-have_jobs gives d levels past xs stand i n x s e f =
    let w = seat-job gives d levels past xs stand i n x s e f in
    record {
      job = w.0;
      is_its = w.1;
      only = λ k l y t b. one-seat gives d levels past xs stand i n k l x y s t w.0 w.1 b;
    }
