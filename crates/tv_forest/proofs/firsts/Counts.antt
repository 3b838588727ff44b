-- Jobs are counted by the seats of all instances.
use Rattle.std.specs.Prelude.{◌≡◌, refl, ℕ, ◌+◌, ◌++◌, Bool, List, [], ◌∷◌, count_by, cond, flat_map, map, sum_by}
use Rattle.std.proofs.Common.{ap, ap₂, subst, sym, ◌∙◌}
use Rattle.std.proofs.lemmas.List.Sums.{length-filter, sum_by-append, sum_by-cons}
use Rattle.tv_lemmas.specs.Members.{In}
use Rattle.tv_lemmas.proofs.Members.{in-flat, in-map, of-flat, of-map, get-in, in-slice}
use Rattle.tv_lemmas.proofs.Counts.{count-map}
use Rattle.tv_value.specs.Values.{JobName, Name}
use Rattle.tv_gate.specs.Outcomes.{Giving}
use Rattle.tv_flow.specs.Flows.{Document, Flow}
use Rattle.tv_model.specs.Jobs.{Job}
use Rattle.tv_model.specs.Made.{Meaning}
use Rattle.tv_model.specs.Meanings.{meaning}
use Rattle.tv_model.proofs.Members.{apart-flat, snoc-parts}
use Rattle.tv_model.specs.JobOrder.{Apart}
use Rattle.tv_history.specs.Entries.{History, is_out}
use Rattle.tv_history.specs.Histories.{is_settled}
use Rattle.tv_history.proofs.Ready.{document-whole}
use Rattle.tv_seats.specs.Seats.{Seat}
use Rattle.tv_seats.specs.Stages.{is_out as seat_is_out}
use Rattle.tv_forest.specs.seats.Seated.{spot_of}
use Rattle.tv_forest.specs.stands.Seats.{is_over}
use Rattle.tv_forest.proofs.stands.Counts.{ArePartnered, as-many}
use Rattle.tv_forest.proofs.stands.Lists.{apart-by}
use Rattle.tv_forest.proofs.stands.Stages.{out-is, over-is}
use Rattle.tv_forest.specs.Forest.{Instance, Instances, IsAt, IsJobAt, Stand}
use Rattle.tv_forest.specs.firsts.Told.{AreCounted, CountsBySeats, IsCounted, IsToldBySeats}
use Rattle.tv_forest.proofs.firsts.Instances.{job-seat, out-anywhere, seat-job, seats-of, settled-anywhere, stage-of}

-- ---- all seats in one list, each with the name of its job

abbrev pub Sitting : Type 0
Sitting = JobName × Seat

abbrev pub seat_name : Instance → Seat → JobName
seat_name x s = x.name ++ spot_of x.flow.steps s ∷ []

abbrev pub sitting : Instance → List Sitting
sitting x = map (λ s. (seat_name x s, s)) x.seats

abbrev pub all_sitting : Instances → List Sitting
all_sitting xs = flat_map sitting xs

count-append : {A : Type 0} (p : A → Bool) (xs ys : List A) → count_by p (xs ++ ys) ≡ count_by p xs + count_by p ys
count-append p xs ys = sum_by-append (λ x. cond (p x) 1 0) xs ys

-- as many count as of each instance
sitting-many : (counts : Seat → Bool) (xs : Instances)
    → count_by (λ (u : Sitting). counts u.1) (all_sitting xs) ≡ sum_by (λ (x : Instance). count_by counts x.seats) xs
sitting-many counts [] = refl
sitting-many counts (x ∷ xs) =
    count-append (λ (u : Sitting). counts u.1) (sitting x) (all_sitting xs)
    ∙ ap₂ (λ a b. a + b) (count-map (λ (u : Sitting). counts u.1) (λ s. (seat_name x s, s)) x.seats) (sitting-many counts xs)
    ∙ sym (sum_by-cons (λ (y : Instance). count_by counts y.seats) x xs)

module _ (gives : Giving) (d : Document) (levels : Flow → Name → ℕ) (past : History) (xs : Instances)
    (stand : Stand gives d levels past xs) where
  abbrev m : Meaning
  m = meaning gives d

  -- of one instance
  own-apart : (i : ℕ) (x : Instance) → IsAt xs i x → Apart (λ (u : Sitting). u.0) (sitting x)
  own-apart i x e =
      images-apart (λ s. (seat_name x s, s)) x.seats
      (apart-by (seat_name x) x.seats
      (λ n k s t f g h.
      (seats-of gives d levels past xs stand i x e).apart n k s t f g
      (snoc-parts (spot_of x.flow.steps s) x.name x.name (spot_of x.flow.steps s) (spot_of x.flow.steps t) h).1))
    where
      images-apart : (f : Seat → Sitting) (ss : List Seat) → Apart (λ s. (f s).0) ss → Apart (λ (u : Sitting). u.0) (map f ss)
      images-apart f [] a = tt
      images-apart f (s ∷ ss) a = (
        λ y i e. let r = of-map f y ss i in a.0 r.0 r.1 (ap (λ (u : Sitting). u.0) (sym r.2) ∙ e),
        images-apart f ss a.1,
      )

  names-apart : Apart (λ (u : Sitting). u.0) (all_sitting xs)
  names-apart =
      apart-flat (λ (x : Instance). x.name) (λ (u : Sitting). u.0) sitting xs
      (apart-by (λ (x : Instance). x.name) xs stand.apart)
      (λ x i. let p = get-in x xs i in own-apart p.0 x p.1)
      (λ x z i k u w f g e.
      let r = of-map (λ s. (seat_name x s, s)) u x.seats f in
      let t = of-map (λ s. (seat_name z s, s)) w z.seats g in
      (snoc-parts (spot_of x.flow.steps r.0) x.name z.name (spot_of x.flow.steps r.0) (spot_of z.flow.steps t.0)
      (ap (λ (y : Sitting). y.0) (sym r.2) ∙ e ∙ ap (λ (y : Sitting). y.0) t.2)).0)

  sits-there : (i n : ℕ) (x : Instance) (s : Seat) (j : Job) → IsJobAt gives d xs i n x s j
      → In (j.name, s) (all_sitting xs)
  sits-there i n x s j it =
      in-flat sitting x (j.name, s) xs (in-slice xs i x it.instance)
      (subst (λ k. In (k, s) (sitting x)) (sym it.job.name)
      (in-map (λ t. (seat_name x t, t)) s x.seats (in-slice x.seats n s it.seat)))

  -- what sits there
  record SitsAt (u : Sitting) : Type 0 where
    outer : ℕ
    number : ℕ
    instance : Instance
    job : Job
    is_its : IsJobAt gives d xs outer number instance u.1 job
    named : job.name ≡ u.0

  sits-at : (u : Sitting) → In u (all_sitting xs) → SitsAt u
  sits-at u i =
      let x = of-flat sitting u xs i in
      let s = of-map (λ t. (seat_name x.0 t, t)) u x.0.seats x.2 in
      let p = get-in x.0 xs x.1 in
      let n = get-in s.0 x.0.seats s.1 in
      let j = seat-job gives d levels past xs stand p.0 n.0 x.0 s.0 p.1 n.1 in
      record {
        outer = p.0;
        number = n.0;
        instance = x.0;
        job = j.0;
        is_its = subst (λ t. IsJobAt gives d xs p.0 n.0 x.0 t j.0) (ap (λ (w : Sitting). w.1) (sym s.2)) j.1;
        named = j.1.job.name ∙ ap (λ (w : Sitting). w.0) (sym s.2);
      }

  module _ (counts : Job → Bool) (seat_counts : Seat → Bool) (told : IsToldBySeats gives d xs counts seat_counts) where
    abbrev sits : Sitting → Bool
    sits u = seat_counts u.1

    jobs-partnered : ArePartnered (λ (j : Job). j.name) (λ (u : Sitting). u.0) counts sits m.jobs (all_sitting xs)
    jobs-partnered j i h =
        let w = told.seated j i h in (
          (j.name, w.seat),
          sits-there w.outer w.number w.instance w.seat j w.is_its,
          sym (told.alike w.outer w.number w.instance w.seat j w.is_its) ∙ h,
          refl,
        )

    seats-partnered : ArePartnered (λ (u : Sitting). u.0) (λ (j : Job). j.name) sits counts (all_sitting xs) m.jobs
    seats-partnered u i h =
        let w = sits-at u i in
        (w.job, w.is_its.job.listed, told.alike w.outer w.number w.instance u.1 w.job w.is_its ∙ h, w.named)

    pub counted-by : count_by counts m.jobs ≡ sum_by (λ (x : Instance). count_by seat_counts x.seats) xs
    counted-by =
        as-many (λ (j : Job). j.name) (λ (u : Sitting). u.0) counts sits m.jobs (all_sitting xs)
        (document-whole gives d).jobs_apart names-apart jobs-partnered seats-partnered
        ∙ sitting-many seat_counts xs

  -- ---- how many are out and are settled

  abbrev IsTold : (Job → Bool) → (Seat → Bool) → Type 0
  IsTold counts seat_counts = IsToldBySeats gives d xs counts seat_counts

  out-told : IsTold (λ j. is_out past j.name) (λ s. seat_is_out s.stage)
  out-told = record {
    seated = λ j i h. job-seat gives d levels past xs stand j i (out-anywhere m past j h);
    alike = λ i n x s j it. out-is past j s.stage (stage-of gives d levels past xs stand i n x s j it);
  }

  settled-told : IsTold (is_settled past) (λ s. is_over s.stage)
  settled-told = record {
    seated = λ j i h. job-seat gives d levels past xs stand j i (settled-anywhere m past j h);
    alike = λ i n x s j it. over-is past j s.stage (stage-of gives d levels past xs stand i n x s j it);
  }

  pub is-counted : IsCounted gives d past xs
  is-counted = record {
    out = counted-by (λ j. is_out past j.name) (λ s. seat_is_out s.stage) out-told;
    settled = length-filter (is_settled past) m.jobs ∙ counted-by (is_settled past) (λ s. is_over s.stage) settled-told;
  }

-- ---- the laws

pub counts-by_seats : CountsBySeats
counts-by_seats gives d levels past xs stand counts seat_counts told =
    counted-by gives d levels past xs stand counts seat_counts told

pub are-counted : AreCounted
are-counted gives d levels past xs stand = is-counted gives d levels past xs stand
