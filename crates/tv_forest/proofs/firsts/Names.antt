-- The names of the jobs of all seats, by their numbers.
use Rattle.std.specs.Prelude.{◌≡◌, refl, ℕ, ◌++◌, List, [], ◌∷◌, Some, filter, map, slice_get}
use Rattle.std.specs.Option.{option_map_or}
use Rattle.std.proofs.Common.{ap, ap₂, inl, inr, subst, sym, ◌∙◌}
use Rattle.tv_lemmas.specs.Members.{In}
use Rattle.tv_lemmas.proofs.Members.{in-map, of-filter, of-map, get-in, in-slice}
use Rattle.tv_lemmas.proofs.Lists.{get-map}
use Rattle.tv_value.specs.Orders.{same_job}
use Rattle.tv_value.specs.Values.{JobName, Name}
use Rattle.tv_value.proofs.JobNameLemmas.{same_job_decides}
use Rattle.tv_gate.specs.Outcomes.{Giving}
use Rattle.tv_flow.specs.Flows.{Document, Flow}
use Rattle.tv_model.specs.Jobs.{Job}
use Rattle.tv_model.specs.Made.{Meaning}
use Rattle.tv_model.specs.Meanings.{meaning}
use Rattle.tv_model.proofs.Members.{once-of_apart}
use Rattle.tv_history.specs.Entries.{History}
use Rattle.tv_history.specs.Histories.{is_ready}
use Rattle.tv_history.proofs.Ready.{document-whole}
use Rattle.tv_history.proofs.Tests.{same-itself}
use Rattle.tv_model.specs.JobOrder.{Apart}
use Rattle.tv_history.proofs.First.{find-first}
use Rattle.tv_seats.specs.Seats.{Seat}
use Rattle.tv_forest.specs.seats.Seated.{spot_of}
use Rattle.tv_forest.specs.stands.States.{AreNamesOfJobs, IsJobOfNumber}
use Rattle.tv_forest.proofs.stands.Lists.{apart-by}
use Rattle.tv_forest.specs.Forest.{AreNumbered, Instance, Instances, IsAt, IsJobAt, Stand, name_of, names_by}
use Rattle.tv_forest.specs.firsts.Told.{JobsByNumbers, NamesOfInstances, NamesStay}
use Rattle.tv_forest.proofs.firsts.Instances.{job-seat, one-seat, ready-anywhere, seat-job}

-- what have keys of their own, have images of their own by their keys
images-apart : {A : Type 0} (f : A → JobName) (xs : List A) → Apart f xs → Apart (λ n. n) (map f xs)
images-apart f [] a = tt
images-apart f (x ∷ xs) a = (
  λ y i e. let r = of-map f y xs i in a.0 r.0 r.1 (sym r.2 ∙ e),
  images-apart f xs a.1,
)

same-images : {A B : Type 0} (f g : A → B) (xs : List A) → ((x : A) → In x xs → f x ≡ g x) → map f xs ≡ map g xs
same-images f g [] h = refl
same-images f g (x ∷ xs) h = ap₂ (λ b l. b ∷ l) (h x (inl refl)) (same-images f g xs (λ y i. h y (inr i)))

-- the name of job n of instance i
named-there : (xs : Instances) (i n : ℕ) (x : Instance) (s : Seat) → IsAt xs i x → slice_get x.seats n ≡ Some s
    → name_of xs (i, n) ≡ x.name ++ spot_of x.flow.steps s ∷ []
named-there xs i n x s e f =
    ap (λ o. option_map_or (λ (y : Instance). option_map_or (λ t. y.name ++ spot_of y.flow.steps t ∷ []) (slice_get y.seats n) []) o []) e
    ∙ ap (λ o. option_map_or (λ t. x.name ++ spot_of x.flow.steps t ∷ []) o []) f

module _ (gives : Giving) (d : Document) (levels : Flow → Name → ℕ) (past : History) (xs : Instances)
    (stand : Stand gives d levels past xs) (ks : List (ℕ × ℕ)) (numbered : AreNumbered xs ks) where
  abbrev m : Meaning
  m = meaning gives d

  -- the job of number a
  record IsOfNumber (i n : ℕ) : Type 0 where
    instance : Instance
    seat : Seat
    job : Job
    is_its : IsJobAt gives d xs i n instance seat job
    named : name_of xs (i, n) ≡ job.name

  of-number : (a i n : ℕ) → slice_get ks a ≡ Some (i, n) → IsOfNumber i n
  of-number a i n e =
      let w = numbered.seats a i n e in
      let j = seat-job gives d levels past xs stand i n w.0 w.1 w.2 w.3 in
      record {
        instance = w.0;
        seat = w.1;
        job = j.0;
        is_its = j.1;
        named = named-there xs i n w.0 w.1 w.2 w.3 ∙ sym j.1.job.name;
      }

  one-number : (a b : ℕ) (k l : ℕ × ℕ) → slice_get ks a ≡ Some k → slice_get ks b ≡ Some l
      → name_of xs k ≡ name_of xs l → a ≡ b
  one-number a b (i, n) (k, l) e f h =
      let u = of-number a i n e in
      let w = of-number b k l f in
      let same =
      once-of_apart (λ (j : Job). j.name) m.jobs (document-whole gives d).jobs_apart w.job u.job w.is_its.job.listed u.is_its.job.listed
      (sym w.named ∙ sym h ∙ u.named)
      in
      let one =
      one-seat gives d levels past xs stand i n k l u.instance w.instance u.seat w.seat u.job u.is_its
      (subst (IsJobAt gives d xs k l w.instance w.seat) same w.is_its)
      in
      numbered.apart a b i n e (f ∙ ap₂ (λ p q. Some (p, q)) one.0 one.1)

  a-job : (n : JobName) → In n (names_by xs ks) → (j : Job) × In j m.jobs × (j.name ≡ n)
  a-job n i = by (of-map (name_of xs) n ks i)
    where
      by : (k : ℕ × ℕ) × In k ks × (n ≡ name_of xs k) → (j : Job) × In j m.jobs × (j.name ≡ n)
      by ((p, q), h, e) =
          let a = get-in (p, q) ks h in
          let w = of-number a.0 p q a.1 in
          (w.job, w.is_its.job.listed, sym w.named ∙ sym e)

  ready-named : (j : Job) → In j (filter (is_ready m past) m.jobs) → In j.name (names_by xs ks)
  ready-named j i =
      let r = of-filter (is_ready m past) j m.jobs i in
      let w = job-seat gives d levels past xs stand j r.0 (ready-anywhere m past j r.1) in
      let a = numbered.all w.outer w.number w.instance w.seat w.is_its.instance w.is_its.seat in
      let named = named-there xs w.outer w.number w.instance w.seat w.is_its.instance w.is_its.seat ∙ sym w.is_its.job.name in
      subst (λ n. In n (names_by xs ks)) named
      (in-map (name_of xs) (w.outer, w.number) ks (in-slice ks a.0 (w.outer, w.number) a.1))

  pub names-are : AreNamesOfJobs gives d past (names_by xs ks)
  names-are = record {
    distinct = images-apart (name_of xs) ks (apart-by (name_of xs) ks one-number);
    jobs = a-job;
    ready = ready-named;
  }

  pub number-is : (k i n : ℕ) (x : Instance) (s : Seat) (j : Job) → slice_get ks k ≡ Some (i, n)
      → IsJobAt gives d xs i n x s j → IsJobOfNumber gives d (names_by xs ks) k j
  number-is k i n x s j e it = record {
    named =
        get-map (name_of xs) ks k (i, n) e
        ∙ ap (λ l. Some l) (named-there xs i n x s it.instance it.seat ∙ sym it.job.name);
    found =
        find-first (λ (l : Job). l.name) (λ (l : Job). same_job j.name l.name) m.jobs (document-whole gives d).jobs_apart j
        it.job.listed (same-itself j.name)
        (λ l h q.
        inl
        (once-of_apart (λ (o : Job). o.name) m.jobs (document-whole gives d).jobs_apart l j h it.job.listed
        (sym ((same_job_decides j.name l.name).0 q))));
  }

-- ---- the laws

pub names-of_instances : NamesOfInstances
names-of_instances gives d levels past xs stand ks numbered = names-are gives d levels past xs stand ks numbered

pub jobs-by_numbers : JobsByNumbers
jobs-by_numbers gives d levels past xs stand ks numbered k i n x s j e it =
    number-is gives d levels past xs stand ks numbered k i n x s j e it

pub names-stay : NamesStay
names-stay xs ys ks numbered keeps = same-images (name_of ys) (name_of xs) ks one
  where
    one : (k : ℕ × ℕ) → In k ks → name_of ys k ≡ name_of xs k
    one (i, n) h =
        let a = get-in (i, n) ks h in
        let w = numbered.seats a.0 i n a.1 in
        let y = keeps i w.0 w.2 in
        let t = y.4 n w.1 w.3 in
        named-there ys i n y.0 t.0 y.1 t.1
        ∙ (λ p. y.2 p ++ (option_map_or (λ u. u.0) (slice_get (y.3 p).steps (t.2 p)) [], t.3 p) ∷ [])
        ∙ sym (named-there xs i n w.0 w.1 w.2 w.3)
