-- What is found inside an instance or at a job is what a search through all jobs finds.
use Rattle.std.specs.Prelude.{◌≡◌, refl, ℕ, Bool, true, false, ◌&&◌, if◌then◌else◌, List, [], ◌∷◌, None, Option, Some, cond, find, option_and_then, slice_get}
use Rattle.std.specs.Option.{option_map_or}
use Rattle.std.proofs.Common.{ap, inl, inr, subst, sym, ◌∙◌}
use Rattle.std.proofs.lemmas.Bool.{false_from_ne_true}
use Rattle.std.proofs.lemmas.Option.{none-some, same_Some}
use Rattle.std.specs.Cmp.{first_so, second_so}
use Rattle.tv_lemmas.specs.Members.{In}
use Rattle.tv_value.specs.Orders.{same_job}
use Rattle.tv_value.specs.Values.{JobName, Name}
use Rattle.tv_value.proofs.JobNameLemmas.{same_job_decides}
use Rattle.tv_gate.specs.Outcomes.{Giving}
use Rattle.tv_flow.specs.Flows.{Document}
use Rattle.tv_model.specs.instance.Steps.{spot}
use Rattle.tv_model.specs.Jobs.{Job}
use Rattle.tv_model.specs.Made.{Meaning}
use Rattle.tv_model.specs.Meanings.{meaning}
use Rattle.tv_model.proofs.Tests.{both_true, true≠false}
use Rattle.tv_history.specs.Entries.{History}
use Rattle.tv_history.specs.Histories.{has_open_instance}
use Rattle.tv_history.proofs.OneWorker.{found-first}
use Rattle.tv_history.proofs.Ready.{AnyNumber, are-jobs, document-whole}
use Rattle.tv_history.specs.order.Chains.{is_inside}
use Rattle.tv_history.proofs.First.{find-first, find-none}
use Rattle.tv_seats.specs.Seats.{Seat}
use Rattle.tv_instances.specs.seats.Seated.{spot_of}
use Rattle.tv_instances.specs.Forest.{Instance, Instances, IsJobAt}
use Rattle.tv_instances.specs.forest_firsts.FirstWithin.{IsFirst, IsFirstWithin, IsFoundAt}

-- where none is found none passes
none-passes : {A : Type 0} (p : A → Bool) (xs : List A) → find p xs ≡ None → (y : A) → In y xs → p y ≡ false
none-passes p [] e y i = absurd i
none-passes {A = A} p (z ∷ zs) e y i = by (p z) refl e i (λ f k. none-passes p zs f y k)
  where
    by : (b : Bool) → p z ≡ b → cond b (Some z) (find p zs) ≡ None → In y (z ∷ zs)
        → (find p zs ≡ None → In y zs → p y ≡ false) → p y ≡ false
    by true q f k rec = absurd (none-some z (sym f))
    by false q f (inl k) rec = ap p k ∙ q
    by false q f (inr k) rec = rec f k

module _ (gives : Giving) (d : Document) (passes : Job → Bool) where
  abbrev m : Meaning
  m = meaning gives d

  -- ---- inside an instance

  abbrev pub passes_in : JobName → Job → Bool
  passes_in I j = is_inside I j.name && passes j

  -- the first inside that passes
  abbrev pub first_inside : JobName → Option Job
  first_inside I = find (passes_in I) m.jobs

  is-both : (I : JobName) (j : Job) → is_inside I j.name ≡ true → passes j ≡ true → passes_in I j ≡ true
  is-both I j h k = both_true (is_inside I j.name) (passes j) h k

  within : (I : JobName) (j : Job) → passes_in I j ≡ true → is_inside I j.name ≡ true
  within I j h = first_so (is_inside I j.name) (passes j) h

  does : (I : JobName) (j : Job) → passes_in I j ≡ true → passes j ≡ true
  does I j h = second_so (is_inside I j.name) (passes j) h

  pub one-first : (I : JobName) (o : Option Job) → IsFirstWithin gives d passes I o → first_inside I ≡ o
  one-first I None w =
      find-none (passes_in I) m.jobs
      (λ j i. false_from_ne_true (passes_in I j) (λ h. true≠false (sym (does I j h) ∙ w j i (within I j h))))
  one-first I (Some j) w =
      find-first (λ (k : Job). k.name) (passes_in I) m.jobs (document-whole gives d).jobs_apart j w.is_job
      (is-both I j w.inside w.does) (λ k i h. w.first k i (within I k h) (does I k h))

  a-first : (I : JobName) (o : Option Job) → first_inside I ≡ o → IsFirstWithin gives d passes I o
  a-first I None e =
      λ j i h. false_from_ne_true (passes j)
      (λ k. true≠false (sym (is-both I j h k) ∙ none-passes (passes_in I) m.jobs e j i))
  a-first I (Some j) e =
      let f = found-first (passes_in I) (λ (k : Job). true) m.jobs
      (ap (λ o. option_map_or (λ (k : Job). true) o false) e) in
      let there = find-first (λ (k : Job). k.name) (passes_in I) m.jobs (document-whole gives d).jobs_apart f.0 f.1 f.2 f.4 in
      subst (IsFirst gives d passes I) (same_Some f.0 j (sym there ∙ e))
      (record {
        is_job = f.1;
        inside = within I f.0 f.2;
        does = does I f.0 f.2;
        first = λ k i h q. f.4 k i (is-both I k h q);
      })

  -- ---- at a job

  module _ (past : History) where
    abbrev own_if : Job → Bool → Option Job
    own_if j b = if b then Some j else None

    abbrev found_if : Job → Bool → Option Job
    found_if j b = if b then first_inside j.name else own_if j (passes j)

    -- what is found at a job
    abbrev pub found_at : Job → Option Job
    found_at j = found_if j (has_open_instance past j)

    pub is-found : (j : Job) → IsFoundAt gives d passes past j (found_at j)
    is-found j = record {
      within = λ h. a-first j.name (found_at j) (sym (ap (found_if j) h));
      itself = λ h. ap (found_if j) h;
    }

    pub one-found : (j : Job) (o : Option Job) → IsFoundAt gives d passes past j o → found_at j ≡ o
    one-found j o f = by (has_open_instance past j) refl
      where
        by : (b : Bool) → has_open_instance past j ≡ b → found_if j b ≡ o
        by true h = one-first j.name o (f.within h)
        by false h = sym (f.itself h)

    -- ---- at a seat

    abbrev job_by : JobName → Name × List ℕ → Option Job
    job_by I c = find (λ (k : Job). same_job (spot I c.0 c.1) k.name) m.jobs

    abbrev at_name : Instance → Seat → JobName
    at_name x s = spot x.name (spot_of x.flow.steps s).0 (spot_of x.flow.steps s).1

    -- what is found at the job of a seat
    abbrev pub found_by : Instance → ℕ → Option Job
    found_by x n =
        option_and_then (λ (s : Seat). option_and_then found_at (job_by x.name (spot_of x.flow.steps s)))
        (slice_get x.seats n)

    pub found-by : (xs : Instances) (i n : ℕ) (x : Instance) (s : Seat) (j : Job) → IsJobAt gives d xs i n x s j
        → found_by x n ≡ found_at j
    found-by xs i n x s j it =
        ap (option_and_then (λ (u : Seat). option_and_then found_at (job_by x.name (spot_of x.flow.steps u)))) it.seat
        ∙ ap (option_and_then found_at) named
      where
        named : job_by x.name (spot_of x.flow.steps s) ≡ Some j
        named =
            find-first (λ (k : Job). k.name) (λ (k : Job). same_job (at_name x s) k.name) m.jobs
            (document-whole gives d).jobs_apart j it.job.listed
            ((same_job_decides (at_name x s) j.name).1 (sym it.job.name))
            (λ k l h.
            inl
            ((are-jobs gives AnyNumber m [] (document-whole gives d)).once k j l it.job.listed
            (sym ((same_job_decides (at_name x s) k.name).0 h) ∙ sym it.job.name)))
