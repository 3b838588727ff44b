-- The order of one worker has exactly the asks of an instance's jobs and of what stands inside them.
use Rattle.std.specs.Prelude.{◌≡◌, refl, ℕ, zero, suc, ◌+◌, ◌≤◌, ◌⊎◌, List, [], ◌∷◌, ◌++◌, map, length, filter, Bool, true, false, not, cond, flat_map, IsPermutation}
use Rattle.std.specs.Option.{option_map_or}
use Rattle.std.proofs.Common.{arith, sym, subst, ◌∙◌, inl, inr, append_assoc, length-append}
use Rattle.std.proofs.lemmas.Grind.{flat_map-append}
use Rattle.std.proofs.lemmas.List.{length-map}
use Rattle.std.proofs.lemmas.List.Folds.{flat_map-map}
use Rattle.std.proofs.lemmas.List.Sorted.{IsPermutation-refl, IsPermutation-append_right, IsPermutation-trans}
use Rattle.tv_lemmas.specs.Members.{Each, In}
use Rattle.tv_lemmas.proofs.Members.{each_in, in-append, in-left, in-map, in-right, of-map, some_in}
use Rattle.tv_lemmas.proofs.Lists.{permute-front}
use Rattle.tv_value.specs.Values.{JobName}
use Rattle.tv_value.specs.Orders.{same_job}
use Rattle.tv_dispatch.specs.Jobs.{Ask}
use Rattle.tv_model.specs.Made.{Opened, Made}
use Rattle.tv_model.specs.Turns.{Turn, ask_order, asks_by_turns, bounced_first, is_bounced, job_turn}
use Rattle.tv_model.specs.Jobs.{job_needs}
use Rattle.tv_model.proofs.Turns.{HasRate, AllRated, turns-asks}
use Rattle.tv_model.proofs.Earlier.{job_list, is_name_of, has_job, NeedEarlier}
use Rattle.tv_strategy.proofs.Each.{each-weaken}

-- the turn of a job with what stands inside it, and the order of all
abbrev pub turn_of : Opened → Turn
turn_of o = job_turn o.job (option_map_or ask_order o.inside [])

abbrev pub opened_order : List Opened → List (JobName × Ask)
opened_order os = asks_by_turns (length os) [] (map turn_of (bounced_first (λ o. o.job) os))

-- ---- bounced jobs first, then the others

module _ (p : Opened → Bool) where
  parted-asks : (f : Opened → List (JobName × Ask)) (os : List Opened) → IsPermutation (flat_map f (filter p os) ++ flat_map f (filter (λ o. not (p o)) os)) (flat_map f os)
  parted-asks f [] = IsPermutation-refl []
  parted-asks f (o ∷ os) = by (p o) (parted-asks f os)
    where
      by : (b : Bool) → IsPermutation (flat_map f (filter p os) ++ flat_map f (filter (λ o. not (p o)) os)) (flat_map f os) → IsPermutation (flat_map f (cond b (o ∷ filter p os) (filter p os)) ++ flat_map f (cond (not b) (o ∷ filter (λ o. not (p o)) os) (filter (λ o. not (p o)) os))) (f o ++ flat_map f os)
      by true h =
          subst (λ l. IsPermutation l (f o ++ flat_map f os)) (sym (append_assoc (f o) (flat_map f (filter p os)) (flat_map f (filter (λ o. not (p o)) os))))
          (IsPermutation-append_right (f o) (flat_map f (filter p os) ++ flat_map f (filter (λ o. not (p o)) os)) (flat_map f os) h)
      by false h =
          IsPermutation-trans _ _ _ (permute-front (flat_map f (filter p os)) (f o) (flat_map f (filter (λ o. not (p o)) os)))
          (IsPermutation-append_right (f o) (flat_map f (filter p os) ++ flat_map f (filter (λ o. not (p o)) os)) (flat_map f os) h)

  pub parted-length : (os : List Opened) → length (filter p os) + length (filter (λ o. not (p o)) os) ≡ length os
  parted-length [] = refl
  parted-length (o ∷ os) = by (p o) (parted-length os)
    where
      by : (b : Bool) → length (filter p os) + length (filter (λ o. not (p o)) os) ≡ length os → length (cond b (o ∷ filter p os) (filter p os)) + length (cond (not b) (o ∷ filter (λ o. not (p o)) os) (filter (λ o. not (p o)) os)) ≡ suc (length os)
      by true h = omega arith
      by false h = omega arith

  pub in-parted : (x : Opened) (os : List Opened) → In x os → In x (filter p os) ⊎ In x (filter (λ o. not (p o)) os)
  in-parted x [] h = absurd h
  in-parted x (o ∷ os) h = by (p o) h (λ k. in-parted x os k)
    where
      later : (b : Bool) → In x (filter p os) ⊎ In x (filter (λ o. not (p o)) os) → In x (cond b (o ∷ filter p os) (filter p os)) ⊎ In x (cond (not b) (o ∷ filter (λ o. not (p o)) os) (filter (λ o. not (p o)) os))
      later true (inl k) = inl (inr k)
      later true (inr k) = inr k
      later false (inl k) = inl k
      later false (inr k) = inr (inr k)

      by : (b : Bool) → (x ≡ o) ⊎ In x os → (In x os → In x (filter p os) ⊎ In x (filter (λ o. not (p o)) os)) → In x (cond b (o ∷ filter p os) (filter p os)) ⊎ In x (cond (not b) (o ∷ filter (λ o. not (p o)) os) (filter (λ o. not (p o)) os))
      by true (inl e) rec = inl (inl e)
      by false (inl e) rec = inr (inl e)
      by b (inr k) rec = later b (rec k)

  pub of-filter : (x : Opened) (os : List Opened) → In x (filter p os) → In x os
  of-filter x [] h = absurd h
  of-filter x (o ∷ os) h = by (p o) h (λ k. of-filter x os k)
    where
      by : (b : Bool) → In x (cond b (o ∷ filter p os) (filter p os)) → (In x (filter p os) → In x os) → (x ≡ o) ⊎ In x os
      by true (inl e) rec = inl e
      by true (inr k) rec = inr (rec k)
      by false k rec = inr (rec k)

-- ---- every job can be taken

module _ (ts : List Turn) where
  rate-more : (k : ℕ) (t : Turn) → HasRate [] ts k t → HasRate [] ts (suc k) t
  rate-more zero t h = absurd h
  rate-more (suc k) t h = each-weaken (Wait k) (Wait (suc k)) (λ n w. more n w (λ u v. rate-more k u v)) t.needs h
    where
      Wait : ℕ → JobName → Type 0
      Wait k n = (false ≡ true) ⊎ ((u : Turn) × In u ts × (same_job n u.name ≡ true) × HasRate [] ts k u)

      more : (n : JobName) → Wait k n → ((u : Turn) → HasRate [] ts k u → HasRate [] ts (suc k) u) → Wait (suc k) n
      more n (inl e) rec = inl e
      more n (inr w) rec = inr (w.0, w.1, w.2, rec w.0 w.3)

  rated : (ms : List Made) → NeedEarlier ms → ((o : Opened) → In o (job_list ms) → In (turn_of o) ts) → (o : Opened) → In o (job_list ms) → HasRate [] ts (length ms) (turn_of o)
  rated [] e w o h = absurd h
  rated (m ∷ ms) e w o h = by (in-append o m.jobs (job_list ms) h) (λ u k. rated ms e.1 (λ v i. w v (in-right v m.jobs (job_list ms) i)) u k)
    where
      by : In o m.jobs ⊎ In o (job_list ms) → ((u : Opened) → In u (job_list ms) → HasRate [] ts (length ms) (turn_of u)) → HasRate [] ts (suc (length ms)) (turn_of o)
      by (inr k) rec = rate-more (length ms) (turn_of o) (rec o k)
      by (inl k) rec =
          each-weaken (λ n. has_job ms n ≡ true) (λ n. (false ≡ true) ⊎ ((u : Turn) × In u ts × (same_job n u.name ≡ true) × HasRate [] ts (length ms) u)) (λ n i. let r = some_in (is_name_of n) (job_list ms) i in inr (turn_of r.0, w r.0 (in-right r.0 m.jobs (job_list ms) r.1), r.2, rec r.0 r.1)) (job_needs o.job) (each_in (λ u. Each (λ n. has_job ms n ≡ true) (job_needs u.job)) m.jobs e.0 o k)

abbrev pub waiting : List Opened → List Opened
waiting os = filter (λ o. is_bounced o.job.ending) os ++ filter (λ o. not (is_bounced o.job.ending)) os

pub in-waiting : (o : Opened) (os : List Opened) → In o os → In (turn_of o) (map turn_of (waiting os))
in-waiting o os h = in-map turn_of o (waiting os) (by (in-parted (λ o. is_bounced o.job.ending) o os h))
  where
    by : In o (filter (λ o. is_bounced o.job.ending) os) ⊎ In o (filter (λ o. not (is_bounced o.job.ending)) os) → In o (waiting os)
    by (inl k) = in-left o (filter (λ o. is_bounced o.job.ending) os) (filter (λ o. not (is_bounced o.job.ending)) os) k
    by (inr k) = in-right o (filter (λ o. is_bounced o.job.ending) os) (filter (λ o. not (is_bounced o.job.ending)) os) k

pub of-waiting : (o : Opened) (os : List Opened) → In o (waiting os) → In o os
of-waiting o os h = by (in-append o (filter (λ o. is_bounced o.job.ending) os) (filter (λ o. not (is_bounced o.job.ending)) os) h)
  where
    by : In o (filter (λ o. is_bounced o.job.ending) os) ⊎ In o (filter (λ o. not (is_bounced o.job.ending)) os) → In o os
    by (inl k) = of-filter (λ o. is_bounced o.job.ending) o os k
    by (inr k) = of-filter (λ o. not (is_bounced o.job.ending)) o os k

pub all_rated : (ms : List Made) → NeedEarlier ms → AllRated [] (map turn_of (waiting (job_list ms)))
all_rated ms e t h =
    let r = of-map turn_of t (waiting (job_list ms)) h in
    (length ms, subst (λ u. HasRate [] (map turn_of (waiting (job_list ms))) (length ms) u) (sym r.2) (rated (map turn_of (waiting (job_list ms))) ms e (λ o k. in-waiting o (job_list ms) k) r.0 (of-waiting r.0 (job_list ms) r.1)))

-- the order of an instance has the asks of its jobs and of what stands inside them, each as often
pub opened-asks : (ms : List Made) → NeedEarlier ms → IsPermutation (opened_order (job_list ms)) (flat_map (λ o. (turn_of o).asks) (job_list ms))
opened-asks ms e =
    let os = job_list ms in
    let p : Opened → Bool = λ o. is_bounced o.job.ending in
    let all = filter p os ++ filter (λ o. not (p o)) os in
    let f : Opened → List (JobName × Ask) = λ o. (turn_of o).asks in
    IsPermutation-trans _ _ _
    (turns-asks (length os) [] (map turn_of all) (subst (λ n. n ≤ length os) (sym (length-map all turn_of ∙ length-append (filter p os) (filter (λ o. not (p o)) os) ∙ parted-length p os)) (omega arith)) (all_rated ms e))
    (subst (λ l. IsPermutation l (flat_map f os)) (sym (flat_map-map (λ t. t.asks) turn_of all ∙ flat_map-append f (filter p os) (filter (λ o. not (p o)) os))) (parted-asks p f os))
