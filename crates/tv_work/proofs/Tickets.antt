-- A try that was just handed out is out, and no other; once its outcome is accepted nothing is.
use Rattle.std.specs.Option.{option_map_or}
use Rattle.std.specs.Prelude.{Bool, List, None, Option, Some, [], cond, count_by, false, find, if◌then◌else◌, is_some, length, option_and_then, refl, slice_get, suc, true, unwrap_or, zero, ℕ, ◌&&◌, ◌<◌, ◌∷◌, ◌≡◌, ◌≤◌}
use Rattle.std.proofs.Common.{ap, arith, inl, inr, subst, sym, ◌∙◌}
use Rattle.std.proofs.lemmas.Bool.{lt-ltb}
use Rattle.std.specs.Cmp.{first_so, second_so}
use Rattle.tv_lemmas.specs.Members.{In}
use Rattle.tv_history.proofs.Pasts.{and-some, name-more}
use Rattle.tv_value.specs.Orders.{same_job}
use Rattle.tv_value.specs.Values.{JobName, Name}
use Rattle.tv_value.proofs.JobNameLemmas.{same_job_decides}
use Rattle.tv_gate.specs.Outcomes.{Giving}
use Rattle.tv_dispatch.specs.Jobs.{Ask}
use Rattle.tv_model.specs.Jobs.{Job}
use Rattle.tv_model.specs.Meanings.{meaning}
use Rattle.tv_model.proofs.Tests.{both_true, true≠false}
use Rattle.tv_history.specs.Entries as history
use Rattle.tv_history.specs.Entries.{History, is_out}
use Rattle.tv_history.specs.Histories.{is_ask, is_at, is_legal, is_legal_after, is_offered, next_ask}
use Rattle.tv_history.proofs.Counts.{count-total, nothing-counted, once-counted, total-same, bit, uncounted}
use Rattle.tv_history.proofs.Tests.{found_in}
use Rattle.tv_history.proofs.Ready.{document-whole}
use Rattle.tv_history.specs.Runs.{Appends, IsLegalRun, Run, meant, name_at, past_of}
use Rattle.tv_history.specs.Calls.{hands_out, job_of, out_now, try_if_out, try_out}
use Rattle.tv_history.specs.Refusals.{accepts}
use Rattle.tv_history.specs.declared.ticket.Ticket.{Ticket}
use Rattle.tv_work.specs.Working.{IsOnlyOut}
use Rattle.tv_history.proofs.OneMore.{before, newest}
use Rattle.tv_work.proofs.Runs.{jobs-of, out-after}

-- ---- what is found

pub find-it : {A : Type 0} (p : A → Bool) (x : A) (xs : List A) → In x xs → p x ≡ true → ((y : A) → In y xs → p y ≡ true → y ≡ x) → find p xs ≡ Some x
find-it p x [] i h one = absurd i
find-it {A = A} p x (y ∷ ys) i h one = by (p y) refl i (λ k. find-it p x ys k h (λ z j g. one z (inr j) g))
  where
    by : (b : Bool) → p y ≡ b → In x (y ∷ ys) → (In x ys → find p ys ≡ Some x) → cond b (Some y) (find p ys) ≡ Some x
    by true e k rec = ap Some (one y (inl refl) e)
    by false e (inl k) rec = absurd (true≠false (sym h ∙ ap p k ∙ e))
    by false e (inr k) rec = rec k

abbrev is_empty : JobName → Bool
is_empty [] = true
is_empty (k ∷ n) = false

got : (o : Option JobName) (x : Name × List ℕ) (n : JobName) → unwrap_or o [] ≡ x ∷ n → o ≡ Some (unwrap_or o [])
got None x n e = absurd (true≠false (ap is_empty e))
got (Some m) x n e = refl

in-range : (ns : List JobName) (k : ℕ) → is_some (slice_get ns k) ≡ true → k < length ns
in-range [] k h = absurd (true≠false (sym h))
in-range (m ∷ ns) zero h = omega arith
in-range (m ∷ ns) (suc k) h = let b = in-range ns k h in omega arith

some-try : (b : Bool) (f : Ask → Bool) (o : Option Ask) → b ≡ true → option_map_or f o false ≡ true → is_some (if b && option_map_or f o false then o else None) ≡ true
some-try b f None e h = absurd (true≠false (sym h))
some-try b f (Some a) e h = ap (λ c. is_some (if c then Some a else None)) (both_true b (f a) e h)

-- ---- the try

module _ (gives : Giving) (r s : Run) (t : Ticket) (l : IsLegalRun gives s) (a : Appends r s (hands_out t)) where
  abbrev older : History
  older = before r s

  -- it was legal
  pub handed : is_legal_after gives (meant gives s) older (history.handed_out (name_at s.names t.job) t.activity t.attempt) ≡ true
  handed = second_so (is_legal gives (meant gives s) older) _ (subst (λ p. is_legal gives (meant gives s) p ≡ true) (newest r s (hands_out t) a) l.legal)

  -- so a job has the name, and this try is its next
  its-job : (j : Job) × In j (meant gives s).jobs × (is_offered (meant gives s) older j ≡ true) × ((is_at j (name_at s.names t.job) && option_map_or (is_ask t.activity t.attempt) (next_ask older j) false) ≡ true)
  its-job = found_in (λ j. is_at j (name_at s.names t.job) && option_map_or (is_ask t.activity t.attempt) (next_ask older j) false) (is_offered (meant gives s) older) (meant gives s).jobs handed

  its-name : name_at s.names t.job ≡ its-job.0.name
  its-name = (same_job_decides (name_at s.names t.job) its-job.0.name).0 (first_so (is_at its-job.0 (name_at s.names t.job)) _ its-job.3)

  found-job : job_of gives s t.job ≡ Some its-job.0
  found-job =
      let j = its-job.0 in
      let has = (jobs-of gives s.document).has_name j its-job.1 in
      ap (option_and_then (λ n. find (λ (k : Job). same_job n k.name) (meant gives s).jobs)) (got (slice_get s.names t.job) has.0 has.1 (its-name ∙ has.2))
      ∙ find-it (λ (k : Job). same_job (name_at s.names t.job) k.name) j (meant gives s).jobs its-job.1 ((same_job_decides (name_at s.names t.job) j.name).1 its-name)
      (λ k i h. (jobs-of gives s.document).once k j i its-job.1 (sym ((same_job_decides (name_at s.names t.job) k.name).0 h) ∙ its-name))

  try-out : is_some (try_if_out gives s t) ≡ true
  try-out =
      let j = its-job.0 in
      subst (λ o. is_some (option_and_then (try_out (past_of s) t.activity t.attempt) o) ≡ true) (sym found-job)
      (subst (λ p. is_some (try_out p t.activity t.attempt j) ≡ true) (sym (newest r s (hands_out t) a))
      (some-try (is_out (history.handed_out (name_at s.names t.job) t.activity t.attempt ∷ older) j.name) (is_ask t.activity t.attempt) (next_ask older j)
      (ap (λ b. if b then true else is_out older j.name) ((same_job_decides j.name (name_at s.names t.job)).1 (sym its-name)))
      (second_so (is_at j (name_at s.names t.job)) _ its-job.3)))

  module _ (was : IsLegalRun gives r) (none : out_now gives r ≡ 0) where
    none-out : (j : Job) → In j (meant gives s).jobs → is_out (past_of r) j.name ≡ false
    none-out j i =
        uncounted (λ (k : Job). is_out (past_of r) k.name) (meant gives s).jobs
        ((λ i. count_by (λ (k : Job). is_out (past_of r) k.name) (meaning gives (a.document i)).jobs) ∙ none) j i

    out-now : (j : Job) → In j (meant gives s).jobs → is_out (past_of s) j.name ≡ same_job j.name (name_at s.names t.job)
    out-now j i = out-after gives r s was (hands_out t) a j.name ∙ by (same_job j.name (name_at s.names t.job)) (is_out (past_of r) j.name) (none-out j i)
      where
        by : (b c : Bool) → c ≡ false → (if b then true else c) ≡ b
        by true c e = refl
        by false c e = e

    few-out : out_now gives s ≤ 1
    few-out =
        omega (
          arith,
          count-total (λ (k : Job). is_out (past_of s) k.name) (meant gives s).jobs
              ∙ total-same (λ (k : Job). bit (is_out (past_of s) k.name)) (λ (k : Job). bit (same_job k.name (name_at s.names t.job))) (meant gives s).jobs (λ k i. ap bit (out-now k i))
              ∙ once-counted (λ (k : Job). k.name) (name_at s.names t.job) (meant gives s).jobs (document-whole gives s.document).jobs_apart its-job.0 its-job.1 (sym its-name),
        )

    pub handed-only : IsOnlyOut gives s t
    handed-only = record {
      out = try-out;
      few = few-out;
      alone = λ j i h. sym (out-now j i) ∙ h;
    }

-- ---- its outcome

module _ (gives : Giving) (s u : Run) (t : Ticket) (right : Bool) (l : IsLegalRun gives s) (only : IsOnlyOut gives s t) (a : Appends s u (accepts t right)) where
  same-name : name_at u.names t.job ≡ name_at s.names t.job
  same-name =
      ap (λ ns. name_at ns t.job) a.names
      ∙ name-more s.names a.more t.job (lt-ltb t.job (length s.names) (in-range s.names t.job (and-some (λ n. find (λ (j : Job). same_job n j.name) (meant gives s).jobs) (slice_get s.names t.job) (and-some (try_out (past_of s) t.activity t.attempt) (job_of gives s t.job) only.out))))

  now-in : (j : Job) → In j (meant gives s).jobs → is_out (past_of u) j.name ≡ false
  now-in j i =
      out-after gives s u l (accepts t right) a j.name
      ∙ ap (λ n. if same_job j.name n then false else is_out (past_of s) j.name) same-name
      ∙ by (same_job j.name (name_at s.names t.job)) (is_out (past_of s) j.name) (only.alone j i)
    where
      by : (b c : Bool) → (c ≡ true → b ≡ true) → (if b then false else c) ≡ false
      by true c f = refl
      by false false f = refl
      by false true f = sym (f refl)

  pub accepted-none : out_now gives u ≡ 0
  accepted-none =
      (λ i. count_by (λ (k : Job). is_out (past_of u) k.name) (meaning gives (a.document i)).jobs)
      ∙ nothing-counted (λ (k : Job). is_out (past_of u) k.name) (meant gives s).jobs now-in
