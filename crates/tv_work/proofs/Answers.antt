-- A call whose outcome was accepted is that of the try, which is one of its job.
use Rattle.std.specs.Option.{option_map_or}
use Rattle.std.specs.Prelude.{Bool, List, None, Option, Some, [], false, find, if◌then◌else◌, is_some, length, option_and_then, refl, slice_get, suc, true, unwrap_or, zero, ℕ, ◌&&◌, ◌++◌, ◌<◌, ◌==◌, ◌∷◌, ◌≡◌}
use Rattle.std.proofs.Common.{ap, arith, inl, inr, subst, sym, ◌∙◌}
use Rattle.std.proofs.lemmas.Bool.{eqb-true, lt-ltb}
use Rattle.std.specs.Cmp.{first_so, second_so}
use Rattle.tv_lemmas.specs.Members.{In}
use Rattle.tv_lemmas.proofs.Members.{found-in, some_in}
use Rattle.tv_history.proofs.Ready.{left-in}
use Rattle.tv_history.proofs.Tests.{first-in}
use Rattle.tv_value.specs.Orders.{same_job}
use Rattle.tv_value.specs.Values.{JobName}
use Rattle.tv_value.proofs.JobNameLemmas.{same_job_decides}
use Rattle.tv_gate.specs.Calls.{Call, IsCalled}
use Rattle.tv_gate.specs.Outcomes.{Giving}
use Rattle.tv_dispatch.specs.Jobs.{Ask}
use Rattle.tv_model.specs.Jobs.{Job}
use Rattle.tv_model.specs.Made.{Meaning}
use Rattle.tv_model.specs.Meanings.{meaning}
use Rattle.tv_model.proofs.Tests.{true≠false}
use Rattle.tv_history.specs.Entries as history
use Rattle.tv_history.specs.Entries.{History, is_out}
use Rattle.tv_history.specs.Histories.{asks_left, is_ask, is_at, is_legal, is_legal_after, next_ask, same_bool}
use Rattle.tv_dispatch.specs.Plans.{came_right}
use Rattle.tv_history.specs.Tries.{key_of}
use Rattle.tv_history.proofs.Running.{AreJobs}
use Rattle.tv_history.specs.Runs.{Appends, IsLegalRun, Run, meant, name_at, past_of}
use Rattle.tv_history.specs.Answers.{Question}
use Rattle.tv_history.specs.Calls.{IsTask, job_of, try_out}
use Rattle.tv_history.specs.Refusals.{accepts}
use Rattle.tv_history.proofs.Pasts.{name-more}
use Rattle.tv_board.specs.Asked.{call_for}
use Rattle.tv_work.specs.Asked.{AsksEach, accepted_tries, call_of}
use Rattle.tv_work.proofs.Asked.{tries-after}
use Rattle.tv_history.proofs.OneMore.{one-newer}
use Rattle.tv_work.proofs.Runs.{jobs-of}

-- ---- what is found

some-of : {A B : Type 0} (f : A → Option B) (o : Option A) (y : B) → option_and_then f o ≡ Some y → (x : A) × (o ≡ Some x) × (f x ≡ Some y)
some-of f None y h = absurd (true≠false (sym (ap is_some h)))
some-of f (Some x) y h = (x, refl, h)

some-if : {A : Type 0} (b : Bool) (o : Option A) (y : A) → (if b then o else None) ≡ Some y → (b ≡ true) × (o ≡ Some y)
some-if true o y h = (refl, h)
some-if false o y h = absurd (true≠false (sym (ap is_some h)))

below-length : (ns : List JobName) (k : ℕ) (n : JobName) → slice_get ns k ≡ Some n → k < length ns
below-length [] k n h = absurd (true≠false (sym (ap is_some h)))
below-length (m ∷ ns) zero n h = omega arith
below-length (m ∷ ns) (suc k) n h = let b = below-length ns k n h in omega arith

-- ---- a task

-- the job of a task's try, which is out
pub record IsTryOf (gives : Giving) (s : Run) (q : Question) (a : Ask) : Type 0 where
  pub job : Job
  pub name : JobName
  pub number : slice_get s.names q.ticket.job ≡ Some name
  pub named : name ≡ job.name
  pub among : In job (meant gives s).jobs
  pub out : is_out (past_of s) job.name ≡ true
  pub next : next_ask (past_of s) job ≡ Some a
  pub its_own : In a job.asks
  pub activity : q.ticket.activity ≡ a.activity
  pub attempt : q.ticket.attempt ≡ a.attempt

module _ (gives : Giving) (s : Run) (q : Question) (task : IsTask gives s q) where
  abbrev is_it : Job → Bool
  is_it j = option_map_or (is_ask q.ticket.activity q.ticket.attempt) (next_ask (past_of s) j) false

  pub try-of : IsTryOf gives s q task.asked
  try-of =
      let j = some-of (try_out (past_of s) q.ticket.activity q.ticket.attempt) (job_of gives s q.ticket.job) task.asked task.out in
      let n = some-of (λ n. find (λ (k : Job). same_job n k.name) (meant gives s).jobs) (slice_get s.names q.ticket.job) j.0 j.1 in
      let found = found-in (λ (k : Job). same_job n.0 k.name) (meant gives s).jobs j.0 n.2 in
      let tried = some-if (is_out (past_of s) j.0.name && is_it j.0) (next_ask (past_of s) j.0) task.asked j.2 in
      let same = subst (λ o. option_map_or (is_ask q.ticket.activity q.ticket.attempt) o false ≡ true) tried.1 (second_so (is_out (past_of s) j.0.name) (is_it j.0) tried.0) in
      record {
        job = j.0;
        name = n.0;
        number = n.1;
        named = (same_job_decides n.0 j.0.name).0 found.1;
        among = found.0;
        out = first_so (is_out (past_of s) j.0.name) (is_it j.0) tried.0;
        next = tried.1;
        its_own = left-in (past_of s) j.0.name j.0.asks task.asked (first-in task.asked (asks_left (past_of s) j.0.name j.0.asks) tried.1);
        activity = eqb-true q.ticket.activity task.asked.activity (first_so (q.ticket.activity == task.asked.activity) (q.ticket.attempt == task.asked.attempt) same);
        attempt = eqb-true q.ticket.attempt task.asked.attempt (second_so (q.ticket.activity == task.asked.activity) (q.ticket.attempt == task.asked.attempt) same);
      }

  -- its call is that of the ask
  pub same-call : call_for q ≡ call_of (try-of.job.name, task.asked)
  same-call = λ i. record { service = task.service i; inputs = task.inputs i; attempt = try-of.attempt i }

-- ---- an acceptance

module _ (gives : Giving) (m : Meaning) (are : AreJobs gives m) (past : History) where
  -- its right is that of the job's next ask
  right-as : (n : JobName) (c t : ℕ) (b : Bool) → is_legal_after gives m past (history.accepted n c t b) ≡ true → (j : Job) → In j m.jobs → n ≡ j.name → (a : Ask) → next_ask past j ≡ Some a → (c, t, b) ≡ key_of gives a
  right-as n c t b l j i e a next = λ z. (eqb-true c a.activity (first_so (c == a.activity) (t == a.attempt) asks) z, eqb-true t a.attempt (second_so (c == a.activity) (t == a.attempt) asks) z, same b (came_right gives a) (second_so (is_ask c t a) (same_bool b (came_right gives a)) both) z)
    where
      found : (x : Job) × In x m.jobs × ((is_at x n && option_map_or (λ k. is_ask c t k && same_bool b (came_right gives k)) (next_ask past x) false) ≡ true)
      found = some_in (λ x. is_at x n && option_map_or (λ k. is_ask c t k && same_bool b (came_right gives k)) (next_ask past x) false) m.jobs (second_so (is_out past n) _ l)

      its-own : found.0 ≡ j
      its-own = are.once found.0 j found.1 i (sym ((same_job_decides n found.0.name).0 (first_so (is_at found.0 n) _ found.2)) ∙ e)

      both : (is_ask c t a && same_bool b (came_right gives a)) ≡ true
      both =
          subst (λ o. option_map_or (λ k. is_ask c t k && same_bool b (came_right gives k)) o false ≡ true) (ap (next_ask past) its-own ∙ next)
          (second_so (is_at found.0 n) (option_map_or (λ k. is_ask c t k && same_bool b (came_right gives k)) (next_ask past found.0) false) found.2)

      asks : (c == a.activity && t == a.attempt) ≡ true
      asks = first_so (is_ask c t a) (same_bool b (came_right gives a)) both

      same : (x y : Bool) → same_bool x y ≡ true → x ≡ y
      same true y h = sym h
      same false true h = absurd (true≠false (sym h))
      same false false h = refl

module _ (gives : Giving) (s u : Run) (q : Question) (right : Bool) (l : IsLegalRun gives s) (lu : IsLegalRun gives u) (task : IsTask gives s q) (a : Appends s u (accepts q.ticket right)) where
  abbrev its : IsTryOf gives s q task.asked
  its = try-of gives s q task

  named-so : name_at u.names q.ticket.job ≡ its.job.name
  named-so =
      ap (λ ns. name_at ns q.ticket.job) a.names
      ∙ name-more s.names a.more q.ticket.job (lt-ltb q.ticket.job (length s.names) (below-length s.names q.ticket.job its.name its.number))
      ∙ ap (λ o. unwrap_or o []) its.number
      ∙ its.named

  was-legal : is_legal_after gives (meant gives s) (past_of s) (history.accepted (name_at u.names q.ticket.job) q.ticket.activity q.ticket.attempt right) ≡ true
  was-legal = by (meant gives u) (meant gives s) (past_of u) (past_of s) (history.accepted (name_at u.names q.ticket.job) q.ticket.activity q.ticket.attempt right) (ap (meaning gives) a.document) (one-newer gives s u (accepts q.ticket right) l a) lu.legal
    where
      by : (m k : Meaning) (now past : History) (e : history.Entry) → m ≡ k → now ≡ e ∷ past → is_legal gives m now ≡ true → is_legal_after gives k past e ≡ true
      by m k now past e p w h = second_so (is_legal gives k past) (is_legal_after gives k past e) (sym (λ i. is_legal gives (p i) (w i)) ∙ h)

  its-key : (q.ticket.activity, q.ticket.attempt, right) ≡ key_of gives task.asked
  its-key = right-as gives (meant gives s) (jobs-of gives s.document) (past_of s) (name_at u.names q.ticket.job) q.ticket.activity q.ticket.attempt right was-legal its.job its.among named-so task.asked its.next

  pub asks-one : (x y : Option (List Call)) → IsCalled x y (call_for q) → AsksEach gives x y s u
  asks-one x y h calls b = (
    (its.job.name, task.asked) ∷ [],
    h calls b ∙ ap (λ c. Some (calls ++ c ∷ [])) (same-call gives s q task),
    tries-after gives s u (accepts q.ticket right) l a ∙ (λ i. accepted_tries s ++ (named-so i, its-key i) ∷ []),
    λ p i. by p i,
  )
    where
      by : (p : JobName × Ask) → In p ((its.job.name, task.asked) ∷ []) → (j : Job) × In j (meant gives s).jobs × (p.0 ≡ j.name) × In p.1 j.asks
      by p (inl e) = (its.job, its.among, ap (λ k. k.0) e, subst (λ z. In z its.job.asks) (sym (ap (λ k. k.1) e)) its.its_own)
      by p (inr e) = absurd e
