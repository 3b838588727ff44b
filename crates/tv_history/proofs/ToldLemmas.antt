-- What each kind of entry adds to the history of a run, of however many instances.
use Rattle.std.specs.Prelude.{Box, Bool, List, None, Some, [], filter_map, is_some, length, nat_lt, refl, slice_get, true, unwrap_or, ℕ, ◌++◌, ◌∷◌, ◌≡◌}
use Rattle.std.specs.declared.alloc.Global.{Global}
use Rattle.std.proofs.Common.{ap, ◌∙◌}
use Rattle.std.proofs.lemmas.Bool.{lt-ltb}
use Rattle.std.proofs.lemmas.Option.{slice_get_within}
use Rattle.std.proofs.lemmas.List.{append-nil}
use Rattle.tv_value.specs.declared.place.Place.{Place}
use Rattle.tv_value.specs.Values.{JobName, Name}
use Rattle.tv_gate.specs.Outcomes.{Giving}
use Rattle.tv_flow.specs.Flows.{Flow, Step}
use Rattle.tv_check.specs.Steps.{spot}
use Rattle.tv_model.proofs.Tests.{true≠false}
use Rattle.tv_history.specs.Entries as history
use Rattle.tv_history.specs.Runs.{Appends, IsLegalRun, Run, flow_of, has_numbers, instances_of, name_at, opened_by, opened_number, past_of, step_name}
use Rattle.tv_history.specs.declared.entry.Entry.{Entry}
use Rattle.tv_history.specs.declared.entry.Entry.TheVariants as entry
use Rattle.tv_history.proofs.Flows.{step-named}
use Rattle.tv_history.proofs.Numbers.{instance_count}
use Rattle.tv_history.proofs.OneMore.{instances-grown, named, past-more}
use Rattle.tv_history.proofs.Pasts.{name-more}

-- ---- what an entry tells

-- its numbers were given, and by the names of now it tells this
pub record IsTold (r : Run) (e : Entry) (h : history.Entry) : Type 0 where
  pub given : has_numbers (length r.names) (instance_count r) e ≡ true
  pub is : named r e ≡ h

there : {A : Type 0} (xs : List A) (k : ℕ) (x : A) → slice_get xs k ≡ Some x → nat_lt k (length xs) ≡ true
there xs k x h = lt-ltb k (length xs) (slice_get_within xs k x h)

name-there : (ns : List JobName) (k : ℕ) (n : JobName) → slice_get ns k ≡ Some n → name_at ns k ≡ n
name-there ns k n h = ap (λ o. unwrap_or o []) h

-- ---- of a job

module _ (r : Run) (k : ℕ) (n : JobName) (job : slice_get r.names k ≡ Some n) where
  pub tells-handed : (a t : ℕ) → IsTold r (entry.HandedOut k a t) (history.handed_out n a t)
  tells-handed a t = record { given = there r.names k n job; is = ap (λ m. history.handed_out m a t) (name-there r.names k n job) }

  pub tells-accepted : (a t : ℕ) (right : Bool) → IsTold r (entry.Accepted k a t right) (history.accepted n a t right)
  tells-accepted a t right = record {
    given = there r.names k n job;
    is = ap (λ m. history.accepted m a t right) (name-there r.names k n job);
  }

  pub tells-bounced : IsTold r (entry.Bounced k) (history.bounced n)
  tells-bounced = record { given = there r.names k n job; is = ap history.bounced (name-there r.names k n job) }

  pub tells-opened : (i : ℕ) → IsTold r (entry.Opened k i) (history.opened n)
  tells-opened i = record { given = there r.names k n job; is = ap history.opened (name-there r.names k n job) }

-- ---- of an instance

module _ (r : Run) (i : ℕ) (n : JobName) (instance : slice_get (instances_of r.names r.entries) i ≡ Some n) where
  pub tells-ended : IsTold r (entry.Ended i) (history.ended n)
  tells-ended = record {
    given = there (instances_of r.names r.entries) i n instance;
    is = ap history.ended (name-there (instances_of r.names r.entries) i n instance);
  }

  -- at a step of its flow
  module _ (f : Flow) (k : ℕ) (s : Name × Step) (flow : flow_of r.document.flows r.document.main n ≡ Some f)
      (step : slice_get f.steps k ≡ Some s) (q : Box Place Global) where
    at-spot :
        spot (name_at (instances_of r.names r.entries) i) (step_name r.document (name_at (instances_of r.names r.entries) i) k) q.value
        ≡ spot n s.0 q.value
    at-spot =
        ap (λ m. spot m (step_name r.document m k) q.value) (name-there (instances_of r.names r.entries) i n instance)
        ∙ ap (λ x. spot n x q.value) (step-named r.document n f flow k s step)

    pub tells-closed : (c : ℕ) → IsTold r (entry.Closed i k q c) (history.closed (spot n s.0 q.value) c)
    tells-closed c = record {
      given = there (instances_of r.names r.entries) i n instance;
      is = ap (λ m. history.closed m c) at-spot;
    }

    pub tells-passed : IsTold r (entry.Passed i k q) (history.fault_passed (spot n s.0 q.value))
    tells-passed = record {
      given = there (instances_of r.names r.entries) i n instance;
      is = ap history.fault_passed at-spot;
    }

pub tells-recalled : (r : Run) (c : ℕ) → IsTold r (entry.Recalled c) (history.recalled c)
tells-recalled r c = record { given = refl; is = refl }

-- ---- after it

opens-none : (ns : List JobName) (e : Entry) → opened_number e ≡ None → filter_map (opened_by ns) (e ∷ []) ≡ []
opens-none ns (entry.Opened k i) h = absurd (true≠false (ap is_some h))
opens-none ns e h = refl

module _ (gives : Giving) (r s : Run) (l : IsLegalRun gives r) where
  -- it comes before those of before in the history
  pub past-told : (e : Entry) (h : history.Entry) → Appends r s e → IsTold r e h → past_of s ≡ h ∷ past_of r
  past-told e h a t = past-more gives r s e l a t.given ∙ ap (λ x. x ∷ past_of r) t.is

  -- the instances are those of before
  pub instances-same : (e : Entry) → Appends r s e → opened_number e ≡ None
      → instances_of s.names s.entries ≡ instances_of r.names r.entries
  instances-same e a none =
      instances-grown gives r s e l a
      ∙ ap (λ ns. instances_of r.names r.entries ++ ns) (opens-none (r.names ++ a.more) e none)
      ∙ append-nil (instances_of r.names r.entries)

  -- or one more, with the name of the job that opened it
  pub instances-opened : (k i : ℕ) (n : JobName) → Appends r s (entry.Opened k i) → slice_get r.names k ≡ Some n
      → instances_of s.names s.entries ≡ instances_of r.names r.entries ++ n ∷ []
  instances-opened k i n a job =
      instances-grown gives r s (entry.Opened k i) l a
      ∙ ap (λ m. instances_of r.names r.entries ++ m ∷ [])
      (name-more r.names a.more k (there r.names k n job) ∙ name-there r.names k n job)
