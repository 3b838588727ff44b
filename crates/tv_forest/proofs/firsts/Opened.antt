-- The instances that were opened: where a job was begun or is settled its instance is the main one, or a job opened it.
use Rattle.std.specs.Prelude.{◌≡◌, refl, ◌⊎◌, [], ◌∷◌, Bool, true, false, not, ◌&&◌, if◌then◌else◌, Some, None, is_none, is_some}
use Rattle.std.specs.List.{list_any}
use Rattle.std.proofs.Common.{ap, inl, inr, subst, sym, ◌∙◌}
use Rattle.std.specs.Cmp.{first_so}
use Rattle.std.proofs.Math.Bool.{and-false}
use Rattle.tv_lemmas.specs.Members.{In}
use Rattle.tv_lemmas.proofs.Members.{in-options}
use Rattle.tv_lemmas.proofs.Cases.{on_or}
use Rattle.tv_value.specs.Values.{JobName}
use Rattle.tv_value.proofs.JobNameLemmas.{same_job_decides}
use Rattle.tv_gate.specs.Outcomes.{Giving}
use Rattle.tv_flow.specs.Flows.{Document}
use Rattle.tv_flow.specs.Formed.{is_formed}
use Rattle.tv_model.specs.Jobs.{Job}
use Rattle.tv_model.specs.Lists.{rest_of}
use Rattle.tv_model.specs.Made.{Meaning}
use Rattle.tv_model.specs.Meanings.{meaning}
use Rattle.tv_model.specs.Turns.{is_bounced}
use Rattle.tv_model.proofs.Tests.{or_right, true≠false}
use Rattle.tv_model.proofs.Whole.{IsWhole}
use Rattle.tv_history.specs.Alone.{HaveTries}
use Rattle.tv_history.specs.Entries.{Entry, History, is_accepted, is_begun_entry, is_bounced_entry, is_ended_entry, is_opened_entry, is_out}
use Rattle.tv_history.specs.Histories.{all_known, asks_left, instances, is_legal, is_legal_after, is_open, is_ready, is_running, is_settled, next_ask}
use Rattle.tv_history.proofs.Done.{job-opened, nothing_first, opened-facts}
use Rattle.tv_history.proofs.Legal.{Legal, accepts, bounces, last-legal, opens}
use Rattle.tv_history.proofs.Ready.{AnyNumber, all-sound, are-jobs, document-whole}
use Rattle.tv_history.proofs.Running.{begins, opened_begins, out-begun, same-job}
use Rattle.tv_history.proofs.Tests.{any_weaken}
use Rattle.tv_history.proofs.First.{going-open}
use Rattle.tv_history.proofs.activities.Read.{documents-have_activities}
use Rattle.tv_history.proofs.activities.Tried.{document-tried}

-- one that has ended isn't open
pub ended-shut : (past : History) (n : JobName) → list_any (is_ended_entry n) past ≡ true → is_open past n ≡ false
ended-shut past [] h = ap not h
ended-shut past (k ∷ n) h =
    ap (λ b. list_any (is_opened_entry (k ∷ n)) past && not b) h ∙ and-false (list_any (is_opened_entry (k ∷ n)) past)

module _ (gives : Giving) (d : Document) where
  abbrev m : Meaning
  m = meaning gives d

  abbrev whole : IsWhole gives AnyNumber m []
  whole = document-whole gives d

  abbrev IsLegal : History → Type 0
  IsLegal past = is_legal gives m past ≡ true

  old : (past : History) (e : Entry) → IsLegal (e ∷ past) → IsLegal past
  old past e l = first_so (is_legal gives m past) (is_legal_after gives m past e) l

  -- it is the main one, or this job opened it
  abbrev pub WasOpened : History → JobName → Type 0
  WasOpened past n =
      (n ≡ []) ⊎ ((j : Job) × In j m.jobs × (j.name ≡ n) × (list_any (is_opened_entry j.name) past ≡ true))

  -- ---- open ones

  opened-it : (past : History) {e : Entry} (n : JobName) → Legal gives m past e → is_opened_entry n e ≡ true
      → (j : Job) × In j m.jobs × (j.name ≡ n)
  opened-it past n (opens j i q c) h = (j, i, sym ((same_job_decides n j.name).0 h))
  opened-it past n l h = absurd (true≠false (sym h))

  -- what was opened, a job opened
  opener-of : (past : History) → IsLegal past → (n : JobName)
      → list_any (is_opened_entry n) past ≡ true → (j : Job) × In j m.jobs × (j.name ≡ n)
  opener-of [] l n h = absurd (true≠false (sym h))
  opener-of (e ∷ past) l n h =
      on_or (is_opened_entry n e) (list_any (is_opened_entry n) past) h
      (λ k. opened-it past n (last-legal gives m past e l) k)
      (λ k. opener-of past (old past e l) n k)

  pub open-was : (past : History) → IsLegal past → (n : JobName) → is_open past n ≡ true → WasOpened past n
  open-was past l [] h = inl refl
  open-was past l (k ∷ n) h =
      let o = first_so (list_any (is_opened_entry (k ∷ n)) past) (not (list_any (is_ended_entry (k ∷ n)) past)) h in
      let j = opener-of past l (k ∷ n) o in
      inr (j.0, j.1, j.2, subst (λ x. list_any (is_opened_entry x) past ≡ true) (sym j.2) o)

  pub is-instance : (past : History) → IsLegal past → (n : JobName) → is_open past n ≡ true → In n (instances m)
  is-instance past l n h = by (open-was past l n h)
    where
      by : WasOpened past n → In n (instances m)
      by (inl e) = inl e
      by (inr j) =
          let some = (opened-facts gives AnyNumber m whole past l j.0 j.1 j.3).1 in
          inr
          (in-options (λ (k : Job). if is_some k.opens then Some k.name else None) j.0 n m.jobs j.1
          (ap (λ b. if b then Some j.0.name else None) some ∙ ap (λ k. Some k) j.2))

  -- ---- those of begun and settled jobs

  was-before : (past : History) (e : Entry) (n : JobName) → WasOpened past n → WasOpened (e ∷ past) n
  was-before past e n (inl h) = inl h
  was-before past e n (inr j) =
      inr (j.0, j.1, j.2, or_right (is_opened_entry j.0.name e) (list_any (is_opened_entry j.0.name) past) j.3)

  pub begun-was : (past : History) → IsLegal past → (j : Job) → In j m.jobs
      → list_any (is_begun_entry j.name) past ≡ true → WasOpened past j.instance
  begun-was [] l j i h = absurd (true≠false (sym h))
  begun-was (e ∷ past) l j i h =
      was-before past e j.instance
      (on_or (is_begun_entry j.name e) (list_any (is_begun_entry j.name) past) h
      (λ k.
      let goes = begins gives m (all-sound gives AnyNumber m [] whole) (are-jobs gives AnyNumber m [] whole) past j i (last-legal gives m past e l) k in
      open-was past (old past e l) j.instance (going-open gives AnyNumber m whole past (old past e l) j i goes))
      (λ k. begun-was past (old past e l) j i k))

  pub ready-open : (past : History) (j : Job) → is_ready m past j ≡ true → is_open past j.instance ≡ true
  ready-open past j h =
      first_so (is_open past j.instance) (not (is_running past j))
      (first_so (is_open past j.instance && not (is_running past j)) (not (is_settled past j))
      (first_so (is_open past j.instance && not (is_running past j) && not (is_settled past j)) (all_known m past j.waits) h))

  bounced-now : (past : History) {e : Entry} → IsLegal past → (j : Job) → In j m.jobs → Legal gives m past e
      → is_bounced_entry j.name e ≡ true → WasOpened past j.instance
  bounced-now past l j i (bounces k ki c) h =
      open-was past l j.instance
      (ready-open past j
      (first_so (is_ready m past j) (is_bounced j.ending)
      (subst (λ x. (is_ready m past x && is_bounced x.ending) ≡ true) (same-job gives m (are-jobs gives AnyNumber m [] whole) k j ki i h) c)))
  bounced-now past l j i w h = absurd (true≠false (sym h))

  bounced-was : (past : History) → IsLegal past → (j : Job) → In j m.jobs
      → list_any (is_bounced_entry j.name) past ≡ true → WasOpened past j.instance
  bounced-was [] l j i h = absurd (true≠false (sym h))
  bounced-was (e ∷ past) l j i h =
      was-before past e j.instance
      (on_or (is_bounced_entry j.name e) (list_any (is_bounced_entry j.name) past) h
      (λ k. bounced-now past (old past e l) j i (last-legal gives m past e l) k)
      (λ k. bounced-was past (old past e l) j i k))

  accepted-now : (past : History) {e : Entry} → IsLegal past → (j : Job) → In j m.jobs → Legal gives m past e
      → is_accepted j.name e ≡ true → WasOpened past j.instance
  accepted-now past l j i (accepts k a ki o q) h =
      begun-was past l j i
      (out-begun past j.name (subst (λ n. is_out past n ≡ true) (sym ((same_job_decides j.name k.name).0 h)) o))
  accepted-now past l j i w h = absurd (true≠false (sym h))

  -- where fewer asks are left than there were
  taken-was : (past : History) → IsLegal past → (j : Job) → In j m.jobs
      → asks_left past j.name j.asks ≡ [] → (j.asks ≡ [] → ⊥) → WasOpened past j.instance
  taken-was [] l j i h some = absurd (some h)
  taken-was (e ∷ past) l j i h some =
      was-before past e j.instance
      (by (is_accepted j.name e) refl h (λ k. taken-was past (old past e l) j i k some))
    where
      by : (b : Bool) → is_accepted j.name e ≡ b
          → (if b then rest_of (asks_left past j.name j.asks) else asks_left past j.name j.asks) ≡ []
          → (asks_left past j.name j.asks ≡ [] → WasOpened past j.instance) → WasOpened past j.instance
      by true q k rec = accepted-now past (old past e l) j i (last-legal gives m past e l) q
      by false q k rec = rec k

  module _ (formed : is_formed d ≡ true) where
    have-tries : HaveTries m.jobs
    have-tries = document-tried gives d (documents-have_activities d formed)

    pub settled-was : (past : History) → IsLegal past → (j : Job) → In j m.jobs → is_settled past j ≡ true
        → WasOpened past j.instance
    settled-was past l j i h = by (is_bounced j.ending) refl h
      where
        inside : (o : Bool) → is_some j.opens ≡ o → is_bounced j.ending ≡ false
            → (if o then list_any (is_ended_entry j.name) past else is_none (next_ask past j)) ≡ true
            → WasOpened past j.instance
        inside true e b k =
            begun-was past l j i
            (any_weaken (is_opened_entry j.name) (is_begun_entry j.name) (opened_begins j.name) past
            (job-opened gives AnyNumber m whole past l j i k))
        inside false e b k =
            taken-was past l j i (nothing_first (asks_left past j.name j.asks) k)
            (λ none. true≠false (sym (have-tries j i b none) ∙ e))

        by : (b : Bool) → is_bounced j.ending ≡ b
            → (
            if b then list_any (is_bounced_entry j.name) past
            else (if is_some j.opens then list_any (is_ended_entry j.name) past else is_none (next_ask past j))
            )
            ≡ true
            → WasOpened past j.instance
        by true e k = bounced-was past l j i k
        by false e k = inside (is_some j.opens) refl e k
