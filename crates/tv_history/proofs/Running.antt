-- What is so of every running job in a legal history, and what is offered where nothing can be settled.
use Rattle.std.specs.Prelude.{◌≡◌, refl, ℕ, ◌⊎◌, List, [], ◌∷◌, Bool, true, false, not, ◌&&◌, ◌||◌, if◌then◌else◌, is_some, is_none}
use Rattle.std.specs.List.{list_any, list_all}
use Rattle.std.proofs.Common.{sym, subst, ◌∙◌, inl, inr}
use Rattle.std.proofs.lemmas.Bool.{not-true}
use Rattle.std.specs.Cmp.{first_so, second_so}
use Rattle.tv_lemmas.specs.Members.{Each, In}
use Rattle.tv_lemmas.proofs.Members.{of-all}
use Rattle.tv_history.proofs.Legal.{last-legal, legal-of, Legal, hands, bounces, opens, ends}
use Rattle.tv_history.proofs.Tests.{found_in, any_weaken}
use Rattle.tv_lemmas.proofs.Cases.{on_test, on_either, on_or}
use Rattle.tv_lemmas.proofs.Lists.{all-weaken}
use Rattle.tv_value.specs.Values.{Name, JobName}
use Rattle.tv_value.specs.Orders.{same_job}
use Rattle.tv_value.proofs.JobNameLemmas.{same_job_decides}
use Rattle.tv_gate.specs.Outcomes.{Giving}
use Rattle.tv_model.specs.Jobs.{Job, job_needs}
use Rattle.tv_model.specs.instance.Delivered.{StepMeaning}
use Rattle.tv_model.specs.Made.{Meaning}
use Rattle.tv_model.specs.Turns.{is_bounced}
use Rattle.tv_history.specs.Entries.{Entry, handed_out, accepted, opened, ended, recalled, History, is_begun_entry, is_opened_entry, is_ended_entry, is_out}
use Rattle.tv_history.specs.Histories.{next_ask, is_settled, is_settled_name, all_known, is_open, has_open_instance, is_running, is_idle, is_ready, has_place, may_go_on, is_offered, is_legal, is_legal_after, is_offered_by_meaning}
use Rattle.tv_model.proofs.Tests.{true≠false, both_true, or_right}
use Rattle.tv_history.proofs.Needs.{AllSound, IsSound, stays_settled, stays_settled_name, known-needs, needs_of-settled}

pub handed_case : (b x y : Bool) → (x ≡ true → y ≡ true) → (if b then true else x) ≡ true → (b || y) ≡ true
handed_case true x y f h = refl
handed_case false x y f h = f h

pub taken_case : (b x : Bool) → (if b then false else x) ≡ true → x ≡ true
taken_case true x h = absurd (true≠false (sym h))
taken_case false x h = h

-- what is out was begun
pub out-begun : (past : History) (n : JobName) → is_out past n ≡ true → list_any (is_begun_entry n) past ≡ true
out-begun [] n h = h
out-begun (handed_out k c t ∷ past) n h = handed_case (same_job n k) (is_out past n) (list_any (is_begun_entry n) past) (λ g. out-begun past n g) h
out-begun (accepted k c t r ∷ past) n h = out-begun past n (taken_case (same_job n k) (is_out past n) h)
out-begun (recalled c ∷ past) n h = absurd (true≠false (sym h))
out-begun (opened k ∷ past) n h = or_right (same_job n k) (list_any (is_begun_entry n) past) (out-begun past n h)
out-begun (e ∷ past) n h = out-begun past n h

pub opened_begins : (n : JobName) (e : Entry) → is_opened_entry n e ≡ true → is_begun_entry n e ≡ true
opened_begins n (opened k) h = h
opened_begins n e h = absurd (true≠false (sym h))

-- the tests of an offer, with what is so of jobs that were begun
offers : (next there settled begun out inside known needs place bounces : Bool) → (begun ≡ true → needs ≡ true) → (begun ≡ true → (settled ≡ true) ⊎ (there ≡ true)) → (out ≡ true → begun ≡ true) → (inside ≡ true → begun ≡ true) → (there ≡ true → known ≡ needs) → (bounces ≡ true → next ≡ false) → (next && (((begun && not settled) && not out && not inside) || ((there && not (begun && not settled) && not settled && known) && not bounces && place))) ≡ (next && there && not settled && not out && not inside && needs && ((begun && not settled) || place))
offers false p s b o i k d l x f g h j q r = refl
offers true false s false o i k d l x f g h j q r = refl
offers true false true true o i k d l x f g h j q r = refl
offers true false false true o i k d l x f g h j q r = absurd (on_either (g refl) (λ e. true≠false (sym e)) (λ e. true≠false (sym e)))
offers true true true false o i k d l x f g h j q r = refl
offers true true true true o i k d l x f g h j q r = refl
offers true true false true o i k false l x f g h j q r = absurd (true≠false (sym (f refl)))
offers true true false true true i k true l x f g h j q r = refl
offers true true false true false true k true l x f g h j q r = refl
offers true true false true false false k true l x f g h j q r = refl
offers true true false false true i k d l x f g h j q r = absurd (true≠false (sym (h refl)))
offers true true false false false true k d l x f g h j q r = absurd (true≠false (sym (j refl)))
offers true true false false false false k d l true f g h j q r = absurd (true≠false (r refl))
offers true true false false false false true true l false f g h j q r = refl
offers true true false false false false false false l false f g h j q r = refl
offers true true false false false false true false l false f g h j q r = absurd (true≠false (q refl))
offers true true false false false false false true l false f g h j q r = absurd (true≠false (sym (q refl)))

module _ (gives : Giving) (m : Meaning) where
  -- what the meaning of a flow keeps of its jobs
  pub record AreJobs : Type 0 where
    -- a name is used once
    pub once : (j k : Job) → In j m.jobs → In k m.jobs → j.name ≡ k.name → j ≡ k
    pub has_name : (j : Job) → In j m.jobs → (k : Name × List ℕ) × (n : JobName) × (j.name ≡ k ∷ n)
    -- a job settles before its step has ended
    pub in_step : (j : Job) → In j m.jobs → (s : StepMeaning) × In s m.steps × (s.instance ≡ j.instance) × ((past : History) → all_known m past s.ending ≡ true → is_settled_name m past j.name ≡ true)
    -- its nodes say what they need
    pub sound : (j : Job) → In j m.jobs → Each (IsSound gives m) j.waits
    pub bounced_asks : (j : Job) → In j m.jobs → is_bounced j.ending ≡ true → (past : History) → is_some (next_ask past j) ≡ false

  -- jobs of one name
  pub same-job : AreJobs → (k j : Job) → In k m.jobs → In j m.jobs → same_job j.name k.name ≡ true → k ≡ j
  same-job w k j ki i h = w.once k j ki i (sym ((same_job_decides j.name k.name).0 h))

  abbrev pub begun : History → Job → Bool
  begun past j = list_any (is_begun_entry j.name) past

  abbrev pub NeedsSettled : History → Job → Type 0
  NeedsSettled past j = list_all (is_settled_name m past) (job_needs j) ≡ true

  module _ (a : AllSound gives m) (w : AreJobs) where
    pub settled_of_name : (past : History) (j : Job) → In j m.jobs → is_settled_name m past j.name ≡ true → is_settled past j ≡ true
    settled_of_name past j i h =
        let r = found_in (is_settled past) (λ k. same_job j.name k.name) m.jobs h in
        subst (λ k. is_settled past k ≡ true) (w.once r.0 j r.1 i (sym ((same_job_decides j.name r.0.name).0 r.2))) r.3

    -- a job that may go on runs already, or is ready
    pub going_on : (past : History) (j : Job) → may_go_on m past j ≡ true → (is_idle past j ≡ true) ⊎ (is_ready m past j ≡ true)
    going_on past j h = on_or (is_idle past j) (is_ready m past j && not (is_bounced j.ending) && has_place m past j) h (λ e. inl e) (λ e. inr (first_so (is_ready m past j) (not (is_bounced j.ending)) (first_so (is_ready m past j && not (is_bounced j.ending)) (has_place m past j) e)))

    -- an entry by which a job runs came where the job might go on
    pub begins : (past : History) {e : Entry} (j : Job) → In j m.jobs → Legal gives m past e → is_begun_entry j.name e ≡ true → may_go_on m past j ≡ true
    begins past j i (hands k a ki o q) h = subst (λ x. may_go_on m past x ≡ true) (same-job w k j ki i h) (second_so (is_some (next_ask past k)) (may_go_on m past k) o)
    begins past j i (opens k ki q o) h = subst (λ x. may_go_on m past x ≡ true) (same-job w k j ki i h) (second_so (is_none (next_ask past k) && is_some k.opens) (may_go_on m past k) o)
    begins past j i l h = absurd (true≠false (sym h))

    pub idle_begun : (past : History) (j : Job) → is_idle past j ≡ true → (begun past j ≡ true) × (is_settled past j ≡ false)
    idle_begun past j h =
        let running = first_so (is_running past j) (not (is_out past j.name)) (first_so (is_running past j && not (is_out past j.name)) (not (has_open_instance past j)) h) in
        (first_so (begun past j) (not (is_settled past j)) running, not-true (is_settled past j) (second_so (begun past j) (not (is_settled past j)) running))

    -- ---- the needs of a job that was begun are settled

    more_settled : (past : History) (e : Entry) (j : Job) → NeedsSettled past j → NeedsSettled (e ∷ past) j
    more_settled past e j h = all-weaken (is_settled_name m past) (is_settled_name m (e ∷ past)) (stays_settled_name gives m e past) (job_needs j) h

    pub ready-needs : (past : History) (j : Job) → In j m.jobs → is_legal gives m past ≡ true → is_ready m past j ≡ true → NeedsSettled past j
    ready-needs past j i l h =
        needs_of-settled gives m past (λ o s k. known-needs gives m a past l o o.known s k) j.waits (w.sound j i) (second_so (is_open past j.instance && not (is_running past j) && not (is_settled past j)) (all_known m past j.waits) h)

    pub begun-needs : (past : History) (j : Job) → In j m.jobs → is_legal gives m past ≡ true → begun past j ≡ true → NeedsSettled past j
    begun-needs [] j i l h = absurd (true≠false (sym h))
    begun-needs (e ∷ past) j i l h = more_settled past e j (on_or (is_begun_entry j.name e) (begun past j) h (λ k. on_either (going_on past j (begins past j i (last-legal gives m past e l) k)) (λ k. (begun-needs past j i (first_so (is_legal gives m past) (is_legal_after gives m past e) l) (idle_begun past j k).0)) (λ k. ready-needs past j i old k)) (λ k. begun-needs past j i (first_so (is_legal gives m past) (is_legal_after gives m past e) l) k))
      where
        old : is_legal gives m past ≡ true
        old = first_so (is_legal gives m past) (is_legal_after gives m past e) l

    -- ---- the instance of a job that was begun is open, or the job is settled

    pub open_before : (past : History) (e : Entry) (n : JobName) → is_ended_entry n e ≡ false → is_open past n ≡ true → is_open (e ∷ past) n ≡ true
    open_before past e [] f h = subst (λ b. not (b || list_any (is_ended_entry []) past) ≡ true) (sym f) h
    open_before past e (k ∷ n) f h =
        both_true (is_opened_entry (k ∷ n) e || list_any (is_opened_entry (k ∷ n)) past) (not (is_ended_entry (k ∷ n) e || list_any (is_ended_entry (k ∷ n)) past))
        (or_right (is_opened_entry (k ∷ n) e) (list_any (is_opened_entry (k ∷ n)) past) (first_so (list_any (is_opened_entry (k ∷ n)) past) (not (list_any (is_ended_entry (k ∷ n)) past)) h))
        (subst (λ b. not (b || list_any (is_ended_entry (k ∷ n)) past) ≡ true) (sym f) (second_so (list_any (is_opened_entry (k ∷ n)) past) (not (list_any (is_ended_entry (k ∷ n)) past)) h))

    abbrev pub SettledOrOpen : History → Job → Type 0
    SettledOrOpen past j = (is_settled past j ≡ true) ⊎ (is_open past j.instance ≡ true)

    -- where an instance ends, its jobs are settled
    pub ended-settled : (past : History) {e : Entry} (j : Job) → In j m.jobs → Legal gives m past e → is_ended_entry j.instance e ≡ true → is_settled past j ≡ true
    ended-settled past j i (ends n l) h =
        let s = w.in_step j i in
        let same = (same_job_decides n s.0.instance).1 (sym ((same_job_decides j.instance n).0 h) ∙ sym s.2) in
        let all = of-all (λ t. if same_job n t.instance then all_known m past t.ending else true) m.steps (second_so (is_open past n) (list_all (λ t. if same_job n t.instance then all_known m past t.ending else true) m.steps) l) s.0 s.1 in
        settled_of_name past j i (s.3 past (subst (λ b. (if b then all_known m past s.0.ending else true) ≡ true) same all))
    ended-settled past j i l h = absurd (true≠false (sym h))

    stays : (past : History) (e : Entry) (j : Job) → In j m.jobs → is_legal_after gives m past e ≡ true → SettledOrOpen past j → SettledOrOpen (e ∷ past) j
    stays past e j i l (inl k) = inl (stays_settled gives m e past j k)
    stays past e j i l (inr k) = on_test (is_ended_entry j.instance e) (λ f. inl (stays_settled gives m e past j (ended-settled past j i (legal-of gives m past e l) f))) (λ f. inr (open_before past e j.instance f k))

    pub begun-open : (past : History) (j : Job) → In j m.jobs → is_legal gives m past ≡ true → begun past j ≡ true → SettledOrOpen past j
    begun-open [] j i l h = absurd (true≠false (sym h))
    begun-open (e ∷ past) j i l h = stays past e j i now (on_or (is_begun_entry j.name e) (begun past j) h (λ k. on_either (going_on past j (begins past j i (legal-of gives m past e now) k)) (λ k. (begun-open past j i (first_so (is_legal gives m past) (is_legal_after gives m past e) l) (idle_begun past j k).0)) (λ k. inr (first_so (is_open past j.instance) (not (is_running past j)) (first_so (is_open past j.instance && not (is_running past j)) (not (is_settled past j)) (first_so (is_open past j.instance && not (is_running past j) && not (is_settled past j)) (all_known m past j.waits) k))))) (λ k. begun-open past j i (first_so (is_legal gives m past) (is_legal_after gives m past e) l) k))
      where
        now : is_legal_after gives m past e ≡ true
        now = second_so (is_legal gives m past) (is_legal_after gives m past e) l

    -- ---- offered

    pub instance-begun : (past : History) (j : Job) → In j m.jobs → has_open_instance past j ≡ true → begun past j ≡ true
    instance-begun past j i h =
        let c = w.has_name j i in
        let is_open_there = subst (λ n. is_open past n ≡ true) c.2 (second_so (is_some j.opens) (is_open past j.name) h) in
        any_weaken (is_opened_entry j.name) (is_begun_entry j.name) (opened_begins j.name) past
        (subst (λ n. list_any (is_opened_entry n) past ≡ true) (sym c.2) (first_so (list_any (is_opened_entry (c.0 ∷ c.1)) past) (not (list_any (is_ended_entry (c.0 ∷ c.1)) past)) is_open_there))

    -- where a job's nodes are all known exactly where its needs are settled, it is offered exactly where the meaning offers it
    pub offered-by_meaning : (past : History) → is_legal gives m past ≡ true → (j : Job) → In j m.jobs → (is_open past j.instance ≡ true → all_known m past j.waits ≡ list_all (is_settled_name m past) (job_needs j)) → is_offered m past j ≡ is_offered_by_meaning m past j
    offered-by_meaning past l j i k =
        offers (is_some (next_ask past j)) (is_open past j.instance) (is_settled past j) (begun past j) (is_out past j.name) (has_open_instance past j) (all_known m past j.waits) (list_all (is_settled_name m past) (job_needs j)) (has_place m past j) (is_bounced j.ending)
        (begun-needs past j i l) (begun-open past j i l) (out-begun past j.name) (instance-begun past j i) k (λ e. w.bounced_asks j i e past)
