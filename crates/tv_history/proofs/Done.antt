-- Where the main instance has ended, every job is settled, and what the history says is what the meaning says.
use Rattle.std.specs.Prelude.{◌≡◌, refl, ℕ, zero, suc, ◌+◌, ◌<◌, List, [], ◌∷◌, ◌++◌, map, length, Bool, true, false, not, ◌&&◌, if◌then◌else◌, Option, Some, None, is_some, is_none}
use Rattle.std.specs.List.{list_any}
use Rattle.std.proofs.Common.{arith, sym, ap, subst, ◌∙◌, append_assoc, append-nil, length-append}
use Rattle.std.specs.Cmp.{first_so, second_so}
use Rattle.tv_lemmas.specs.Members.{In}
use Rattle.tv_history.proofs.Legal.{last-legal, Legal, accepts, opens, ends}
use Rattle.tv_lemmas.proofs.Cases.{on_either, on_or}
use Rattle.tv_value.specs.Values.{Name, JobName}
use Rattle.tv_value.proofs.JobNameLemmas.{same_job_decides}
use Rattle.tv_gate.specs.Outcomes.{Giving}
use Rattle.tv_dispatch.specs.Jobs.{Ask}
use Rattle.tv_model.specs.Jobs.{Job}
use Rattle.tv_model.specs.Made.{Meaning}
use Rattle.tv_model.specs.Turns.{is_bounced}
use Rattle.tv_history.specs.Entries.{Entry, accepted, opened, ended, History, is_accepted, is_bounced_entry, is_opened_entry, is_ended_entry}
use Rattle.tv_model.specs.Lists.{rest_of, first_of_list}
use Rattle.tv_history.specs.Histories.{asks_left, next_ask, is_settled, is_open, can_open, is_legal, is_legal_after, is_done, may_go_on}
use Rattle.tv_model.proofs.Tests.{true≠false, or_right}
use Rattle.tv_history.proofs.Needs.{stays_settled}
use Rattle.tv_history.proofs.Running.{ended-settled, same-job}
use Rattle.tv_model.proofs.Whole.{IsWhole}
use Rattle.tv_history.proofs.Ready.{asks_left-none, all-sound, are-jobs}
pub use Rattle.tv_history.specs.Tries.{TryKey, key_of, try_of, tries_of}

not_accepted : (n : JobName) (e : Entry) → is_accepted n e ≡ false → try_of n e ≡ []
not_accepted n (accepted k c t r) h = ap (λ b. if b then (c, t, r) ∷ [] else []) h
not_accepted n e h = refl

first-taken : (f : Ask → TryKey) (ts : List TryKey) (l : List Ask) (q : Ask) (all : List TryKey) → first_of_list l ≡ Some q → ts ++ map f l ≡ all → (ts ++ f q ∷ []) ++ map f (rest_of l) ≡ all
first-taken f ts [] q all e h = absurd (true≠false (sym (ap is_some e)))
first-taken f ts (x ∷ l) q all e h = append_assoc ts (f q ∷ []) (map f l) ∙ ap (λ z. ts ++ f z ∷ map f l) (sym (ap or_q e)) ∙ h
  where
    or_q : Option Ask → Ask
    or_q None = q
    or_q (Some a) = a

pub nothing_first : (l : List Ask) → is_none (first_of_list l) ≡ true → l ≡ []
nothing_first [] h = refl
nothing_first (a ∷ l) h = absurd (true≠false (sym h))

module _ (gives : Giving) (D : ℕ → Type 0) (m : Meaning) (w : IsWhole gives D m []) where
  -- ---- the accepted tries of a job are its asks, in order

  -- an accepted entry of a job is of its next ask
  pub of-next : (past : History) {e : Entry} (j : Job) → In j m.jobs → Legal gives m past e → is_accepted j.name e ≡ true → (q : Ask) × (next_ask past j ≡ Some q) × (try_of j.name e ≡ key_of gives q ∷ [])
  of-next past j i (accepts k a ki o q) h = (a, subst (λ x. next_ask past x ≡ Some a) (same-job gives m (are-jobs gives D m [] w) k j ki i h) q, ap (λ b. if b then key_of gives a ∷ [] else []) h)
  of-next past j i l h = absurd (true≠false (sym h))

  -- what was accepted, and what is still to come, are the asks
  pub accepted-asks : (past : History) → is_legal gives m past ≡ true → (j : Job) → In j m.jobs → tries_of j.name past ++ map (key_of gives) (asks_left past j.name j.asks) ≡ map (key_of gives) j.asks
  accepted-asks [] l j i = refl
  accepted-asks (e ∷ past) l j i =
      by (is_accepted j.name e) refl (accepted-asks past (first_so (is_legal gives m past) (is_legal_after gives m past e) l) j i)
    where
      by : (b : Bool) → is_accepted j.name e ≡ b → tries_of j.name past ++ map (key_of gives) (asks_left past j.name j.asks) ≡ map (key_of gives) j.asks → (tries_of j.name past ++ try_of j.name e) ++ map (key_of gives) (if b then rest_of (asks_left past j.name j.asks) else asks_left past j.name j.asks) ≡ map (key_of gives) j.asks
      by true h rec =
          let f = of-next past j i (last-legal gives m past e l) h in
          ap (λ ts. (tries_of j.name past ++ ts) ++ map (key_of gives) (rest_of (asks_left past j.name j.asks))) f.2
          ∙ first-taken (key_of gives) (tries_of j.name past) (asks_left past j.name j.asks) f.0 (map (key_of gives) j.asks) f.1 rec
      by false h rec =
          ap (λ ts. (tries_of j.name past ++ ts) ++ map (key_of gives) (asks_left past j.name j.asks)) (not_accepted j.name e h)
          ∙ ap (λ ts. ts ++ map (key_of gives) (asks_left past j.name j.asks)) (append-nil (tries_of j.name past)) ∙ rec

  -- ---- every job is settled at the end

  -- what opens a flow has no ask left
  stays-none : (b : Bool) (l : List Ask) → l ≡ [] → (if b then rest_of l else l) ≡ []
  stays-none true l h = ap rest_of h
  stays-none false l h = h

  -- an entry that opens a job's flow came where the job could open it
  pub opens-it : (past : History) {e : Entry} (j : Job) → In j m.jobs → Legal gives m past e → is_opened_entry j.name e ≡ true → can_open m past j ≡ true
  opens-it past j i (opens k ki q o) h = subst (λ x. can_open m past x ≡ true) (same-job gives m (are-jobs gives D m [] w) k j ki i h) o
  opens-it past j i l h = absurd (true≠false (sym h))

  pub opened-facts : (past : History) → is_legal gives m past ≡ true → (j : Job) → In j m.jobs → list_any (is_opened_entry j.name) past ≡ true → (asks_left past j.name j.asks ≡ []) × (is_some j.opens ≡ true)
  opened-facts [] l j i h = absurd (true≠false (sym h))
  opened-facts (e ∷ past) l j i h =
      on_or (is_opened_entry j.name e) (list_any (is_opened_entry j.name) past) h (λ k. let c = opens-it past j i (last-legal gives m past e l) k in let both = first_so (is_none (next_ask past j) && is_some j.opens) (may_go_on m past j) c in (stays-none (is_accepted j.name e) (asks_left past j.name j.asks) (nothing_first (asks_left past j.name j.asks) (first_so (is_none (next_ask past j)) (is_some j.opens) both)), second_so (is_none (next_ask past j)) (is_some j.opens) both)) (λ k. let r = (opened-facts past (first_so (is_legal gives m past) (is_legal_after gives m past e) l) j i k) in (stays-none (is_accepted j.name e) (asks_left past j.name j.asks) r.0, r.1))

  -- what has ended was opened
  pub ends-it : (past : History) {e : Entry} (k : Name × List ℕ) (n : JobName) → Legal gives m past e → is_ended_entry (k ∷ n) e ≡ true → is_open past (k ∷ n) ≡ true
  ends-it past k n (ends x c) h = subst (λ y. is_open past y ≡ true) (sym ((same_job_decides (k ∷ n) x).0 h)) (first_so (is_open past x) _ c)
  ends-it past k n l h = absurd (true≠false (sym h))

  pub ended-opened : (past : History) → is_legal gives m past ≡ true → (k : Name × List ℕ) (n : JobName) → list_any (is_ended_entry (k ∷ n)) past ≡ true → list_any (is_opened_entry (k ∷ n)) past ≡ true
  ended-opened [] l k n h = h
  ended-opened (e ∷ past) l k n h =
      or_right (is_opened_entry (k ∷ n) e) (list_any (is_opened_entry (k ∷ n)) past) (on_or (is_ended_entry (k ∷ n) e) (list_any (is_ended_entry (k ∷ n)) past) h (λ x. first_so (list_any (is_opened_entry (k ∷ n)) past) (not (list_any (is_ended_entry (k ∷ n)) past)) (ends-it past k n (last-legal gives m past e l) x)) (λ x. ended-opened past (first_so (is_legal gives m past) (is_legal_after gives m past e) l) k n x))

  pub job-opened : (past : History) → is_legal gives m past ≡ true → (j : Job) → In j m.jobs → list_any (is_ended_entry j.name) past ≡ true → list_any (is_opened_entry j.name) past ≡ true
  job-opened past l j i h =
      let c = (are-jobs gives D m [] w).has_name j i in
      subst (λ n. list_any (is_opened_entry n) past ≡ true) (sym c.2) (ended-opened past l c.0 c.1 (subst (λ n. list_any (is_ended_entry n) past ≡ true) c.2 h))

  -- where an instance has ended, its jobs are settled
  pub ended-all : (past : History) → is_legal gives m past ≡ true → (j : Job) → In j m.jobs → list_any (is_ended_entry j.instance) past ≡ true → is_settled past j ≡ true
  ended-all [] l j i h = absurd (true≠false (sym h))
  ended-all (e ∷ past) l j i h =
      stays_settled gives m e past j (on_or (is_ended_entry j.instance e) (list_any (is_ended_entry j.instance) past) h (λ x. ended-settled gives m (all-sound gives D m [] w) (are-jobs gives D m [] w) past j i (last-legal gives m past e l) x) (λ x. ended-all past (first_so (is_legal gives m past) (is_legal_after gives m past e) l) j i x))

  abbrev SettledBy : History → Job → Bool → Bool → Bool
  SettledBy past j b o = if b then list_any (is_bounced_entry j.name) past else (if o then list_any (is_ended_entry j.name) past else is_none (next_ask past j))

  pub opener-ended : (past : History) (p : Job) → is_some p.opens ≡ true → is_bounced p.ending ≡ false → is_settled past p ≡ true → list_any (is_ended_entry p.name) past ≡ true
  opener-ended past p o b h = subst (λ x. SettledBy past p false x ≡ true) o (subst (λ x. SettledBy past p x (is_some p.opens) ≡ true) b h)

  settled-within : (f : ℕ) (past : History) → is_legal gives m past ≡ true → is_done past ≡ true → (j : Job) → In j m.jobs → length j.instance < f → is_settled past j ≡ true
  settled-within zero past l d j i b = absurd (omega (arith, b))
  settled-within (suc f) past l d j i b = on_either (w.jobs j i).parent (λ e. ended-all past l j i (subst (λ n. list_any (is_ended_entry n) past ≡ true) (sym e) d)) (λ p. ended-all past l j i (subst (λ n. list_any (is_ended_entry n) past ≡ true) p.2 (opener-ended past p.0 p.3 p.4 (settled-within f past l d p.0 p.1 (shorter p.0 p.1 p.2)))))
    where
      shorter : (p : Job) → In p m.jobs → p.name ≡ j.instance → length p.instance < f
      shorter p h e = omega (arith, ap length (sym e ∙ (w.jobs p h).named) ∙ length-append p.instance ((w.jobs p h).key ∷ []), b)

  -- where the main instance has ended, every job is settled
  pub all-settled : (past : History) → is_legal gives m past ≡ true → is_done past ≡ true → (j : Job) → In j m.jobs → is_settled past j ≡ true
  all-settled past l d j i = settled-within (suc (length j.instance)) past l d j i (omega arith)

  -- a settled job has no ask left
  pub settled-none : (past : History) → is_legal gives m past ≡ true → (j : Job) → In j m.jobs → is_settled past j ≡ true → asks_left past j.name j.asks ≡ []
  settled-none past l j i h = by (is_bounced j.ending) refl (is_some j.opens) refl h
    where
      by : (b : Bool) → is_bounced j.ending ≡ b → (o : Bool) → is_some j.opens ≡ o → SettledBy past j b o ≡ true → asks_left past j.name j.asks ≡ []
      by true e o f x = ap (asks_left past j.name) ((w.jobs j i).no_asks e) ∙ asks_left-none past j.name
      by false e true f x = (opened-facts past l j i (job-opened past l j i x)).0
      by false e false f x = nothing_first (asks_left past j.name j.asks) x

  -- so its accepted tries are exactly its asks, in order
  pub settled-tries : (past : History) → is_legal gives m past ≡ true → (j : Job) → In j m.jobs → is_settled past j ≡ true → tries_of j.name past ≡ map (key_of gives) j.asks
  settled-tries past l j i h =
      sym (append-nil (tries_of j.name past)) ∙ ap (λ as'. tries_of j.name past ++ map (key_of gives) as') (sym (settled-none past l j i h)) ∙ accepted-asks past l j i
