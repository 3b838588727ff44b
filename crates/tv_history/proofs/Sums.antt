-- The numbers that are read off a finished history are the totals of the meaning.
use Rattle.std.specs.Prelude.{◌≡◌, refl, ℕ, ◌+◌, List, [], ◌∷◌, map, length, filter, flat_map, Bool, true, false, not, ◌&&◌, ◌||◌, if◌then◌else◌, Option, Some, None, is_some, is_none, count_by}
use Rattle.std.specs.List.{list_any}
use Rattle.std.specs.Option.{option_map_or}
use Rattle.std.proofs.Common.{arith, sym, ap, subst, ◌∙◌, inl, inr, length-append}
use Rattle.std.proofs.lemmas.List.{length-map}
use Rattle.std.proofs.lemmas.Bool.{not-true}
use Rattle.std.proofs.lemmas.Option.{same_Some, none-some}
use Rattle.std.specs.Cmp.{first_so, second_so}
use Rattle.std.specs.Cmp.Derive.{one_truth}
use Rattle.tv_lemmas.specs.Members.{In}
use Rattle.tv_history.proofs.Running.{same-job}
use Rattle.tv_history.proofs.Legal.{last-legal, Legal, accepts, bounces}
use Rattle.tv_lemmas.proofs.Cases.{on_test, on_or}
use Rattle.tv_value.specs.Values.{JobName}
use Rattle.tv_value.specs.Orders.{same_job}
use Rattle.tv_flow.specs.Flows.{Document}
use Rattle.tv_gate.specs.Outcomes.{Giving}
use Rattle.tv_dispatch.specs.Jobs.{Ask}
use Rattle.tv_model.specs.Jobs.{Job}
use Rattle.tv_model.specs.Made.{Meaning}
use Rattle.tv_model.specs.Turns.{is_bounced, is_failed}
use Rattle.tv_model.specs.Meanings.{meaning}
use Rattle.tv_model.specs.Totals.{totals}
use Rattle.tv_history.specs.Entries.{Entry, accepted, bounced, History, is_accepted, is_bounced_entry, is_opened_entry, is_ended_entry}
use Rattle.tv_history.specs.Histories.{next_ask, is_settled, is_open, is_running, is_ready, all_known, can_bounce, is_legal, is_legal_after, is_done}
use Rattle.tv_model.proofs.Tests.{true≠false}
use Rattle.tv_model.proofs.Kept.{any_right}
use Rattle.tv_model.proofs.Whole.{IsWhole}
use Rattle.tv_history.proofs.Ready.{are-jobs, AnyNumber, document-whole}
use Rattle.tv_history.proofs.Counts.{bit, tally, total-same, count-tally, count-total, length-as_total, filter-as_total, all-entries}
use Rattle.tv_history.proofs.Done.{TryKey, key_of, try_of, tries_of, all-settled, settled-tries, opened-facts, job-opened}
pub use Rattle.tv_history.specs.ReadOff.{accepted_name, bounced_name, has_failed, read_totals, IsAsMeant}

-- each entry of a legal history was legal after those before it
pub legal-each : (gives : Giving) (m : Meaning) (past : History) → is_legal gives m past ≡ true → (e : Entry) → In e past → (older : History) × (is_legal gives m older ≡ true) × Legal gives m older e
legal-each gives m [] l e h = absurd h
legal-each gives m (f ∷ past) l e (inl p) = (past, first_so (is_legal gives m past) (is_legal_after gives m past f) l, subst (Legal gives m past) (sym p) (last-legal gives m past f l))
legal-each gives m (f ∷ past) l e (inr h) = legal-each gives m past (first_so (is_legal gives m past) (is_legal_after gives m past f) l) e h

-- ---- what is read off a history

accepted-agrees : (n : JobName) (e : Entry) → is_accepted n e ≡ option_map_or (same_job n) (accepted_name e) false
accepted-agrees n (accepted k c t r) = refl
accepted-agrees n e = refl

bounced-agrees : (n : JobName) (e : Entry) → is_bounced_entry n e ≡ option_map_or (same_job n) (bounced_name e) false
bounced-agrees n (bounced k) = refl
bounced-agrees n e = refl

one-try : (n : JobName) (e : Entry) → length (try_of n e) ≡ bit (is_accepted n e)
one-try n (accepted k c t r) = by (same_job n k)
  where
    by : (b : Bool) → length {A = TryKey} (if b then (c, t, r) ∷ [] else []) ≡ bit b
    by true = refl
    by false = refl
one-try n e = refl

pub tries-tally : (n : JobName) (past : History) → length (tries_of n past) ≡ tally (is_accepted n) past
tries-tally n [] = refl
tries-tally n (e ∷ past) = length-append (tries_of n past) (try_of n e) ∙ (omega (arith, tries-tally n past, one-try n e))

any-map : (gives : Giving) (as' : List Ask) → list_any (λ k. k.2) (map (key_of gives) as') ≡ any_right gives as'
any-map gives [] = refl
any-map gives (a ∷ as') = ap (λ b. (key_of gives a).2 || b) (any-map gives as')

module _ (gives : Giving) (D : ℕ → Type 0) (m : Meaning) (w : IsWhole gives D m []) where
  -- ---- bounced

  pub bounces-it : (past : History) {e : Entry} (j : Job) → In j m.jobs → Legal gives m past e → is_bounced_entry j.name e ≡ true → can_bounce m past j ≡ true
  bounces-it past j i (bounces k ki c) h = subst (λ x. can_bounce m past x ≡ true) (same-job gives m (are-jobs gives D m [] w) k j ki i h) c
  bounces-it past j i l h = absurd (true≠false (sym h))

  -- what bounces is bounced in the meaning, and wasn't in the history
  pub bounce-facts : (past : History) (j : Job) → can_bounce m past j ≡ true → (is_bounced j.ending ≡ true) × (list_any (is_bounced_entry j.name) past ≡ false)
  bounce-facts past j h =
      let b = second_so (is_ready m past j) (is_bounced j.ending) h in
      let s = second_so (is_open past j.instance && not (is_running past j)) (not (is_settled past j)) (first_so (is_open past j.instance && not (is_running past j) && not (is_settled past j)) (all_known m past j.waits) (first_so (is_ready m past j) (is_bounced j.ending) h)) in
      (b, subst (λ x. (if x then list_any (is_bounced_entry j.name) past else (if is_some j.opens then list_any (is_ended_entry j.name) past else is_none (next_ask past j))) ≡ false) b (not-true (is_settled past j) s))

  one-more : (b B L : Bool) (t : ℕ) → (b ≡ true → (B ≡ true) × (L ≡ false)) → t ≡ bit (B && L) → bit b + t ≡ bit (B && (b || L))
  one-more false B L t f e = omega arith ∙ e
  one-more true true false t f e = omega (arith, e)
  one-more true true true t f e = absurd (true≠false (f refl).1)
  one-more true false L t f e = absurd (true≠false (sym (f refl).0))

  pub bounced-tally : (past : History) → is_legal gives m past ≡ true → (j : Job) → In j m.jobs → tally (is_bounced_entry j.name) past ≡ bit (is_bounced j.ending && list_any (is_bounced_entry j.name) past)
  bounced-tally [] l j i = by (is_bounced j.ending)
    where
      by : (b : Bool) → 0 ≡ bit (b && false)
      by true = refl
      by false = refl
  bounced-tally (e ∷ past) l j i =
      one-more (is_bounced_entry j.name e) (is_bounced j.ending) (list_any (is_bounced_entry j.name) past) (tally (is_bounced_entry j.name) past) (λ h. bounce-facts past j (bounces-it past j i (last-legal gives m past e l) h)) (bounced-tally past (first_so (is_legal gives m past) (is_legal_after gives m past e) l) j i)

  any-bounced : (past : History) → is_legal gives m past ≡ true → (j : Job) → In j m.jobs → list_any (is_bounced_entry j.name) past ≡ true → is_bounced j.ending ≡ true
  any-bounced [] l j i h = absurd (true≠false (sym h))
  any-bounced (e ∷ past) l j i h = on_or (is_bounced_entry j.name e) (list_any (is_bounced_entry j.name) past) h (λ k. (bounce-facts past j (bounces-it past j i (last-legal gives m past e l) k)).0) (λ k. any-bounced past (first_so (is_legal gives m past) (is_legal_after gives m past e) l) j i k)

  abbrev SettledBy : History → Job → Bool → Bool → Bool
  SettledBy past j b o = if b then list_any (is_bounced_entry j.name) past else (if o then list_any (is_ended_entry j.name) past else is_none (next_ask past j))

  -- a settled job has a bounce exactly where it is bounced
  settled-bounced : (past : History) → is_legal gives m past ≡ true → (j : Job) → In j m.jobs → is_settled past j ≡ true → list_any (is_bounced_entry j.name) past ≡ is_bounced j.ending
  settled-bounced past l j i s =
      one_truth (list_any (is_bounced_entry j.name) past) (is_bounced j.ending) (any-bounced past l j i) (λ b. subst (λ x. SettledBy past j x (is_some j.opens) ≡ true) b s)

  settled-opened : (past : History) → is_legal gives m past ≡ true → (j : Job) → In j m.jobs → is_settled past j ≡ true → is_bounced j.ending ≡ false → list_any (is_opened_entry j.name) past ≡ is_some j.opens
  settled-opened past l j i s b =
      one_truth (list_any (is_opened_entry j.name) past) (is_some j.opens) (λ h. (opened-facts gives D m w past l j i h).1) (λ o. job-opened gives D m w past l j i (subst (λ x. SettledBy past j false x ≡ true) o (subst (λ x. SettledBy past j x (is_some j.opens) ≡ true) b s)))

  -- ---- failed

  pub settled-failed : (past : History) → is_legal gives m past ≡ true → (j : Job) → In j m.jobs → is_settled past j ≡ true → has_failed past j.name ≡ is_failed j.ending
  settled-failed past l j i s = on_test (is_bounced j.ending) (λ e. ap (λ x. not x && not (list_any (is_opened_entry j.name) past) && not (list_any (λ k. k.2) (tries_of j.name past))) ((settled-bounced past l j i s) ∙ e) ∙ sym (ap (λ x. not x && is_none j.opens && not (any_right gives j.asks)) e)) (λ e. ap (λ x. not x && not (list_any (is_opened_entry j.name) past) && not (list_any (λ k. k.2) (tries_of j.name past))) (settled-bounced past l j i s) ∙ ap (λ x. not (is_bounced j.ending) && x && not (list_any (λ k. k.2) (tries_of j.name past))) (ap not (settled-opened past l j i s e) ∙ none_some j.opens) ∙ ap (λ x. not (is_bounced j.ending) && is_none j.opens && not x) right_tries) ∙ sym (w.jobs j i).failed
    where
      none_some : {A : Type 0} (o : Option A) → not (is_some o) ≡ is_none o
      none_some None = refl
      none_some (Some a) = refl

      right_tries : list_any (λ k. k.2) (tries_of j.name past) ≡ any_right gives j.asks
      right_tries = ap (λ ts. list_any (λ k. k.2) ts) (settled-tries gives D m w past l j i s) ∙ any-map gives j.asks

  -- ---- all

  pub accepted-owned : (past : History) → is_legal gives m past ≡ true → (e : Entry) → In e past → (k : JobName) → accepted_name e ≡ Some k → (j : Job) × In j m.jobs × (j.name ≡ k)
  accepted-owned past l e h k q = let r = legal-each gives m past l e h in by r.2 q
    where
      by : {older : History} {e : Entry} → Legal gives m older e → accepted_name e ≡ Some k → (j : Job) × In j m.jobs × (j.name ≡ k)
      by (accepts j a i o n) q = (j, i, same_Some j.name k q)
      by x q = absurd (none-some k q)

  pub bounced-owned : (past : History) → is_legal gives m past ≡ true → (e : Entry) → In e past → (k : JobName) → bounced_name e ≡ Some k → (j : Job) × In j m.jobs × (j.name ≡ k)
  bounced-owned past l e h k q = let r = legal-each gives m past l e h in by r.2 q
    where
      by : {older : History} {e : Entry} → Legal gives m older e → bounced_name e ≡ Some k → (j : Job) × In j m.jobs × (j.name ≡ k)
      by (bounces j i c) q = (j, i, same_Some j.name k q)
      by x q = absurd (none-some k q)

  -- where all jobs are settled, the totals are those of the meaning
  pub totals-read : (past : History) → is_legal gives m past ≡ true → ((j : Job) → In j m.jobs → is_settled past j ≡ true) → read_totals past m.jobs ≡ totals m.jobs
  totals-read past l s = λ i. record { attempts = attempts i; bounced = bounces i; failed = fails i; jobs = length m.jobs }
    where
      attempts : count_by (λ e. is_some (accepted_name e)) past ≡ length (flat_map (λ j. j.asks) m.jobs)
      attempts =
          count-tally (λ e. is_some (accepted_name e)) past ∙ sym (all-entries (λ (j : Job). j.name) is_accepted accepted_name accepted-agrees m.jobs w.jobs_apart past (accepted-owned past l))
          ∙ total-same (λ j. tally (is_accepted j.name) past) (λ j. length j.asks) m.jobs (λ j i. sym (tries-tally j.name past) ∙ ap length (settled-tries gives D m w past l j i (s j i)) ∙ length-map j.asks (key_of gives))
          ∙ sym (length-as_total (λ (j : Job). j.asks) m.jobs)

      bounces : count_by (λ e. is_some (bounced_name e)) past ≡ length (filter (λ j. is_bounced j.ending) m.jobs)
      bounces =
          count-tally (λ e. is_some (bounced_name e)) past ∙ sym (all-entries (λ (j : Job). j.name) is_bounced_entry bounced_name bounced-agrees m.jobs w.jobs_apart past (bounced-owned past l))
          ∙ total-same (λ j. tally (is_bounced_entry j.name) past) (λ j. bit (is_bounced j.ending)) m.jobs (λ j i. bounced-tally past l j i ∙ ap (λ b. bit (is_bounced j.ending && b)) (settled-bounced past l j i (s j i)) ∙ ap bit (itself (is_bounced j.ending)))
          ∙ sym (filter-as_total (λ (j : Job). is_bounced j.ending) m.jobs)
        where
          itself : (b : Bool) → (b && b) ≡ b
          itself true = refl
          itself false = refl

      fails : count_by (λ j. has_failed past j.name) m.jobs ≡ length (filter (λ j. is_failed j.ending) m.jobs)
      fails =
          count-total (λ j. has_failed past j.name) m.jobs ∙ total-same (λ j. bit (has_failed past j.name)) (λ j. bit (is_failed j.ending)) m.jobs (λ j i. ap bit (settled-failed past l j i (s j i)))
          ∙ sym (filter-as_total (λ (j : Job). is_failed j.ending) m.jobs)

pub done-as_meant : (gives : Giving) (d : Document) (past : History) → is_legal gives (meaning gives d) past ≡ true → is_done past ≡ true → IsAsMeant gives (meaning gives d) past
done-as_meant gives d past l h =
    let m = meaning gives d in
    let w = document-whole gives d in
    let s = all-settled gives AnyNumber m w past l h in
    record { settled = s; tries = λ j i. settled-tries gives AnyNumber m w past l j i (s j i); numbers = totals-read gives AnyNumber m w past l s }
