-- THE ORDER OF ONE WORKER: what one worker has asked is at every moment the first part of the stated order, and all of it at the end.
use Rattle.std.specs.Prelude.{◌≡◌, refl, ℕ, List, [], ◌∷◌, ◌++◌, map, true, if◌then◌else◌}
use Rattle.std.proofs.Common.{sym, ap, subst, ◌∙◌, inl}
use Rattle.std.specs.Cmp.{first_so}
use Rattle.tv_lemmas.specs.Members.{Each}
use Rattle.tv_lemmas.proofs.Members.{any-in}
use Rattle.tv_value.specs.Orders.{same_job}
use Rattle.tv_value.specs.Values.{Name, Value}
use Rattle.tv_value.proofs.JobNameLemmas.{same_job_decides}
use Rattle.tv_flow.specs.Flows.{Flow}
use Rattle.tv_gate.specs.Outcomes.{Giving}
use Rattle.tv_model.specs.Jobs.{Job}
use Rattle.tv_model.specs.Made.{Meaning}
use Rattle.tv_model.specs.Meanings.{flow_meaning}
use Rattle.tv_history.specs.Entries.{Entry, accepted, bounced, ended, History}
use Rattle.tv_history.specs.Histories.{is_legal, is_legal_after, is_done}
use Rattle.tv_model.proofs.Whole.{IsWhole, StepsHave}
use Rattle.tv_model.specs.Turns.{ask_order}
use Rattle.tv_history.proofs.Stuck.{AtLeastOne}
use Rattle.tv_history.proofs.Done.{all-settled}
use Rattle.tv_history.proofs.Sums.{accepted-owned}
use Rattle.tv_history.proofs.Permuted.{entry_try, all_tries, ask_try}
use Rattle.tv_history.proofs.OneWorker.{IsLaidOut, is_by_one}
use Rattle.tv_history.proofs.LaidOut.{flow-laid}
use Rattle.tv_history.proofs.Follows.{IsFirstPart, try_within, tries_within, HaveTries}
use Rattle.tv_history.proofs.Sequence.{IsFollowedIn, flow-in_sequence}

module _ (gives : Giving) (m : Meaning) (w : IsWhole gives AtLeastOne m []) where
  -- every accepted try is one of a job of the meaning
  all-within : (past : History) → is_legal gives m past ≡ true → tries_within m.jobs past ≡ all_tries past
  all-within [] l = refl
  all-within (e ∷ past) l =
      ap (λ z. z ++ try_within m.jobs e) (all-within past (first_so (is_legal gives m past) (is_legal_after gives m past e) l)) ∙ ap (λ z. all_tries past ++ z) (by e l)
    where
      by : (e : Entry) → is_legal gives m (e ∷ past) ≡ true → try_within m.jobs e ≡ entry_try e
      by (accepted k c t r) l =
          let o = accepted-owned gives AtLeastOne m w (accepted k c t r ∷ past) l (accepted k c t r) (inl refl) k refl in
          ap (λ b. if b then (k, (c, t, r)) ∷ [] else []) (any-in (λ (j : Job). same_job k j.name) o.0 m.jobs o.1 ((same_job_decides k o.0.name).1 (sym o.2)))
      by e l = refl

-- for a flow at any number of levels, whose jobs that aren't bounced all have something to do
module _ (gives : Giving) (flows : List (Name × Flow)) (places : Each (λ f. StepsHave gives AtLeastOne f.1) flows) (depth : ℕ) (f : Name) (vs : List (Name × Value)) (fit : HaveTries (flow_meaning gives flows depth f [] vs).jobs) where
  abbrev m : Meaning
  m = flow_meaning gives flows depth f [] vs

  laid : IsWhole gives AtLeastOne m [] × IsLaidOut m.jobs
  laid = flow-laid gives AtLeastOne flows places depth f [] vs

  main-followed : (past : History) → is_legal gives m past ≡ true → is_by_one m past ≡ true → IsFollowedIn gives m m [] past
  main-followed past l b = (flow-in_sequence gives flows places depth f [] vs).1 m laid.0 laid.1 fit (record { jobs = λ x i. i; before = λ x y k. k }) past l b

  -- at every moment
  pub in-order : (past : History) → is_legal gives m past ≡ true → is_by_one m past ≡ true → IsFirstPart (all_tries past) (map (ask_try gives) (ask_order m))
  in-order past l b = subst (λ z. IsFirstPart z (map (ask_try gives) (ask_order m))) (all-within gives m laid.0 past l) (main-followed past l b).0

  -- and where the main instance has ended
  pub done-in_order : (past : History) → is_legal gives m past ≡ true → is_by_one m past ≡ true → is_done past ≡ true → all_tries past ≡ map (ask_try gives) (ask_order m)
  done-in_order past l b h = sym (all-within gives m laid.0 past l) ∙ (main-followed past l b).1 (λ x i e. all-settled gives AtLeastOne m laid.0 past l h x i)
