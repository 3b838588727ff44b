-- What is so of the meaning of a document, and of two of its jobs.
use Rattle.std.specs.Prelude.{◌≡◌, ◌≢◌, ◌&&◌, ◌||◌, not, Bool, true, false, List, [], ◌∷◌, refl}
use Rattle.std.specs.List.{list_any}
use Rattle.std.proofs.Common.{ap, sym, ◌∙◌, inl, inr}
use Rattle.std.proofs.lemmas.Bool.{false_from_ne_true, not-true}
use Rattle.std.specs.Cmp.{first_so, second_so}
use Rattle.tv_lemmas.specs.Members.{In}
use Rattle.tv_lemmas.proofs.Cases.{on_or}
use Rattle.tv_value.specs.Orders.{same_job}
use Rattle.tv_value.proofs.JobNameLemmas.{same_job_decides}
use Rattle.tv_gate.specs.Outcomes.{Giving}
use Rattle.tv_flow.specs.Flows.{Document}
use Rattle.tv_model.specs.Jobs.{Job}
use Rattle.tv_model.specs.Made.{Meaning}
use Rattle.tv_model.specs.Meanings.{meaning}
use Rattle.tv_model.specs.Turns.{is_bounced}
use Rattle.tv_model.proofs.Tests.{or_right}
use Rattle.tv_model.proofs.Turns.{or_left}
use Rattle.tv_history.specs.Entries.{Entry, History, is_begun_entry, is_out}
use Rattle.tv_history.specs.Histories.{all_known, has_open_instance, has_place, is_idle, is_legal, is_legal_after, is_open, is_ready, is_running, is_settled, may_go_on}
use Rattle.tv_history.proofs.Ready.{AnyNumber, are-jobs, document-whole}
use Rattle.tv_history.proofs.Running.{AreJobs}

module _ (gives : Giving) (d : Document) where
  pub jobs-of : AreJobs gives (meaning gives d)
  jobs-of = are-jobs gives AnyNumber (meaning gives d) [] (document-whole gives d)

  pub same-named : (j k : Job) → In j (meaning gives d).jobs → In k (meaning gives d).jobs → same_job j.name k.name ≡ true → j ≡ k
  same-named j k i h e = jobs-of.once j k i h ((same_job_decides j.name k.name).0 e)

  pub other-named : (j k : Job) → In j (meaning gives d).jobs → In k (meaning gives d).jobs → j ≢ k → same_job j.name k.name ≡ false
  other-named j k i h ne = false_from_ne_true (same_job j.name k.name) (λ e. ne (same-named j k i h e))

  pub old-legal : (past : History) (e : Entry) → is_legal gives (meaning gives d) (e ∷ past) ≡ true → is_legal gives (meaning gives d) past ≡ true
  old-legal past e l = first_so (is_legal gives (meaning gives d) past) (is_legal_after gives (meaning gives d) past e) l

  pub next-legal : (past : History) (e : Entry) → is_legal gives (meaning gives d) (e ∷ past) ≡ true → is_legal_after gives (meaning gives d) past e ≡ true
  next-legal past e l = second_so (is_legal gives (meaning gives d) past) (is_legal_after gives (meaning gives d) past e) l

-- what may go on isn't settled
pub unsettled : (m : Meaning) (past : History) (j : Job) → may_go_on m past j ≡ true → is_settled past j ≡ false
unsettled m past j h =
    on_or (is_idle past j) (is_ready m past j && not (is_bounced j.ending) && has_place m past j) h
    (λ q.
    let running = first_so (is_running past j) (not (is_out past j.name)) (first_so (is_running past j && not (is_out past j.name)) (not (has_open_instance past j)) q) in
    not-true (is_settled past j) (second_so (list_any (is_begun_entry j.name) past) (not (is_settled past j)) running))
    (λ q.
    let ready = first_so (is_ready m past j) (not (is_bounced j.ending)) (first_so (is_ready m past j && not (is_bounced j.ending)) (has_place m past j) q) in
    not-true (is_settled past j)
    (second_so (is_open past j.instance && not (is_running past j)) (not (is_settled past j))
    (first_so (is_open past j.instance && not (is_running past j) && not (is_settled past j)) (all_known m past j.waits) ready)))

-- one of a list that passes
pub any-of : {A : Type 0} (p : A → Bool) (xs : List A) (x : A) → In x xs → p x ≡ true → list_any p xs ≡ true
any-of p [] x i h = absurd i
any-of p (y ∷ ys) x (inl e) h = or_left (p y) (list_any p ys) (ap p (sym e) ∙ h)
any-of p (y ∷ ys) x (inr i) h = or_right (p y) (list_any p ys) (any-of p ys x i h)

-- none passes
pub none-of : {A : Type 0} (p : A → Bool) (xs : List A) → ((x : A) → In x xs → p x ≡ false) → list_any p xs ≡ false
none-of p [] f = refl
none-of p (y ∷ ys) f = ap (λ b. b || list_any p ys) (f y (inl refl)) ∙ none-of p ys (λ x i. f x (inr i))
