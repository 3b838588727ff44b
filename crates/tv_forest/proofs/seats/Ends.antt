-- The seats of an instance that ends, and after its end.
use Rattle.std.specs.Prelude.{◌≡◌, refl, ℕ, List, [], ◌∷◌, Bool, true, false, not, ◌&&◌, ◌||◌, Some, if◌then◌else◌, slice_get}
use Rattle.std.specs.List.{list_any}
use Rattle.std.proofs.Common.{ap, subst, sym, ◌∙◌}
use Rattle.std.proofs.lemmas.Bool.{false_from_ne_true, not-true}
use Rattle.std.specs.Cmp.{first_so, second_so}
use Rattle.tv_lemmas.specs.Members.{In}
use Rattle.tv_lemmas.proofs.Cases.{on_either}
use Rattle.tv_lemmas.proofs.Lists.{of-image}
use Rattle.tv_lemmas.proofs.Members.{get-in}
use Rattle.tv_value.specs.Nested.{Place}
use Rattle.tv_value.specs.Orders.{same_job}
use Rattle.tv_value.specs.Values.{JobName, Name}
use Rattle.tv_value.proofs.JobNameLemmas.{same_job_decides}
use Rattle.tv_gate.specs.Outcomes.{Giving}
use Rattle.tv_flow.specs.Flows.{Document, Flow}
use Rattle.tv_model.specs.Jobs.{Job}
use Rattle.tv_model.specs.Made.{Meaning}
use Rattle.tv_model.specs.Meanings.{meaning}
use Rattle.tv_model.proofs.Members.{not-longer}
use Rattle.tv_model.proofs.Tests.{both_true, or_right, true≠false}
use Rattle.tv_history.specs.Entries.{Entry, History, accepted, ended, handed_out, is_ended_entry, is_out, recalled}
use Rattle.tv_history.specs.Histories.{all_known, can_end, is_legal, is_legal_after, is_open, is_running, is_settled, may_go_on}
use Rattle.tv_history.proofs.Done.{ended-all}
use Rattle.tv_history.proofs.Legal.{legal-of}
use Rattle.tv_history.proofs.Needs.{stays_settled}
use Rattle.tv_history.proofs.Ready.{AnyNumber, all-sound, are-jobs, document-whole}
use Rattle.tv_history.proofs.Running.{begins, going_on, idle_begun}
use Rattle.tv_history.proofs.Tests.{same-itself}
use Rattle.tv_framing.specs.Views.{View}
use Rattle.tv_seats.specs.Seats.{Seat}
use Rattle.tv_seats.specs.declared.stage.Stage.{Stage}
use Rattle.tv_seats.specs.declared.stage.Stage.TheVariants as stage
use Rattle.tv_forest.specs.views.InRun.{IsJobThere}
use Rattle.tv_forest.proofs.views.LawLemmas.{begun-is_known, jobs-are_somewhere}
use Rattle.tv_forest.specs.seats.GoingOn.{EndedStays, EndsSettled}
use Rattle.tv_forest.specs.seats.Seated.{HasEnded, HasSeatIn, IsStage, Sit, spot_of}
use Rattle.tv_forest.proofs.seats.Seats.{its-job, one-seat}
use Rattle.tv_forest.proofs.seats.Stages.{LeavesAlone, ended-other, settled-stays, stage-stays}

-- ---- the end

only-settled : (past : History) (j : Job) → is_settled past j ≡ true → (x : Stage) → IsStage past j x → x ≡ stage.Settled
only-settled past j h stage.Waiting s = absurd (true≠false (sym h ∙ s.unsettled))
only-settled past j h (stage.Out a t) s = absurd (true≠false (sym h ∙ s.0.unsettled))
only-settled past j h (stage.Idle a t) s = absurd (true≠false (sym h ∙ s.0.unsettled))
only-settled past j h (stage.Aside a) s = absurd (true≠false (sym h ∙ s.0.unsettled))
only-settled past j h (stage.Nested i) s = absurd (true≠false (sym h ∙ s.unsettled))
only-settled past j h stage.Settled s = refl

module _ (gives : Giving) (d : Document) (past : History) (I : JobName) (levels : Name → ℕ) (v : View) (ss : List Seat)
    (sit : Sit gives d past I levels v ss) (can : can_end (meaning gives d) past I ≡ true) where
  abbrev m : Meaning
  m = meaning gives d

  abbrev spot_at : Seat → Name × Place
  spot_at s = spot_of v.flow.steps s

  ends-legally : is_legal gives m (ended I ∷ past) ≡ true
  ends-legally = both_true (is_legal gives m past) (can_end m past I) sit.in_run.legal can

  -- it settles no job of the instance itself
  ends-none : (j : Job) (x : Name × Place) → IsJobThere gives d I j x → LeavesAlone past (ended I) j
  ends-none j x it =
      ended-other past j I
      (false_from_ne_true (same_job j.name I)
      (λ h. not-longer I x [] (sym ((same_job_decides j.name I).0 h) ∙ it.name)))

  settled-before : (j : Job) (x : Name × Place) → IsJobThere gives d I j x → is_settled past j ≡ true
  settled-before j x it =
      let here = ap (λ n. same_job n I) it.within ∙ same-itself I in
      sym (settled-stays past (ended I) j (ends-none j x it).settles)
      ∙ ended-all gives AnyNumber m (document-whole gives d) (ended I ∷ past) ends-legally j it.listed
      (ap (λ b. b || list_any (is_ended_entry j.instance) past) here)

  seat-in : (j : Job) → In j m.jobs → j.instance ≡ I → HasSeatIn gives d I v.flow ss j
  seat-in j listed within =
      let r = jobs-are_somewhere gives d past I levels v sit.in_run j listed within in
      let known =
      begun-is_known gives d past I levels v sit.in_run r.0 j r.1
      (or_right (is_running past j) (is_settled past j) (settled-before j r.0 r.1)) in
      let k = get-in r.0 v.jobs known in
      let s = of-image spot_at ss k.0 r.0 (ap (λ l. slice_get l k.0) sit.jobs ∙ k.1) in
      record { number = k.0; seat = s.0; there = s.1; is_its = subst (IsJobThere gives d I j) (sym s.2) r.1 }

  is-settled : (n : ℕ) (s : Seat) → slice_get ss n ≡ Some s → s.stage ≡ stage.Settled
  is-settled n s e =
      let r = its-job gives d past I levels v ss sit n s e in
      only-settled past r.0 (settled-before r.0 (spot_at s) r.1) s.stage (sit.stages n s r.0 e r.1)

  has-ended : HasEnded gives d (ended I ∷ past) I v.flow ss
  has-ended = record {
    legal = ends-legally;
    ended = ap (λ b. b || list_any (is_ended_entry I) past) (same-itself I);
    steps = sit.steps;
    apart = one-seat gives d past I levels v ss sit;
    jobs = its-job gives d past I levels v ss sit;
    all = seat-in;
    settled = is-settled;
    stages = λ n s j e it.
        stage-stays past (ended I) j (ends-none j (spot_at s) it) stage.Settled
        (subst (IsStage past j) (is-settled n s e) (sit.stages n s j e it));
  }

-- ---- after it

module _ (gives : Giving) (d : Document) (past : History) where
  abbrev the : Meaning
  the = meaning gives d

  -- a job that may go on isn't settled
  going-unsettled : (j : Job) → In j the.jobs → may_go_on the past j ≡ true → is_settled past j ≡ false
  going-unsettled j i h =
      let w = document-whole gives d in
      let sound = all-sound gives AnyNumber the [] w in
      let jobs = are-jobs gives AnyNumber the [] w in
      let shut = is_open past j.instance && not (is_running past j) in
      on_either (going_on gives the sound jobs past j h) (λ e. (idle_begun gives the sound jobs past j e).1)
      (λ e. not-true (is_settled past j)
      (second_so shut (not (is_settled past j)) (first_so (shut && not (is_settled past j)) (all_known the past j.waits) e)))

  -- nothing of a settled job goes out
  stays-in : (j : Job) → In j the.jobs → is_settled past j ≡ true → is_out past j.name ≡ false
      → (e : Entry) → is_legal_after gives the past e ≡ true → is_out (e ∷ past) j.name ≡ false
  stays-in j i settled none (handed_out n a t) legal =
      let w = document-whole gives d in
      let other =
      false_from_ne_true (same_job j.name n)
      (λ h.
      true≠false
      (sym settled
      ∙ going-unsettled j i
      (begins gives the (all-sound gives AnyNumber the [] w) (are-jobs gives AnyNumber the [] w) past j i
      (legal-of gives the past (handed_out n a t) legal) h))) in
      ap (λ b. if b then true else is_out past j.name) other ∙ none
  stays-in j i settled none (accepted n a t r) legal = taken (same_job j.name n) (is_out past j.name) none
    where
      taken : (b c : Bool) → c ≡ false → (if b then false else c) ≡ false
      taken true c h = refl
      taken false c h = h
  stays-in j i settled none (recalled k) legal = refl
  stays-in j i settled none e legal = none

  module _ (I : JobName) (flow : Flow) (ss : List Seat) (has : HasEnded gives d past I flow ss) (e : Entry)
      (legal : is_legal_after gives the past e ≡ true) where
    ended-stays_so : HasEnded gives d (e ∷ past) I flow ss
    ended-stays_so = record {
      legal = both_true (is_legal gives the past) (is_legal_after gives the past e) has.legal legal;
      ended = or_right (is_ended_entry I e) (list_any (is_ended_entry I) past) has.ended;
      steps = has.steps;
      apart = has.apart;
      jobs = has.jobs;
      all = has.all;
      settled = has.settled;
      stages = λ n s j g it.
          let h = has.stages n s j g it in
          (stays_settled gives the e past j h.0, stays-in j it.listed h.0 h.1 e legal);
    }

-- ---- the laws

pub ends-settled : EndsSettled
ends-settled = has-ended

pub ended_stays : EndedStays
ended_stays = ended-stays_so
