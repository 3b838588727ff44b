-- After the end of the main instance nothing is out or on offer, and nothing more is legal.
use Rattle.std.proofs.Common.{ap, arith, subst, sym, ◌∙◌}
use Rattle.std.proofs.lemmas.Bool.{eq-eqb, lt-ltb}
use Rattle.std.proofs.lemmas.Option.{none-some}
use Rattle.std.specs.List.{list_any}
use Rattle.std.specs.Option.{option_map_or}
use Rattle.std.specs.Prelude.{Bool, List, None, Option, Some, [], cond, false, find, if◌then◌else◌, is_none, is_some, nat_lt, not, option_and_then, refl, slice_get, suc, true, zero, ℕ, ◌&&◌, ◌==◌, ◌||◌, ◌∷◌, ◌≡◌}
use Rattle.tv_lemmas.specs.Members.{In}
use Rattle.tv_lemmas.proofs.Members.{found-in}
use Rattle.tv_value.specs.Orders.{same_job}
use Rattle.tv_value.specs.Values.{JobName}
use Rattle.tv_check.specs.RunViews.{run_view}
use Rattle.tv_dispatch.specs.Jobs.{Ask}
use Rattle.tv_history.specs.Calls.{idle_state, job_at, out_state, state_after, try_if_out, try_out}
use Rattle.tv_history.specs.Runs.{past_of}
use Rattle.tv_history.specs.activities.Activities.{last_activity}
use Rattle.tv_model.specs.Turns.{is_bounced}
use Rattle.tv_instances.specs.FramingViews.{View}
use Rattle.tv_history.specs.declared.ticket.JobState.TheVariants as state
use Rattle.tv_history.specs.declared.ticket.JobState.{JobState}
use Rattle.tv_history.specs.declared.ticket.Ticket.{Ticket}
use Rattle.tv_flow.specs.Flows.{Document}
use Rattle.tv_instances.specs.Forest.{Instance, Instances, IsAt, Stays}
use Rattle.tv_instances.proofs.forest_firsts.Ends.{nothing-at_end}
use Rattle.tv_frame.specs.Tables.{levels_in}
use Rattle.tv_gate.specs.Outcomes.{Giving}
use Rattle.tv_history.specs.Entries as history
use Rattle.tv_history.specs.Entries.{History, handed_out, is_ended_entry, is_out, recalled}
use Rattle.tv_history.specs.Histories as histories
use Rattle.tv_history.specs.Histories.{has_open_instance, has_place, is_ask, is_done, is_idle, is_legal_after, is_offered, is_open, is_ready, is_running, is_settled, next_ask}
use Rattle.tv_history.proofs.Counts.{uncounted}
use Rattle.tv_model.proofs.Tests.{both_true, true≠false}
use Rattle.tv_model.specs.Jobs.{Job}
use Rattle.tv_model.specs.Made.{Meaning}
use Rattle.tv_model.specs.Meanings.{meaning}
use Rattle.tv_history.proofs.offers.Offers.{handing-legal}
use Rattle.tv_run.specs.Standing.{OutsAre, Stands, StandsOpen, StandsStill, names_of, run_of}
use Rattle.tv_run.specs.Turns.{IsOver}
use Rattle.tv_run.specs.declared.ended.Ended.{Ended}
use Rattle.tv_run.specs.declared.run.OpenRun.{OpenRun}

-- ---- lists

-- a search that finds none finds that none passes
none-passes : {A : Type 0} (p : A → Bool) (xs : List A) → ((x : A) → find p xs ≡ Some x → ⊥) → list_any p xs ≡ false
none-passes p [] h = refl
none-passes {A = A} p (x ∷ xs) h = by (p x) refl (none-passes p xs)
  where
    by : (b : Bool) → p x ≡ b → (((y : A) → find p xs ≡ Some y → ⊥) → list_any p xs ≡ false) → list_any p (x ∷ xs) ≡ false
    by true e rest = absurd (h x (ap (λ c. cond c (Some x) (find p xs)) e))
    by false e rest = ap (λ c. c || list_any p xs) e ∙ rest (λ y k. h y (ap (λ c. cond c (Some x) (find p xs)) e ∙ k))

-- ---- states

abbrev pub is_out_state : JobState → Bool
is_out_state (state.Out a t) = true
is_out_state s = false

idle-calm : (past : History) (j : Job) → is_out_state (idle_state past j) ≡ false
idle-calm past j = by (next_ask past j)
  where
    by : (o : Option Ask) → is_out_state (option_map_or (λ a. state.Idle a.activity a.attempt) o (state.Idle (last_activity j.asks) 0)) ≡ false
    by None = refl
    by (Some a) = refl

-- a job that isn't out stands nowhere where one is
calm :
    (s o n r d : Bool) (x y : JobState) → o ≡ false → is_out_state y ≡ false
    → is_out_state (if s then state.Settled else (if o then x else (if n then state.Nested else (if r then y else (if d then state.Ready else state.Waiting))))) ≡ false
calm true o n r d x y p q = refl
calm false true n r d x y p q = absurd (true≠false p)
calm false false true r d x y p q = refl
calm false false false true d x y p q = q
calm false false false false true x y p q = refl
calm false false false false false x y p q = refl

-- ---- jobs by number

job-in : (m : Meaning) (ns : List JobName) (k : ℕ) (j : Job) → job_at m ns k ≡ Some j → In j m.jobs
job-in m ns k j = by (slice_get ns k)
  where
    by : (o : Option JobName) → option_and_then (λ n. find (λ (i : Job). same_job n i.name) m.jobs) o ≡ Some j → In j m.jobs
    by None h = absurd (none-some j h)
    by (Some n) h = (found-in (λ (i : Job). same_job n i.name) m.jobs j h).0

-- no job of a number is out where none of the meaning is
none-is_out :
    (m : Meaning) (past : History) (ns : List JobName)
    → ((j : Job) → In j m.jobs → is_out_state (state_after m past j) ≡ false)
    → (k a t : ℕ) → option_map_or (state_after m past) (job_at m ns k) state.Unknown ≡ state.Out a t → ⊥
none-is_out m past ns quiet k a t = by (job_at m ns k) (job-in m ns k)
  where
    by : (o : Option Job) → ((j : Job) → o ≡ Some j → In j m.jobs) → option_map_or (state_after m past) o state.Unknown ≡ state.Out a t → ⊥
    by None h e = true≠false (sym (ap is_out_state e))
    by (Some j) h e = true≠false (sym (ap is_out_state e) ∙ quiet j (h j refl))

-- nor is a try of one
none-tried :
    (m : Meaning) (past : History) (ns : List JobName)
    → ((j : Job) → In j m.jobs → is_out past j.name ≡ false)
    → (k a t : ℕ) → option_and_then (try_out past a t) (job_at m ns k) ≡ None
none-tried m past ns quiet k a t = by (job_at m ns k) (job-in m ns k)
  where
    by : (o : Option Job) → ((j : Job) → o ≡ Some j → In j m.jobs) → option_and_then (try_out past a t) o ≡ None
    by None h = refl
    by (Some j) h =
        ap (λ b. if b && option_map_or (is_ask a t) (next_ask past j) false then next_ask past j else None) (quiet j (h j refl))

-- ---- the run

module _ (gives : Giving) (r : OpenRun) (xs : Instances) (st : Stands gives r xs) (x : Instance) (at : IsAt xs 0 x)
    (shut : x.view ≡ None) where
  abbrev d : Document
  d = run_view r.run

  abbrev m : Meaning
  m = meaning gives d

  abbrev past : History
  past = past_of (run_of r)

  nothing : (e : history.Entry) → is_legal_after gives m past e ≡ false
  nothing = nothing-at_end gives d levels_in past xs st.stand x at shut

  -- else it could be recalled
  none-out : histories.out_count m past ≡ 0
  none-out = by (histories.out_count m past) (nothing (recalled (histories.out_count m past)))
    where
      by : (n : ℕ) → (nat_lt 0 n && n == n) ≡ false → n ≡ 0
      by zero h = refl
      by (suc n) h =
          absurd
          (true≠false
          (sym (both_true (nat_lt 0 (suc n)) (suc n == suc n) (lt-ltb 0 (suc n) (omega arith)) (eq-eqb (suc n) (suc n) refl)) ∙ h))

  not-out : (j : Job) → In j m.jobs → is_out past j.name ≡ false
  not-out = uncounted (λ (j : Job). is_out past j.name) m.jobs none-out

  -- else the first that is could be handed out
  none-offered : list_any (is_offered m past) m.jobs ≡ false
  none-offered = none-passes (is_offered m past) m.jobs (λ j found. by j found (next_ask past j) refl)
    where
      by : (j : Job) → find (is_offered m past) m.jobs ≡ Some j → (o : Option Ask) → next_ask past j ≡ o → ⊥
      by j found None e =
          true≠false (sym (found-in (is_offered m past) m.jobs j found).1 ∙ ap (λ o. is_some o && (is_idle past j || (is_ready m past j && not (is_bounced j.ending) && has_place m past j))) e)
      by j found (Some a) e =
          true≠false
          (sym
          (handing-legal gives d past j a.activity a.attempt found
          (ap (λ o. option_map_or (is_ask a.activity a.attempt) o false) e
          ∙ both_true (a.activity == a.activity) (a.attempt == a.attempt) (eq-eqb a.activity a.activity refl)
          (eq-eqb a.attempt a.attempt refl)))
          ∙ nothing (handed_out j.name a.activity a.attempt))

  pub over : IsOver gives (run_of r)
  over = record {
    none_out = none-out;
    nothing_offered = none-offered;
    nothing_settles = λ e h. nothing e;
    no_state_out =
        none-is_out m past (names_of r)
        (λ j i.
        calm (is_settled past j) (is_out past j.name) (has_open_instance past j) (is_running past j) (is_ready m past j)
        (out_state past j) (idle_state past j) (not-out j i) (idle-calm past j));
    none_asked = λ t. none-tried m past (names_of r) not-out t.job t.activity t.attempt;
  }

-- ---- ended or not

-- where there are outputs the main instance has ended
pub shut-main : (gives : Giving) (r : OpenRun) (xs : Instances) (st : Stands gives r xs) → is_some r.outs ≡ true
    → (x : Instance) × IsAt xs 0 x × (x.view ≡ None)
shut-main gives r xs st some =
    let x = st.stand.main in
    (x.0, x.1, none-there x.0.view (ended r.outs some (is_none x.0.view) (st.outs_are x.0 x.1)))
  where
    ended : (o : Option Ended) → is_some o ≡ true → (b : Bool) → OutsAre gives (run_view r.run) o b → b ≡ true
    ended None h b k = absurd (true≠false (sym h))
    ended (Some ps) h b k = k.0

    none-there : {A : Type 0} (o : Option A) → is_none o ≡ true → o ≡ None
    none-there None h = refl
    none-there (Some a) h = absurd (true≠false (sym h))

pub over-done : (gives : Giving) (r : OpenRun) → is_some r.outs ≡ true → StandsStill gives r → IsOver gives (run_of r)
over-done gives r done st =
    let x = shut-main gives r st.0 st.1 done in
    over gives r st.0 st.1 x.0 x.1 x.2

pub open-still : (gives : Giving) (r : OpenRun) → is_some r.outs ≡ false → StandsStill gives r → StandsOpen gives r
open-still gives r h st = (st.0, st.1, none-there r.outs h)
  where
    none-there : {A : Type 0} (o : Option A) → is_some o ≡ false → o ≡ None
    none-there None h = refl
    none-there (Some a) h = absurd (true≠false h)

-- one of which a try is out hasn't ended
pub open-asked :
    (gives : Giving) (r : OpenRun) → StandsStill gives r → (t : Ticket) (a : Ask) → try_if_out gives (run_of r) t ≡ Some a
    → StandsOpen gives r
open-asked gives r st t a h = by (is_some r.outs) refl
  where
    by : (b : Bool) → is_some r.outs ≡ b → StandsOpen gives r
    by false e = open-still gives r e st
    by true e = absurd (none-some a (sym ((over-done gives r e st).none_asked t) ∙ h))

-- done is what has outputs
pub done-is : (gives : Giving) (r : OpenRun) → StandsStill gives r → is_some r.outs ≡ is_done (past_of (run_of r))
done-is gives r st = by r.outs x.view (st.1.outs_are x at) (stays x.view refl)
  where
    x : Instance
    x = st.1.stand.main.0

    at : IsAt st.0 0 x
    at = st.1.stand.main.1

    past' : History
    past' = past_of (run_of r)

    -- an open one hasn't ended
    stays : (o : Option View) → x.view ≡ o → is_none o ≡ is_done past'
    stays None e = sym (ended-so e)
      where
        ended-so : x.view ≡ None → is_done past' ≡ true
        ended-so k =
            subst (λ n. list_any (is_ended_entry n) past' ≡ true) st.1.stand.main.2.unnamed
            (subst (Stays gives (run_view r.run) levels_in past' x) k (st.1.stand.each 0 x at)).ended
    stays (Some v) e =
        let sit = (subst (Stays gives (run_view r.run) levels_in past' x) e (st.1.stand.each 0 x at)).1 in
        let is = subst (λ n. is_open past' n ≡ true) st.1.stand.main.2.unnamed sit.in_run.view.is_open in
        flips (is_done past') is
      where
        flips : (b : Bool) → not b ≡ true → false ≡ b
        flips false h = refl
        flips true h = absurd (true≠false (sym h))

    by : (o : Option Ended) (w : Option View) → OutsAre gives (run_view r.run) o (is_none w) → is_none w ≡ is_done past'
        → is_some o ≡ is_done past'
    by None w h k = sym h ∙ k
    by (Some ps) w h k = sym h.0 ∙ k
