-- How the seats of an instance go on with an entry of one of its jobs.
use Rattle.std.specs.Prelude.{◌≡◌, ◌≢◌, refl, ℕ, List, [], ◌∷◌, ◌++◌, Bool, true, false, not, ◌&&◌, ◌||◌, if◌then◌else◌, is_none, is_some}
use Rattle.std.specs.List.{list_any}
use Rattle.std.proofs.Common.{ap, append-nil, subst, sym, ◌∙◌}
use Rattle.std.proofs.lemmas.Bool.{false_from_ne_true}
use Rattle.std.specs.Cmp.{first_so, second_so}
use Rattle.tv_lemmas.specs.Members.{In}
use Rattle.tv_lemmas.proofs.Members.{some_in}
use Rattle.tv_value.specs.Nested.{Place}
use Rattle.tv_value.specs.Orders.{same_job}
use Rattle.tv_value.specs.Values.{JobName, Name}
use Rattle.tv_value.proofs.JobNameLemmas.{same_job_decides}
use Rattle.tv_gate.specs.Outcomes.{Giving}
use Rattle.tv_flow.specs.Flows.{Document}
use Rattle.tv_model.specs.instance.Events.{Event, gave, is_taken, took}
use Rattle.tv_model.specs.Jobs.{Job}
use Rattle.tv_model.specs.Made.{Meaning}
use Rattle.tv_model.specs.Meanings.{meaning}
use Rattle.tv_model.specs.Turns.{is_bounced}
use Rattle.tv_model.proofs.Members.{not-longer}
use Rattle.tv_model.proofs.Tests.{both_true}
use Rattle.tv_history.specs.Entries.{Entry, History, accepted, bounced, ended, handed_out, is_begun_entry, is_ended_entry, is_opened_entry, is_out, opened}
use Rattle.tv_history.specs.Histories.{can_bounce, has_open_instance, is_at, is_legal_after, is_open, is_ready, is_running, is_settled, may_go_on, next_ask}
use Rattle.tv_history.proofs.Done.{opens-it}
use Rattle.tv_history.proofs.Legal.{legal-of}
use Rattle.tv_history.proofs.Ready.{AnyNumber, are-jobs, document-whole}
use Rattle.tv_history.proofs.Running.{same-job}
use Rattle.tv_history.proofs.Tests.{same-itself}
use Rattle.tv_framing.specs.instances.InHistory.{Settles}
use Rattle.tv_framing.specs.Views.{View}
use Rattle.tv_seats.specs.Seats.{Seat, with_stage}
use Rattle.tv_seats.specs.declared.stage.Stage.{Stage}
use Rattle.tv_seats.specs.declared.stage.Stage.TheVariants as stage
use Rattle.tv_forest.specs.views.InRun.{IsJobThere, IsViewOf}
use Rattle.tv_forest.proofs.views.LawLemmas.{taken-is_running}
use Rattle.tv_forest.specs.runs.Stated.{IsEvent}
use Rattle.tv_forest.proofs.runs.Entries.{first_try-goes_on, later_opening-tells_nothing, next_try-goes_on, opening-goes_on, other_tries-tell_nothing}
use Rattle.tv_forest.proofs.runs.Settled.{accepting-settles, bouncing-settles, ending-settles, settled-by_end, settled-goes_on}
use Rattle.tv_forest.specs.seats.GoingOn.{EndSettlesJob, GoesOn, HandedOutAgain, HandedOutFirst, IsSeatOf, JobSettles, MaySettle, OpenedAfterTries, OpenedFirst, PutAside, TriedAgain}
use Rattle.tv_forest.specs.seats.Seated.{GoesAs, IsNextFlow, IsNextTry, IsStage, Sit, spot_of}
use Rattle.tv_forest.proofs.seats.Seats.{in-run, is-known, one-changes, other-name, sits-on, sits-same}
use Rattle.tv_forest.proofs.seats.Stages.{LeavesAlone, accepted-other, bounced-other, ended-other, handed-out, inside-stays, next_try-stays, nothing-settles, open-stays, opened-other, opening-settles_none, settled-stays}

-- ---- a job that begins

module _ (past : History) (j : Job) (running : Bool) (goes : GoesAs past j running false false) where
  itself : same_job j.name j.name ≡ true
  itself = same-itself j.name

  abbrev begun : Bool
  begun = list_any (is_begun_entry j.name) past

  -- a try of it goes out
  out-now : (a t : ℕ) → IsNextTry past j a t → IsStage (handed_out j.name a t ∷ past) j (stage.Out a t)
  out-now a t next =
      let x = handed_out j.name a t in
      let now = settled-stays past x j (nothing-settles j.name j.name a t) ∙ goes.unsettled in (
        record {
          unsettled = now;
          runs =
              both_true (same_job j.name j.name || begun) (not (is_settled (x ∷ past) j)) (ap (λ b. b || begun) itself)
              (ap not now);
          is_out = ap (λ b. if b then true else is_out past j.name) itself;
          inside = inside-stays past x j refl refl ∙ goes.inside;
        },
        next_try-stays past x j (nothing-settles j.name j.name a t) a t next,
      )

  -- its flow is opened
  nested-now : (i : ℕ) → has_open_instance (opened j.name ∷ past) j ≡ true
      → IsStage (opened j.name ∷ past) j (stage.Nested i)
  nested-now i inside =
      let x = opened j.name in
      let now = settled-stays past x j (opening-settles_none j.name j.name) ∙ goes.unsettled in
      record {
        unsettled = now;
        runs =
            both_true (same_job j.name j.name || begun) (not (is_settled (x ∷ past) j)) (ap (λ b. b || begun) itself)
            (ap not now);
        is_out = goes.is_out;
        inside = inside;
      }

-- ---- a job that opens a flow

-- an instance is open with its opening where it hasn't ended
opened-now : (past : History) (n : JobName) (k : Name × Place) (r : JobName) → n ≡ k ∷ r
    → list_any (is_ended_entry n) past ≡ false → is_open (opened n ∷ past) n ≡ true
opened-now past n k r e h =
    let there = ap (λ b. b || list_any (is_opened_entry n) past) (same-itself n) in
    by n k r e
    ∙ both_true (list_any (is_opened_entry n) (opened n ∷ past)) (not (list_any (is_ended_entry n) (opened n ∷ past)))
    there (ap not h)
  where
    by : (n : JobName) (k : Name × Place) (r : JobName) → n ≡ k ∷ r
        → is_open (opened n ∷ past) n
        ≡ (list_any (is_opened_entry n) (opened n ∷ past) && not (list_any (is_ended_entry n) (opened n ∷ past)))
    by [] k r e = cc
    by (l ∷ n) k r e = refl

module _ (gives : Giving) (d : Document) (past : History) (j : Job) (listed : In j (meaning gives d).jobs) where
  legal-opens : is_legal_after gives (meaning gives d) past (opened j.name) ≡ true → is_some j.opens ≡ true
  legal-opens legal =
      let m = meaning gives d in
      let can =
      opens-it gives AnyNumber m (document-whole gives d) past j listed (legal-of gives m past (opened j.name) legal)
      (same-itself j.name) in
      second_so (is_none (next_ask past j)) (is_some j.opens)
      (first_so (is_none (next_ask past j) && is_some j.opens) (may_go_on m past j) can)

  -- once its flow is opened its instance is open
  opened-inside : is_settled past j ≡ false → is_legal_after gives (meaning gives d) past (opened j.name) ≡ true
      → has_open_instance (opened j.name ∷ past) j ≡ true
  opened-inside unsettled legal =
      let opens = legal-opens legal in
      let n = (are-jobs gives AnyNumber (meaning gives d) [] (document-whole gives d)).has_name j listed in
      both_true (is_some j.opens) (is_open (opened j.name ∷ past) j.name) opens
      (opened-now past j.name n.0 n.1 n.2 (sym (settled-by_end gives d j listed opens past) ∙ unsettled))

-- ---- an entry of the job of a seat

module _ (gives : Giving) (d : Document) (past : History) (I : JobName) (levels : Name → ℕ) (v : View) (ss : List Seat)
    (sit : Sit gives d past I levels v ss) (j : Job) (n : ℕ) (x : Stage) (is : IsSeatOf gives d I v ss j n x) where
  abbrev m : Meaning
  m = meaning gives d

  abbrev p : Name × Place
  p = spot_of v.flow.steps is.seat

  stage-is : (y : Stage) → x ≡ y → IsStage past j y
  stage-is y e = subst (IsStage past j) (is.stage ∙ e) (sit.stages n is.seat j is.there is.job)

  others : (k : Job) (y : Name × Place) → IsJobThere gives d I k y → y ≢ p → same_job k.name j.name ≡ false
  others k y it ne = other-name gives d I k j y p it is.job ne

  unknown-differs : (y : Name × Place) → (In y v.jobs → ⊥) → y ≢ p
  unknown-differs y unknown e =
      unknown (subst (λ z. In z v.jobs) (sym e) (is-known gives d past I levels v ss sit n is.seat is.there))

  abbrev IsOfIt : Entry → Type 0
  IsOfIt e = (k : Job) (y : Name × Place) → IsJobThere gives d I k y → y ≢ p → LeavesAlone past e k

  -- ---- the frame is told nothing

  stage-changes :
      (e : Entry) (y : Stage) → is_legal_after gives m past e ≡ true → IsOfIt e → IsStage (e ∷ past) j y
      → IsViewOf gives d (e ∷ past) I v
      → Sit gives d (e ∷ past) I levels v (with_stage n y ss)
  stage-changes e y legal alone here view =
      sits-same gives d past I levels v ss sit e (with_stage n y ss)
      (one-changes gives d past I levels v ss sit e j n is.seat y is.there is.job alone here)
      (in-run gives d past I levels v ss sit e legal v refl sit.in_run.frame sit.in_run.depths view)

  is-taken : is_running past j ≡ true → is_taken v.events p.0 p.1 ≡ true
  is-taken runs =
      sym (taken-is_running gives d past I levels v sit.in_run p j is.job).begun
      ∙ first_so (list_any (is_begun_entry j.name) past) (not (is_settled past j)) runs

  handed-again :
      (a t : ℕ) → x ≡ stage.Idle a t
      → is_legal_after gives m past (handed_out j.name a t) ≡ true
      → Sit gives d (handed_out j.name a t ∷ past) I levels v (with_stage n (stage.Out a t) ss)
  handed-again a t idle legal =
      let stands = stage-is (stage.Idle a t) idle in
      stage-changes (handed_out j.name a t) (stage.Out a t) legal
      (λ k y it ne. handed-out past k j.name (others k y it ne) a t) (out-now past j true stands.0 a t stands.1)
      (subst (λ k. IsViewOf gives d (handed_out k a t ∷ past) I v) (sym is.job.name)
      (next_try-goes_on gives d past I v sit.in_run.view p.0 p.1 (is-taken stands.0.runs) a t))

  opened-later :
      (a : ℕ) → x ≡ stage.Aside a
      → is_legal_after gives m past (opened j.name) ≡ true
      → (i : ℕ) → Sit gives d (opened j.name ∷ past) I levels v (with_stage n (stage.Nested i) ss)
  opened-later a aside legal i =
      let stands = stage-is (stage.Aside a) aside in
      stage-changes (opened j.name) (stage.Nested i) legal (λ k y it ne. opened-other past k j.name (others k y it ne))
      (nested-now past j true stands.0 i (opened-inside gives d past j is.job.listed stands.0.unsettled legal))
      (subst (λ k. IsViewOf gives d (opened k ∷ past) I v) (sym is.job.name)
      (later_opening-tells_nothing gives d past I v sit.in_run.view p.0 p.1 (is-taken stands.0.runs)))

  -- ---- it is told an event

  stage-follows :
      (e : Entry) (y : Stage) (u : Event) → is_legal_after gives m past e ≡ true → IsOfIt e
      → IsStage (e ∷ past) j y → IsEvent gives d past I v e u
      → (w : View) (ns : List Seat) → GoesOn d levels v w u ns
      → Sit gives d (e ∷ past) I levels w (with_stage n y ss ++ ns)
  stage-follows e y u legal alone here view w ns on =
      sits-on gives d past I levels v ss sit e w u ns on (λ k z it unknown. alone k z it (unknown-differs z unknown))
      (with_stage n y ss) (one-changes gives d past I levels v ss sit e j n is.seat y is.there is.job alone here)
      (in-run gives d past I levels v ss sit e legal w on.follows.flow on.frame on.depths (view w on.follows))

  -- without a new job
  stage-follows_alone :
      (e : Entry) (y : Stage) (u : Event) → is_legal_after gives m past e ≡ true → IsOfIt e
      → IsStage (e ∷ past) j y → IsEvent gives d past I v e u
      → (w : View) → GoesOn d levels v w u []
      → Sit gives d (e ∷ past) I levels w (with_stage n y ss)
  stage-follows_alone e y u legal alone here view w on =
      subst (Sit gives d (e ∷ past) I levels w) (append-nil (with_stage n y ss))
      (stage-follows e y u legal alone here view w [] on)

  handed-first :
      x ≡ stage.Waiting → (a t : ℕ) → IsNextTry past j a t
      → is_legal_after gives m past (handed_out j.name a t) ≡ true
      → (w : View) → GoesOn d levels v w (took p.0 is.seat.place) []
      → Sit gives d (handed_out j.name a t ∷ past) I levels w (with_stage n (stage.Out a t) ss)
  handed-first waits a t next legal =
      stage-follows_alone (handed_out j.name a t) (stage.Out a t) (took p.0 p.1) legal
      (λ k y it ne. handed-out past k j.name (others k y it ne) a t)
      (out-now past j false (stage-is stage.Waiting waits) a t next)
      (subst (λ k. IsEvent gives d past I v (handed_out k a t) (took p.0 p.1)) (sym is.job.name)
      (first_try-goes_on gives d past I v sit.in_run.view p.0 p.1 a t))

  opened-first :
      x ≡ stage.Waiting
      → is_legal_after gives m past (opened j.name) ≡ true
      → (w : View) → GoesOn d levels v w (took p.0 is.seat.place) []
      → (i : ℕ) → Sit gives d (opened j.name ∷ past) I levels w (with_stage n (stage.Nested i) ss)
  opened-first waits legal w on i =
      let stands = stage-is stage.Waiting waits in
      stage-follows_alone (opened j.name) (stage.Nested i) (took p.0 p.1) legal
      (λ k y it ne. opened-other past k j.name (others k y it ne))
      (nested-now past j false stands i (opened-inside gives d past j is.job.listed stands.unsettled legal))
      (subst (λ k. IsEvent gives d past I v (opened k) (took p.0 p.1)) (sym is.job.name)
      (opening-goes_on gives d past I v sit.in_run.view p.0 p.1)) w on

  -- ---- it is settled

  abbrev Settling : Entry → Type 0
  Settling e =
      is_legal_after gives m past e ≡ true → is_settled (e ∷ past) j ≡ true
      → (w : View) (ns : List Seat) → GoesOn d levels v w (gave p.0 is.seat.place j.result) ns
      → Sit gives d (e ∷ past) I levels w (with_stage n stage.Settled ss ++ ns)

  -- an entry of the job alone
  settles-by :
      (e : Entry) → IsOfIt e → is_out (e ∷ past) j.name ≡ false
      → (is_settled (e ∷ past) j ≡ true → Settles m past e I p.0 p.1)
      → is_opened_entry I e ≡ false → is_ended_entry I e ≡ false
      → Settling e
  settles-by e alone not_out settles opens ends legal settled =
      stage-follows e stage.Settled (gave p.0 p.1 j.result) legal alone (settled, not_out)
      (settled-goes_on gives d past I v sit.in_run.view j p.0 p.1 is.job e (settles settled)
      (open-stays past e I opens ends ∙ sit.in_run.view.is_open))

  outcome-of_it : (a t : ℕ) (r : Bool) → IsOfIt (accepted j.name a t r)
  outcome-of_it a t r k y it ne = accepted-other past k j.name (others k y it ne) a t r

  not-out : (a t : ℕ) (r : Bool) → is_out (accepted j.name a t r ∷ past) j.name ≡ false
  not-out a t r = ap (λ b. if b then false else is_out past j.name) (same-itself j.name)

  -- only a job that is to be bounced is
  to-bounce : is_legal_after gives m past (bounced j.name) ≡ true → is_bounced j.ending ≡ true
  to-bounce legal =
      let r = some_in (λ k. is_at k j.name && can_bounce m past k) m.jobs legal in
      let named = first_so (is_at r.0 j.name) (can_bounce m past r.0) r.2 in
      let can = second_so (is_at r.0 j.name) (can_bounce m past r.0) r.2 in
      let jobs = are-jobs gives AnyNumber m [] (document-whole gives d) in
      let same = same-job gives m jobs r.0 j r.1 is.job.listed named in
      second_so (is_ready m past j) (is_bounced j.ending) (subst (λ k. can_bounce m past k ≡ true) same can)

  -- a job isn't the one that opened its instance
  opens-another : same_job I j.name ≡ false
  opens-another =
      false_from_ne_true (same_job I j.name)
      (λ h. not-longer I p [] ((same_job_decides I j.name).0 h ∙ is.job.name))

  outcome-settles : (a t : ℕ) (r : Bool) → Settling (accepted j.name a t r)
  outcome-settles a t r =
      settles-by (accepted j.name a t r) (outcome-of_it a t r) (not-out a t r)
      (accepting-settles gives d past I j p.0 p.1 is.job a t r) refl refl

  bouncing-of_it : is_out past j.name ≡ false → Settling (bounced j.name)
  bouncing-of_it out legal =
      settles-by (bounced j.name) (λ k y it ne. bounced-other past k j.name (others k y it ne)) out
      (λ settled. bouncing-settles gives d past I j p.0 p.1 is.job (to-bounce legal)) refl refl legal

  end-of_it : GoesAs past j true false true → Settling (ended j.name)
  end-of_it goes =
      settles-by (ended j.name) (λ k y it ne. ended-other past k j.name (others k y it ne)) goes.is_out
      (λ settled. ending-settles gives d past I j p.0 p.1 is.job
      (first_so (is_some j.opens) (is_open past j.name) goes.inside)) refl opens-another

  settles : (e : Entry) → MaySettle j x e → Settling e
  settles e f = by x (stage-is x refl) f
    where
      by : (y : Stage) → IsStage past j y → MaySettle j y e → Settling e
      by stage.Waiting h g = subst Settling (sym g) (bouncing-of_it h.is_out)
      by (stage.Out a t) h g = subst Settling (sym g.1) (outcome-settles a t g.0)
      by (stage.Idle a t) h g = absurd g
      by (stage.Aside a) h g = absurd g
      by (stage.Nested i) h g = subst Settling (sym g) (end-of_it h)
      by stage.Settled h g = absurd g

  end-settles : (i : ℕ) → x ≡ stage.Nested i → is_settled (ended j.name ∷ past) j ≡ true
  end-settles i nested =
      let opens = first_so (is_some j.opens) (is_open past j.name) (stage-is (stage.Nested i) nested).inside in
      settled-by_end gives d j is.job.listed opens (ended j.name ∷ past)
      ∙ ap (λ b. b || list_any (is_ended_entry j.name) past) (same-itself j.name)

  -- ---- it goes on after an outcome

  goes-again :
      (a t : ℕ) → x ≡ stage.Out a t → is_settled (accepted j.name a t false ∷ past) j ≡ false
      → GoesAs (accepted j.name a t false ∷ past) j true false false
  goes-again a t out unsettled =
      let e = accepted j.name a t false in
      let stands = stage-is (stage.Out a t) out in
      let begun = list_any (is_begun_entry j.name) past in
      record {
        unsettled = unsettled;
        runs =
            both_true begun (not (is_settled (e ∷ past) j)) (first_so begun (not (is_settled past j)) stands.0.runs)
            (ap not unsettled);
        is_out = not-out a t false;
        inside = inside-stays past e j refl refl ∙ stands.0.inside;
      }

  goes-to :
      (a t : ℕ) → is_legal_after gives m past (accepted j.name a t false) ≡ true
      → is_settled (accepted j.name a t false ∷ past) j ≡ false
      → (y : Stage) → IsStage (accepted j.name a t false ∷ past) j y
      → Sit gives d (accepted j.name a t false ∷ past) I levels v (with_stage n y ss)
  goes-to a t legal unsettled y here =
      stage-changes (accepted j.name a t false) y legal (outcome-of_it a t false) here
      (other_tries-tell_nothing gives d past I v sit.in_run.view j is.job.listed a t false unsettled)

  tried-again :
      (a t : ℕ) → x ≡ stage.Out a t
      → is_legal_after gives m past (accepted j.name a t false) ≡ true
      → is_settled (accepted j.name a t false ∷ past) j ≡ false
      → (b u : ℕ) → IsNextTry (accepted j.name a t false ∷ past) j b u
      → Sit gives d (accepted j.name a t false ∷ past) I levels v (with_stage n (stage.Idle b u) ss)
  tried-again a t out legal unsettled b u next =
      goes-to a t legal unsettled (stage.Idle b u) (goes-again a t out unsettled, next)

  put-aside :
      (a t : ℕ) → x ≡ stage.Out a t
      → is_legal_after gives m past (accepted j.name a t false) ≡ true
      → is_settled (accepted j.name a t false ∷ past) j ≡ false
      → (b : ℕ) → IsNextFlow (accepted j.name a t false ∷ past) j b
      → Sit gives d (accepted j.name a t false ∷ past) I levels v (with_stage n (stage.Aside b) ss)
  put-aside a t out legal unsettled b next =
      goes-to a t legal unsettled (stage.Aside b) (goes-again a t out unsettled, next)

-- ---- the laws

pub handed_out-first : HandedOutFirst
handed_out-first = handed-first

pub handed_out-again : HandedOutAgain
handed_out-again = handed-again

pub opened_first : OpenedFirst
opened_first = opened-first

pub opened-after_tries : OpenedAfterTries
opened-after_tries = opened-later

pub job-settles : JobSettles
job-settles = settles

pub end-settles_job : EndSettlesJob
end-settles_job = end-settles

pub tried_again : TriedAgain
tried_again = tried-again

pub put_aside : PutAside
put_aside = put-aside
