-- Laws of how the seats of an instance go on with each entry of its run.
use Rattle.std.specs.Prelude.{Bool, List, Some, [], false, map, slice_get, true, ℕ, ◌++◌, ◌<◌, ◌∷◌, ◌≡◌}
use Rattle.tv_lemmas.specs.Members.{In}
use Rattle.tv_value.specs.Values.{JobName, Name}
use Rattle.tv_gate.specs.Outcomes.{Giving}
use Rattle.tv_flow.specs.Flows.{Document, Flow, Step}
use Rattle.tv_flow.specs.Formed.{is_formed}
use Rattle.tv_check.specs.Plans.{IsAccepted}
use Rattle.tv_model.specs.instance.Events.{Event, gave, took}
use Rattle.tv_model.specs.Jobs.{Job}
use Rattle.tv_model.specs.Meanings.{meaning}
use Rattle.tv_history.specs.Entries.{Entry, History, accepted, bounced, ended, handed_out, opened, recalled}
use Rattle.tv_history.specs.Histories.{can_end, is_legal, is_legal_after, is_settled, out_count}
use Rattle.tv_framing.specs.Answers.{CanSettle}
use Rattle.tv_framing.specs.Frames.{IsFrame}
use Rattle.tv_framing.specs.Stated.{IsOfDepths}
use Rattle.tv_framing.specs.Views.{View}
use Rattle.tv_seats.specs.Seats.{Seat, back, with_stage}
use Rattle.tv_seats.specs.declared.stage.Stage.{Stage}
use Rattle.tv_seats.specs.declared.stage.Stage.TheVariants as stage
use Rattle.tv_forest.specs.views.InRun.{IsJobThere}
use Rattle.tv_forest.specs.views.Stated.{entry_of}
use Rattle.tv_forest.specs.runs.Elsewhere.{IsElsewhere}
use Rattle.tv_forest.specs.runs.Follows.{Follows}
use Rattle.tv_forest.specs.runs.Opened.{IsOpenedBy}
use Rattle.tv_forest.specs.runs.Stated.{IsMainFlow}
use Rattle.tv_forest.specs.seats.Seated.{AreAtSteps, HasEnded, IsNextFlow, IsNextTry, Sit, spot_of}

-- seats of jobs that haven't begun, each at one of these steps
pub record AreNewSeats (steps : List (Name × Step)) (ns : List Seat) : Type 0 where
  pub waiting : (n : ℕ) (s : Seat) → slice_get ns n ≡ Some s → s.stage ≡ stage.Waiting
  pub there : AreAtSteps steps ns

-- ---- the start

-- a frame that was told nothing, and a seat for each job that it knows
pub record IsNew (d : Document) (levels : Name → ℕ) (v : View) (ss : List Seat) : Type 0 where
  pub untold : v.events ≡ []
  pub frame : IsFrame v
  pub depths : IsOfDepths d.flows levels v
  pub jobs : map (spot_of v.flow.steps) ss ≡ v.jobs
  pub new : AreNewSeats v.flow.steps ss

-- the main instance's, before any entry
abbrev pub SitAtStart : Type 0
SitAtStart =
    (gives : Giving) (d : Document) (levels : Name → ℕ) (v : View) (ss : List Seat)
    → IsMainFlow d v.flow → v.inputs ≡ d.inputs → IsNew d levels v ss
    → Sit gives d [] [] levels v ss

-- a nested one's, once its flow is opened
abbrev pub SitWhereOpened : Type 0
SitWhereOpened =
    (gives : Giving) (d : Document) (past : History) (j : Job) (levels : Name → ℕ) (v : View)
    (ss : List Seat)
    → is_formed d ≡ true → IsAccepted d → In j (meaning gives d).jobs
    → is_legal gives (meaning gives d) (opened j.name ∷ past) ≡ true
    → IsOpenedBy d j v → IsNew d levels v ss
    → Sit gives d (opened j.name ∷ past) j.name levels v ss

-- ---- an entry of the instance

-- w is the frame v one event later: the jobs of these seats became known
pub record GoesOn (d : Document) (levels : Name → ℕ) (v w : View) (e : Event) (ns : List Seat)
    : Type 0 where
  pub follows : Follows v w e
  pub frame : IsFrame w
  pub depths : IsOfDepths d.flows levels w
  pub jobs : w.jobs ≡ v.jobs ++ map (spot_of v.flow.steps) ns
  pub new : AreNewSeats v.flow.steps ns

-- seat n is that of the job, and at this stage
pub record IsSeatOf (gives : Giving) (d : Document) (I : JobName) (v : View) (ss : List Seat)
    (j : Job) (n : ℕ)
    (x : Stage) : Type 0 where
  pub seat : Seat
  pub there : slice_get ss n ≡ Some seat
  pub stage : seat.stage ≡ x
  pub job : IsJobThere gives d I j (spot_of v.flow.steps seat)

-- of every seat of every open instance
abbrev pub AnySeat :
    (Giving → Document → History → JobName → (Name → ℕ) → View → List Seat → Job → ℕ → Stage → Seat
    → Type 0)
    → Type 0
AnySeat P =
    (gives : Giving) (d : Document) (past : History) (I : JobName) (levels : Name → ℕ) (v : View)
    (ss : List Seat)
    → Sit gives d past I levels v ss
    → (j : Job) (n : ℕ) (x : Stage) (is : IsSeatOf gives d I v ss j n x)
    → P gives d past I levels v ss j n x is.seat

-- a waiting job's next try goes out
abbrev pub HandedOutFirst : Type 0
HandedOutFirst =
    AnySeat (λ gives d past I levels v ss j n x s.
    x ≡ stage.Waiting
    → (a t : ℕ) → IsNextTry past j a t
    → is_legal_after gives (meaning gives d) past (handed_out j.name a t) ≡ true
    → (w : View) → GoesOn d levels v w (took (spot_of v.flow.steps s).0 s.place) []
    → Sit gives d (handed_out j.name a t ∷ past) I levels w (with_stage n (stage.Out a t) ss))

-- and an idle job's, of which the frame is told nothing
abbrev pub HandedOutAgain : Type 0
HandedOutAgain =
    AnySeat (λ gives d past I levels v ss j n x s.
    (a t : ℕ) → x ≡ stage.Idle a t
    → is_legal_after gives (meaning gives d) past (handed_out j.name a t) ≡ true
    → Sit gives d (handed_out j.name a t ∷ past) I levels v (with_stage n (stage.Out a t) ss))

-- a waiting job's flow is opened, as the instance of that number
abbrev pub OpenedFirst : Type 0
OpenedFirst =
    AnySeat (λ gives d past I levels v ss j n x s.
    x ≡ stage.Waiting
    → is_legal_after gives (meaning gives d) past (opened j.name) ≡ true
    → (w : View) → GoesOn d levels v w (took (spot_of v.flow.steps s).0 s.place) []
    → (i : ℕ) → Sit gives d (opened j.name ∷ past) I levels w (with_stage n (stage.Nested i) ss))

-- and that of a job that was tried before
abbrev pub OpenedAfterTries : Type 0
OpenedAfterTries =
    AnySeat (λ gives d past I levels v ss j n x s.
    (a : ℕ) → x ≡ stage.Aside a
    → is_legal_after gives (meaning gives d) past (opened j.name) ≡ true
    → (i : ℕ) → Sit gives d (opened j.name ∷ past) I levels v (with_stage n (stage.Nested i) ss))

-- an entry by which a job at this stage may be settled: the outcome of the try that is out, its bouncing where it waits, or the end
-- of its flow
abbrev pub MaySettle : Job → Stage → Entry → Type 0
MaySettle j (stage.Out a t) e = (r : Bool) × (e ≡ accepted j.name a t r)
MaySettle j stage.Waiting e = e ≡ bounced j.name
MaySettle j (stage.Nested i) e = e ≡ ended j.name
MaySettle j (stage.Idle a t) e = ⊥
MaySettle j (stage.Aside a) e = ⊥
MaySettle j stage.Settled e = ⊥

-- where it is settled by it, and jobs become known
abbrev pub JobSettles : Type 0
JobSettles =
    AnySeat (λ gives d past I levels v ss j n x s.
    (e : Entry) → MaySettle j x e
    → is_legal_after gives (meaning gives d) past e ≡ true
    → is_settled (e ∷ past) j ≡ true
    → (w : View) (ns : List Seat)
    → GoesOn d levels v w (gave (spot_of v.flow.steps s).0 s.place j.result) ns
    → Sit gives d (e ∷ past) I levels w (with_stage n stage.Settled ss ++ ns))

-- the end of its flow settles a job
abbrev pub EndSettlesJob : Type 0
EndSettlesJob =
    AnySeat (λ gives d past I levels v ss j n x s.
    (i : ℕ) → x ≡ stage.Nested i → is_settled (ended j.name ∷ past) j ≡ true)

-- where an outcome doesn't settle it, it has a next try or a flow next
abbrev pub TriedAgain : Type 0
TriedAgain =
    AnySeat (λ gives d past I levels v ss j n x s.
    (a t : ℕ) → x ≡ stage.Out a t
    → is_legal_after gives (meaning gives d) past (accepted j.name a t false) ≡ true
    → is_settled (accepted j.name a t false ∷ past) j ≡ false
    → (b u : ℕ) → IsNextTry (accepted j.name a t false ∷ past) j b u
    → Sit gives d (accepted j.name a t false ∷ past) I levels v (with_stage n (stage.Idle b u) ss))

abbrev pub PutAside : Type 0
PutAside =
    AnySeat (λ gives d past I levels v ss j n x s.
    (a t : ℕ) → x ≡ stage.Out a t
    → is_legal_after gives (meaning gives d) past (accepted j.name a t false) ≡ true
    → is_settled (accepted j.name a t false ∷ past) j ≡ false
    → (b : ℕ) → IsNextFlow (accepted j.name a t false ∷ past) j b
    → Sit gives d (accepted j.name a t false ∷ past) I levels v (with_stage n (stage.Aside b) ss))

-- ---- entries of no job

-- in every open instance
abbrev pub AnySeats :
    (Giving → Document → History → JobName → (Name → ℕ) → View → List Seat → Type 0) → Type 0
AnySeats P =
    (gives : Giving) (d : Document) (past : History) (I : JobName) (levels : Name → ℕ) (v : View)
    (ss : List Seat)
    → Sit gives d past I levels v ss → P gives d past I levels v ss

-- a list is closed, or a fault passed
abbrev pub LevelSettles : Type 0
LevelSettles =
    AnySeats (λ gives d past I levels v ss.
    (e : Event) → CanSettle v e
    → (w : View) (ns : List Seat) → GoesOn d levels v w e ns
    → Sit gives d (entry_of I e ∷ past) I levels w (ss ++ ns))

-- all that is out, of all instances, is recalled
abbrev pub Recalled : Type 0
Recalled =
    AnySeats (λ gives d past I levels v ss.
    (k : ℕ) → k ≡ out_count (meaning gives d) past → 0 < k
    → Sit gives d (recalled k ∷ past) I levels v (map back ss))

-- where the instance can end and does, all its jobs have seats, and are settled
abbrev pub EndsSettled : Type 0
EndsSettled =
    AnySeats (λ gives d past I levels v ss.
    can_end (meaning gives d) past I ≡ true
    → HasEnded gives d (ended I ∷ past) I v.flow ss)

-- ---- entries of other instances

abbrev pub ElsewhereStays : Type 0
ElsewhereStays =
    AnySeats (λ gives d past I levels v ss.
    (e : Entry) → is_legal_after gives (meaning gives d) past e ≡ true → IsElsewhere e I
    → Sit gives d (e ∷ past) I levels v ss)

-- nothing more is of an instance that has ended, and recalls take nothing of it back
abbrev pub EndedStays : Type 0
EndedStays =
    (gives : Giving) (d : Document) (past : History) (I : JobName) (flow : Flow) (ss : List Seat)
    → HasEnded gives d past I flow ss
    → (e : Entry) → is_legal_after gives (meaning gives d) past e ≡ true
    → HasEnded gives d (e ∷ past) I flow ss
