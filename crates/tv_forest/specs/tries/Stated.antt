-- Laws of the tries of one job, for every document and all services.
use Rattle.std.specs.List.{list_any}
use Rattle.std.specs.Prelude.{Some, false, is_some, slice_get, true, ◌<◌, ◌≡◌, ◌∷◌}
use Rattle.tv_lemmas.specs.Members.{In}
use Rattle.tv_value.specs.Activities.{nested}
use Rattle.tv_value.specs.Values.{Name, holds_fault}
use Rattle.tv_gate.specs.Outcomes.{Giving}
use Rattle.tv_flow.specs.Flows.{Document, Step}
use Rattle.tv_flow.specs.Formed.{is_formed}
use Rattle.tv_check.specs.Plans.{IsAccepted}
use Rattle.tv_dispatch.specs.Jobs.{Ask}
use Rattle.tv_dispatch.specs.declared.plan.Plan.{Plan}
use Rattle.tv_model.specs.Jobs.{Job}
use Rattle.tv_model.specs.Meanings.{meaning}
use Rattle.tv_model.specs.Turns.{is_bounced, is_failed}
use Rattle.tv_history.specs.Entries.{Entry, History, is_accepted, is_out}
use Rattle.tv_history.specs.Histories.{is_legal, is_settled, next_ask}
use Rattle.tv_history.specs.ReadOff.{has_failed}
use Rattle.tv_history.specs.activities.Activities.{last_activity}
use Rattle.tv_history.specs.order.Parts.{OwnPart}
use Rattle.tv_forest.specs.tries.NextTries.{FlowComesAfterAsks, IsAfter, IsFirst}
use Rattle.tv_forest.specs.tries.Steps.{IsAskOf, IsBouncedJob, IsOfPlan, IsOwnStep, IsPlanOf}

-- ---- next tries

-- as long as no outcome of a job was accepted, it does what its plan says comes first
abbrev pub FirstTryIsFirst : Type 0
FirstTryIsFirst =
    (gives : Giving) (d : Document) (past : History) (j : Job) (s : Step) (p : Plan)
    → is_formed d ≡ true
    → is_legal gives (meaning gives d) past ≡ true
    → IsOwnStep gives d j s
    → IsPlanOf p s
    → is_bounced j.ending ≡ false
    → list_any (is_accepted j.name) past ≡ false
    → IsFirst past j s p

-- an outcome of its next ask, which is out, may be accepted; then it does what its plan says comes
-- after it
abbrev pub NextTryFollows : Type 0
NextTryFollows =
    (gives : Giving) (d : Document) (past : History) (j : Job) (s : Step) (p : Plan) (k : Ask)
    → is_legal gives (meaning gives d) past ≡ true
    → IsOwnStep gives d j s
    → IsPlanOf p s
    → next_ask past j ≡ Some k
    → is_out past j.name ≡ true
    → IsAfter gives d past j s p k

-- an entry that accepts no outcome of a job keeps its next ask
abbrev pub OthersKeepTries : Type 0
OthersKeepTries =
    (past : History) (e : Entry) (j : Job)
    → is_accepted j.name e ≡ false
    → next_ask (e ∷ past) j ≡ next_ask past j

-- ---- flows

-- the plan of a job that opens a flow says that it comes after all that is asked
abbrev pub FlowsComeAfterAsks : Type 0
FlowsComeAfterAsks =
    (gives : Giving) (d : Document) (past : History) (j : Job) (s : Step) (p : Plan)
    → IsOwnStep gives d j s
    → IsPlanOf p s
    → is_some j.opens ≡ true
    → FlowComesAfterAsks past j p

-- which flow it is, the step tells at that activity
abbrev pub FlowIsOfStep : Type 0
FlowIsOfStep =
    (gives : Giving) (d : Document) (j : Job) (s : Step)
    → IsOwnStep gives d j s
    → is_some j.opens ≡ true
    → (g : Name) × (j.opens ≡ Some g)
    × (slice_get s.activities (last_activity j.asks) ≡ Some (nested g))

-- ---- asks

-- an ask is of the job's own step and on its inputs
abbrev pub AsksAreOfStep : Type 0
AsksAreOfStep =
    (gives : Giving) (d : Document) (past : History) (j : Job) (s : Step) (k : Ask)
    → IsOwnStep gives d j s
    → next_ask past j ≡ Some k
    → IsAskOf s j k.activity k.attempt k

-- its activity is a service of the step's plan, and its attempt one that the plan has
abbrev pub AsksAreOfPlan : Type 0
AsksAreOfPlan =
    (gives : Giving) (d : Document) (past : History) (j : Job) (s : Step) (p : Plan) (k : Ask)
    → IsOwnStep gives d j s
    → IsPlanOf p s
    → next_ask past j ≡ Some k
    → IsOfPlan p k

-- in a document that was read it is of one of the first eight activities
abbrev pub ActivitiesAreFew : Type 0
ActivitiesAreFew =
    (gives : Giving) (d : Document) (past : History) (j : Job) (k : Ask)
    → is_formed d ≡ true
    → In j (meaning gives d).jobs
    → next_ask past j ≡ Some k
    → k.activity < 8

-- ---- bounced jobs

abbrev pub BouncedAsksNone : Type 0
BouncedAsksNone =
    (gives : Giving) (d : Document) (j : Job) (s : Step)
    → IsOwnStep gives d j s
    → is_bounced j.ending ≡ true
    → IsBouncedJob s j

-- a job is bounced exactly where its inputs hold an error
abbrev pub BouncedByInputs : Type 0
BouncedByInputs =
    (gives : Giving) (d : Document) (j : Job) (s : Step)
    → IsOwnStep gives d j s
    → is_bounced j.ending ≡ list_any (λ v. holds_fault v) j.inputs

-- ---- jobs and their steps

-- as many jobs of a step may run at once as the step says
abbrev pub LimitIsOfStep : Type 0
LimitIsOfStep =
    (gives : Giving) (d : Document) (j : Job) (s : Step)
    → IsOwnStep gives d j s
    → j.limit ≡ s.jobs

-- what a legal history tells of a settled job says whether it has failed
abbrev pub TotalsByTries : Type 0
TotalsByTries =
    (gives : Giving) (d : Document) (past : History) (j : Job)
    → is_legal gives (meaning gives d) past ≡ true
    → In j (meaning gives d).jobs
    → is_settled past j ≡ true
    → has_failed past j.name ≡ is_failed j.ending

-- every job of an accepted document's meaning has its own step
abbrev pub OwnPartsAre : Type 0
OwnPartsAre =
    (gives : Giving) (d : Document) (j : Job)
    → is_formed d ≡ true
    → IsAccepted d
    → In j (meaning gives d).jobs
    → (s : Step) × OwnPart gives d.flows (meaning gives d) j s
