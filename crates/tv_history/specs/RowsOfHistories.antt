-- Worked histories: what may come next, and what may not.
use Rattle.std.specs.Prelude.{Bool, List, [], codes, false, reverse, true, ◌∷◌, ◌≡◌}
use Rattle.tv_value.specs.Nested.{Place}
use Rattle.tv_value.specs.Values.{JobName, Name}
use Rattle.tv_local.specs.LocalGives.{local_gives}
use Rattle.tv_flow.specs.Flows.{Document}
use Rattle.tv_model.specs.RowsOfFaults.{failing_over, list_fails, one_fails}
use Rattle.tv_model.specs.RowsOfFlows.{opening, two_steps, two_steps_with}
use Rattle.tv_model.specs.RowsOfIteration.{nested_lists, one_text}
use Rattle.tv_model.specs.Writing.{meant}
use Rattle.tv_history.specs.Entries.{Entry, accepted, bounced, closed, ended, fault_passed, handed_out, opened, recalled}
use Rattle.tv_history.specs.Histories.{is_legal}
use Rattle.tv_history.specs.ReadOff.{read_totals}

-- the entries as they come, the oldest first
abbrev pub is_legal_run : Document → List Entry → Bool
is_legal_run d entries = is_legal local_gives (meant d) (reverse entries)

-- a job of the main flow, or a list or fault of its iteration
abbrev pub spot_of : Name → Place → JobName
spot_of s q = (s, q) ∷ []

-- its first try is handed out, and comes out right or wrong
abbrev pub out_first : JobName → Entry
out_first n = handed_out n 0 0

abbrev pub in_right : JobName → Entry
in_right n = accepted n 0 0 true

abbrev pub in_wrong : JobName → Entry
in_wrong n = accepted n 0 0 false

abbrev pub u : JobName
u = spot_of (codes "u") []

abbrev pub p0 : JobName
p0 = spot_of (codes "p") (0 ∷ [])

abbrev pub p1 : JobName
p1 = spot_of (codes "p") (1 ∷ [])

abbrev pub q0 : JobName
q0 = spot_of (codes "q") (0 ∷ [])

abbrev pub q1 : JobName
q1 = spot_of (codes "q") (1 ∷ [])

abbrev pub list_p : JobName
list_p = spot_of (codes "p") []

abbrev pub list_q : JobName
list_q = spot_of (codes "q") []

-- ---- tries

abbrev pub EndsAfterItsJob : Type 0
EndsAfterItsJob =
    (is_legal_run one_text (out_first u ∷ in_right u ∷ ended [] ∷ []) ≡ true)
    × (is_legal_run one_text (out_first u ∷ ended [] ∷ []) ≡ false)

abbrev pub ReadsTotalsOff : Type 0
ReadsTotalsOff =
    read_totals (reverse (out_first u ∷ in_right u ∷ ended [] ∷ [])) (meant one_text).jobs
    ≡ record { attempts = 1; bounced = 0; failed = 0; jobs = 1 }

abbrev pub AcceptsOnce : Type 0
AcceptsOnce = is_legal_run one_text (out_first u ∷ in_right u ∷ in_right u ∷ []) ≡ false

abbrev pub AcceptsWhatIsOut : Type 0
AcceptsWhatIsOut = is_legal_run one_text (in_right u ∷ []) ≡ false

-- the outcome is right, and is no other than it is
abbrev pub JudgesAsItCame : Type 0
JudgesAsItCame = is_legal_run one_text (out_first u ∷ in_wrong u ∷ []) ≡ false

abbrev pub HandsOutOnce : Type 0
HandsOutOnce = is_legal_run one_text (out_first u ∷ out_first u ∷ []) ≡ false

abbrev pub e : JobName
e = spot_of (codes "e") []

-- the next try is the next attempt, and after the last one the next activity
abbrev pub TriesInTurn : Type 0
TriesInTurn =
    (is_legal_run failing_over (out_first e ∷ in_wrong e ∷ handed_out e 0 1 ∷ accepted e 0 1 false
    ∷ handed_out e 1 0 ∷ accepted e 1 0 true ∷ ended [] ∷ []) ≡ true)
    × (is_legal_run failing_over (out_first e ∷ in_wrong e ∷ out_first e ∷ []) ≡ false)
    × (is_legal_run failing_over (out_first e ∷ in_wrong e ∷ handed_out e 1 0 ∷ []) ≡ false)

-- ---- recalls

-- with the same try as before
abbrev pub HandsOutAgainAfterRecall : Type 0
HandsOutAgainAfterRecall =
    is_legal_run two_steps (out_first p0 ∷ recalled 1 ∷ out_first p0 ∷ in_right p0 ∷ []) ≡ true

abbrev pub TakesNoRecalledAnswer : Type 0
TakesNoRecalledAnswer = is_legal_run two_steps (out_first p0 ∷ recalled 1 ∷ in_right p0 ∷ [])
    ≡ false

-- all that is out is recalled, where something is
abbrev pub RecallsAllThatIsOut : Type 0
RecallsAllThatIsOut =
    (is_legal_run two_steps (out_first p0 ∷ recalled 2 ∷ []) ≡ false)
    × (is_legal_run two_steps (recalled 0 ∷ []) ≡ false)

-- ---- job order

-- the second step takes the first item while the first step's list is open, and before its second item
abbrev pub StreamsWhileListIsOpen : Type 0
StreamsWhileListIsOpen =
    (is_legal_run two_steps (out_first p0 ∷ in_right p0 ∷ out_first q0 ∷ []) ≡ true)
    × (is_legal_run two_steps (out_first p0 ∷ in_right p0 ∷ out_first p1 ∷ []) ≡ false)

abbrev pub TakesFirstJob : Type 0
TakesFirstJob = is_legal_run two_steps (out_first p1 ∷ []) ≡ false

-- a step may have so many jobs at a time
abbrev pub KeepsLimitOfJobs : Type 0
KeepsLimitOfJobs =
    (is_legal_run two_steps (out_first p0 ∷ out_first p1 ∷ []) ≡ false)
    × (is_legal_run (two_steps_with 2) (out_first p0 ∷ out_first p1 ∷ in_right p1 ∷ in_right p0
    ∷ []) ≡ true)

-- a worker at each step: the second step's outcome comes before the first one's
abbrev pub WorksOnBothSteps : Type 0
WorksOnBothSteps =
    is_legal_run two_steps (out_first p0 ∷ in_right p0 ∷ out_first q0 ∷ out_first p1 ∷ in_right q0
    ∷ in_right p1 ∷ [])
    ≡ true

-- where outcomes come in another order, so do the jobs on them
abbrev pub TakesItemsAsTheyCome : Type 0
TakesItemsAsTheyCome =
    is_legal_run (two_steps_with 2) (out_first p0 ∷ out_first p1 ∷ in_right p1 ∷ out_first q1
    ∷ in_right q1 ∷ in_right p0 ∷ out_first q0 ∷ [])
    ≡ true

-- ---- lists and faults

-- the list of the input is known from the start, with its length and no other
abbrev pub ClosesKnownList : Type 0
ClosesKnownList =
    (is_legal_run two_steps (closed list_p 2 ∷ []) ≡ true)
    × (is_legal_run two_steps (closed list_p 3 ∷ []) ≡ false)

abbrev pub ClosesAfterItsSources : Type 0
ClosesAfterItsSources =
    (is_legal_run two_steps (closed list_p 2 ∷ closed list_q 2 ∷ []) ≡ true)
    × (is_legal_run two_steps (closed list_q 2 ∷ []) ≡ false)

abbrev pub ClosesOnce : Type 0
ClosesOnce = is_legal_run two_steps (closed list_p 2 ∷ closed list_p 2 ∷ []) ≡ false

-- the lists of a list of lists, each with its own length
abbrev pub ClosesInnerLists : Type 0
ClosesInnerLists =
    (is_legal_run nested_lists
    (closed u 3 ∷ closed (spot_of (codes "u") (1 ∷ [])) 0
    ∷ closed (spot_of (codes "u") (0 ∷ [])) 1 ∷ closed (spot_of (codes "u") (2 ∷ [])) 2 ∷ [])
    ≡ true)
    × (is_legal_run nested_lists (closed (spot_of (codes "u") (1 ∷ [])) 0 ∷ closed u 3 ∷ []) ≡ true)
    × (is_legal_run nested_lists (closed (spot_of (codes "u") (1 ∷ [])) 1 ∷ []) ≡ false)
    × (is_legal_run nested_lists (closed (spot_of (codes "u") (3 ∷ [])) 0 ∷ []) ≡ false)

-- a fault in the place of a list is passed once it is made, and not closed
abbrev pub PassesMadeFault : Type 0
PassesMadeFault =
    (is_legal_run list_fails (out_first (spot_of (codes "r") []) ∷ in_wrong (spot_of (codes "r") [])
    ∷ fault_passed u ∷ ended [] ∷ []) ≡ true)
    × (is_legal_run list_fails (fault_passed u ∷ []) ≡ false)
    × (is_legal_run list_fails
    (out_first (spot_of (codes "r") []) ∷ in_wrong (spot_of (codes "r") []) ∷ closed u 0 ∷ [])
    ≡ false)

abbrev pub f0 : JobName
f0 = spot_of (codes "f") (0 ∷ [])

abbrev pub f1 : JobName
f1 = spot_of (codes "f") (1 ∷ [])

abbrev pub u0 : JobName
u0 = spot_of (codes "u") (0 ∷ [])

abbrev pub u1 : JobName
u1 = spot_of (codes "u") (1 ∷ [])

-- a job on a fault is bounced once the fault is made, though the step's one place is taken
abbrev pub BouncesJobOnFault : Type 0
BouncesJobOnFault =
    (is_legal_run one_fails (out_first f0 ∷ in_right f0 ∷ out_first u0 ∷ out_first f1 ∷ in_wrong f1
    ∷ bounced u1 ∷ []) ≡ true)
    × (is_legal_run one_fails (out_first f0 ∷ in_right f0 ∷ out_first u0 ∷ out_first f1 ∷ bounced u1
    ∷ []) ≡ false)
    × (is_legal_run one_fails (out_first f0 ∷ in_right f0 ∷ bounced u0 ∷ []) ≡ false)

-- ---- instances

abbrev pub n0 : JobName
n0 = spot_of (codes "n") (0 ∷ [])

abbrev pub n1 : JobName
n1 = spot_of (codes "n") (1 ∷ [])

-- the job u of the flow that the job n[0] opens
abbrev pub inner : JobName
inner = (codes "n", 0 ∷ []) ∷ (codes "u", []) ∷ []

-- a flow is opened where nothing is left to settle, in job order
abbrev pub OpensInJobOrder : Type 0
OpensInJobOrder =
    (is_legal_run opening (closed (spot_of (codes "n") []) 3 ∷ opened n0 ∷ []) ≡ true)
    × (is_legal_run opening (opened n0 ∷ []) ≡ false)
    × (is_legal_run opening (closed (spot_of (codes "n") []) 3 ∷ opened n1 ∷ []) ≡ false)

-- an instance ends after the jobs inside it, and once
abbrev pub EndsInstanceAfterItsJobs : Type 0
EndsInstanceAfterItsJobs =
    (is_legal_run opening (closed (spot_of (codes "n") []) 3 ∷ opened n0 ∷ out_first inner
    ∷ in_right inner ∷ ended n0 ∷ []) ≡ true)
    × (is_legal_run opening (closed (spot_of (codes "n") []) 3 ∷ opened n0 ∷ out_first inner
    ∷ ended n0 ∷ []) ≡ false)
    × (is_legal_run opening (closed (spot_of (codes "n") []) 3 ∷ opened n0 ∷ out_first inner
    ∷ in_right inner ∷ ended n0 ∷ ended n0 ∷ []) ≡ false)

abbrev pub EndsAfterItsSteps : Type 0
EndsAfterItsSteps = is_legal_run two_steps (ended [] ∷ []) ≡ false
