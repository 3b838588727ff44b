-- The laws of the walk to the first job that goes on, for every document, all services and every legal history.
use Rattle.std.specs.Prelude.{Bool, List, None, [], false, find, length, suc, ◌*◌, ◌≡◌, ◌≤◌}
use Rattle.tv_value.specs.Values.{JobName}
use Rattle.tv_gate.specs.Outcomes.{Giving}
use Rattle.tv_flow.specs.Flows.{Document}
use Rattle.tv_model.specs.Jobs.{Job}
use Rattle.tv_model.specs.Meanings.{meaning, nesting_limit}
use Rattle.tv_history.specs.Entries.{History, opened}
use Rattle.tv_history.specs.Going.{IsWellFormed}
use Rattle.tv_history.specs.Histories.{has_open_instance, is_legal_after, is_open, may_go_on}
use Rattle.tv_history.specs.order.FirstIn.{AreHeld, entered_in, first_in, own_jobs}
use Rattle.tv_history.specs.order.Moments.{IsJob, IsLegal, IsOpen, IsQuiet, all_jobs, goes_on, has_offer, tries_out}

-- while the main instance is open, walking down from it finds the first job that passes, whatever else is held
abbrev pub Finds : Giving → Document → History → (Job → Bool) → Type 0
Finds gives d past passes =
    IsLegal gives d past
    → IsOpen past []
    → (held : JobName → List Job)
    → AreHeld (meaning gives d) past held passes
    → first_in held (has_open_instance past) passes nesting_limit []
    ≡ find passes (all_jobs gives d)

-- the first offered ask
abbrev pub FirstOfferedIsFound : Type 0
FirstOfferedIsFound = (gives : Giving) (d : Document) (past : History)
    → Finds gives d past (has_offer gives d past)

-- the first job that is offered or can open its flow
abbrev pub FirstGoingIsFound : Type 0
FirstGoingIsFound = (gives : Giving) (d : Document) (past : History)
    → Finds gives d past (goes_on gives d past)

-- who is offered or can open its flow is idle, or ready, unbounced and with a free place
abbrev pub GoingIsPlain : Type 0
GoingIsPlain =
    (gives : Giving) (d : Document) (past : History)
    → IsLegal gives d past
    → (j : Job)
    → IsJob gives d j
    → goes_on gives d past j ≡ may_go_on (meaning gives d) past j

-- where nothing can be settled or opened, the first job that goes on is the first that is offered
abbrev pub FirstGoingIsOffered : Type 0
FirstGoingIsOffered =
    (gives : Giving) (d : Document) (past : History)
    → IsQuiet gives d past
    → ((n : JobName) → is_legal_after gives (meaning gives d) past (opened n) ≡ false)
    → find (has_offer gives d past) (all_jobs gives d)
    ≡ find (goes_on gives d past) (all_jobs gives d)

-- where the main instance isn't open, nothing goes on
abbrev pub NothingGoesOnAtEnd : Type 0
NothingGoesOnAtEnd =
    (gives : Giving) (d : Document) (past : History)
    → IsLegal gives d past
    → is_open past [] ≡ false
    → find (goes_on gives d past) (all_jobs gives d) ≡ None

-- all jobs of each instance may be held
abbrev pub OwnAreHeld : Type 0
OwnAreHeld =
    (gives : Giving) (d : Document) (past : History) (passes : Job → Bool)
    → AreHeld (meaning gives d) past (own_jobs (meaning gives d)) passes

-- where nothing can be settled, the walk to the first job that goes on enters at most eight instances, and
-- eight more for each try that is out
abbrev pub FewAreEntered : Type 0
FewAreEntered =
    (gives : Giving) (d : Document)
    → IsWellFormed d
    → (past : History)
    → IsLegal gives d past
    → IsQuiet gives d past
    → IsOpen past []
    → (held : JobName → List Job)
    → AreHeld (meaning gives d) past held (goes_on gives d past)
    → length (entered_in held (has_open_instance past) (goes_on gives d past) nesting_limit [])
    ≤ nesting_limit * suc (tries_out gives d past)
