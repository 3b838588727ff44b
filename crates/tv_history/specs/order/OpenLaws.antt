-- The laws of open instances, for every document, all services and every legal history.
use Rattle.std.specs.Prelude.{List, count_by, false, length, suc, true, ◌&&◌, ◌*◌, ◌++◌, ◌||◌, ◌∷◌, ◌≡◌, ◌≤◌}
use Rattle.tv_lemmas.specs.Members.{In}
use Rattle.tv_value.specs.Nested.{Place}
use Rattle.tv_value.specs.Values.{JobName, Name}
use Rattle.tv_gate.specs.Outcomes.{Giving}
use Rattle.tv_flow.specs.Flows.{Document}
use Rattle.tv_model.specs.Agreeing.{NestsWithin}
use Rattle.tv_model.specs.Jobs.{Job}
use Rattle.tv_model.specs.Meanings.{meaning, nesting_limit}
use Rattle.tv_history.specs.Entries.{History, is_out}
use Rattle.tv_history.specs.Going.{IsWellFormed}
use Rattle.tv_history.specs.Histories.{has_open_instance, instances, is_running, may_go_on}
use Rattle.tv_history.specs.order.Chains.{AreNested, is_by_one_from, is_inside}
use Rattle.tv_model.specs.JobOrder.{Apart, limit_at}
use Rattle.tv_history.specs.order.Moments.{IsJob, IsLegal, IsOpen, IsQuiet, all_jobs, goes_on, is_beside, tries_out}

-- ---- where they are

-- a job whose flow is open
pub record Opener (gives : Giving) (d : Document) (past : History) (j : Job) : Type 0 where
  pub in_open : IsOpen past j.instance
  pub running : is_running past j ≡ true
  pub waits : may_go_on (meaning gives d) past j ≡ false

-- the instance round an open one is open, and the job that opened it runs and doesn't go on itself
abbrev pub OpenersRun : Type 0
OpenersRun =
    (gives : Giving) (d : Document) (past : History)
    → IsLegal gives d past
    → (j : Job)
    → IsJob gives d j
    → has_open_instance past j ≡ true
    → Opener gives d past j

-- what goes on stands in an open instance
abbrev pub GoingIsInside : Type 0
GoingIsInside =
    (gives : Giving) (d : Document) (past : History)
    → IsLegal gives d past
    → (j : Job)
    → IsJob gives d j
    → may_go_on (meaning gives d) past j ≡ true
    → IsOpen past j.instance

-- ---- limits of steps

-- of the jobs beside j at most its limit run, and as many at most have an open instance
pub record Limits (gives : Giving) (d : Document) (past : History) (j : Job) : Type 0 where
  pub running : count_by (λ k. is_beside j k && is_running past k) (all_jobs gives d) ≤ j.limit
  pub open_within : count_by (λ k. is_beside j k && has_open_instance past k) (all_jobs gives d)
      ≤ j.limit

abbrev pub StepsKeepLimits : Type 0
StepsKeepLimits =
    (gives : Giving) (d : Document) (past : History)
    → IsLegal gives d past
    → (j : Job)
    → IsJob gives d j
    → Limits gives d past j

-- jobs of one step in one instance have one limit
abbrev pub StepsHaveOneLimit : Type 0
StepsHaveOneLimit =
    (gives : Giving) (d : Document) (j k : Job)
    → IsJob gives d j
    → IsJob gives d k
    → is_beside j k ≡ true
    → k.limit ≡ j.limit

-- it is the one that the document says of the step to which the instance's name leads
abbrev pub LimitsAreStated : Type 0
LimitsAreStated =
    (gives : Giving) (d : Document) (j : Job)
    → IsJob gives d j
    → j.limit ≡ limit_at d.flows nesting_limit d.main j.instance j.step

-- ---- one worker

-- a legal history: what one worker appended to one in which no job runs
pub record IsAlone (gives : Giving) (d : Document) (base es : History) : Type 0 where
  pub idle : (j : Job) → IsJob gives d j → is_running base j ≡ false
  pub legal : IsLegal gives d (es ++ base)
  pub by_one : is_by_one_from (meaning gives d) base es ≡ true

-- of two open instances one stands in the other
abbrev pub OpenIsOneChain : Type 0
OpenIsOneChain =
    (gives : Giving) (d : Document)
    → IsWellFormed d
    → (base es : History)
    → IsAlone gives d base es
    → (j k : Job)
    → IsJob gives d j
    → IsJob gives d k
    → has_open_instance (es ++ base) j ≡ true
    → has_open_instance (es ++ base) k ≡ true
    → AreNested j.name k.name

-- at most eight are open, with the main one
abbrev pub ChainIsShort : Type 0
ChainIsShort =
    (gives : Giving) (d : Document)
    → IsWellFormed d
    → NestsWithin d.flows nesting_limit d.main
    → (base es : History)
    → IsAlone gives d base es
    → suc (count_by (has_open_instance (es ++ base)) (all_jobs gives d)) ≤ nesting_limit

-- ---- many workers

-- a job inside the instance J that goes on, or has a try out
pub record BusyJob (gives : Giving) (d : Document) (past : History) (J : JobName) : Type 0 where
  pub job : Job
  pub is_job : IsJob gives d job
  pub within : (c : Name × Place) × (r : JobName) × (job.name ≡ J ++ c ∷ r)
  pub busy : (goes_on gives d past job || is_out past job.name) ≡ true

-- where nothing can be settled, each open instance has one inside
abbrev pub OpenIsBusy : Type 0
OpenIsBusy =
    (gives : Giving) (d : Document)
    → IsWellFormed d
    → (past : History)
    → IsLegal gives d past
    → IsQuiet gives d past
    → (J : JobName)
    → IsOpen past J
    → In J (instances (meaning gives d))
    → BusyJob gives d past J

-- an open instance inside which nothing goes on
pub record IsStill (gives : Giving) (d : Document) (past : History) (J : JobName) : Type 0 where
  pub is_open : IsOpen past J
  pub is_instance : In J (instances (meaning gives d))
  pub still : (k : Job) → IsJob gives d k → is_inside J k.name ≡ true
      → goes_on gives d past k ≡ false

-- where nothing can be settled, they are at most eight for each try that is out
abbrev pub FewAreStill : Type 0
FewAreStill =
    (gives : Giving) (d : Document)
    → IsWellFormed d
    → (past : History)
    → IsLegal gives d past
    → IsQuiet gives d past
    → (Js : List JobName)
    → Apart (λ J. J) Js
    → ((J : JobName) → In J Js → IsStill gives d past J)
    → length Js ≤ nesting_limit * tries_out gives d past
