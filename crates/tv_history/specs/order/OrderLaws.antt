-- The laws of job order, for every document and all services.
use Rattle.std.specs.Prelude.{List, false, true, ℕ, ◌≡◌}
use Rattle.tv_value.specs.Nested.{Place}
use Rattle.tv_value.specs.Values.{JobName, Name}
use Rattle.tv_gate.specs.Outcomes.{Giving}
use Rattle.tv_flow.specs.Flows.{Document, Flow}
use Rattle.tv_model.specs.Jobs.{Job}
use Rattle.tv_model.specs.Meanings.{nesting_limit}
use Rattle.tv_history.specs.order.FirstIn.{StandsBefore}
use Rattle.tv_model.specs.JobOrder.{AllPairs, job_before, spot_before, steps_at}
use Rattle.tv_history.specs.order.Moments.{IsJob, StandsAt, all_jobs}

-- the jobs of a meaning stand in job order
abbrev pub JobsAreInOrder : Type 0
JobsAreInOrder =
    (gives : Giving) (d : Document)
    → AllPairs (λ j k. job_before d.flows nesting_limit d.main j.name k.name ≡ true)
    (all_jobs gives d)

-- no two names stand before each other
abbrev pub OrderIsStrict : Type 0
OrderIsStrict =
    (flows : List (Name × Flow)) (levels : ℕ) (f : Name) (a b : JobName)
    → job_before flows levels f a b ≡ true
    → job_before flows levels f b a ≡ false

-- two jobs of one instance stand in the meaning as their steps and places say
abbrev pub InstancesAreInOrder : Type 0
InstancesAreInOrder =
    (gives : Giving) (d : Document) (I : JobName) (j k : Job)
    → IsJob gives d j
    → IsJob gives d k
    → (x y : Name × Place)
    → StandsAt j I x
    → StandsAt k I y
    → spot_before (steps_at d.flows nesting_limit d.main I) x y ≡ true
    → StandsBefore j k (all_jobs gives d)
