-- The jobs of a meaning.
use Rattle.std.specs.Prelude.{List, Option, ℕ}
use Rattle.tv_value.specs.Values.{JobName, Name, Value}
use Rattle.tv_strategy.specs.Origins.{Origin, Traced, needs_of}
use Rattle.tv_dispatch.specs.Jobs.{Ask}

pub data Ending : Type 0 where
  good_end : Ending
  failed_end : Ending
  bounced_end : Ending

pub record Job : Type 0 where
  pub name : JobName
  pub instance : JobName
  pub step : Name
  pub limit : ℕ
  pub inputs : List Traced
  -- the nodes that must be known before it is ready
  pub waits : List Origin
  pub asks : List Ask
  pub opens : Option Name
  pub ending : Ending
  pub result : List Value

-- the jobs that must be settled before it is ready
abbrev pub job_needs : Job → List JobName
job_needs j = needs_of j.waits
