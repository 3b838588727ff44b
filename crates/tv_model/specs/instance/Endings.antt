-- Which steps of an instance have ended, by a test of what is known; and which nodes are the instance's own.
use Rattle.std.specs.List.{list_all}
use Rattle.std.specs.Prelude.{◌≡◌, Bool, true, List, if◌then◌else◌}
use Rattle.tv_value.specs.Nested.{Place}
use Rattle.tv_value.specs.Values.{JobName, Name}
use Rattle.tv_strategy.specs.Origins.{Known, Origin, at_start, by_job, by_level}
use Rattle.tv_model.specs.instance.Ranks.{is_among}
use Rattle.tv_model.specs.instance.Steps.{spot}
use Rattle.tv_model.specs.instance.ByResults.{InstanceStep}

module _ (known : Origin → Bool) where
  -- a step has ended where all nodes of its ending are known
  abbrev pub has_ended : InstanceStep → Bool
  has_ended f = list_all known f.step.ending

  -- of these steps those that are named have ended
  abbrev pub have_ended : List InstanceStep → List Name → Bool
  have_ended fs ns = list_all (λ f. if is_among ns f.step.step then has_ended f else true) fs

-- a node of a step of this instance, or one that is known from the start
abbrev pub IsOwn : JobName → Known → Type 0
IsOwn instance at_start = Unit {0}
IsOwn instance (by_job n) = (s : Name) × (q : Place) × (n ≡ spot instance s q)
IsOwn instance (by_level n) = (s : Name) × (q : Place) × (n ≡ spot instance s q)
