-- Which jobs of an open instance are ready, which lists and faults can be settled, and whether it can end, by what it was told.
use Rattle.std.specs.List.{list_all}
use Rattle.std.specs.Prelude.{◌&&◌, not, Bool, List}
use Rattle.tv_value.specs.Nested.{Place}
use Rattle.tv_value.specs.Values.{JobName, Name}
use Rattle.tv_strategy.specs.Origins.{Origin}
use Rattle.tv_model.specs.instance.ByResults.{InstanceStep}
use Rattle.tv_model.specs.instance.Endings.{has_ended, have_ended}
use Rattle.tv_model.specs.instance.Events.{Events, has_level, has_result, is_taken, known_by}

module _ (instance : JobName) (es : Events) where
  abbrev pub are_known : List Origin → Bool
  are_known os = list_all (known_by instance es) os

  -- the job at this place of the step: it neither runs nor has a result, its sources are known, and the steps that it runs after
  -- have ended
  abbrev pub ready_by : List InstanceStep → List Name → Name → Place → List Origin → Bool
  ready_by fs after s q sources =
      not (is_taken es s q) && not (has_result es s q)
      && (are_known sources && have_ended (known_by instance es) fs after)

  -- the list or passed fault there
  abbrev pub settles_by : Name → Place → List Origin → Bool
  settles_by s q sources = not (has_level es s q) && are_known sources

  abbrev pub ends_by : List InstanceStep → Bool
  ends_by fs = list_all (has_ended (known_by instance es)) fs
