-- What is seen of the steps of an instance.
use Rattle.std.specs.BTreeMap.{get}
use Rattle.std.specs.BTreeSet.{BTreeSet, contains}
use Rattle.std.specs.Prelude.{Bool, true, ◌∷◌, ℕ, Option, None, Some, option_map}
use Rattle.tv_value.specs.Nested.{Place}
use Rattle.tv_value.specs.Orders.{place_cmp}
use Rattle.tv_frame.specs.Levels as levels
use Rattle.tv_frame.specs.Levels.{closed}
use Rattle.tv_frame.specs.declared.level.Level.{Level}
use Rattle.tv_traces.specs.Seen.{Spot}
use Rattle.tv_traces.specs.Tables.{told_or}
use Rattle.tv_traces.specs.Tabled.{told_in}
use Rattle.tv_traces.specs.declared.settled.SettledJob.{SettledJob}
use Rattle.tv_traces.specs.declared.sight.Sight.{Sight}

-- a settled job
abbrev pub job_view : SettledJob → Spot
job_view j = (j.step, j.place)

-- where a level stands
abbrev pub level_spot : Level → Spot
level_spot l = (l.step, l.place)

-- the number of the step stands in front of the place
abbrev pub grown_in : (Place → Option ℕ) → ℕ → Place → Option levels.What
grown_in found n q = option_map closed (found (n ∷ q))

abbrev pub done_by : Option (BTreeSet Place) → ℕ → Place → Bool
done_by None n q = true
done_by (Some ps) n q = contains place_cmp ps (n ∷ q)

abbrev pub what_in : Sight → ℕ → Place → Option levels.What
what_in v = told_or (told_in (get place_cmp v.table)) (grown_in (get place_cmp v.grown))

abbrev pub done_in : Sight → ℕ → Place → Bool
done_in v = done_by v.jobs
