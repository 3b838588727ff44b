-- The worked examples compute.
use Rattle.std.specs.Prelude.{refl}
use Rattle.tv_framing.specs.matches.Worked.{FindsParts, SortsOutcomes}

pub finds-parts : FindsParts
finds-parts = record { first = refl; second = refl; first_fails = refl; second_fails = refl; paired = refl }

pub sorts-outcomes : SortsOutcomes
sorts-outcomes =
    record { jobs = refl; by_places = refl; at_first = refl; list_closed = refl; other_step = refl; both = refl; job_runs = refl }
