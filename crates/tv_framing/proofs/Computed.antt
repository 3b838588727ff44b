-- The worked examples compute.
use Rattle.std.specs.Prelude.{refl}
use Rattle.tv_framing.specs.Worked.{MakesJobsKnown, ShowsParts, TellsPorts}

pub shows-parts : ShowsParts
shows-parts = record { nothing = refl; second = refl; length = refl; all = refl }

pub tells-ports : TellsPorts
tells-ports =
    record { walked = refl; taken_whole = refl; lists_of_merge = refl; items_of_merge = refl; other_step = refl; list_closed = refl }

pub makes-jobs_known : MakesJobsKnown
makes-jobs_known = record { start = refl; none = refl; last = refl }
