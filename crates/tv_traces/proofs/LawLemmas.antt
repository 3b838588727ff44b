-- The laws as they are stated.
use Rattle.std.specs.Prelude.{refl}
use Rattle.tv_traces.specs.Stated.{MainIsKnown, RecordsAreOfMainJobs, SoFarIsSeen, StagesGoOn, WholeIsSeen}
use Rattle.tv_traces.proofs.Adding.{stage-end, stage-next}
use Rattle.tv_traces.proofs.Known.{main-known}
use Rattle.tv_traces.proofs.Tables.{so_far-seen, whole-seen}

pub stages-go_on : StagesGoOn
stages-go_on gives d flow is known settled what done seen n r s here rank old now us more stage u walked at_n others =
    stage-next gives d flow is known settled what done seen n r s here rank old now us more stage _ refl u walked at_n others

pub records-are_of_main_jobs : RecordsAreOfMainJobs
records-are_of_main_jobs gives d flow is known settled k us stage = stage-end gives d flow is known settled k us stage

pub whole-is_seen : WholeIsSeen
whole-is_seen = whole-seen

pub so_far-is_seen : SoFarIsSeen
so_far-is_seen = so_far-seen

pub main-is_known : MainIsKnown
main-is_known = main-known
