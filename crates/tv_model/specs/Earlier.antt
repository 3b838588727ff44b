-- That the needs of a job name only jobs of steps that were taken earlier.
use Rattle.std.specs.List.{list_any}
use Rattle.std.specs.Prelude.{Bool, List, [], flat_map, true, ◌∷◌, ◌≡◌}
use Rattle.tv_lemmas.specs.Members.{Each}
use Rattle.tv_value.specs.Orders.{same_job}
use Rattle.tv_value.specs.Values.{JobName}
use Rattle.tv_model.specs.Jobs.{job_needs}
use Rattle.tv_model.specs.Made.{Made, Opened}

abbrev pub job_list : List Made → List Opened
job_list ms = flat_map (λ m. m.jobs) ms

abbrev pub is_name_of : JobName → Opened → Bool
is_name_of n o = same_job n o.job.name

abbrev pub has_job : List Made → JobName → Bool
has_job ms n = list_any (is_name_of n) (job_list ms)

-- each job needs only jobs of the steps after it in this list, which were taken before it
abbrev pub NeedEarlier : List Made → Type 0
NeedEarlier [] = Unit {0}
NeedEarlier (m ∷ ms) =
    Each (λ o. Each (λ n. has_job ms n ≡ true) (job_needs o.job)) m.jobs × NeedEarlier ms
