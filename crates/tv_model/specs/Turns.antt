-- The order of one worker: again and again the first job whose needs are done.
use Rattle.std.specs.List.{list_all, list_any}
use Rattle.std.specs.Option.{option_map_or}
use Rattle.std.specs.Prelude.{Bool, List, None, Option, Some, [], false, filter, if◌then◌else◌, length, map, not, option_map, suc, true, zero, ℕ, ◌++◌, ◌∷◌}
use Rattle.tv_value.specs.Orders.{same_job}
use Rattle.tv_value.specs.Values.{JobName}
use Rattle.tv_dispatch.specs.Jobs.{Ask}
use Rattle.tv_model.specs.Jobs.{Ending, Job, bounced_end, failed_end, good_end, job_needs}
use Rattle.tv_model.specs.Lists.{first_of_list}
use Rattle.tv_model.specs.Made.{Meaning}

-- a job, the jobs that must be done before it, and its asks with those inside
pub record Turn : Type 0 where
  pub name : JobName
  pub needs : List JobName
  pub asks : List (JobName × Ask)

abbrev pub all_done : List JobName → List JobName → Bool
all_done done needs = list_all (λ n. list_any (same_job n) done) needs

-- the first whose needs are done, and the others
abbrev pub first_turn : List JobName → List Turn → Option (Turn × List Turn)
first_turn done [] = None
first_turn done (t ∷ ts) =
    let later = option_map (λ r. (r.0, t ∷ r.1)) (first_turn done ts) in
    if all_done done t.needs then Some (t, ts) else later

-- again and again the first whose needs are done, for so many turns
abbrev pub asks_by_turns : ℕ → List JobName → List Turn → List (JobName × Ask)
asks_by_turns zero done ts = []
asks_by_turns (suc n) done ts =
    option_map_or (λ r. r.0.asks ++ asks_by_turns n (r.0.name ∷ done) r.1) (first_turn done ts) []

-- ---- the turns of jobs

abbrev pub is_bounced : Ending → Bool
is_bounced good_end = false
is_bounced failed_end = false
is_bounced bounced_end = true

abbrev pub is_failed : Ending → Bool
is_failed good_end = false
is_failed failed_end = true
is_failed bounced_end = false

abbrev pub asks_of : Job → List (JobName × Ask)
asks_of j = map (λ a. (j.name, a)) j.asks

-- a job with the asks of what it opens
abbrev pub job_turn : Job → List (JobName × Ask) → Turn
job_turn j within = record { name = j.name; needs = job_needs j; asks = asks_of j ++ within }

-- bounced jobs first, then the others in job order; `job_of` is the job of an item
abbrev pub bounced_first : {A : Type 0} → (A → Job) → List A → List A
bounced_first job_of xs =
    filter (λ x. is_bounced (job_of x).ending) xs
    ++ filter (λ x. not (is_bounced (job_of x).ending)) xs

-- ---- instances within each other

module _ (js : List Job) where
  -- those of an instance
  abbrev pub jobs_in : JobName → List Job
  jobs_in I = filter (λ j. same_job j.instance I) js

  -- the asks of an instance; those of an instance inside it stand where its job's turn is. It goes so many levels down
  abbrev pub order_in : ℕ → JobName → List (JobName × Ask)
  order_in zero I = []
  order_in (suc levels) I =
      let own = jobs_in I in
      asks_by_turns (length own) [] (map (λ j. job_turn j (order_in levels j.name))
      (bounced_first (λ j. j) own))

-- the order of a meaning is that of its own instance; no level is without an instance
abbrev pub ask_order : Meaning → List (JobName × Ask)
ask_order m =
    option_map_or (λ i. order_in m.jobs (length m.instances) i.name) (first_of_list m.instances) []
