-- What follows at a step, sorted into jobs and other things, each with its position.
use Rattle.std.specs.Prelude.{ℕ, suc, Bool, true, false, List, [], ◌∷◌, ◌++◌, drop, length, map}
use Rattle.tv_value.specs.Nested.{Place}
use Rattle.tv_matching.specs.Matchers.{Outcome, job_at, list_at, fault_at}
use Rattle.tv_matching.specs.Told.{faulty_at}
use Rattle.tv_match.specs.declared.kinds.Kind.{Kind}
use Rattle.tv_match.specs.declared.kinds.Kind.TheVariants.{Job, Closed, Passed}
use Rattle.tv_match.specs.declared.matchers.Matcher.{Matcher}
use Rattle.tv_match.specs.Ahead.{in_order_ahead}
use Rattle.tv_match.specs.Seen.{in_order, matching}
use Rattle.tv_intake.specs.declared.found.Found.{Found}

-- the positions of the jobs, where the first of these has position i
abbrev pub job_positions : ℕ → List Outcome → List ℕ
job_positions i [] = []
job_positions i (job_at q ∷ os) = i ∷ job_positions (suc i) os
job_positions i (list_at q n ∷ os) = job_positions (suc i) os
job_positions i (fault_at q l ∷ os) = job_positions (suc i) os

-- and of lists and passed faults
abbrev pub other_positions : ℕ → List Outcome → List ℕ
other_positions i [] = []
other_positions i (job_at q ∷ os) = other_positions (suc i) os
other_positions i (list_at q n ∷ os) = i ∷ other_positions (suc i) os
other_positions i (fault_at q l ∷ os) = i ∷ other_positions (suc i) os

-- how many jobs there are
abbrev pub jobs_among : List Outcome → ℕ
jobs_among [] = 0
jobs_among (job_at q ∷ os) = suc (jobs_among os)
jobs_among (list_at q n ∷ os) = jobs_among os
jobs_among (fault_at q l ∷ os) = jobs_among os

-- their places, in order
abbrev pub job_places : List Outcome → List Place
job_places [] = []
job_places (job_at q ∷ os) = q ∷ job_places os
job_places (list_at q n ∷ os) = job_places os
job_places (fault_at q l ∷ os) = job_places os

-- the lists and passed faults among them
abbrev pub others_among : List Outcome → List Outcome
others_among [] = []
others_among (job_at q ∷ os) = others_among os
others_among (list_at q n ∷ os) = list_at q n ∷ others_among os
others_among (fault_at q l ∷ os) = fault_at q l ∷ others_among os

abbrev pub found_at : ℕ → ℕ → Found
found_at s i = record { step = s; at = i }

-- those of step s
abbrev pub found_jobs : ℕ → ℕ → List Outcome → List Found
found_jobs s i os = map (found_at s) (job_positions i os)

abbrev pub found_others : ℕ → ℕ → List Outcome → List Found
found_others s i os = map (found_at s) (other_positions i os)

-- what the held tellings of a matcher bring
abbrev pub brought : Matcher → List Outcome
brought m = drop (length (in_order m)) (in_order_ahead m)

-- whether the job at a place binds a value that is told to hold a fault, held tellings counted
abbrev pub faulty_ahead : Matcher → Place → Bool
faulty_ahead m q = faulty_at (matching m).strategy ((matching m).told ++ (matching m).held) q

-- ---- by the kind of one of them

abbrev pub if_job : Kind → Found → List Found
if_job (Job b) f = f ∷ []
if_job (Closed n) f = []
if_job (Passed l) f = []

abbrev pub if_other : Kind → Found → List Found
if_other (Job b) f = []
if_other (Closed n) f = f ∷ []
if_other (Passed l) f = f ∷ []

abbrev pub job_count : Kind → ℕ
job_count (Job b) = 1
job_count (Closed n) = 0
job_count (Passed l) = 0

abbrev pub good_count : Kind → ℕ
good_count (Job false) = 1
good_count (Job true) = 0
good_count (Closed n) = 0
good_count (Passed l) = 0

abbrev pub faulty_count : Kind → ℕ
faulty_count (Job false) = 0
faulty_count (Job true) = 1
faulty_count (Closed n) = 0
faulty_count (Passed l) = 0
