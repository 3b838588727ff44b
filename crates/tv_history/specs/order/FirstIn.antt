-- The first job that passes a test, found by walking down from an instance: its jobs in order, and into those
-- whose flow is open.
use Rattle.std.specs.Option.{option_or}
use Rattle.std.specs.Prelude.{Bool, List, None, Option, Some, [], filter, if◌then◌else◌, is_some, suc, true, zero, ℕ, ◌++◌, ◌||◌, ◌∷◌, ◌≡◌, ◌⊎◌}
use Rattle.tv_lemmas.specs.Members.{In}
use Rattle.tv_value.specs.Orders.{same_job}
use Rattle.tv_value.specs.Values.{JobName}
use Rattle.tv_model.specs.Jobs.{Job}
use Rattle.tv_model.specs.Made.{Meaning}
use Rattle.tv_history.specs.Entries.{History}
use Rattle.tv_history.specs.Histories.{has_open_instance, is_open}
use Rattle.tv_model.specs.JobOrder.{AllPairs}

-- x stands before y
abbrev pub StandsBefore : {A : Type 0} → A → A → List A → Type 0
StandsBefore x y [] = ⊥
StandsBefore x y (z ∷ zs) = ((z ≡ x) × In y zs) ⊎ StandsBefore x y zs

module _ (walks_into passes : Job → Bool) where
  abbrev pub first_among : (JobName → Option Job) → List Job → Option Job
  first_among inside [] = None
  first_among inside (j ∷ js) =
      option_or (if walks_into j then inside j.name else (if passes j then Some j else None))
      (first_among inside js)

  -- the instances that this walk enters
  abbrev pub entered_among : (JobName → Option Job) → (JobName → List JobName) → List Job
      → List JobName
  entered_among inside entered [] = []
  entered_among inside entered (j ∷ js) =
      if walks_into j
      then entered j.name ++ (if is_some (inside j.name) then []
      else entered_among inside entered js)
      else (if passes j then [] else entered_among inside entered js)

-- of what is held of each instance: a list of jobs
module _ (held : JobName → List Job) (walks_into passes : Job → Bool) where
  abbrev pub first_in : ℕ → JobName → Option Job
  first_in zero instance = None
  first_in (suc levels) instance =
      first_among walks_into passes (first_in levels) (held instance)

  abbrev pub entered_in : ℕ → JobName → List JobName
  entered_in zero instance = []
  entered_in (suc levels) instance =
      instance ∷ entered_among walks_into passes (first_in levels) (entered_in levels)
      (held instance)

-- of each open instance the list has jobs of it alone, in the order of the meaning, and among them each that passes
-- or has an open instance
pub record IsHeld (m : Meaning) (past : History) (passes : Job → Bool) (I : JobName)
    (js : List Job) : Type 0 where
  pub of_instance : (j : Job) → In j js → In j m.jobs × (j.instance ≡ I)
  pub in_order : AllPairs (λ j k. StandsBefore j k m.jobs) js
  pub all_there :
      (j : Job)
      → In j m.jobs
      → j.instance ≡ I
      → (has_open_instance past j || passes j) ≡ true
      → In j js

abbrev pub AreHeld : Meaning → History → (JobName → List Job) → (Job → Bool) → Type 0
AreHeld m past held passes = (I : JobName) → is_open past I ≡ true → IsHeld m past passes I (held I)

-- the plainest that can be held: all jobs of an instance
abbrev pub own_jobs : Meaning → JobName → List Job
own_jobs m I = filter (λ j. same_job j.instance I) m.jobs
