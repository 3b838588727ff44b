-- What all steps' matchers have matched: known jobs by number, and lists and faults that wait; and what the calls change.
use Rattle.std.specs.Option.{option_map_or}
use Rattle.std.specs.Prelude.{◌≡◌, ℕ, ◌+◌, ◌==◌, ◌≤◌, if◌then◌else◌, Bool, false, List, [], ◌∷◌, ◌++◌, IsPermutation, Option, Some, None, get_or, map, slice_get, vec_capacity, vec_len}
use Rattle.tv_value.specs.Nested.{Place}
use Rattle.tv_value.specs.Strategies.{Strategy}
use Rattle.tv_value.specs.Values.{Name}
use Rattle.tv_matching.specs.Told.{Told, faulty_at}
use Rattle.tv_matching.specs.Matchers.{CanTellAll, IsFreed, Holds, Matching, Outcome, Starts, job_at}
use Rattle.tv_match.specs.declared.matchers.Matcher.{Matcher}
use Rattle.tv_match.specs.declared.told.Told as code
use Rattle.tv_match.specs.Seen.{IsSound, NameLeaves, matching, told_view}
use Rattle.tv_match.specs.Ahead.{in_order_ahead}
use Rattle.tv_match.specs.Seen.{in_order}
use Rattle.tv_match.specs.Stated.{outcome_place}
use Rattle.tv_intake.specs.declared.found.Found.{Found}
use Rattle.tv_intake.specs.declared.intakes.Intakes.{Intakes}
use Rattle.tv_intake.specs.Sorting.{brought, faulty_ahead, job_positions, other_positions}

-- ---- of the matchers of all steps, in the order of their numbers

-- what follows at a step, and what its held tellings bring
abbrev pub followed_in : List Matcher → ℕ → List Outcome
followed_in ms k = option_map_or in_order (slice_get ms k) []

abbrev pub brought_in : List Matcher → ℕ → List Outcome
brought_in ms k = option_map_or brought (slice_get ms k) []

-- what stands where a thing was found, with its step
abbrev pub thing_in : List Matcher → Found → ℕ × Outcome
thing_in ms f = (f.step, get_or (followed_in ms f.step) f.at (job_at []))

abbrev pub placed : ℕ × Outcome → ℕ × Place
placed x = (x.0, outcome_place x.1)

-- the positions of those of step k
abbrev pub positions_of : ℕ → List Found → List ℕ
positions_of k [] = []
positions_of k (f ∷ fs) = if f.step == k then f.at ∷ positions_of k fs else positions_of k fs

abbrev pub IsSoundAt : Option Matcher → Type 0
IsSoundAt None = Unit {0}
IsSoundAt (Some m) = IsSound m

-- the matchers are sound, the known jobs of each step are those that follow there, in order, and of the lists and faults that follow
-- each waits or is settled
pub record AreSorted (ms : List Matcher) (jobs waiting : List Found) : Type 0 where
  pub sound : (k : ℕ) → IsSoundAt (slice_get ms k)
  pub jobs_are : (k : ℕ) → positions_of k jobs ≡ job_positions 0 (followed_in ms k)
  pub settled : ℕ → List ℕ
  pub others_are : (k : ℕ) → IsPermutation (positions_of k waiting ++ settled k)
      (other_positions 0 (followed_in ms k))

-- ---- what a contract sees

abbrev pub matcher_at : Intakes → ℕ → Option Matcher
matcher_at i k = slice_get i.matchers.items k

abbrev pub followed_at : Intakes → ℕ → List Outcome
followed_at i k = followed_in i.matchers.items k

abbrev pub brought_at : Intakes → ℕ → List Outcome
brought_at i k = brought_in i.matchers.items k

-- the known jobs by their numbers, each with its step, and the lists and faults that wait
abbrev pub known_jobs : Intakes → List (ℕ × Place)
known_jobs i = map (λ f. placed (thing_in i.matchers.items f)) i.jobs.items

abbrev pub waiting_things : Intakes → List (ℕ × Outcome)
waiting_things i = map (thing_in i.matchers.items) i.waiting.items

-- what is so between calls
abbrev pub AreIntaken : Intakes → Type 0
AreIntaken i = AreSorted i.matchers.items i.jobs.items i.waiting.items

-- whether the job at a place of a step binds a value that was told to hold a fault
abbrev pub IsFaultyAt : Option Matcher → Place → Bool → Type 0
IsFaultyAt None q b = ⊥
IsFaultyAt (Some m) q b = b ≡ faulty_at (matching m).strategy (matching m).told q

-- the same, held tellings counted
abbrev pub faulty_ahead_at : Option Matcher → Place → Bool
faulty_ahead_at None q = false
faulty_ahead_at (Some m) q = faulty_ahead m q

-- ---- conditions

abbrev pub CanHold : Option Matcher → List code.Told → Type 0
CanHold None ts = ⊥
CanHold (Some m) ts =
    NameLeaves (matching m).strategy ts
    × CanTellAll (matching m) (map (told_view (matching m).strategy) ts)

-- what is held can be told
abbrev pub CanShow : Option Matcher → Type 0
CanShow None = ⊥
CanShow (Some m) = CanTellAll (matching m) (matching m).held

-- so many items can be put in each list with no memory
abbrev pub HasRoom : ℕ → Intakes → Type 0
HasRoom n i = (vec_len i.jobs + n ≤ vec_capacity i.jobs)
    × (vec_len i.waiting + n ≤ vec_capacity i.waiting)

-- ---- what the calls change

-- the same but for room
pub record IsSame (i j : Intakes) : Type 0 where
  pub matchers : j.matchers.items ≡ i.matchers.items
  pub jobs : j.jobs.items ≡ i.jobs.items
  pub waiting : j.waiting.items ≡ i.waiting.items

-- what step s is told and has matched may change, and no other's
abbrev pub OthersStay : ℕ → Intakes → Intakes → Type 0
OthersStay s i j = (k : ℕ) → (k ≡ s → ⊥) → matcher_at j k ≡ matcher_at i k

-- a matcher that was told nothing
abbrev pub IsStartedAt : Strategy → List (Name × ℕ) → Option Matcher → Type 0
IsStartedAt s mismatch None = ⊥
IsStartedAt s mismatch (Some m) = Starts s mismatch (matching m)

-- a matcher that was told this alone, in whatever order, and holds nothing
pub record IsToldAll (s : Strategy) (mismatch : List (Name × ℕ)) (ts : List Told)
    (m : Matching) : Type 0 where
  pub strategy_is : m.strategy ≡ s
  pub mismatch_is : m.mismatch ≡ mismatch
  pub told : IsPermutation m.told ts
  pub held : m.held ≡ []

abbrev pub IsToldAt : Strategy → List (Name × ℕ) → List Told → Option Matcher → Type 0
IsToldAt s mismatch ts None = ⊥
IsToldAt s mismatch ts (Some m) = IsToldAll s mismatch ts (matching m)

-- room is held for these tellings, and what follows of those that were made stays
abbrev pub HoldsThese : List code.Told → Option Matcher → Option Matcher → Type 0
HoldsThese ts (Some m) (Some n) =
    Holds (map (told_view (matching m).strategy) ts) (matching m) (matching n)
    × (in_order n ≡ in_order m)
HoldsThese ts (Some m) None = ⊥
HoldsThese ts None _ = ⊥

-- no room is held
abbrev pub HoldsNone : Option Matcher → Option Matcher → Type 0
HoldsNone (Some m) (Some n) = IsFreed (matching m) (matching n) × (in_order n ≡ in_order m)
HoldsNone (Some m) None = ⊥
HoldsNone None _ = ⊥

-- all that was held is told
pub record IsMade (m n : Matcher) : Type 0 where
  pub told : (matching n).told ≡ (matching m).told ++ (matching m).held
  pub held : (matching n).held ≡ []
  pub strategy : (matching n).strategy ≡ (matching m).strategy
  pub mismatch : (matching n).mismatch ≡ (matching m).mismatch
  pub follows : in_order n ≡ in_order_ahead m

abbrev pub IsMadeAt : Option Matcher → Option Matcher → Type 0
IsMadeAt (Some m) (Some n) = IsMade m n
IsMadeAt (Some m) None = ⊥
IsMadeAt None _ = ⊥
