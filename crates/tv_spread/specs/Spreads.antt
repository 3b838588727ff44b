-- What `hold` and `show` make of the matchers and the idle jobs.
use Rattle.std.specs.Prelude.{◌≡◌, ℕ, ◌+◌, ◌-◌, ◌<◌, ◌≤◌, not, Bool, true, false, List, [], ◌∷◌, Option, Some, None, count_by, flat_map, length, map, slice_set, sum_by}
use Rattle.tv_lemmas.specs.Members.{Each}
use Rattle.tv_value.specs.Nested.{Place}
use Rattle.tv_value.specs.Strategies.{Strategy}
use Rattle.tv_strategy.specs.Conditions.{number_of}
use Rattle.tv_strategy.specs.Measures.{leaf_names, strategy_depth}
use Rattle.tv_matching.specs.Matchers.{CanTellAll, Holds, Matching, Outcome}
use Rattle.tv_matching.specs.Told.{Told, faulty_at}
use Rattle.tv_match.specs.declared.told.Told as code
use Rattle.tv_match.specs.Seen.{in_order, matching}
use Rattle.tv_match.specs.declared.matchers.Matcher.{Matcher}
use Rattle.tv_telling.specs.declared.ways.Event.{Event}
use Rattle.tv_telling.specs.Views.{AreTellings}
use Rattle.tv_check.specs.declared.ports.Port.{Port}
use Rattle.tv_intake.specs.declared.intakes.Intakes.{Intakes}
use Rattle.tv_intake.specs.Sorting.{job_places, jobs_among, others_among}
use Rattle.tv_intake.specs.Intaken.{CanHold, CanShow, HasRoom, IsMadeAt, brought_at, faulty_ahead_at, matcher_at}
use Rattle.tv_idle.specs.Idles.{Idles, StepIdle, of_step, with_idle, with_rooms_of}
use Rattle.tv_spread.specs.declared.around.Around.{Around}
use Rattle.tv_spread.specs.Arounds.{is_told, ports_at, told_at}

-- ---- hold

-- a matcher can be told this, and these ports are leaves of its strategy
abbrev pub CanBeTold : (Strategy → List Told) → List Port → Option Matcher → Type 0
CanBeTold tellings ps None = ⊥
CanBeTold tellings ps (Some m) =
    CanTellAll (matching m) (tellings (matching m).strategy)
    × Each (λ (p : Port). p.leaf < length (leaf_names (matching m).strategy)) ps

-- each step that is told something can be told that
abbrev pub CanHoldTold : Around → ℕ → Event → Intakes → Type 0
CanHoldTold a s e i = (c : ℕ) → is_told a s e c ≡ true
    → CanBeTold (told_at a s e c) (ports_at a c) (matcher_at i c)

-- whatever list these tellings are, it can be held
abbrev pub CanHoldThese : (Strategy → List Told) → Option Matcher → Type 0
CanHoldThese tellings o = (ts : List code.Told) → AreTellings ts tellings → CanHold o ts

-- all is as it was but what is held
pub record IsSameButHeld (m n : Matching) : Type 0 where
  pub strategy : n.strategy ≡ m.strategy
  pub mismatch : n.mismatch ≡ m.mismatch
  pub told : n.told ≡ m.told
  pub given : n.given ≡ m.given

abbrev pub StaysAt : Option Matcher → Option Matcher → Type 0
StaysAt (Some m) (Some n) = IsSameButHeld (matching m) (matching n) × (in_order n ≡ in_order m)
StaysAt (Some m) None = ⊥
StaysAt None (Some n) = ⊥
StaysAt None None = Unit {0}

-- these tellings are held, and all else is as it was
abbrev pub HoldsAt : (Strategy → List Told) → Option Matcher → Option Matcher → Type 0
HoldsAt ts (Some m) (Some n) = Holds (ts (matching m).strategy) (matching m) (matching n)
    × (in_order n ≡ in_order m)
HoldsAt ts (Some m) None = ⊥
HoldsAt ts None o = ⊥

-- each step that is told something holds that, which can be told, and no other's matcher is another
pub record HoldTold (a : Around) (s : ℕ) (e : Event) (i j : Intakes) : Type 0 where
  pub told : (c : ℕ) → is_told a s e c ≡ true
      → HoldsAt (told_at a s e c) (matcher_at i c) (matcher_at j c)
  pub can : (c : ℕ) → is_told a s e c ≡ true → CanShow (matcher_at j c)
  pub others : (c : ℕ) → is_told a s e c ≡ false → matcher_at j c ≡ matcher_at i c

-- the same idle jobs, with other rooms
pub record HasOtherRooms (i j : Idles) : Type 0 where
  pub steps : (c : ℕ) → of_step j.steps c ≡ with_rooms_of (of_step j.steps c) (of_step i.steps c)
  pub as_many : length j.steps ≡ length i.steps
  pub known : j.known ≡ i.known

-- ---- between

-- the places of the jobs that the held tellings of step c bring, and how many of them bind a fault
abbrev pub new_places : Intakes → ℕ → List Place
new_places i c = job_places (brought_at i c)

abbrev pub new_faulty : Intakes → ℕ → ℕ
new_faulty i c = count_by (faulty_ahead_at (matcher_at i c)) (new_places i c)

abbrev pub new_good : Intakes → ℕ → ℕ
new_good i c = count_by (λ q. not (faulty_ahead_at (matcher_at i c) q)) (new_places i c)

-- how many jobs become known
abbrev pub new_count : Intakes → List ℕ → ℕ
new_count i cs = sum_by (λ c. jobs_among (brought_at i c)) cs

-- a step's idle jobs have places as long as its jobs
abbrev pub IsLevelled : Option Matcher → StepIdle → Type 0
IsLevelled None s = Unit {0}
IsLevelled (Some m) s = s.levels
    ≡ strategy_depth (number_of (matching m).mismatch) (matching m).strategy

-- each of them stands before those that follow
abbrev pub IsAscending : List ℕ → Type 0
IsAscending [] = Unit {0}
IsAscending (c ∷ cs) = Each (λ d. c < d) cs × IsAscending cs

-- ready to show what these steps hold: it can be told, and there is room for what it brings
pub record CanShowAll (cs : List ℕ) (i : Intakes) (idle : Idles) : Type 0 where
  pub once : IsAscending cs
  pub can : Each (λ c. CanShow (matcher_at i c)) cs
  pub intake_room : HasRoom (sum_by (λ c. length (brought_at i c)) cs) i
  pub within : Each (λ c. c < length idle.steps) cs
  pub levels : Each (λ c. IsLevelled (matcher_at i c) (of_step idle.steps c)) cs
  pub good_room : Each (λ c. new_good i c ≤ (of_step idle.steps c).good_room) cs
  pub faulty_room : Each (λ c. new_faulty i c ≤ (of_step idle.steps c).faulty_room) cs
  pub numbers : new_count i cs ≤ idle.room

-- ---- show

-- jobs that become known with what these steps hold, each with its step, and other things
abbrev pub new_jobs : Intakes → List ℕ → List (ℕ × Place)
new_jobs i cs = flat_map (λ c. map (λ q. (c, q)) (new_places i c)) cs

abbrev pub new_things : Intakes → List ℕ → List (ℕ × Outcome)
new_things i cs = flat_map (λ c. map (λ o. (c, o)) (others_among (brought_at i c))) cs

-- these matchers have made what they held, and no other is another
pub record MakeAll (cs : List ℕ) (i j : Intakes) : Type 0 where
  pub made : Each (λ c. IsMadeAt (matcher_at i c) (matcher_at j c)) cs
  pub others : (c : ℕ) → Each (λ d. d ≡ c → ⊥) cs → matcher_at j c ≡ matcher_at i c

-- one more job, of this step at this place, with the next number
abbrev pub with_new : (ℕ × Place → Bool) → ℕ × Place → Idles → Idles
with_new faulty x i =
    record {
      steps = slice_set i.steps x.0 (with_idle (faulty x) (i.known, x.1) (of_step i.steps x.0));
      known = i.known + 1;
      room = i.room - 1;
    }

-- these, in their order
abbrev pub with_all_new : (ℕ × Place → Bool) → List (ℕ × Place) → Idles → Idles
with_all_new faulty [] i = i
with_all_new faulty (x ∷ xs) i = with_all_new faulty xs (with_new faulty x i)

-- whether a job binds a value that is told to hold a fault, held tellings counted
abbrev pub binds_fault : Intakes → ℕ × Place → Bool
binds_fault i x = faulty_ahead_at (matcher_at i x.0) x.1

-- the same of one that is known
abbrev pub faulty_now_at : Option Matcher → Place → Bool
faulty_now_at None q = false
faulty_now_at (Some m) q = faulty_at (matching m).strategy (matching m).told q

abbrev pub is_faulty_now : Intakes → ℕ × Place → Bool
is_faulty_now i x = faulty_now_at (matcher_at i x.0) x.1

-- a job of this step, at a place of so many indices
abbrev pub IsAt : ℕ → ℕ → ℕ × Place → Type 0
IsAt c levels x = (x.0 ≡ c) × (length x.1 ≡ levels)
