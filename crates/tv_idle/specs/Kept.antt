-- How the idle jobs are kept: for each step two queues, in which jobs that have gone lie on until they come to the front.
use Rattle.std.specs.Prelude.{◌≡◌, ℕ, ◌+◌, ◌^◌, ◌<◌, ◌≤◌, ◌-◌, ◌&&◌, ◌||◌, not, nat_lt, Bool, true, false, if◌then◌else◌, List, [], ◌∷◌, filter, map, length, slice_index_or}
use Rattle.std.specs.Cmp.Lexicographic.{slice_cmp}
use Rattle.std.specs.List.{list_all, sum_by}
use Rattle.std.specs.Ordering.{is_lt, nat_cmp}
use Rattle.tv_idle.specs.Listed.{Listed, with_job}
use Rattle.tv_idle.specs.declared.queues.Queues.{Queues}
use Rattle.tv_idle.specs.Idles.{StepIdle, has_job, is_idle}

-- by number whether a job has gone
abbrev pub is_gone : List Bool → ℕ → Bool
is_gone gone n = slice_index_or gone n false

-- ---- the queues of a step: `gone` tells of a number whether that job has gone

-- those that haven't gone
abbrev pub live : (ℕ → Bool) → List (ℕ × List ℕ) → List (ℕ × List ℕ)
live gone js = filter (λ j. not (gone j.0)) js

abbrev pub queues_view : (ℕ → Bool) → Queues → StepIdle
queues_view gone q = record {
  good = live gone q.good.jobs;
  faulty = live gone q.faulty.jobs;
  levels = q.good.levels;
  good_room = q.good.room;
  faulty_room = q.faulty.room;
}

abbrev pub starts_gone : (ℕ → Bool) → List (ℕ × List ℕ) → Bool
starts_gone gone [] = false
starts_gone gone (j ∷ js) = gone j.0

-- without those at the front that have gone
abbrev pub trimmed : (ℕ → Bool) → List (ℕ × List ℕ) → List (ℕ × List ℕ)
trimmed gone [] = []
trimmed gone (j ∷ js) = if gone j.0 then trimmed gone js else j ∷ js

-- these are numbers below n
abbrev pub are_below : ℕ → List (ℕ × List ℕ) → Bool
are_below n js = list_all (λ j. nat_lt j.0 n) js

-- none stands after one that follows
abbrev pub are_in_order : List (ℕ × List ℕ) → Bool
are_in_order [] = true
are_in_order (j ∷ js) = list_all (λ k. not (is_lt (slice_cmp nat_cmp k.1 j.1))) js
    && are_in_order js

pub record IsKept (gone : ℕ → Bool) (known : ℕ) (js : List (ℕ × List ℕ)) : Type 0 where
  pub below : are_below known js ≡ true
  pub front : starts_gone gone js ≡ false
  pub order : are_in_order js ≡ true

pub record AreKept (gone : ℕ → Bool) (known : ℕ) (q : Queues) : Type 0 where
  pub good : IsKept gone known q.good.jobs
  pub faulty : IsKept gone known q.faulty.jobs
  pub levels : q.faulty.levels ≡ q.good.levels

-- ---- what the calls of one step change

pub record IsEmpty (levels : ℕ) (l : Listed) : Type 0 where
  pub jobs : l.jobs ≡ []
  pub levels_are : l.levels ≡ levels
  pub room : l.room ≡ 0

-- the same jobs, with another room
pub record IsSame (l m : Listed) : Type 0 where
  pub jobs : m.jobs ≡ l.jobs
  pub levels : m.levels ≡ l.levels

pub record IsGrown (j : ℕ × List ℕ) (l m : Listed) : Type 0 where
  pub jobs : m.jobs ≡ with_job j l.jobs
  pub levels : m.levels ≡ l.levels
  pub room : m.room ≡ l.room - 1

pub record IsTrimmed (gone : ℕ → Bool) (l m : Listed) : Type 0 where
  pub jobs : m.jobs ≡ trimmed gone l.jobs
  pub levels : m.levels ≡ l.levels
  pub room : m.room ≡ l.room

-- the queue for jobs that bind a fault, or for the others
abbrev pub queue_for : Bool → Queues → Listed
queue_for true q = q.faulty
queue_for false q = q.good

-- ---- all steps

abbrev pub no_queues : Queues
no_queues = record {
  good = record { jobs = []; levels = 0; room = 0 };
  faulty = record {
    jobs = [];
    levels = 0;
    room = 0;
  };
}

abbrev pub queues_of : List Queues → ℕ → Queues
queues_of qs k = slice_index_or qs k no_queues

abbrev pub stands_at : ℕ → Queues → Bool
stands_at n q = has_job n q.good.jobs || has_job n q.faulty.jobs

-- each job stands at one step at most, and one that hasn't gone is idle at some
pub record AreAllKept (gone : ℕ → Bool) (known : ℕ) (qs : List Queues) : Type 0 where
  pub each : (k : ℕ) → AreKept gone known (queues_of qs k)
  pub apart : (n k l : ℕ) → stands_at n (queues_of qs k) ≡ true → stands_at n (queues_of qs l)
      ≡ true → k ≡ l
  pub idle : (n : ℕ) → n < known → gone n ≡ false → is_idle (map (queues_view gone) qs) n ≡ true

-- how many stand in the queue of those that bind a fault, of one step and of all
abbrev pub faulty_of : Queues → ℕ
faulty_of q = length q.faulty.jobs

abbrev pub faulty_in : List Queues → ℕ
faulty_in qs = sum_by faulty_of qs

-- and so many more jobs can be known, where so many stand that bind a fault
pub record IsLaid (qs : List Queues) (gone : List Bool) (capacity room faulty : ℕ) : Type 0 where
  pub all : AreAllKept (is_gone gone) (length gone) qs
  pub marks : length gone + room ≤ capacity
  pub numbers : length gone + room < 2 ^ 32
  pub counted : faulty ≡ faulty_in qs
  pub few : faulty ≤ length gone
