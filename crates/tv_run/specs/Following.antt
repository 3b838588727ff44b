-- What follows of an event of an open instance: the jobs that became known get numbers, and the instance is busy.
use Rattle.std.specs.List.{range_with_len}
use Rattle.std.specs.Prelude.{List, Option, Some, [], if◌then◌else◌, length, map, slice_get, true, vec_capacity, ℕ, ◌+◌, ◌++◌, ◌-◌, ◌<◌, ◌∷◌, ◌≡◌, ◌≤◌}
use Rattle.std.specs.Prelude.{Vec}
use Rattle.std.specs.Global.{Global}
use Rattle.tv_instances.specs.declared.open.Open.{Open}
use Rattle.tv_run.specs.declared.instances.Instance as code
use Rattle.tv_run.specs.declared.instances.Numbered.{Numbered}
use Rattle.tv_run.specs.declared.run.OpenRun.{OpenRun}
use Rattle.tv_run.specs.Rooms.{HasRoomIn}

-- what isn't of instances, jobs, and what is busy and due is the same
pub record HasSameAround (r s : OpenRun) : Type 0 where
  pub alloc : s.alloc ≡ r.alloc
  pub run : s.run ≡ r.run
  pub looks : s.looks ≡ r.looks
  pub pool : s.pool ≡ r.pool
  pub entries : s.entries ≡ r.entries
  pub failed : s.failed ≡ r.failed
  pub outs : s.outs ≡ r.outs

-- all instances but that of this number are the same
pub record OthersAreSame (r s : OpenRun) (i : ℕ) : Type 0 where
  pub as_many : length s.instances.items ≡ length r.instances.items
  pub others : (k : ℕ) → (k ≡ i → ⊥) → slice_get s.instances.items k ≡ slice_get r.instances.items k

-- ---- one number

-- there is room for one more job of an instance
pub record CanNumber (r : OpenRun) (i : ℕ) : Type 0 where
  pub there : i < length r.instances.items
  pub numbers : (c : code.Instance) → slice_get r.instances.items i ≡ Some c
      → length c.jobs.items < vec_capacity c.jobs
  pub jobs : length r.jobs.items < vec_capacity r.jobs
  pub due : r.due < vec_capacity r.entries

-- the same instance with these numbers of its jobs
pub record HasNumbers (c e : code.Instance) (numbers : List ℕ) : Type 0 where
  pub flow : e.flow ≡ c.flow
  pub opener : e.opener ≡ c.opener
  pub jobs : e.jobs.items ≡ numbers
  pub capacity : vec_capacity c.jobs ≤ vec_capacity e.jobs
  pub is_busy : e.is_busy ≡ c.is_busy
  pub opened : e.open ≡ c.open
  pub seats : e.seats ≡ c.seats

-- job n of instance i has the next number
pub record AddsNumber (r s : OpenRun) (i n : ℕ) : Type 0 where
  pub around : HasSameAround r s
  pub others : OthersAreSame r s i
  pub numbered :
      (c e : code.Instance) → slice_get r.instances.items i ≡ Some c
      → slice_get s.instances.items i ≡ Some e
      → HasNumbers c e (c.jobs.items ++ length r.jobs.items ∷ [])
  pub busy : s.busy ≡ r.busy
  pub jobs : s.jobs.items ≡ r.jobs.items ++ record { instance = i; number = n } ∷ []
  pub capacity : vec_capacity r.jobs ≤ vec_capacity s.jobs
  pub due : s.due ≡ r.due + 1

-- ---- all

-- how many jobs of an open instance have no number
abbrev pub unnumbered : code.Instance → ℕ
unnumbered c = by c.open.items
  where
    by : List Open → ℕ
    by [] = 0
    by (o ∷ os) = length o.seats.seats - length c.jobs.items

abbrev pub numbered_in : ℕ → ℕ → Numbered
numbered_in i n = record { instance = i; number = n }

-- instance i is open, and there is room for all of its jobs that have no number
pub record CanFollow (r : OpenRun) (i : ℕ) : Type 0 where
  pub itself : code.Instance
  pub there : slice_get r.instances.items i ≡ Some itself
  pub opened : Open
  pub is_open : itself.open.items ≡ opened ∷ []
  pub numbered : length itself.jobs.items ≤ length opened.seats.seats
  pub room : HasRoomIn r i (unnumbered itself)

-- they got the next numbers, in order
pub record Numbers (r s : OpenRun) (i : ℕ) : Type 0 where
  pub around : HasSameAround r s
  pub others : OthersAreSame r s i
  pub numbered :
      (c e : code.Instance) → slice_get r.instances.items i ≡ Some c
      → slice_get s.instances.items i ≡ Some e
      → HasNumbers c e (c.jobs.items ++ range_with_len (length r.jobs.items) (unnumbered c))
  pub busy : s.busy ≡ r.busy
  pub jobs :
      (c : code.Instance) → slice_get r.instances.items i ≡ Some c
      → s.jobs.items ≡ r.jobs.items
      ++ map (numbered_in i) (range_with_len (length c.jobs.items) (unnumbered c))
  pub due : (c : code.Instance) → slice_get r.instances.items i ≡ Some c
      → s.due ≡ r.due + unnumbered c

-- the instance is busy, and among the busy ones
pub record LooksInto (r s : OpenRun) (i : ℕ) : Type 0 where
  pub around : HasSameAround r s
  pub others : OthersAreSame r s i
  pub itself :
      (c e : code.Instance) → slice_get r.instances.items i ≡ Some c
      → slice_get s.instances.items i ≡ Some e
      → e ≡ record c { is_busy = true }
  pub jobs : s.jobs ≡ r.jobs
  pub due : s.due ≡ r.due
  pub busy :
      (c : code.Instance) → slice_get r.instances.items i ≡ Some c
      → s.busy.items ≡ (if c.is_busy then r.busy.items else r.busy.items ++ i ∷ [])

-- both
pub record FollowsIn (r s : OpenRun) (i : ℕ) : Type 0 where
  pub around : HasSameAround r s
  pub others : OthersAreSame r s i
  pub itself :
      (c e : code.Instance) → slice_get r.instances.items i ≡ Some c
      → slice_get s.instances.items i ≡ Some e
      → HasNumbers (record c { is_busy = true }) e (c.jobs.items
      ++ range_with_len (length r.jobs.items) (unnumbered c))
  pub jobs :
      (c : code.Instance) → slice_get r.instances.items i ≡ Some c
      → s.jobs.items ≡ r.jobs.items
      ++ map (numbered_in i) (range_with_len (length c.jobs.items) (unnumbered c))
  pub due : (c : code.Instance) → slice_get r.instances.items i ≡ Some c
      → s.due ≡ r.due + unnumbered c
  pub busy :
      (c : code.Instance) → slice_get r.instances.items i ≡ Some c
      → s.busy.items ≡ (if c.is_busy then r.busy.items else r.busy.items ++ i ∷ [])

-- ---- an instance that is new

-- there is room for the instance, for itself and for its jobs
pub record IsEntering (r : OpenRun) (jobs : Vec ℕ Global) (slot : Vec Open Global)
    (o : Open) : Type 0 where
  pub instances : length r.instances.items < vec_capacity r.instances
  pub is_one : slot.items ≡ o ∷ []
  pub none_numbered : jobs.items ≡ []
  pub numbers : length o.seats.seats ≤ vec_capacity jobs
  pub room : length r.jobs.items + length o.seats.seats ≤ vec_capacity r.jobs
  pub busy : length r.busy.items < vec_capacity r.busy
  pub entries : length r.entries.items + r.due + length o.seats.seats + 1 ≤ vec_capacity r.entries

-- the instance is the last, with all its jobs numbered, and busy
pub record Enters (r s : OpenRun) (flow : ℕ) (opener : Option ℕ) (o : Open) : Type 0 where
  pub around : HasSameAround r s
  pub itself : code.Instance
  pub instances : s.instances.items ≡ r.instances.items ++ itself ∷ []
  pub flow_is : itself.flow ≡ flow
  pub opener_is : itself.opener ≡ opener
  pub is_busy : itself.is_busy ≡ true
  pub opened : itself.open.items ≡ o ∷ []
  pub numbers : itself.jobs.items ≡ range_with_len (length r.jobs.items) (length o.seats.seats)
  pub jobs :
      s.jobs.items
      ≡ r.jobs.items ++ map (numbered_in (length r.instances.items))
      (range_with_len 0 (length o.seats.seats))
  pub due : s.due ≡ r.due + length o.seats.seats
  pub busy : s.busy.items ≡ r.busy.items ++ length r.instances.items ∷ []
