-- Room that is taken, and what is as it was beside it.
use Rattle.std.specs.Prelude.{Some, [], length, slice_get, vec_capacity, ℕ, ◌+◌, ◌++◌, ◌∷◌, ◌≡◌, ◌≤◌}
use Rattle.tv_frame.specs.Calls.{SameRegions}
use Rattle.tv_instances.specs.Forest.{Instances}
use Rattle.tv_history.specs.declared.entry.Entry.{Entry}
use Rattle.tv_run.specs.declared.instances.Instance as code
use Rattle.tv_run.specs.declared.run.OpenRun.{OpenRun}
use Rattle.tv_run.specs.Standing.{Fits, run_of}

-- ---- nothing is done

-- but for rooms and what is held ahead it is as it was
pub record IsAsBefore (r s : OpenRun) : Type 0 where
  pub fits : (xs : Instances) → Fits r xs → Fits s xs
  pub same : run_of s ≡ run_of r
  pub regions : SameRegions r.pool s.pool
  pub capacity : vec_capacity r.entries ≤ vec_capacity s.entries
  pub due : s.due ≡ r.due
  pub failed : s.failed ≡ r.failed
  pub outs : s.outs ≡ r.outs

-- all but the entries is the same
pub record IsSameButEntries (r s : OpenRun) : Type 0 where
  pub alloc : s.alloc ≡ r.alloc
  pub run : s.run ≡ r.run
  pub looks : s.looks ≡ r.looks
  pub pool : s.pool ≡ r.pool
  pub instances : s.instances ≡ r.instances
  pub busy : s.busy ≡ r.busy
  pub jobs : s.jobs ≡ r.jobs
  pub due : s.due ≡ r.due
  pub failed : s.failed ≡ r.failed
  pub outs : s.outs ≡ r.outs

-- one entry more, and all else is the same
pub record IsNoted (r s : OpenRun) (e : Entry) : Type 0 where
  pub rest : IsSameButEntries r s
  pub entries : s.entries.items ≡ r.entries.items ++ e ∷ []
  pub capacity : vec_capacity r.entries ≤ vec_capacity s.entries

-- ---- rooms

-- for so many more jobs of these numbers, an entry, and then one for each due job
pub record HasRoomBeside (r : OpenRun) (more : ℕ) : Type 0 where
  pub jobs : length r.jobs.items + more ≤ vec_capacity r.jobs
  pub busy : length r.busy.items + 1 ≤ vec_capacity r.busy
  pub entries : length r.entries.items + r.due + more + 1 ≤ vec_capacity r.entries

-- the same in an instance of that number
pub record HasRoomIn (r : OpenRun) (i more : ℕ) : Type 0 where
  pub numbers :
      (c : code.Instance) → slice_get r.instances.items i ≡ Some c
      → length c.jobs.items + more ≤ vec_capacity c.jobs
  pub beside : HasRoomBeside r more

-- ---- all but rooms

-- the same instance with other rooms
pub record IsSameInstance (c e : code.Instance) : Type 0 where
  pub flow : e.flow ≡ c.flow
  pub opener : e.opener ≡ c.opener
  pub jobs : e.jobs.items ≡ c.jobs.items
  pub is_busy : e.is_busy ≡ c.is_busy
  pub opened : e.open ≡ c.open
  pub seats : e.seats ≡ c.seats

-- the same run with other rooms
pub record IsSameButRooms (r s : OpenRun) : Type 0 where
  pub alloc : s.alloc ≡ r.alloc
  pub run : s.run ≡ r.run
  pub looks : s.looks ≡ r.looks
  pub pool : s.pool ≡ r.pool
  pub as_many : length s.instances.items ≡ length r.instances.items
  pub instances :
      (i : ℕ) (c e : code.Instance) → slice_get r.instances.items i ≡ Some c
      → slice_get s.instances.items i ≡ Some e
      → IsSameInstance c e
  pub busy : s.busy.items ≡ r.busy.items
  pub jobs : s.jobs.items ≡ r.jobs.items
  pub entries : s.entries.items ≡ r.entries.items
  pub capacity : vec_capacity r.entries ≤ vec_capacity s.entries
  pub due : s.due ≡ r.due
  pub failed : s.failed ≡ r.failed
  pub outs : s.outs ≡ r.outs
