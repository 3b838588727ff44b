-- An instance is added to a run: where that is refused, the run is as it was.
use Rattle.std.specs.Global.{Global}
use Rattle.std.specs.Prelude.{◌≡◌, refl, ℕ, ◌+◌, ◌<◌, ◌≤◌, [], ◌∷◌, List, None, Option, Some, Vec, length, option_map, slice_get, slice_set, vec_capacity}
use Rattle.std.proofs.Common.{ap, arith, get_or, subst, sym, ◌∙◌}
use Rattle.std.proofs.lemmas.Option.{none-some, same_Some, slice_get-get_or, slice_get_within}
use Rattle.tv_value.specs.Values.{Name}
use Rattle.tv_flow.specs.Flows.{Document, Flow}
use Rattle.tv_frame.specs.Calls.{SameRegions}
use Rattle.tv_frame.specs.Tables.{AreTables}
use Rattle.tv_pool.specs.Pool.{number_of, regions_with}
use Rattle.tv_stream.specs.nodes.Calls.{KeepsRegions}
use Rattle.tv_instances.proofs.Regions.{given-up}
use Rattle.tv_instances.specs.declared.open.Open.{Open}
use Rattle.tv_outputs.specs.Known.{Nodes}
use Rattle.tv_run.specs.Following.{IsEntering}
use Rattle.tv_run.specs.Looks.{AreLooks, IsFlow}
use Rattle.tv_run.specs.Rooms.{HasRoomBeside, IsAsBefore, IsSameButRooms, IsSameInstance}
use Rattle.tv_run.specs.declared.instances.Instance as code
use Rattle.tv_run.specs.declared.plans.FlowLook.{FlowLook}
use Rattle.tv_run.specs.declared.run.OpenRun.{OpenRun}
use Rattle.tv_run.specs.declared.slots.Leftover.{Leftover}
use Rattle.tv_run.proofs.Rooms.{before-but_pool}

-- a list of one with another in its place
pub set-one : (xs : List Open) (x : Open) → length xs ≡ 1 → slice_set xs 0 x ≡ x ∷ []
set-one [] x h = absurd (omega (arith, h))
set-one (y ∷ []) x h = refl
set-one (y ∷ z ∷ zs) x h = absurd (omega (arith, h))

-- what is read of a list of one
pub only-one : (slot : Vec Open Global) (o : Open) → slot.items ≡ o ∷ [] → (x : Open) → x ≡ get_or slot.items 0 x → x ≡ o
only-one slot o one x e = e ∙ ap (λ l. get_or l 0 x) one

-- the number of a flow is below their count
pub flow-low : (d : Document) (k : ℕ) (f : Flow) → IsFlow d k f → k < length d.flows
flow-low d k f e = by (slice_get d.flows k) refl e
  where
    by : (o : Option (Name × Flow)) → slice_get d.flows k ≡ o → option_map (λ x. x.1) o ≡ Some f → k < length d.flows
    by None a h = absurd (none-some f h)
    by (Some x) a h = slice_get_within d.flows k x a

-- what is looked up of a flow by its number has its tables
module _ (d : Document) (looks : List FlowLook) (are : AreLooks d looks) (k : ℕ) (f : Flow) (is : IsFlow d k f) where
  pub looks-low : k < length looks
  looks-low = subst (λ n. k < n) (sym are.as_many) (flow-low d k f is)

  pub tables-are : (l : FlowLook) → l ≡ get_or looks k l → AreTables f l.tables
  tables-are l e = by (slice_get d.flows k) refl is
    where
      there : slice_get looks k ≡ Some l
      there = slice_get-get_or looks k l looks-low ∙ ap Some (sym e)

      by : (o : Option (Name × Flow)) → slice_get d.flows k ≡ o → option_map (λ x. x.1) o ≡ Some f → AreTables f l.tables
      by None a h = absurd (none-some f h)
      by (Some x) a h = subst (λ g. AreTables g l.tables) (same_Some x.1 f h) (are.each k x l a there).tables

same-instance : (c : code.Instance) → IsSameInstance c c
same-instance c = record { flow = refl; opener = refl; jobs = refl; is_busy = refl; opened = refl; seats = refl }

-- with other room for instances
module _ (r : OpenRun) (instances : Vec code.Instance Global) (same : instances.items ≡ r.instances.items) where
  abbrev with_room : OpenRun
  with_room = record r { instances = instances }

  taken-with : (leftovers : Vec Leftover Global) → IsSameButRooms r (record with_room { leftovers = leftovers })
  taken-with leftovers = record {
    alloc = refl;
    run = refl;
    looks = refl;
    pool = refl;
    as_many = ap length same;
    instances = λ i c e was is.
        subst (IsSameInstance c) (same_Some c e (sym was ∙ sym (ap (λ l. slice_get l i) same) ∙ is)) (same-instance c);
    busy = refl;
    jobs = refl;
    entries = refl;
    capacity = omega arith;
    due = refl;
    failed = refl;
    outs = refl;
  }

  -- and in another pool with the same regions, with other leftovers
  pub before-room : (leftovers : Vec Leftover Global) (pool : Nodes) → SameRegions r.pool pool
      → IsAsBefore r (record with_room { pool = pool; leftovers = leftovers })
  before-room leftovers pool regions =
      before-but_pool r (record with_room { pool = pool; leftovers = leftovers })
      (record { rooms = taken-with leftovers; regions = regions })

  -- the room for the rest was refused, and the region that was started is given up
  module _ (leftovers : Vec Leftover Global) (mid after : Nodes) (t : OpenRun) (o : Open)
      (rooms : IsSameButRooms (record with_room { pool = mid; leftovers = leftovers }) t)
      (own : number_of o.frame.region ≡ length r.pool.regions)
      (keeps : KeepsRegions r.pool mid (number_of o.frame.region))
      (gone : after.regions ≡ regions_with t.pool (number_of o.frame.region) None) where
    regions-same : SameRegions r.pool after
    regions-same =
        given-up r.pool mid after (number_of o.frame.region) own keeps
        (gone ∙ ap (λ p. regions_with p (number_of o.frame.region) None) rooms.pool)

    rooms-then : IsSameButRooms r (record t { pool = r.pool })
    rooms-then = record {
      alloc = rooms.alloc;
      run = rooms.run;
      looks = rooms.looks;
      pool = refl;
      as_many = rooms.as_many ∙ ap length same;
      instances = λ i c e was is. rooms.instances i c e (ap (λ l. slice_get l i) same ∙ was) is;
      busy = rooms.busy;
      jobs = rooms.jobs;
      entries = rooms.entries;
      capacity = rooms.capacity;
      due = rooms.due;
      failed = rooms.failed;
      outs = rooms.outs;
    }

    pub before-given_up : IsAsBefore r (record t { pool = after })
    before-given_up =
        before-but_pool r (record t { pool = after }) (record { rooms = rooms-then; regions = regions-same })

  -- the room is there for it to enter
  pub is-entering : (leftovers : Vec Leftover Global) (mid : Nodes) (t : OpenRun) (o : Open) (jobs : Vec ℕ Global)
      (slot : Vec Open Global)
      → IsSameButRooms (record with_room { pool = mid; leftovers = leftovers }) t → slot.items ≡ o ∷ [] → jobs.items ≡ []
      → HasRoomBeside t (length o.seats.seats) → length jobs.items + length o.seats.seats ≤ vec_capacity jobs
      → length t.instances.items < vec_capacity t.instances → IsEntering t jobs slot o
  is-entering leftovers mid t o jobs slot rooms one none beside numbers instances = record {
    instances = instances;
    is_one = one;
    none_numbered = none;
    numbers = let long = ap length none in omega (arith, long, numbers);
    room = beside.jobs;
    busy = let busy = beside.busy in omega (arith, busy);
    entries = beside.entries;
  }
