-- What lies in the slots of a pool, read as nodes with links, and how a part is searched there.
use Rattle.std.specs.Prelude.{ℕ, zero, suc, ◌/◌, ◌%◌, ◌==◌, if◌then◌else◌, Option, Some, None, slice_index_or}
use Rattle.std.specs.Option.{option_map}
use Rattle.tv_pool.specs.Pool.{lies_at, nowhere}
use Rattle.tv_pool.specs.declared.handles.Link.{Link}
use Rattle.tv_stream.specs.declared.nodes.Entry.{Entry}

-- what is read where there is no such link
abbrev pub no_link : Link
no_link = record { slot = 0 }

-- where a search ends: at the part, or at a link of a node, by which the part will hang
pub data Stop : Type 0 where
  found : ℕ → Stop
  free : ℕ → ℕ → Stop

abbrev pub part_found : Stop → Option ℕ
part_found (found s) = Some s
part_found (free at by) = None

-- by this link a node leads to the first of its own parts
abbrev pub own_link : ℕ
own_link = 4

module _ {B : Type 0} where
  -- where a link of a node leads
  abbrev pub leads : Entry B → ℕ → ℕ
  leads e by = lies_at (slice_index_or e.links by no_link)

  abbrev pub within : ℕ → Option (Entry B) → Option (ℕ × Entry B)
  within s e = if s == nowhere then None else option_map (λ f. (s, f)) e

  -- the node to which a link of the node in a slot leads
  unfoldable pub next : (ℕ → Option (Entry B)) → ℕ → ℕ → Option (ℕ × Entry B)
  next m at by = elim (m at) [ None ↦ None | Some e ↦ within (leads e by) (m (leads e by)) ]

  -- from a link on: a node that isn't the part leads on by the next digit of the index
  unfoldable pub seek : (ℕ → Option (Entry B)) → ℕ → ℕ → ℕ → ℕ → ℕ → Stop
  seek m zero at by index rest = free at by
  seek m (suc left) at by index rest = elim (next m at by) [
    | None ↦ free at by
    | Some (s, e) ↦ if e.index == index then found s else seek m left s (rest % 4) index (rest / 4)
  ]

  -- an index has 16 digits
  unfoldable pub seek_part : (ℕ → Option (Entry B)) → ℕ → ℕ → Stop
  seek_part m s index = seek m 17 s own_link index index

  -- the part of the node in a slot at an index, as the slot in which it lies
  abbrev pub part_in : (ℕ → Option (Entry B)) → ℕ → ℕ → Option ℕ
  part_in m s index = part_found (seek_part m s index)

  -- what the node in a slot holds
  abbrev pub body_in : (ℕ → Option (Entry B)) → ℕ → Option B
  body_in m s = option_map (λ e. e.body) (m s)
