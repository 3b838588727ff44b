-- The partial tree of an output of a step: what the events so far tell of it, piece by piece.
use Rattle.std.specs.Prelude.{ℕ, pred, ◌+◌, [], ◌∷◌, if◌then◌else◌, slice_get, unwrap_or}
use Rattle.tv_value.specs.Nested.{list, no_trees, Place}
use Rattle.tv_value.specs.Orders.{same_name}
use Rattle.tv_value.specs.Values.{Name, Value, fault_value}
use Rattle.tv_parts.specs.Changes.{arrive, close_at}
use Rattle.tv_parts.specs.Partials.{Partial, wanting}
use Rattle.tv_model.specs.instance.Events as events
use Rattle.tv_model.specs.instance.Events.{Event, Events, fault_set, gave, took}

-- so many levels are left below this place
abbrev pub levels_below : ℕ → Place → ℕ
levels_below d [] = d
levels_below d (i ∷ q) = levels_below (pred d) q

-- of the k-th output of step s, whose iteration has so many levels of lists above the output's declared depth: a value that a job
-- gave, a list that was closed, a fault that was passed
module _ (s : Name) (k levels declared : ℕ) where
  abbrev pub put_event : Event → Partial Value → Partial Value
  put_event (gave t q vs) p = if same_name s t
      then arrive q (unwrap_or (slice_get vs k) (list tt no_trees)) p else p
  put_event (events.closed t q n) p = if same_name s t then close_at q n p else p
  put_event (fault_set t q e) p =
      if same_name s t
      then arrive q (fault_value (record e { depth = levels_below levels q + declared })) p
      else p
  put_event (took t q) p = p

  abbrev pub part_so_far : Events → Partial Value
  part_so_far [] = wanting
  part_so_far (e ∷ es) = put_event e (part_so_far es)
