-- What is known once an event of a step is shown, which the trees don't show yet.
use Rattle.std.specs.Prelude.{◌≡◌, ℕ, ◌+◌, ◌≤◌, ◌<◌, ◌==◌, ◌&&◌, nat_lt, if◌then◌else◌, length, Some, slice_get, slice_index_or}
use Rattle.tv_value.specs.Nested.{Place}
use Rattle.tv_value.specs.Values.{Value}
use Rattle.tv_parts.specs.Partials.{Partial}
use Rattle.tv_parts.specs.Changes.{arrive, close_at, CanArrive, CanClose}
use Rattle.tv_cell.specs.PieceValues.{piece_values}
use Rattle.tv_cell.specs.Soundness.{AreSound}
use Rattle.tv_outputs.specs.Changes.{no_value}
use Rattle.tv_outputs.specs.Known.{known}
use Rattle.tv_binding.specs.Found.{Known}
use Rattle.tv_binding.specs.Sourced.{known_by}
use Rattle.tv_binding.specs.declared.sources.Sources.{Sources}
use Rattle.tv_binding.specs.declared.over.Over.{Over}
use Rattle.tv_binding.specs.declared.over.Brought.{Brought}
use Rattle.tv_binding.specs.declared.over.Brought.TheVariants.{Arrived, Closed}

-- the tree of an output with what the event brings there
abbrev pub tree_with : Brought → Place → ℕ → Partial Value → Partial Value
tree_with (Arrived ps) q o r = arrive q (slice_index_or (piece_values ps.now) o no_value) r
tree_with (Closed n) q o r = close_at q n r

-- the trees of its step are other ones, and all else is as before
abbrev pub known_over : Known → Over → Known
known_over k e = record {
  inputs = k.inputs;
  outputs = λ s o. if s == e.step && nat_lt o e.outputs
      then tree_with e.brought e.place.now o (k.outputs s o) else k.outputs s o;
}

-- what it brings can be put into the tree of that output
abbrev pub CanBring : Brought → Place → Partial Value → Type 0
CanBring (Arrived ps) q r = CanArrive q r
CanBring (Closed n) q r = CanClose q n r

-- there is a sound piece for each output
abbrev pub AreBrought : Brought → ℕ → Type 0
AreBrought (Arrived ps) count = (length ps.now ≡ count) × AreSound ps.now
AreBrought (Closed n) count = Unit {0}

-- the trees of its step are there, and can take what it brings
pub record CanCome (s : Sources) (e : Over) : Type 0 where
  pub first : ℕ
  pub step : slice_get s.firsts.now e.step ≡ Some first
  pub there : first + e.outputs ≤ length (known s.pool.now s.outputs.now)
  pub brought : AreBrought e.brought e.outputs
  pub can : (o : ℕ) → o < e.outputs
      → CanBring e.brought e.place.now ((known_by s).outputs e.step o)
