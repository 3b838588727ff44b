-- What is known by the sources of an instance's feeds.
use Rattle.std.specs.Prelude.{ℕ, ◌+◌, ◌<◌, List, length, Option, Some, None, slice_get}
use Rattle.tv_value.specs.Readings.{length_limit}
use Rattle.tv_value.specs.Values.{Value}
use Rattle.tv_parts.specs.Partials.{Partial, wanting}
use Rattle.tv_pool.specs.declared.handles.Region.{Region}
use Rattle.tv_cell.specs.PieceValues.{piece_values}
use Rattle.tv_cell.specs.Soundness.{AreSound}
use Rattle.tv_outputs.specs.Known.{known, tree_in}
use Rattle.tv_outputs.specs.Kept as outputs
use Rattle.tv_check.specs.declared.feeds.NumberedFeed.{NumberedFeed}
use Rattle.tv_check.specs.Turned.{links_of}
use Rattle.tv_binding.specs.Found.{Known}
use Rattle.tv_binding.specs.declared.sources.Sources.{Sources}

-- the tree of an output of the step whose trees begin there; nothing is known where there is no such step
abbrev pub tree_from : List (Partial Value) → Option ℕ → ℕ → Partial Value
tree_from trees None o = wanting
tree_from trees (Some first) o = tree_in trees (first + o)

abbrev pub known_by : Sources → Known
known_by s = record {
  inputs = piece_values s.inputs.now;
  outputs = λ n o. tree_from (known s.pool.now s.outputs.now) (slice_get s.firsts.now n) o;
}

-- the trees stand in some region, and the inputs' pieces are sound
pub record Stand (s : Sources) : Type 0 where
  pub region : Region
  pub stand : outputs.Stand s.pool.now s.outputs.now region
  pub sound : AreSound s.inputs.now

-- the links of a feed can be counted by the code
abbrev pub IsCounted : NumberedFeed → Type 0
IsCounted f = length (links_of f) < length_limit
