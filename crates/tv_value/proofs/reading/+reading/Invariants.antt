use Rattle.std.proofs.Common.{◌≡◌, drop, map}
use Rattle.serde_json.specs.View.{items_view as json_items}
use Rattle.tv_value.specs.Readings.{read_items}
use Rattle.tv_value.specs.Views.{view}
use Rattle.tv_value.proofs.ReadingLemmas.{put_before}
use Rattle.tv_value.proofs.reading.+reading.Given as goal

abbrev pub invariant-items_of-loop-index : goal.invariant-items_of-loop-index
invariant-items_of-loop-index l =
    read_items 0 (json_items l.items.items) ≡ put_before (map view l.values.items) (read_items l.index (json_items (drop l.index l.items.items)))
