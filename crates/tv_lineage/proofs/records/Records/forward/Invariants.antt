use Rattle.std.proofs.Common.{filter_map, map, take, ◌≡◌}
use Rattle.tv_lineage.specs.Kept.{records_of}
use Rattle.tv_lineage.specs.Lineages.{leaf_label}
use Rattle.tv_lineage.specs.Views.{kept_of, leaf_view}
use Rattle.tv_lineage.proofs.records.Records.forward.Given as goal

abbrev pub invariant-loop-leaf : goal.invariant-loop-leaf
invariant-loop-leaf l = l.labels.items ≡ filter_map (leaf_label (records_of (kept_of l.self-inside.entries.items)) l.port l.place) (map leaf_view (take l.leaf-index l.leaves))
