use Rattle.std.proofs.Common.{◌≡◌, ◌++◌, ◌-◌, ◌∷◌, [], length, map, take}
use Rattle.tv_value.specs.Strategies.{Strategy}
use Rattle.tv_cell.specs.PieceValues.{piece_value}
use Rattle.tv_matching.specs.Matchers.{leaf_name}
use Rattle.tv_matching.specs.Told.{close}
use Rattle.tv_match.specs.Seen.{told_view}
use Rattle.tv_telling.specs.Openings.{numbered_links_start}
use Rattle.tv_telling.proofs.opening.merge_start.Given as goal

abbrev pub invariant-loop-index : goal.invariant-loop-index
invariant-loop-index l =
    (s : Strategy)
    → map (told_view s) l.tellings.items
    ≡ map (told_view s) l.fn.tellings.items
    ++ close (leaf_name s l.leaf) [] (length l.links)
    ∷ numbered_links_start (map piece_value l.inputs) (leaf_name s l.leaf) (l.levels - 1) 0 (take l.index l.links)
