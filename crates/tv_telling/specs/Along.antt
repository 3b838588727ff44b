-- The ways that lead from a step to another, along its wires.
use Rattle.std.specs.Prelude.{ℕ, ◌-◌, ◌==◌, ◌&&◌, not, Bool, List, [], filter, map, Option, Some, None, slice_index_or}
use Rattle.tv_telling.specs.declared.ways.Way.{Way}
use Rattle.tv_check.specs.declared.wires.Wire.{Wire}
use Rattle.tv_check.specs.declared.wiring.Wiring.{Wiring}

-- how many levels a port walks of what a link brings: a merge's own list is one more
abbrev pub levels_walked : ℕ → Option ℕ → ℕ
levels_walked k None = k
levels_walked k (Some i) = k - 1

abbrev pub way_of : Wire → Way
way_of w = record {
  leaf = w.leaf;
  output = w.output;
  levels = levels_walked w.levels w.link;
  item = w.link;
}

-- the port walks some levels
abbrev pub is_walked : Wire → Bool
is_walked w = not (w.levels == 0)

-- it leads into step c, to a port that walks some levels
abbrev pub leads_into : ℕ → Wire → Bool
leads_into c w = w.step == c && is_walked w

abbrev pub ways_into : ℕ → List Wire → List Way
ways_into c ws = map way_of (filter (leads_into c) ws)

-- the wires that come from a step
abbrev pub wires_from : Wiring → ℕ → List Wire
wires_from w s = slice_index_or w.wires s []
