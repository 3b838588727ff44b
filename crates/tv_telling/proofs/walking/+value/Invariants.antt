use Rattle.std.proofs.Common.{◌≡◌, ◌++◌, map}
use Rattle.tv_value.specs.Strategies.{Strategy}
use Rattle.tv_value.specs.Views.{items_view, view}
use Rattle.tv_matching.specs.Matchers.{leaf_name}
use Rattle.tv_match.specs.Seen.{told_view}
use Rattle.tv_telling.proofs.Sizes.{size, sizes}
use Rattle.tv_telling.proofs.Values.{told_rest}
use Rattle.tv_telling.proofs.walking.+value.Given as goal

abbrev pub decreases-tell_items : goal.decreases-tell_items
decreases-tell_items l = sizes (items_view l.items.now)

abbrev pub decreases-tell_value : goal.decreases-tell_value
decreases-tell_value l = size (view l.value.now)

abbrev pub invariant-tell_items-loop-index : goal.invariant-tell_items-loop-index
invariant-tell_items-loop-index l = record {
  place : l.place.items ≡ l.fn.place.items;
  told :
      (s : Strategy)
      → map (told_view s) l.tellings.items ++ told_rest view (leaf_name s l.leaf) l.levels l.fn.place.items l.value-items l.index
      ≡ map (told_view s) l.fn.tellings.items ++ told_rest view (leaf_name s l.leaf) l.levels l.fn.place.items l.value-items 0;
}
