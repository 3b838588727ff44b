use Rattle.std.proofs.Common.{◌≡◌, ◌+◌, ◌*◌, map, true}
use Rattle.std.specs.List.{list_all}
use Rattle.serde_json.specs.Data.{depth, items_depth}
use Rattle.serde_json.specs.View.{view as json_view, items_view as json_items}
use Rattle.tv_value.specs.Views.{strategy_view}
use Rattle.tv_flow.specs.PathViews.{at_view}
use Rattle.tv_flow.specs.Forms.{tree_form, items_form}
use Rattle.tv_flow.specs.Formed.{is_tree, tree_fits}
use Rattle.tv_flow.proofs.Growing.{put_before, items_from}
use Rattle.tv_flow.proofs.trees.+trees.Given as goal

-- deeper trees first; at one depth in the order of the calls
abbrev pub decreases-tree : goal.decreases-tree
decreases-tree l = 4 * depth (json_view l.json.now) + 3

abbrev pub decreases-cross_node : goal.decreases-cross_node
decreases-cross_node l = 4 * depth (json_view l.json.now) + 2

abbrev pub decreases-dot_node : goal.decreases-dot_node
decreases-dot_node l = 4 * depth (json_view l.json.now) + 2

abbrev pub decreases-prefix_node : goal.decreases-prefix_node
decreases-prefix_node l = 4 * depth (json_view l.json.now) + 2

abbrev pub decreases-pair : goal.decreases-pair
decreases-pair l = 4 * depth (json_view l.json.now) + 4

abbrev pub decreases-two_trees : goal.decreases-two_trees
decreases-two_trees l = 4 * items_depth (json_items l.items.now.items) + 5

abbrev pub decreases-children : goal.decreases-children
decreases-children l = 4 * depth (json_view l.json.now) + 1

abbrev pub decreases-trees : goal.decreases-trees
decreases-trees l = 4 * depth (json_view l.json.now) + 4

abbrev pub decreases-each_tree : goal.decreases-each_tree
decreases-each_tree l = 4 * items_depth (json_items l.items.now.items) + 5

abbrev pub invariant-each_tree-loop-index : goal.invariant-each_tree-loop-index
invariant-each_tree-loop-index l =
    let seen = map strategy_view l.trees.items in
    record {
      read : items_form (tree_form l.format) (at_view l.at) 0 (json_items l.items.items) ≡ put_before seen (items_from (tree_form l.format) (at_view l.at) l.items.items l.index);
      kept : list_all is_tree seen ≡ true;
      fits : list_all (tree_fits l.format) seen ≡ true;
    }
