use Rattle.std.proofs.Common.{rules, ◌≡◌, ◌+◌, ◌++◌, ◌∷◌, [], ◌&&◌, Ok, map, true, false, codes, ap, sym, subst, ◌∙◌, arith}
use Rattle.std.proofs.lemmas.List.{map-append}
use Rattle.std.specs.List.{list_all}
use Rattle.serde_json.specs.Data.{depth}
use Rattle.serde_json.specs.View.{view as json_view, items_view as json_items, members_view}
use Rattle.serde_json.proofs.Views.{view-Object, view-Array}
use Rattle.tv_value.specs.Strategies.{cross, dot, prefix}
use Rattle.tv_flow.specs.Branch.{branch, pair}
use Rattle.tv_value.specs.Views.{strategy_view, tree_step, trees_step}
use Rattle.tv_value.specs.declared.tree.Tree as declared
use Rattle.tv_value.specs.declared.tree.Tree.TheVariants.{Prefix}
use Rattle.tv_value.specs.declared.tree.Tree.TheFolds.{fold_out-Tree}
use Rattle.tv_flow.specs.Complaints.{Path, index, and_then}
use Rattle.tv_flow.specs.PathViews.{at_view}
use Rattle.tv_flow.specs.Answers.{IsForm, fault_result}
use Rattle.tv_flow.specs.Forms.{is_second, tree_form, trees_form, prefix_form, two_trees, items_form, has}
use Rattle.tv_flow.specs.Formed.{is_tree, tree_fits, trees_fit, is_between, strategy_count, are_trees}
use Rattle.tv_flow.proofs.Places.{at-Index}
use Rattle.tv_flow.proofs.Growing.{put_before, items_from, items-more, items-stop, all-push, item_count-each}
use Rattle.tv_flow.proofs.Branches.{node-cross, node-dot, node-prefix, node-none, both-are, both-read, first-stops, right-stops, exactly-two, get-deep, item-deep, strategies_view-each, trees-stop, trees-read, trees-kept, trees-fit-each}
use Rattle.tv_flow.proofs.trees.+trees.Goals as goal

pub children-trees-requires : goal.children-trees-requires
children-trees-requires t c =
    let h = get-deep c.args.key.now (json_view c.args.json.now) (json_view c.in-Some.json.now) (sym c.in-Some.ensures) in
    omega arith

pub each_tree-tree-requires : goal.each_tree-tree-requires
each_tree-tree-requires t c =
    let xs = c.args.items.now.items in
    let i = c.loop-index.index in
    let h = item-deep xs i c.index.result.now (omega (arith, c.args.items.now.ok.0, c.len-index-end.ensures, c.loop-index-test.true)) in
    let e = ap (λ j. depth (json_view j)) c.index.ensures in
    omega arith

pub each_tree-loop-index-preserved : goal.each_tree-loop-index-preserved
each_tree-loop-index-preserved t c =
    let here = at_view c.args.at.now in
    let xs = c.args.items.now.items in
    let i = c.loop-index.index in
    let trees = c.loop-index.trees.items in
    let a = strategy_view c.in_ok-tree.tree in
    let grown : map strategy_view c.push.new.self.items ≡ map strategy_view trees ++ a ∷ [] = ap (map strategy_view) c.in_ok-push.ensures.items ∙ map-append strategy_view trees (c.in_ok-tree.tree ∷ []) in
    record {
      read =
          c.loop-index.invariant.read
          ∙ items-more (tree_form c.args.format) here xs i c.index.result.now (map strategy_view trees) a
          (omega (arith, c.args.items.now.ok.0, c.len-index-end.ensures, c.loop-index-test.true))
          (subst (λ j. tree_form c.args.format (index here i) (json_view j) ≡ Ok a) c.index.ensures (ap (λ (p : Path). tree_form c.args.format p (json_view c.index.result.now)) (sym (at-Index c.args.at i)) ∙ c.in_ok-tree.ensures.read))
          ∙ ap (λ ys. put_before ys (items_from (tree_form c.args.format) here xs (i + 1))) (sym grown);
      kept = ap (list_all is_tree) grown ∙ all-push is_tree (map strategy_view trees) a c.loop-index.invariant.kept c.in_ok-tree.ensures.kept;
      fits = ap (list_all (tree_fits c.args.format)) grown ∙ all-push (tree_fits c.args.format) (map strategy_view trees) a c.loop-index.invariant.fits c.in_ok-tree.ensures.fits;
    }

pub each_tree-returns-in_err-tree-clause-read : goal.each_tree-returns-in_err-tree-clause-read
each_tree-returns-in_err-tree-clause-read t c =
    let here = at_view c.args.at.now in
    let xs = c.args.items.now.items in
    let i = c.loop-index.index in
    let f = c.in_err-tree.field-0.0 in
    let stop = subst (λ j. tree_form c.args.format (index here i) (json_view j) ≡ fault_result f (tree_form c.args.format (index here i) (json_view j))) c.index.ensures (subst (λ p. tree_form c.args.format p (json_view c.index.result.now) ≡ fault_result f (tree_form c.args.format p (json_view c.index.result.now))) (at-Index c.args.at i) c.in_err-tree.ensures.read) in
    let whole = c.loop-index.invariant.read in
    let h : items_form (tree_form c.args.format) here 0 (json_items xs) ≡ fault_result f (items_form (tree_form c.args.format) here 0 (json_items xs)) =
    whole ∙ items-stop (tree_form c.args.format) here xs i c.index.result.now (map strategy_view c.loop-index.trees.items) f (omega (arith, c.args.items.now.ok.0, c.len-index-end.ensures, c.loop-index-test.true)) stop ∙ ap (fault_result f) (sym whole) in
    search rules

pub tree-returns-then-has-clause-read : goal.tree-returns-then-has-clause-read
tree-returns-then-has-clause-read t c =
    let here = at_view c.args.at.now in
    let is = ap json_view c.in-Object.is ∙ view-Object c.in-Object.field-0 in
    let law = subst (λ d. has (codes "cross") d ≡ true → tree_form c.args.format here d ≡ and_then (branch c.args.format (codes "cross") here d) (λ ts. Ok (cross ts))) (sym is) (node-cross c.args.format here (members_view c.in-Object.field-0.entries)) in
    subst (IsForm strategy_view c.cross_node.result) (sym (law (sym c.has.ensures ∙ c.if-has.true))) c.cross_node.ensures.read

pub tree-returns-then-has-2-clause-read : goal.tree-returns-then-has-2-clause-read
tree-returns-then-has-2-clause-read t c =
    let here = at_view c.args.at.now in
    let is = ap json_view c.in-Object.is ∙ view-Object c.in-Object.field-0 in
    let law = subst (λ d. has (codes "cross") d ≡ false → has (codes "dot") d ≡ true → tree_form c.args.format here d ≡ and_then (branch c.args.format (codes "dot") here d) (λ ts. Ok (dot ts))) (sym is) (node-dot c.args.format here (members_view c.in-Object.field-0.entries)) in
    subst (IsForm strategy_view c.dot_node.result) (sym (law (sym c.has.ensures ∙ c.if-has.false) (sym c.has-else-has.ensures ∙ c.if-has-2.true))) c.dot_node.ensures.read

pub trees-each_tree-requires : goal.trees-each_tree-requires
trees-each_tree-requires t c =
    let is = ap json_view c.in-Array.is ∙ view-Array c.in-Array.items in
    let deep = ap depth is in
    let few = item_count-each c.in-Array.items.items in
    (omega (arith, deep), omega (arith, few, c.item_count.ensures, c.in_ok-counted-in-Array.ensures.small))

pub trees-returns-in_err-trees-in-Array-clause-read : goal.trees-returns-in_err-trees-in-Array-clause-read
trees-returns-in_err-trees-in-Array-clause-read t c =
    let here = at_view c.args.at.now in
    let d = json_view c.args.json.now in
    let is = ap json_view c.in-Array.is ∙ view-Array c.in-Array.items in
    let f = c.in_err-trees-in-Array.field-0.0 in
    let h : trees_form c.args.format here d ≡ fault_result f (trees_form c.args.format here d) =
    trees-stop c.args.format here (json_items c.in-Array.items.items) d c.item_count.result is c.item_count.ensures c.in_ok-counted-in-Array.ensures.read f c.in_err-trees-in-Array.ensures.read in
    search rules

pub trees-returns-in_ok-trees-in-Array-clause-read : goal.trees-returns-in_ok-trees-in-Array-clause-read
trees-returns-in_ok-trees-in-Array-clause-read t c =
    let here = at_view c.args.at.now in
    let d = json_view c.args.json.now in
    let is = ap json_view c.in-Array.is ∙ view-Array c.in-Array.items in
    trees-read c.args.format here (json_items c.in-Array.items.items) d c.item_count.result is c.item_count.ensures c.in_ok-counted-in-Array.ensures.read (map strategy_view c.in_ok-trees-in-Array.trees.items) c.in_ok-trees-in-Array.ensures.read
    ∙ ap Ok (sym (strategies_view-each _))

pub trees-returns-in_ok-trees-in-Array-clause-kept : goal.trees-returns-in_ok-trees-in-Array-clause-kept
trees-returns-in_ok-trees-in-Array-clause-kept t c =
    let here = at_view c.args.at.now in
    let d = json_view c.args.json.now in
    let is = ap json_view c.in-Array.is ∙ view-Array c.in-Array.items in
    ap (λ ts. is_between 1 16 (strategy_count ts) && are_trees ts) (strategies_view-each _)
    ∙ trees-kept c.args.format here (json_items c.in-Array.items.items) d c.item_count.result is c.item_count.ensures c.in_ok-counted-in-Array.ensures.read (map strategy_view c.in_ok-trees-in-Array.trees.items) c.in_ok-trees-in-Array.ensures.read c.in_ok-counted-in-Array.ensures.kept c.in_ok-trees-in-Array.ensures.kept

pub trees-returns-in_ok-trees-in-Array-clause-fits : goal.trees-returns-in_ok-trees-in-Array-clause-fits
trees-returns-in_ok-trees-in-Array-clause-fits t c =
    ap (trees_fit c.args.format) (strategies_view-each _)
    ∙ trees-fit-each c.args.format (map strategy_view c.in_ok-trees-in-Array.trees.items)
    ∙ c.in_ok-trees-in-Array.ensures.fits

pub tree-returns-then-has_pair-clause-read : goal.tree-returns-then-has_pair-clause-read
tree-returns-then-has_pair-clause-read t c =
    let here = at_view c.args.at.now in
    let is = ap json_view c.in-Object.is ∙ view-Object c.in-Object.field-0 in
    let law = subst (λ d. has (codes "cross") d ≡ false → has (codes "dot") d ≡ false → (is_second c.args.format && has (codes "prefix") d) ≡ true → tree_form c.args.format here d ≡ pair c.args.format here d) (sym is) (node-prefix c.args.format here (members_view c.in-Object.field-0.entries)) in
    subst (IsForm strategy_view c.prefix_node.result) (sym (law (sym c.has.ensures ∙ c.if-has.false) (sym c.has-else-has.ensures ∙ c.if-has-2.false) (sym c.has_pair.ensures ∙ c.if-has_pair.true))) c.prefix_node.ensures.read

pub tree-returns-else-has_pair-clause-read : goal.tree-returns-else-has_pair-clause-read
tree-returns-else-has_pair-clause-read t c =
    let here = at_view c.args.at.now in
    let is = ap json_view c.in-Object.is ∙ view-Object c.in-Object.field-0 in
    let law = subst (λ d. has (codes "cross") d ≡ false → has (codes "dot") d ≡ false → (is_second c.args.format && has (codes "prefix") d) ≡ false → tree_form c.args.format here d ≡ and_then (branch c.args.format (codes "cross") here d) (λ ts. Ok (cross ts))) (sym is) (node-none c.args.format here (members_view c.in-Object.field-0.entries)) in
    subst (IsForm strategy_view c.cross_node-else-has_pair.result) (sym (law (sym c.has.ensures ∙ c.if-has.false) (sym c.has-else-has.ensures ∙ c.if-has-2.false) (sym c.has_pair.ensures ∙ c.if-has_pair.false))) c.cross_node-else-has_pair.ensures.read

pub prefix_node-pair-requires : goal.prefix_node-pair-requires
prefix_node-pair-requires t c =
    let h = get-deep (codes "prefix") (json_view c.args.json.now) (json_view c.in-Some.json.now) (sym c.in-Some.ensures) in
    (omega arith, c.requires)

pub pair-two_trees-requires : goal.pair-two_trees-requires
pair-two_trees-requires t c =
    let is = ap json_view c.in-Array.is ∙ view-Array c.in-Array.items in
    let deep = ap depth is in (
      omega (arith, deep),
      (c.requires, item_count-each c.in-Array.items.items ∙ sym c.item_count.ensures ∙ exactly-two c.item_count.result c.in_ok-counted-in-Array.ensures.kept),
    )

pub two_trees-returns-in_err-left-clause-read : goal.two_trees-returns-in_err-left-clause-read
two_trees-returns-in_err-left-clause-read t c =
    let here = at_view c.args.at.now in
    let format = c.args.format in
    let xs = c.args.items.now.items in
    let l = c.index.result.now in
    let f = c.in_err-left.field-0.0 in
    let stop = subst (λ p. tree_form format p (json_view l) ≡ fault_result f (tree_form format p (json_view l))) (at-Index c.args.at 0) c.in_err-left.ensures.read in
    let h : two_trees format here (json_items xs) ≡ fault_result f (two_trees format here (json_items xs)) = first-stops format here xs l f c.requires.two c.index.ensures stop in
    search rules

pub two_trees-returns-in_err-right-clause-read : goal.two_trees-returns-in_err-right-clause-read
two_trees-returns-in_err-right-clause-read t c =
    let here = at_view c.args.at.now in
    let format = c.args.format in
    let xs = c.args.items.now.items in
    let l = c.index.result.now in
    let r = c.index-2.result.now in
    let f = c.in_err-right.field-0.0 in
    let left = ap (λ (p : Path). tree_form format p (json_view l)) (sym (at-Index c.args.at 0)) ∙ c.in_ok-left.ensures.read in
    let stop = subst (λ p. tree_form format p (json_view r) ≡ fault_result f (tree_form format p (json_view r))) (at-Index c.args.at 1) c.in_err-right.ensures.read in
    let are = both-are format here xs l r c.requires.two c.index.ensures c.index-2.ensures in
    let h : two_trees format here (json_items xs) ≡ fault_result f (two_trees format here (json_items xs)) =
    are ∙ right-stops format here (json_view l) (json_view r) f (strategy_view c.in_ok-left.left) left stop ∙ ap (fault_result f) (sym are) in
    search rules

pub two_trees-returns-clause-read : goal.two_trees-returns-clause-read
unfolding declared.out-Tree denote.Hole.Carrier.out
two_trees-returns-clause-read t c =
    let here = at_view c.args.at.now in
    let format = c.args.format in
    let l = c.index.result.now in
    let r = c.index-2.result.now in
    let a = strategy_view c.in_ok-left.left in
    let b = strategy_view c.in_ok-right.right in
    let left = ap (λ (p : Path). tree_form format p (json_view l)) (sym (at-Index c.args.at 0)) ∙ c.in_ok-left.ensures.read in
    let right = ap (λ (p : Path). tree_form format p (json_view r)) (sym (at-Index c.args.at 1)) ∙ c.in_ok-right.ensures.read in
    both-are format here c.args.items.now.items l r c.requires.two c.index.ensures c.index-2.ensures
    ∙ both-read format here (json_view l) (json_view r) a b left right
    ∙ ap (λ s. Ok (prefix (strategy_view s) b)) (sym c.in_ok-left-2.ensures.ok)
    ∙ ap (λ s. Ok (prefix (strategy_view c.in_ok-left-2.left.value) (strategy_view s))) (sym c.in_ok-right-2.ensures.ok)
    ∙ ap Ok (sym (fold_out-Tree _ _ tree_step trees_step (Prefix c.in_ok-left-2.left c.in_ok-right-2.right)))
