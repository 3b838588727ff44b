-- A region has no more nodes than its trees, and a tree no more than a value that it is below.
use Rattle.std.specs.Prelude.{◌≡◌, ℕ, suc, ◌+◌, ◌≤◌, max, ◌++◌, length}
use Rattle.std.proofs.Common.{arith, zero-le, suc-le-suc}
use Rattle.std.proofs.lemmas.List.{length-append}
use Rattle.tv_value.specs.Nested.{leaf, list, no_trees, tree, notes, all_notes}
use Rattle.tv_value.specs.Values.{Value}
use Rattle.tv_parts.specs.Below.{Below, FirstBelow, EachBelow, Values}
use Rattle.tv_parts.specs.Partials.{Partial, wanting, item, growing, closed, Parts, no_parts, part}
use Rattle.tv_stream.specs.NodeCounts.{known_nodes, known_nodes_of, tree_nodes}
use Rattle.tv_outputs.specs.Known.{all_nodes, known}
use Rattle.tv_outputs.specs.Stated.{TreesHaveAllNodes, TreesHaveNoMore, node_count}

pub all-nodes : TreesHaveAllNodes
all-nodes pool outputs region stand = plain (node_count pool region) (all_nodes (known pool outputs)) stand.few
  where
    plain : (m n : ℕ) → m ≤ 0 + n → m ≤ n
    plain m n h = omega arith

-- a value has a node at least
has-one : (v : Value) → 1 ≤ length (notes v)
has-one (leaf n a) = omega arith
has-one (list n vs) = one (length (all_notes vs))
  where
    one : (n : ℕ) → 1 ≤ suc n
    one n = omega arith

both : (a b c d n : ℕ) → a ≤ b → c ≤ d → n ≡ b + d → a + c ≤ n
both a b c d n h k e = omega arith

mutual
  known-few : (r : Partial Value) (v : Value) → Below r v → known_nodes r ≤ length (notes v)
  known-few wanting v h = zero-le
  known-few (item w) v h = has-one v
  known-few (growing ps) (leaf n a) h = absurd h
  known-few (growing ps) (list n vs) h = suc-le-suc {n = known_nodes_of ps} (first-few ps vs h)
  known-few (closed ps) (leaf n a) h = absurd h
  known-few (closed ps) (list n vs) h = suc-le-suc {n = known_nodes_of ps} (each-few ps vs h)

  first-few : (ps : Parts Value) (vs : Values) → FirstBelow ps vs → known_nodes_of ps ≤ length (all_notes vs)
  first-few no_parts vs h = zero-le
  first-few (part p ps) no_trees h = absurd h
  first-few (part p ps) (tree v vs) h = both (known_nodes p) (length (notes v)) (known_nodes_of ps) (length (all_notes vs)) (length (notes v ++ all_notes vs)) (known-few p v h.0) (first-few ps vs h.1) (length-append (notes v) (all_notes vs))

  each-few : (ps : Parts Value) (vs : Values) → EachBelow ps vs → known_nodes_of ps ≤ length (all_notes vs)
  each-few no_parts vs h = zero-le
  each-few (part p ps) no_trees h = absurd h
  each-few (part p ps) (tree v vs) h = both (known_nodes p) (length (notes v)) (known_nodes_of ps) (length (all_notes vs)) (length (notes v ++ all_notes vs)) (known-few p v h.0) (each-few ps vs h.1) (length-append (notes v) (all_notes vs))

pub no-more : TreesHaveNoMore
no-more r v h = most (known_nodes r) (length (notes v)) (known-few r v h) (has-one v)
  where
    most : (a n : ℕ) → a ≤ n → 1 ≤ n → max 1 a ≤ n
    most a n h k = omega arith
