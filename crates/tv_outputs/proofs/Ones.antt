-- A change of one tree of a list, as its call leaves it.
use Rattle.std.proofs.Common.{◌≡◌, ◌<◌, ◌≤◌, ◌+◌, ℕ, List, length, Some, refl, sym, ap, ◌∙◌, subst, get_or}
use Rattle.std.specs.Prelude.{slice_get, slice_set}
use Rattle.std.proofs.lemmas.List.{set-get_or, length-map}
use Rattle.std.proofs.lemmas.Option.{slice_get_read}
use Rattle.tv_value.specs.Nested.{Place}
use Rattle.tv_value.specs.Values.{Value, holds_fault}
use Rattle.tv_parts.specs.Partials.{Partial}
use Rattle.tv_parts.specs.Changes.{arrive, close_at, CanArrive, CanClose}
use Rattle.tv_pool.specs.Pool.{number_of}
use Rattle.tv_pool.specs.declared.handles.Region.{Region}
use Rattle.tv_stream.specs.nodes.Calls.{count_in}
use Rattle.tv_stream.specs.declared.partial.Partial.{Partial as Handle}
use Rattle.tv_stream.specs.Trees.{tree_of}
use Rattle.tv_stream.specs.Stands.{Stands, KeepsTrees}
use Rattle.tv_stream.specs.Answers.{marked_item}
use Rattle.tv_stream.specs.NodeCounts.{tree_nodes, new_nodes}
use Rattle.tv_stream.proofs.NodeCounts.{nodes-added}
use Rattle.tv_stream.proofs.Mapped.{map-arrive, map-close, map-can_arrive, map-can_close}
use Rattle.tv_cell.specs.declared.piece.Piece.{Piece}
use Rattle.tv_cell.specs.PieceValues.{piece_value}
use Rattle.tv_cell.specs.Soundness.{IsSound}
use Rattle.tv_outputs.specs.Known.{Nodes, item_value, value_tree, known_of, known_in, tree_in}
use Rattle.tv_outputs.specs.Kept.{IsNoted, EachItem, AreKept}
use Rattle.tv_outputs.specs.Changes.{Turns}
use Rattle.tv_outputs.proofs.Lists.{tree-at}
use Rattle.tv_outputs.proofs.Mapping.{each-arrive, each-close}
use Rattle.tv_outputs.proofs.Keeping.{kept-grown, turns-grown}

pub within : (pool : Nodes) (trees : List (Handle Piece)) (k : ℕ) → k < length (known_in pool trees) → k < length trees
within pool trees k h = subst (λ n. k < n) (length-map trees (known_of pool)) h

pub fits : (k n m : ℕ) → k < n → m ≡ n → k < m
fits k n m h e = subst (λ x. k < x) (sym e) h

pub found : (pool : Nodes) (trees : List (Handle Piece)) (k : ℕ) (tree : Handle Piece) → k < length (known_in pool trees) → tree ≡ get_or trees k tree → slice_get trees k ≡ Some tree
found pool trees k tree h e = slice_get_read trees (length trees) k tree refl (within pool trees k h) e

module _ (pool : Nodes) (region : Region) (trees : List (Handle Piece)) (a : AreKept pool region trees) (k : ℕ) (tree : Handle Piece) (there : slice_get trees k ≡ Some tree) where
  pub one-stands : Stands pool tree
  one-stands = (a.slots k, (a.kept k tree there).stands)

  pub one-arrives : (q : Place) → CanArrive q (tree_in (known_in pool trees) k) → CanArrive q (tree_of pool tree)
  one-arrives q h = map-can_arrive item_value q (tree_of pool tree) (subst (CanArrive q) (tree-at pool trees k tree there) h)

  pub one-closes : (q : Place) (n : ℕ) → CanClose q n (tree_in (known_in pool trees) k) → CanClose q n (tree_of pool tree)
  one-closes q n h = map-can_close item_value q n (tree_of pool tree) (subst (CanClose q n) (tree-at pool trees k tree there) h)

  module _ (new : Nodes) (other : Handle Piece) (read : tree ≡ get_or trees k tree) (same : other ≡ tree) (keeps : KeepsTrees pool new tree) where
    pub one-same : slice_set trees k other ≡ trees
    one-same = ap (slice_set trees k) (same ∙ read) ∙ set-get_or trees k tree

    -- the region has at most the tree's new nodes more
    abbrev Fits : Place → Type 0
    Fits q = count_in new (number_of region) ≤ count_in pool (number_of region) + new_nodes q (tree_of pool tree)

    one-kept : (q : Place) → Fits q → tree_nodes (tree_of new other) ≡ tree_nodes (tree_of pool tree) + new_nodes q (tree_of pool tree) → EachItem IsNoted (tree_of new other) → AreKept new region (slice_set trees k other)
    one-kept q fits is items =
        subst (AreKept new region) (sym one-same)
        (kept-grown 0 pool new region trees a k tree there (keeps (a.slots k) (a.kept k tree there).stands) (new_nodes q (tree_of pool tree)) fits
        (ap (λ t. tree_nodes (tree_of new t)) (sym same) ∙ is) (subst (λ t. EachItem IsNoted (tree_of new t)) same items))

    one-turns : (t : Partial Value) → known_of new other ≡ t → Turns k t (known_in pool trees) (known_in new (slice_set trees k other))
    one-turns t is = subst (λ ts. Turns k t (known_in pool trees) (known_in new ts)) (sym one-same) (turns-grown 0 pool new region trees a k tree there (keeps (a.slots k) (a.kept k tree there).stands) t (ap (known_of new) (sym same) ∙ is))

    -- a piece arrived
    module _ (q : Place) (piece : Piece) (is : tree_of new other ≡ arrive q (marked_item piece (holds_fault (piece_value piece))) (tree_of pool tree)) where
      pub arrived-kept : Fits q → CanArrive q (tree_in (known_in pool trees) k) → IsSound piece → AreKept new region (slice_set trees k other)
      arrived-kept fits can sound = one-kept q fits (ap tree_nodes is ∙ nodes-added.arrival q (marked_item piece (holds_fault (piece_value piece))) (tree_of pool tree) (one-arrives q can)) (subst (EachItem IsNoted) (sym is) (each-arrive IsNoted q (marked_item piece (holds_fault (piece_value piece))) (tree_of pool tree) (record { sound = sound; marked = refl }) (a.kept k tree there).items))

      pub arrived-turns : Turns k (arrive q (piece_value piece) (tree_in (known_in pool trees) k)) (known_in pool trees) (known_in new (slice_set trees k other))
      arrived-turns = one-turns (arrive q (piece_value piece) (tree_in (known_in pool trees) k)) (
          ap value_tree is
          ∙ map-arrive item_value q (marked_item piece (holds_fault (piece_value piece))) (tree_of pool tree)
          ∙ ap (arrive q (piece_value piece)) (sym (tree-at pool trees k tree there))
          )

    -- a list was closed
    module _ (q : Place) (n : ℕ) (is : tree_of new other ≡ close_at q n (tree_of pool tree)) where
      pub closed-kept : Fits q → CanClose q n (tree_in (known_in pool trees) k) → AreKept new region (slice_set trees k other)
      closed-kept fits can = one-kept q fits (ap tree_nodes is ∙ nodes-added.close q n (tree_of pool tree) (one-closes q n can)) (subst (EachItem IsNoted) (sym is) (each-close IsNoted q n (tree_of pool tree) (a.kept k tree there).items))

      pub closed-turns : Turns k (close_at q n (tree_in (known_in pool trees) k)) (known_in pool trees) (known_in new (slice_set trees k other))
      closed-turns = one-turns (close_at q n (tree_in (known_in pool trees) k)) (
          ap value_tree is
          ∙ map-close item_value q n (tree_of pool tree)
          ∙ ap (close_at q n) (sym (tree-at pool trees k tree there))
          )
