-- What is asked of one tree of a list.
use Rattle.std.proofs.Common.{◌≡◌, ◌≤◌, ◌<◌, ◌+◌, ℕ, true, false, ◌||◌, List, length, take, Option, Some, sym, ap, ◌∙◌, arith}
use Rattle.std.specs.Prelude.{slice_get, nat_lt}
use Rattle.std.proofs.lemmas.Bool.{lt-ltb}
use Rattle.std.proofs.Math.Bool.{or-false, or-true}
use Rattle.tv_value.specs.Nested.{Place}
use Rattle.tv_value.specs.Values.{Value, holds_fault}
use Rattle.tv_parts.specs.Partials.{Partial, known_at, whole, holds_some, HoldsFaults}
use Rattle.tv_parts.specs.Changes.{arrive, close_at, CanArrive, CanClose}
use Rattle.tv_pool.specs.declared.handles.Region.{Region}
use Rattle.tv_stream.specs.declared.partial.Partial.{Partial as Handle}
use Rattle.tv_stream.specs.Trees.{Marked, tree_of, least_whole}
use Rattle.tv_stream.specs.Stands.{is_marked}
use Rattle.tv_stream.specs.Answers.{marked_item}
use Rattle.tv_stream.proofs.Mapped.{map-arrive, map-close, map-least, map-known, map-whole}
use Rattle.tv_cell.specs.declared.piece.Piece.{Piece}
use Rattle.tv_cell.specs.PieceValues.{piece_value}
use Rattle.tv_outputs.specs.Known.{Nodes, item_value, value_tree, known_in, tree_in}
use Rattle.tv_outputs.specs.Kept.{IsNoted, EachItem, AreKept}
use Rattle.tv_outputs.proofs.Lists.{tree-at}
use Rattle.tv_outputs.proofs.Mapping.{map-holds, each-known}
use Rattle.tv_outputs.proofs.Faults.{arrive-levels, close-levels}

marks : (t : Partial (Marked Piece)) → EachItem IsNoted t → holds_some is_marked t ≡ holds_some holds_fault (value_tree t)
marks t items = map-holds item_value holds_fault is_marked IsNoted (λ x h. h.marked) t items

module _ (pool : Nodes) (region : Region) (trees : List (Handle Piece)) (a : AreKept pool region trees) (k : ℕ) (tree : Handle Piece) (there : slice_get trees k ≡ Some tree) where
  pub least-arrived : (q : Place) (least : ℕ) → ((x : Marked Piece) → least_whole q (arrive q x (tree_of pool tree)) ≡ Some least) → (piece : Piece) → least_whole q (arrive q (piece_value piece) (tree_in (known_in pool trees) k)) ≡ Some least
  least-arrived q least h piece =
      let x = marked_item piece false in
      ap (λ t. least_whole q (arrive q (piece_value piece) t)) (tree-at pool trees k tree there)
      ∙ ap (least_whole q) (sym (map-arrive item_value q x (tree_of pool tree)))
      ∙ map-least item_value q (arrive q x (tree_of pool tree))
      ∙ h x

  pub least-closed : (q : Place) (n : ℕ) (least : Option ℕ) → least_whole q (close_at q n (tree_of pool tree)) ≡ least → least_whole q (close_at q n (tree_in (known_in pool trees) k)) ≡ least
  least-closed q n least h =
      ap (λ t. least_whole q (close_at q n t)) (tree-at pool trees k tree there)
      ∙ ap (least_whole q) (sym (map-close item_value q n (tree_of pool tree)))
      ∙ map-least item_value q (close_at q n (tree_of pool tree))
      ∙ h

  pub whole-there : whole (tree_of pool tree) ≡ whole (tree_in (known_in pool trees) k)
  whole-there = sym (map-whole item_value (tree_of pool tree)) ∙ ap whole (sym (tree-at pool trees k tree there))

  pub faults-there : holds_some is_marked (tree_of pool tree) ≡ holds_some holds_fault (tree_in (known_in pool trees) k)
  faults-there = marks (tree_of pool tree) (a.kept k tree there).items ∙ ap (λ t. holds_some holds_fault t) (sym (tree-at pool trees k tree there))

  pub levels-there : (q : Place) (n : ℕ) → ((m : ℕ) → m ≤ length q → nat_lt m n ≡ holds_some is_marked (known_at (take m q) (tree_of pool tree))) → HoldsFaults q (tree_in (known_in pool trees) k) n
  levels-there q n h m fits =
      h m fits
      ∙ marks (known_at (take m q) (tree_of pool tree)) (each-known IsNoted (take m q) (tree_of pool tree) (a.kept k tree there).items)
      ∙ ap (λ t. holds_some holds_fault t) (sym (map-known item_value (take m q) (tree_of pool tree)))
      ∙ ap (λ t. holds_some holds_fault (known_at (take m q) t)) (sym (tree-at pool trees k tree there))

-- no further level holds a fault where a value without one arrives, and all do where one with a fault does
pub levels-arrived : (q : Place) (v : Value) (t : Partial Value) (n : ℕ) → CanArrive q t → holds_fault v ≡ false → HoldsFaults q t n → HoldsFaults q (arrive q v t) n
levels-arrived q v t n can none h m fits =
    let b = holds_some holds_fault (known_at (take m q) t) in
    h m fits ∙ sym (arrive-levels holds_fault q v t can m fits ∙ ap (λ c. b || c) none ∙ or-false b)

pub levels-all : (q : Place) (v : Value) (t : Partial Value) → CanArrive q t → holds_fault v ≡ true → HoldsFaults q (arrive q v t) (length q + 1)
levels-all q v t can some m fits =
    let b = holds_some holds_fault (known_at (take m q) t) in
    lt-ltb m (length q + 1) (below m (length q) fits) ∙ sym (arrive-levels holds_fault q v t can m fits ∙ ap (λ c. b || c) some ∙ or-true b)
  where
    below : (m n : ℕ) → m ≤ n → m < n + 1
    below m n h = omega arith

pub levels-closed : (q : Place) (size : ℕ) (t : Partial Value) (n : ℕ) → CanClose q size t → HoldsFaults q t n → HoldsFaults q (close_at q size t) n
levels-closed q size t n can h m fits = h m fits ∙ sym (close-levels holds_fault q size t can m fits)
