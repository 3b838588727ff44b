use Rattle.std.proofs.Common.{◌≡◌, ◌+◌, ℕ, sym, ap, ◌∙◌, subst, arith, slice_index_or}
use Rattle.std.proofs.lemmas.List.{get_or-map}
use Rattle.tv_parts.specs.Changes.{arrive}
use Rattle.tv_cell.specs.PieceValues.{piece_value, piece_values}
use Rattle.tv_outputs.specs.Known.{known, tree_in}
use Rattle.tv_outputs.specs.Changes.{no_value}
use Rattle.tv_parts.specs.Partials.{HoldsFaults}
use Rattle.tv_outputs.proofs.Counts.{counted-more}
use Rattle.tv_outputs.proofs.outputs.Outputs.faults_by_arrival.Goals as goal

pub loop-piece-preserved : goal.loop-piece-preserved
loop-piece-preserved c =
    let l = c.loop-piece.invariant in
    let i = c.loop-piece.piece-index in
    let ps = c.args.pieces.now in
    let q = c.args.place.now in
    let first = c.args.first in
    let trees = known c.args.pool.now c.args.self.now in
    let tree = λ (k : ℕ). arrive q (slice_index_or (piece_values ps) k no_value) (tree_in trees (first + k)) in
    let value : piece_value c.piece-item.result ≡ slice_index_or (piece_values ps) i no_value = ap piece_value c.piece-item.is ∙ sym (get_or-map piece_value ps i c.piece-item.result no_value c.loop-piece-test.true) in
    record {
      number = next c.loop-piece.number first i l.number;
      counted = counted-more i q c.args.faults.now.items c.loop-piece.faults.items c.push.new.self.items tree c.faults_with.result l.counted c.in_ok-push.ensures.ok
          (subst (λ v. HoldsFaults q (arrive q v (tree_in trees (first + i))) c.faults_with.result) value
          (subst (λ n. HoldsFaults q (arrive q (piece_value c.piece-item.result) (tree_in trees n)) c.faults_with.result) l.number c.faults_with.ensures));
    }
  where
    next : (n first i : ℕ) → n ≡ first + i → n + 1 ≡ first + (i + 1)
    next n first i h = omega arith
