use Rattle.std.proofs.Common.{subst, ◌≡◌, ◌++◌, ◌+◌, ◌∷◌, [], ◌<◌, map, ap, sym, ◌∙◌, vec_len, arith, length}
use Rattle.std.proofs.lemmas.Result.{on_ok_weaker}
use Rattle.tv_value.specs.Nested.{list, trees_of}
use Rattle.tv_cell.specs.PieceValues.{piece_value, piece_values}
use Rattle.tv_value.specs.Values.{holds_fault}
use Rattle.tv_cell.specs.Found.{found_value}
use Rattle.tv_cell.proofs.Faults.{no-fault-inside}
use Rattle.tv_cell.proofs.PieceLemmas.{count-each, list-holds, list-value, part-value}
use Rattle.tv_matching.specs.Matchers.{leaf_name}
use Rattle.tv_match.specs.Seen.{told_view}
use Rattle.tv_telling.specs.ValueTellings.{value_told}
use Rattle.tv_telling.proofs.Adding.{adds-both}
use Rattle.tv_telling.proofs.Sizes.{item-smaller, size, sizes}
use Rattle.tv_telling.proofs.Values.{list-told, none-at, popped, rest-end, rest-step, told_rest}
use Rattle.tv_telling.proofs.walking.+piece.Goals.{tell_piece-then-faulty-2, tell_piece-else-faulty-2}
use Rattle.tv_telling.proofs.walking.+piece.Goals as goal

pub tell_piece-tell_value-requires : goal.tell_piece-tell_value-requires
tell_piece-tell_value-requires t c = record {
  faulty = λ h. ap (λ o. holds_fault (found_value o)) c.in-Some.ensures
      ∙ elim c.if-faulty-2.branch [
        | tell_piece-then-faulty-2 w ↦ no-fault-inside _ c.in-Part.start (sym w.holds_fault-faulty-then-faulty-2.ensures ∙ sym w.faulty-is ∙ h)
        | tell_piece-else-faulty-2 w ↦
            sym (ap holds_fault (ap piece_value c.in-Part.is ∙ part-value c.in-Part.cell c.in-Part.start))
            ∙ c.requires.faulty w.if-faulty-2.false
      ];
}

pub tell_piece-tell_pieces-requires : goal.tell_piece-tell_pieces-requires
tell_piece-tell_pieces-requires t c =
    let ps = c.as_slice-pieces.result.now in
    let is = ap piece_value c.in-List.is ∙ list-value c.in-List.pieces ∙ ap (λ xs. list tt (trees_of (piece_values xs))) (sym c.as_slice-pieces.ensures) in (
      subst (λ n. sizes (trees_of (piece_values ps)) < n) (sym (ap size is) ∙ c.decreases) (omega arith),
      λ h. list-holds c.args.piece.now c.in-List.pieces ps c.in-List.is c.as_slice-pieces.ensures ∙ c.requires.faulty h,
    )

pub tell_pieces-tell_piece-requires : goal.tell_pieces-tell_piece-requires
tell_pieces-tell_piece-requires t c =
    let xs = c.args.pieces.now in
    let i = c.loop-index.index in
    let x = c.index-pieces-index.result in
    let within = c.loop-index-test.true in (
      subst (λ n. size (piece_value x) < n) c.decreases (item-smaller piece_value xs i x within c.index-pieces-index.is),
      λ h. none-at (λ p. holds_fault (piece_value p)) xs i x within c.index-pieces-index.is (c.requires.faulty h),
    )

pub tell_piece-returns-in_ok-tell_list-in-List-clause-told :
    goal.tell_piece-returns-in_ok-tell_list-in-List-clause-told
tell_piece-returns-in_ok-tell_list-in-List-clause-told t c =
    let q = c.args.place.now.items in
    let ps = c.as_slice-pieces.result.now in
    let more : 0 < c.args.levels = omega arith in
    on_ok_weaker c.tell_pieces.result
    (λ h. adds-both c.args.tellings.now.items c.tell_list.new.tellings.items c.tell_pieces.new.tellings.items _ _ _
    c.in_ok-tell_list-in-List.ensures h
    (λ s. list-told (leaf_name s c.args.leaf) c.args.levels (length ps) q c.as_slice-in-List.result.now (piece_value c.args.piece.now) (trees_of (piece_values ps)) more c.as_slice-in-List.ensures.value
    (ap piece_value c.in-List.is ∙ list-value c.in-List.pieces ∙ ap (λ xs. list tt (trees_of (piece_values xs))) (sym c.as_slice-pieces.ensures)) (sym (count-each piece_value ps))))
    c.tell_pieces.ensures.told

pub tell_pieces-loop-index-preserved : goal.tell_pieces-loop-index-preserved
tell_pieces-loop-index-preserved t c =
    let q = c.args.place.now.items in
    let xs = c.args.pieces.now in
    let i = c.loop-index.index in
    let x = c.index-pieces-index.result in
    let inv = c.loop-index.invariant in
    let at_place : c.push.new.self.items ≡ q ++ i ∷ [] = c.in_ok-push.ensures.items ∙ (λ k. inv.place k ++ c.in_ok-index_of.ensures k ∷ []) in
    record {
      place = c.pop.ensures.rest ∙ popped q c.tell_piece.new.place.items i (vec_len c.tell_piece.new.place) (c.in_ok-tell_piece.ensures.place ∙ at_place) (omega (arith, c.tell_piece.new.place.ok.0));
      told = λ s.
          let p = leaf_name s c.args.leaf in
          ap (λ ts. ts ++ told_rest piece_value p c.args.levels q xs (i + 1)) (c.in_ok-tell_piece.ensures.told s ∙ ap (λ r. map (told_view s) c.loop-index.tellings.items ++ value_told p c.args.levels r (piece_value x)) at_place)
          ∙ rest-step piece_value p c.args.levels q (map (told_view s) c.loop-index.tellings.items) xs i x c.loop-index-test.true c.index-pieces-index.is
          ∙ inv.told s;
    }

pub tell_pieces-returns-clause-told : goal.tell_pieces-returns-clause-told
tell_pieces-returns-clause-told t c = λ s.
    sym (rest-end piece_value (leaf_name s c.args.leaf) c.args.levels c.args.place.now.items (map (told_view s) c.loop-index.tellings.items) c.args.pieces.now c.loop-index.index c.loop-index-test.false)
    ∙ c.loop-index.invariant.told s
