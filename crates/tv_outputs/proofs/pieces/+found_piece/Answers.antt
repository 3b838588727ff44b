use Rattle.std.proofs.Common.{ℕ, ◌<◌, suc, length, is_some, sym, ap, ◌∙◌, subst, arith}
use Rattle.std.proofs.lemmas.Result.{IfOk-weaker}
use Rattle.tv_parts.specs.Partials.{part_at}
use Rattle.tv_stream.proofs.Ways.{nil-of}
use Rattle.tv_cell.specs.declared.piece.Piece.{Piece}
use Rattle.tv_cell.specs.PieceValues.{piece_value}
use Rattle.tv_outputs.specs.Known.{value_tree}
use Rattle.tv_outputs.specs.FoundIn.{found_in}
use Rattle.tv_outputs.proofs.PieceLemmas.{here-found, here-whole, inside-found, item-sound, nothing-found, part-found}
use Rattle.tv_outputs.proofs.Seeing.{sees-part}
use Rattle.tv_outputs.proofs.pieces.+found_piece.Goals as goal

pub whole_piece-requires : goal.whole_piece-requires
whole_piece-requires t c =
    let n = c.requires in
    (n.0, n.1, here-whole (value_tree n.0) c.args.place.now (nil-of c.args.place.now (c.in_default.ensures {u = tt}).cases) n.2)

pub part-requires : goal.part-requires
part-requires t c =
    let n = c.requires in
    sym (ap is_some (part-found n.0 c.args.place.now c.in-Some.first.now c.in-Some.rest.now c.in-Some.ensures.cases.0 c.in-Some-item.piece.now (c.in-Some-item.ensures {u = tt} n.0 n.1.shows))) ∙ n.2

pub unreachable-requires : goal.unreachable-requires
unreachable-requires t c =
    let n = c.requires in
    let i = c.in-Some.first.now in
    let o = c.in-Some.rest.now in
    nothing-found o (
    ap (λ r. is_some (found_in o (value_tree r))) (sym (c.in-None-part.ensures {u = tt} n.0 n.1.shows))
    ∙ sym (ap is_some (inside-found n.0 c.args.place.now i o c.in-Some.ensures.cases.0 (c.in-None.ensures {u = tt} n.0 n.1.shows)))
    ∙ n.2)

pub found_piece-requires : goal.found_piece-requires
found_piece-requires t c =
    let n = c.requires in
    let s = c.in-Some.ensures.cases.0 in
    let i = c.in-Some.first.now in
    let o = c.in-Some.rest.now in (
      subst (λ m. length o < m) (sym (ap length s) ∙ c.decreases) (below (length o)),
      (
        part_at n.0 i,
        sees-part c.args.look.now c.in-Some-part.part c.args.levels n.0 i n.1 (c.in-Some-part.ensures {u = tt} n.0 n.1.shows),
        sym (ap is_some (inside-found n.0 c.args.place.now i o s (c.in-None.ensures {u = tt} n.0 n.1.shows))) ∙ n.2,
      ),
    )
  where
    below : (n : ℕ) → n < suc n
    below n = omega arith

pub returns-in_default-clause-value : goal.returns-in_default-clause-value
returns-in_default-clause-value t c r sees found =
    let nil = nil-of c.args.place.now (c.in_default.ensures {u = tt}).cases in
    let w = here-whole (value_tree r) c.args.place.now nil found in
    IfOk-weaker c.whole_piece.result _ _ (λ (p : Piece) h. here-found (value_tree r) c.args.place.now (piece_value p) nil w h) (c.whole_piece.ensures.value r sees w)

pub returns-in-Some-item-clause-value : goal.returns-in-Some-item-clause-value
returns-in-Some-item-clause-value t c r sees found =
    IfOk-weaker c.part.result _ _ (λ (p : Piece) h. part-found r c.args.place.now c.in-Some.first.now c.in-Some.rest.now c.in-Some.ensures.cases.0 c.in-Some-item.piece.now (c.in-Some-item.ensures {u = tt} r sees.shows) ∙ h) c.part.ensures.value

pub returns-in-Some-item-clause-sound : goal.returns-in-Some-item-clause-sound
returns-in-Some-item-clause-sound t c =
    let n = c.requires in
    c.part.ensures.sound (item-sound n.0 c.in-Some-item.piece.now (c.in-Some-item.ensures {u = tt} n.0 n.1.shows) n.1.noted)

pub returns-in-Some-part-clause-value : goal.returns-in-Some-part-clause-value
returns-in-Some-part-clause-value t c r sees found =
    let i = c.in-Some.first.now in
    let o = c.in-Some.rest.now in
    let inner = inside-found r c.args.place.now i o c.in-Some.ensures.cases.0 (c.in-None.ensures {u = tt} r sees.shows) in
    IfOk-weaker c.found_piece.result _ _ (λ (p : Piece) h. inner ∙ h)
    (c.found_piece.ensures.value (part_at r i) (sees-part c.args.look.now c.in-Some-part.part c.args.levels r i sees (c.in-Some-part.ensures {u = tt} r sees.shows)) (sym (ap is_some inner) ∙ found))
