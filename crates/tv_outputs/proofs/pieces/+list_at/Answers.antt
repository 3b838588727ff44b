use Rattle.std.proofs.Common.{ℕ, ◌<◌, suc, length, refl, sym, ap, ◌∙◌, subst, arith}
use Rattle.std.specs.Prelude.{slice_range}
use Rattle.std.proofs.lemmas.Result.{IfOk-weaker}
use Rattle.tv_value.specs.Nested.{trees_of}
use Rattle.tv_value.specs.Values.{list_value}
use Rattle.tv_parts.specs.Partials.{known_at, part_at, whole}
use Rattle.tv_stream.proofs.Ways.{nil-of}
use Rattle.tv_cell.specs.declared.piece.Piece.{Piece}
use Rattle.tv_cell.specs.PieceValues.{piece_values}
use Rattle.tv_cell.specs.Soundness.{AreSound}
use Rattle.tv_cell.proofs.PieceLemmas.{list-value}
use Rattle.tv_outputs.specs.Known.{value_tree}
use Rattle.tv_outputs.specs.PartValues.{list_values}
use Rattle.tv_outputs.proofs.PieceLemmas.{known-none, known-part, list-is-sound, no-values}
use Rattle.tv_outputs.proofs.Seeing.{sees-part}
use Rattle.tv_outputs.proofs.pieces.+list_at.Goals as goal

pub list_piece-requires : goal.list_piece-requires
list_piece-requires t c =
    let n = c.requires in
    let nil = nil-of c.args.place.now (c.in_default.ensures {u = tt}).cases in
    (n.0, n.1, λ i lt. ap (λ q. whole (part_at (known_at q (value_tree n.0)) i)) nil ∙ n.2 i lt)

pub list_at-requires : goal.list_at-requires
list_at-requires t c =
    let n = c.requires in
    let s = c.in-Some.ensures.cases.0 in
    let i = c.in-Some.first.now in
    let o = c.in-Some.rest.now in (
      subst (λ m. length o < m) (sym (ap length s) ∙ c.decreases) (below (length o)),
      (
        part_at n.0 i,
        sees-part c.args.look.now c.in-Some-part.part c.args.levels n.0 i n.1 (c.in-Some-part.ensures {u = tt} n.0 n.1.shows),
        λ j lt. ap (λ k. whole (part_at k j)) (sym (known-part n.0 c.args.place.now i o s)) ∙ n.2 j lt,
      ),
    )
  where
    below : (n : ℕ) → n < suc n
    below n = omega arith

pub returns-in_default-clause-value : goal.returns-in_default-clause-value
returns-in_default-clause-value t c r sees all =
    let nil = nil-of c.args.place.now (c.in_default.ensures {u = tt}).cases in
    IfOk-weaker c.list_piece.result _ _ (λ (p : Piece) h. h ∙ ap (λ q. list_value (trees_of (slice_range (list_values (known_at q (value_tree r))) 0 c.args.length))) nil)
    (c.list_piece.ensures.value r sees (λ i lt. ap (λ q. whole (part_at (known_at q (value_tree r)) i)) nil ∙ all i lt))

pub returns-in-Some-part-clause-value : goal.returns-in-Some-part-clause-value
returns-in-Some-part-clause-value t c r sees all =
    let i = c.in-Some.first.now in
    let inner = known-part r c.args.place.now i c.in-Some.rest.now c.in-Some.ensures.cases.0 in
    IfOk-weaker c.list_at.result _ _ (λ (p : Piece) h. h ∙ ap (λ k. list_value (trees_of (slice_range (list_values k) 0 c.args.length))) (sym inner))
    (c.list_at.ensures.value (part_at r i) (sees-part c.args.look.now c.in-Some-part.part c.args.levels r i sees (c.in-Some-part.ensures {u = tt} r sees.shows)) (λ j lt. ap (λ k. whole (part_at k j)) (sym inner) ∙ all j lt))

pub returns-in-None-clause-value : goal.returns-in-None-clause-value
returns-in-None-clause-value t c r sees all =
    let o = c.in-Some.rest.now in
    let nothing = known-part r c.args.place.now c.in-Some.first.now o c.in-Some.ensures.cases.0 ∙ known-none o (value_tree (part_at r c.in-Some.first.now)) (ap value_tree (c.in-None.ensures {u = tt} r sees.shows)) in
    list-value c.of.result ∙ ap (λ us. list_value (trees_of us)) (ap piece_values (c.of.ensures ∙ c.new.ensures.items) ∙ sym (no-values (known_at c.args.place.now (value_tree r)) c.args.length nothing all))

pub returns-in-None-clause-sound : goal.returns-in-None-clause-sound
returns-in-None-clause-sound t c =
    let none = c.of.ensures ∙ c.new.ensures.items in
    list-is-sound c.of.result (subst (λ ps. length ps < _) (sym none) (omega arith)) (subst AreSound (sym none) refl)
