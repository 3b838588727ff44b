use Rattle.std.proofs.Common.{◌≡◌, ℕ, ◌<◌, ◌*◌, suc, true, length, sym, ap, ◌∙◌, subst, arith, lt-suc_self}
use Rattle.std.specs.Prelude.{IfOk}
use Rattle.std.proofs.lemmas.Result.{IfOk-weaker}
use Rattle.tv_parts.specs.Partials.{part_at, whole}
use Rattle.tv_parts.specs.Below.{value_in}
use Rattle.tv_parts.specs.Changes.{arrive, is_place}
use Rattle.tv_stream.proofs.Ways.{nil-of}
use Rattle.tv_stream.proofs.Mapped.{map-part_at}
use Rattle.tv_cell.specs.declared.piece.Piece.{Piece}
use Rattle.tv_cell.specs.PieceValues.{piece_value}
use Rattle.tv_outputs.specs.Known.{item_value, value_tree}
use Rattle.tv_outputs.proofs.Building.{closes-has}
use Rattle.tv_outputs.proofs.PieceLemmas.{around-at, kind-closes, none-arrives, whole-closes}
use Rattle.tv_outputs.proofs.Seeing.{sees-part}
use Rattle.tv_outputs.proofs.pieces.+piece_around.Goals as goal

shorter : (n : ℕ) → suc (2 * n) < 2 * suc n
shorter n = omega arith

-- ---- at a node

pub piece_around-unreachable-requires : goal.piece_around-unreachable-requires
piece_around-unreachable-requires t c =
    let n = c.requires.seen in
    let s = c.in-Some.ensures.cases.0 in
    let v = piece_value c.args.piece in
    whole-closes n.0 c.in-Some.first.now c.in-Some.rest.now v (subst (λ q. is_place q (value_tree n.0) ≡ true) s n.2) (subst (λ q. whole (arrive q v (value_tree n.0)) ≡ true) s n.3) (λ m e. c.in_default-kind.not-Closed m (c.kind.ensures n.0 n.1.shows ∙ e))

pub piece_around-part_around-requires : goal.piece_around-part_around-requires
piece_around-part_around-requires t c =
    let n = c.requires.seen in
    let s = c.in-Some.ensures.cases.0 in
    let o = c.in-Some.rest.now in
    let a = around-at (value_tree n.0) c.args.place.now c.in-Some.first.now o (piece_value c.args.piece) s n.2 n.3 in (
      subst (λ m. suc (2 * length o) < m) (sym (ap (λ q. 2 * length q) s) ∙ c.decreases) (shorter (length o)),
      ((n.0, n.1, a.inner_there, a.inner_whole), c.requires.sound),
    )

pub piece_around-list_with-requires-clause-there : goal.piece_around-list_with-requires-clause-there
piece_around-list_with-requires-clause-there t c =
    let n = c.requires.seen in
    let a = around-at (value_tree n.0) c.args.place.now c.in-Some.first.now c.in-Some.rest.now (piece_value c.args.piece) c.in-Some.ensures.cases.0 n.2 n.3 in
    closes-has (value_tree n.0) c.in-Closed.length c.in-Some.first.now (kind-closes n.0 c.in-Closed.length (sym (c.kind.ensures n.0 n.1.shows) ∙ c.in-Closed.is)) a.list_there

pub piece_around-list_with-requires-clause-seen : goal.piece_around-list_with-requires-clause-seen
piece_around-list_with-requires-clause-seen t c =
    let n = c.requires.seen in
    let a = around-at (value_tree n.0) c.args.place.now c.in-Some.first.now c.in-Some.rest.now (piece_value c.args.piece) c.in-Some.ensures.cases.0 n.2 n.3 in
    (n.0, n.1, sym (c.kind.ensures n.0 n.1.shows) ∙ c.in-Closed.is, a.list_whole (piece_value c.in_ok-part.part) (c.in_ok-part.ensures.value n.0 n.1 a.inner_there a.inner_whole))

pub piece_around-returns-in_default-clause-value : goal.piece_around-returns-in_default-clause-value
piece_around-returns-in_default-clause-value t c r sees there w =
    let v = piece_value c.args.piece in
    ap (λ q. value_in (arrive q v (value_tree r))) (nil-of c.args.place.now (c.in_default.ensures {u = tt}).cases)

pub piece_around-returns-clause-value : goal.piece_around-returns-clause-value
piece_around-returns-clause-value t c r sees there w =
    let s = c.in-Some.ensures.cases.0 in
    let v = piece_value c.args.piece in
    let x = piece_value c.in_ok-part.part in
    let a = around-at (value_tree r) c.args.place.now c.in-Some.first.now c.in-Some.rest.now v s there w in
    let is = c.in_ok-part.ensures.value r sees a.inner_there a.inner_whole in
    IfOk-weaker c.list_with.result _ _ (λ (p : Piece) h. h ∙ a.list_value x is ∙ ap (λ q. value_in (arrive q v (value_tree r))) (sym s))
    (c.list_with.ensures.value r sees (sym (c.kind.ensures r sees.shows) ∙ c.in-Closed.is) (a.list_whole x is))

-- ---- in a part

pub part_around-piece_around-requires : goal.part_around-piece_around-requires
part_around-piece_around-requires t c =
    let n = c.requires.seen in
    let i = c.args.index in
    let q = c.args.place.now in
    let same = map-part_at item_value n.0 i in (
      subst (λ m. 2 * length q < m) c.decreases (lt-suc_self (2 * length q)),
      (
        (
          part_at n.0 i,
          sees-part c.args.look.now c.in-Some.part c.args.levels n.0 i n.1 (c.in-Some.ensures {u = tt} n.0 n.1.shows),
          subst (λ k. is_place q k ≡ true) same n.2,
          subst (λ k. whole (arrive q (piece_value c.args.piece) k) ≡ true) same n.3,
        ),
        c.requires.sound,
      ),
    )

pub part_around-returns-in-Some-clause-value : goal.part_around-returns-in-Some-clause-value
part_around-returns-in-Some-clause-value t c r sees there w =
    let i = c.args.index in
    let q = c.args.place.now in
    let v = piece_value c.args.piece in
    let same = map-part_at item_value r i in
    subst (λ k. IfOk c.piece_around.result (λ p. piece_value p ≡ value_in (arrive q v k))) (sym same)
    (c.piece_around.ensures.value (part_at r i) (sees-part c.args.look.now c.in-Some.part c.args.levels r i sees (c.in-Some.ensures {u = tt} r sees.shows)) (subst (λ k. is_place q k ≡ true) same there) (subst (λ k. whole (arrive q v k) ≡ true) same w))

pub part_around-returns-in-None-clause-value : goal.part_around-returns-in-None-clause-value
part_around-returns-in-None-clause-value t c r sees there w =
    let q = c.args.place.now in
    let v = piece_value c.args.piece in
    let same = map-part_at item_value r c.args.index ∙ ap value_tree (c.in-None.ensures {u = tt} r sees.shows) in
    none-arrives q v (subst (λ k. whole (arrive q v k) ≡ true) same w) ∙ ap (λ k. value_in (arrive q v k)) (sym same)
