use Rattle.std.proofs.Common.{◌<◌, ◌-◌, ◌*◌, ◌++◌, suc, true, refl, sym, ap, ◌∙◌, subst, true≢false, zero-le, lt-suc_self}
use Rattle.std.specs.Prelude.{slice_range}
use Rattle.std.proofs.lemmas.List.{append-nil}
use Rattle.std.proofs.lemmas.Result.{IfOk-weaker}
use Rattle.tv_lemmas.proofs.Numbers.{thrice-less}
use Rattle.tv_parts.specs.Partials.{part_at, whole}
use Rattle.tv_parts.specs.Below.{value_in}
use Rattle.tv_cell.specs.declared.piece.Piece.{Piece}
use Rattle.tv_cell.specs.PieceValues.{piece_value, piece_values}
use Rattle.tv_cell.specs.Soundness.{IsSound, AreSound}
use Rattle.tv_cell.proofs.PieceLemmas.{list-value}
use Rattle.tv_value.specs.Nested.{trees_of}
use Rattle.tv_value.specs.Values.{list_value}
use Rattle.tv_outputs.specs.Known.{item_value, value_tree}
use Rattle.tv_outputs.specs.PartValues.{list_values}
use Rattle.tv_outputs.proofs.Building.{range-none, closes-whole, closes-value}
use Rattle.tv_outputs.proofs.PieceLemmas.{more-sound, pushed, pushed-all, pieces-sound, item-is, item-sound, kind-closes, whole-kinds}
use Rattle.tv_outputs.proofs.Seeing.{sees-whole, whole-part}
use Rattle.tv_outputs.proofs.pieces.+whole_piece.Goals as goal
use Rattle.tv_stream.proofs.Mapped.{map-part_at}

pub push_parts-unreachable-requires : goal.push_parts-unreachable-requires
push_parts-unreachable-requires t c =
    let n = c.requires.seen in
    let i = c.loop-index.index in
    let w = whole-part n.0 i (n.2 i c.loop-index.auto.index c.loop-index-test.true) in
    true≢false (sym w ∙ ap (λ r. whole (value_tree r)) (c.in_default.ensures {u = tt} n.0 n.1.shows))

pub push_parts-whole_piece-requires : goal.push_parts-whole_piece-requires
push_parts-whole_piece-requires t c =
    let n = c.requires.seen in
    let i = c.loop-index.index in
    let w = n.2 i c.loop-index.auto.index c.loop-index-test.true in
    let s = sees-whole c.args.look.now c.in-Some.part c.args.levels n.0 i n.1 (c.in-Some.ensures {u = tt} n.0 n.1.shows) w in (
      subst (λ m. suc (suc (3 * (c.args.levels - 1))) < m) c.decreases (thrice-less c.args.levels s.0),
      (part_at n.0 i, s.1, whole-part n.0 i w),
    )

pub push_parts-loop-index-init : goal.push_parts-loop-index-init
push_parts-loop-index-init t c = record {
  values = λ r sees w. sym (append-nil (piece_values c.args.parts.now.items)) ∙ ap (λ us. piece_values c.args.parts.now.items ++ us) (sym (range-none (list_values (value_tree r)) c.args.first));
  sound = c.requires.sound;
}

pub push_parts-loop-index-preserved : goal.push_parts-loop-index-preserved
push_parts-loop-index-preserved t c =
    let i = c.loop-index.index in
    let x = c.in_ok-whole_piece.field-0 in
    let l = c.loop-index.invariant in
    record {
      values = λ r sees all.
          let w = all i c.loop-index.auto.index c.loop-index-test.true in
          let s = sees-whole c.args.look.now c.in-Some.part c.args.levels r i sees (c.in-Some.ensures {u = tt} r sees.shows) w in
          pushed (value_tree r) c.args.first i (piece_values c.args.parts.now.items) c.loop-index.parts.items c.push.new.self.items x c.loop-index.auto.index w
          (c.in_ok-whole_piece.ensures.value (part_at r i) s.1 (whole-part r i w) ∙ ap value_in (sym (map-part_at item_value r i))) (l.values r sees all) c.in_ok-push.ensures.items;
      sound = subst AreSound (sym c.in_ok-push.ensures.items) (more-sound c.loop-index.parts.items x l.sound c.in_ok-whole_piece.ensures.sound);
    }

pub list_piece-push_parts-requires : goal.list_piece-push_parts-requires
list_piece-push_parts-requires t c =
    let n = c.requires in (
      subst (λ m. 3 * c.args.levels < m) c.decreases (lt-suc_self _),
      (zero-le, ((n.0, n.1, λ i lo lt. n.2 i lt), subst AreSound (sym c.in_ok-parts.ensures.items) refl)),
    )

pub list_piece-returns-clause-value : goal.list_piece-returns-clause-value
list_piece-returns-clause-value t c r sees all =
    let vs = slice_range (list_values (value_tree r)) 0 c.args.length in
    list-value c.of.result ∙ ap (λ us. list_value (trees_of us)) (pushed-all c.of.result c.push_parts.new.parts.items c.in_ok-parts.parts.items vs c.of.ensures c.in_ok-parts.ensures.items (c.in_ok-push_parts.ensures.values r sees (λ i lo lt. all i lt)))

pub list_piece-returns-clause-sound : goal.list_piece-returns-clause-sound
list_piece-returns-clause-sound t c =
    let n = c.requires in
    let xs = list_values (value_tree n.0) in
    pieces-sound c.of.result xs c.args.length (pushed-all c.of.result c.push_parts.new.parts.items c.in_ok-parts.parts.items (slice_range xs 0 c.args.length) c.of.ensures c.in_ok-parts.ensures.items (c.in_ok-push_parts.ensures.values n.0 n.1 (λ i lo lt. n.2 i lt))) c.ranges.length.fits (subst AreSound (sym c.of.ensures) c.in_ok-push_parts.ensures.sound)

pub whole_piece-list_piece-requires : goal.whole_piece-list_piece-requires
whole_piece-list_piece-requires t c =
    let n = c.requires in (
      subst (λ m. suc (3 * c.args.levels) < m) c.decreases (lt-suc_self _),
      (n.0, n.1, closes-whole (value_tree n.0) c.in-Closed.length (kind-closes n.0 c.in-Closed.length (sym (c.kind.ensures n.0 n.1.shows) ∙ c.in-Closed.is)) n.2),
    )

pub whole_piece-unreachable-requires : goal.whole_piece-unreachable-requires
whole_piece-unreachable-requires t c =
    let n = c.requires in
    whole-kinds n.0 n.2 (c.in_default.ensures {u = tt} n.0 n.1.shows) (λ m e. c.in_default-kind.not-Closed m (c.kind.ensures n.0 n.1.shows ∙ e))

pub whole_piece-returns-clause-value : goal.whole_piece-returns-clause-value
whole_piece-returns-clause-value t c r sees w =
    let closes = kind-closes r c.in-Closed.length (sym (c.kind.ensures r sees.shows) ∙ c.in-Closed.is) in
    IfOk-weaker c.list_piece.result _ _ (λ (p : Piece) h. h ∙ sym (closes-value (value_tree r) c.in-Closed.length closes)) (c.list_piece.ensures.value r sees (closes-whole (value_tree r) c.in-Closed.length closes w))

pub whole_piece-returns-in-Some : goal.whole_piece-returns-in-Some
whole_piece-returns-in-Some t c =
    let x = c.in-Some.piece.now in
    let n = c.requires in
    record {
      value = λ r sees w. IfOk-weaker c.copy.result _ _ (λ (p : Piece) h. ap piece_value h ∙ item-is r x (c.in-Some.ensures {u = tt} r sees.shows)) c.copy.ensures;
      sound = IfOk-weaker c.copy.result _ _ (λ (p : Piece) h. subst IsSound (sym h) (item-sound n.0 x (c.in-Some.ensures {u = tt} n.0 n.1.shows) n.1.noted)) c.copy.ensures;
    }

pub push_parts-overflow_sub-levels : goal.push_parts-overflow_sub-levels
push_parts-overflow_sub-levels t c =
    let n = c.requires.seen in
    let i = c.loop-index.index in
    (sees-whole c.args.look.now c.in-Some.part c.args.levels n.0 i n.1 (c.in-Some.ensures {u = tt} n.0 n.1.shows) (n.2 i c.loop-index.auto.index c.loop-index-test.true)).0
