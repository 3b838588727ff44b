use Rattle.std.proofs.Common.{◌<◌, ◌-◌, ◌*◌, ◌++◌, map, suc, sym, ap, ◌∙◌, subst, true≢false, lt-suc_self}
use Rattle.std.specs.Prelude.{slice_range}
use Rattle.std.proofs.lemmas.List.{append-nil}
use Rattle.std.proofs.lemmas.Result.{IfOk-weaker}
use Rattle.tv_lemmas.proofs.Numbers.{thrice-less}
use Rattle.tv_value.specs.Nested.{trees_of}
use Rattle.tv_value.specs.Values.{list_value}
use Rattle.tv_value.specs.Views.{view}
use Rattle.tv_value.specs.declared.value.Value.{Value}
use Rattle.tv_parts.specs.Partials.{part_at, whole}
use Rattle.tv_parts.specs.Below.{value_in}
use Rattle.tv_cell.proofs.PieceLemmas.{list-view}
use Rattle.tv_outputs.specs.Known.{item_value, value_tree}
use Rattle.tv_outputs.specs.PartValues.{list_values}
use Rattle.tv_outputs.proofs.Building.{range-none, closes-whole, closes-value}
use Rattle.tv_outputs.proofs.PieceLemmas.{item-is, item-sound, kind-closes, values-pushed, whole-kinds}
use Rattle.tv_outputs.proofs.Seeing.{sees-whole, whole-part}
use Rattle.tv_outputs.proofs.values.+whole_value.Goals as goal
use Rattle.tv_stream.proofs.Mapped.{map-part_at}

pub push_values-unreachable-requires : goal.push_values-unreachable-requires
push_values-unreachable-requires t c =
    let n = c.requires in
    let i = c.loop-index.index in
    let w = whole-part n.0 i (n.2 i c.loop-index-test.true) in
    true≢false (sym w ∙ ap (λ r. whole (value_tree r)) (c.in_default.ensures {u = tt} n.0 n.1.shows))

pub push_values-whole_value-requires : goal.push_values-whole_value-requires
push_values-whole_value-requires t c =
    let n = c.requires in
    let i = c.loop-index.index in
    let w = n.2 i c.loop-index-test.true in
    let s = sees-whole c.args.look.now c.in-Some.part c.args.levels n.0 i n.1 (c.in-Some.ensures {u = tt} n.0 n.1.shows) w in (
      subst (λ m. suc (suc (3 * (c.args.levels - 1))) < m) c.decreases (thrice-less c.args.levels s.0),
      (part_at n.0 i, s.1, whole-part n.0 i w),
    )

pub push_values-loop-index-init : goal.push_values-loop-index-init
push_values-loop-index-init t c r sees all =
    sym (append-nil (map view c.args.items.now.items))
    ∙ ap (λ us. map view c.args.items.now.items ++ us) (sym (range-none (list_values (value_tree r)) 0))

pub push_values-loop-index-preserved : goal.push_values-loop-index-preserved
push_values-loop-index-preserved t c r sees all =
    let i = c.loop-index.index in
    let x = c.in_ok-whole_value.field-0 in
    let w = all i c.loop-index-test.true in
    let s = sees-whole c.args.look.now c.in-Some.part c.args.levels r i sees (c.in-Some.ensures {u = tt} r sees.shows) w in
    values-pushed (value_tree r) i (map view c.args.items.now.items) c.loop-index.items.items c.push.new.self.items x w
    (c.in_ok-whole_value.ensures (part_at r i) s.1 (whole-part r i w) ∙ ap value_in (sym (map-part_at item_value r i)))
    (c.loop-index.invariant r sees all) c.in_ok-push.ensures.items

pub whole_list-push_values-requires : goal.whole_list-push_values-requires
whole_list-push_values-requires t c =
    (subst (λ m. 3 * c.args.levels < m) c.decreases (lt-suc_self _), c.requires)

pub whole_list-returns : goal.whole_list-returns
whole_list-returns t c r sees all =
    let vs = slice_range (list_values (value_tree r)) 0 c.args.length in
    list-view c.of.result
    ∙ ap list_value
    (c.of.ensures
    ∙ ap trees_of
    (c.in_ok-push_values.ensures r sees all ∙ ap (λ xs. map view xs ++ vs) c.in_ok-items.ensures.items))

pub whole_value-whole_list-requires : goal.whole_value-whole_list-requires
whole_value-whole_list-requires t c =
    let n = c.requires in (
      subst (λ m. suc (3 * c.args.levels) < m) c.decreases (lt-suc_self _),
      (n.0, n.1, closes-whole (value_tree n.0) c.in-Closed.length (kind-closes n.0 c.in-Closed.length (sym (c.kind.ensures n.0 n.1.shows) ∙ c.in-Closed.is)) n.2),
    )

pub whole_value-unreachable-requires : goal.whole_value-unreachable-requires
whole_value-unreachable-requires t c =
    let n = c.requires in
    whole-kinds n.0 n.2 (c.in_default.ensures {u = tt} n.0 n.1.shows) (λ m e. c.in_default-kind.not-Closed m (c.kind.ensures n.0 n.1.shows ∙ e))

pub whole_value-returns : goal.whole_value-returns
whole_value-returns t c r sees w =
    let closes = kind-closes r c.in-Closed.length (sym (c.kind.ensures r sees.shows) ∙ c.in-Closed.is) in
    IfOk-weaker c.whole_list.result _ _ (λ (x : Value) h. h ∙ sym (closes-value (value_tree r) c.in-Closed.length closes)) (c.whole_list.ensures r sees (closes-whole (value_tree r) c.in-Closed.length closes w))

pub whole_value-assemble-requires : goal.whole_value-assemble-requires
whole_value-assemble-requires t c =
    let n = c.requires in
    item-sound n.0 c.in-Some.piece.now (c.in-Some.ensures {u = tt} n.0 n.1.shows) n.1.noted

pub whole_value-returns-in-Some : goal.whole_value-returns-in-Some
whole_value-returns-in-Some t c r sees w =
    IfOk-weaker c.assemble.result _ _ (λ (x : Value) h. h ∙ item-is r c.in-Some.piece.now (c.in-Some.ensures {u = tt} r sees.shows)) c.assemble.ensures

pub push_values-overflow_sub-levels : goal.push_values-overflow_sub-levels
push_values-overflow_sub-levels t c =
    let n = c.requires in
    let i = c.loop-index.index in
    (sees-whole c.args.look.now c.in-Some.part c.args.levels n.0 i n.1 (c.in-Some.ensures {u = tt} n.0 n.1.shows) (n.2 i c.loop-index-test.true)).0
