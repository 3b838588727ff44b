use Rattle.std.proofs.Common.{◌≡◌, ◌∙◌, true, false, ltb, length, take, sym, refl, ap, get_or, arith, Vec, ℕ, Global}
use Rattle.std.proofs.lemmas.Bool.{and_right}
use Rattle.std.proofs.lemmas.List.{take_all}
use Rattle.std.specs.List.{list_all}
use Rattle.tv_naming.proofs.Rows.{all-fails, is_graph-rows}
use Rattle.tv_naming.proofs.graphs.graph.is_graph.Goals as goal

pub returns-then-not-all_below : goal.returns-then-not-all_below
returns-then-not-all_below c =
    let n : ℕ = length c.args.before.now in
    let item_fails : list_all (λ u. ltb u n) c.list-item.result.items ≡ false = ap (λ us. list_all (λ u. ltb u n) us) (sym c.deref.ensures.value) ∙ sym c.if-not-all_below.ensures in
    let fails : list_all (λ u. ltb u n) (get_or c.args.before.now c.loop-list.list-index c.list-item.result).items ≡ false = ap (λ (vs : Vec ℕ Global). list_all (λ u. ltb u n) vs.items) (sym c.list-item.is) ∙ item_fails in
    let all : list_all (λ (vs : Vec ℕ Global). list_all (λ u. ltb u n) vs.items) c.args.before.now ≡ false = all-fails (λ (vs : Vec ℕ Global). list_all (λ u. ltb u n) vs.items) c.args.before.now c.loop-list.list-index c.list-item.result c.loop-list-test.true fails in
    sym (is_graph-rows c.args.before.now false all ∙ and_right _ false refl)

pub returns : goal.returns
returns c =
    let whole : take c.loop-list.list-index c.args.before.now ≡ c.args.before.now = take_all _ _ c.loop-list-test.false in
    let all : list_all (λ (vs : Vec ℕ Global). list_all (λ u. ltb u (length c.args.before.now)) vs.items) c.args.before.now ≡ true = rw whole at c.loop-list.invariant in
    rw (is_graph-rows c.args.before.now true all) (grind arith)
