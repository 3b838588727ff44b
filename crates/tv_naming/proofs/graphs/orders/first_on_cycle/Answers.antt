use Rattle.std.proofs.Common.{◌≡◌, ◌∙◌, ◌<◌, ◌∷◌, ℕ, suc, zero, List, [], Bool, true, false, length, get_or, subst, ap, sym, arith}
use Rattle.tv_naming.specs.graphs.Graphs.{is_one_of, is_on_cycle}
use Rattle.tv_naming.proofs.Cycles.{all_come-no_cycle, first_on_cycle-none, first_on_cycle-some}
use Rattle.tv_naming.proofs.graphs.orders.first_on_cycle.Goals as goal

pub returns-then-len-count : goal.returns-then-len-count
returns-then-len-count c =
    sym (all_come-no_cycle c.args.graph.now (omega (arith, c.if-len-count.true, ap length c.in_ok-order.ensures, c.in_ok-order.order.ok.0, c.len.ensures, c.len-count.ensures.count)))

marked : (ts : List Bool) (v : ℕ) → v < length ts → true ≡ get_or ts v true → get_or ts v false ≡ true
marked [] v h e = absurd (omega arith)
marked (t ∷ ts) zero h e = sym e
marked (t ∷ ts) (suc v) h e = marked ts v (omega arith) e

pub returns-then-index : goal.returns-then-index
returns-then-index c =
    let v : ℕ = c.loop-vertex.vertex in
    let below : v < length c.args.graph.now = omega (arith, c.loop-vertex-test.true, c.len-count.ensures.count) in
    let mark : get_or c.in_ok-marks.marks.items v false ≡ true =
    marked c.in_ok-marks.marks.items v (omega (arith, below, c.in_ok-marks.ensures.count, c.len-count.ensures.count)) (subst (λ (b : Bool). b ≡ get_or c.in_ok-marks.marks.items v b) c.if-index.true c.index.ensures) in
    let around : is_on_cycle c.args.graph.now v ≡ true =
    sym (c.in_ok-cyclic.ensures.are v below) ∙ ap (λ (xs : List ℕ). is_one_of xs v) (sym c.deref.ensures.value) ∙ sym (c.in_ok-marks.ensures.marks v) ∙ mark in
    sym (first_on_cycle-some c.args.graph.now v below around c.loop-vertex.invariant)

pub returns : goal.returns
returns c =
    sym (first_on_cycle-none c.args.graph.now (λ v below. c.loop-vertex.invariant v (omega (arith, c.loop-vertex-test.false, c.len-count.ensures.count))))
