use Rattle.std.proofs.Common.{◌∙◌, sym, ap, map, length, drop, ℕ, ◌+◌, ◌&&◌, arith}
use Rattle.std.specs.Prelude.{◌<◌}
use Rattle.std.proofs.lemmas.List.{length-map}
use Rattle.tv_lemmas.proofs.Lists.{get-map, get-read}
use Rattle.tv_value.specs.Values.{Name}
use Rattle.tv_flow.specs.declared.document.StepInput.{StepInput}
use Rattle.tv_check.specs.Depthwise.{same_ports}
use Rattle.tv_check.proofs.NestedLemmas.{ports-next, ports-lengths}
use Rattle.tv_check.proofs.nested.same_inputs.Goals as goal

pub returns-then-inputs-given : goal.returns-then-inputs-given
returns-then-inputs-given c =
    let v : Name × StepInput → Name × ℕ = λ i. (i.0, i.1.depth) in
    sym (ports-lengths (map v c.args.inputs.now) c.args.given.now (λ e. c.if-inputs-given.true (sym (length-map c.args.inputs.now v) ∙ e)))

pub returns-then-not-same_input : goal.returns-then-not-same_input
returns-then-not-same_input c =
    let v : Name × StepInput → Name × ℕ = λ i. (i.0, i.1.depth) in
    let i = c.loop-position.position in
    let lt : i < length c.args.given.now = omega arith in
    let rest = same_ports (drop (i + 1) (map v c.args.inputs.now)) (drop (i + 1) c.args.given.now) in
    let here = get-map v c.args.inputs.now i c.index-inputs-position.result (get-read c.args.inputs.now i c.index-inputs-position.result c.loop-position-test.true c.index-inputs-position.is) in
    let there = get-read c.args.given.now i c.index-given-position.result lt c.index-given-position.is in
    sym (c.loop-position.invariant ∙ ports-next (map v c.args.inputs.now) c.args.given.now i (v c.index-inputs-position.result) c.index-given-position.result here there ∙ ap (λ b. b && rest) (sym c.same_input.ensures ∙ c.if-not-same_input.true))

pub loop-position-preserved : goal.loop-position-preserved
loop-position-preserved c =
    let v : Name × StepInput → Name × ℕ = λ i. (i.0, i.1.depth) in
    let i = c.loop-position.position in
    let lt : i < length c.args.given.now = omega arith in
    let rest = same_ports (drop (i + 1) (map v c.args.inputs.now)) (drop (i + 1) c.args.given.now) in
    let here = get-map v c.args.inputs.now i c.index-inputs-position.result (get-read c.args.inputs.now i c.index-inputs-position.result c.loop-position-test.true c.index-inputs-position.is) in
    let there = get-read c.args.given.now i c.index-given-position.result lt c.index-given-position.is in
    c.loop-position.invariant ∙ ports-next (map v c.args.inputs.now) c.args.given.now i (v c.index-inputs-position.result) c.index-given-position.result here there ∙ ap (λ b. b && rest) (sym c.same_input.ensures ∙ c.if-not-same_input.false)
