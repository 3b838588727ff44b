use Rattle.std.proofs.Common.{◌≡◌, ◌∙◌, ℕ, ap, sym, subst, map, get_or}
use Rattle.std.proofs.lemmas.List.{take_all}
use Rattle.std.proofs.lemmas.Simd.{map-map}
use Rattle.tv_flow.specs.Views.{flow_view, step_input_view}
use Rattle.tv_check.specs.Ports.{levels_of, port_among}
use Rattle.tv_check.specs.declared.feeds.NumberedFeed.{NumberedFeed}
use Rattle.tv_check.specs.declared.ports.Port.{Port}
use Rattle.tv_check.proofs.Counting.{image-more, mapped-at}
use Rattle.tv_check.proofs.ports.ports_among.Goals as goal

pub loop-number-preserved : goal.loop-number-preserved
loop-number-preserved c =
    let f = flow_view c.args.flow.now in
    let leaves = map (λ n. n.now) c.args.leaves.now in
    let xs = c.args.inputs.now in
    let x = c.index-inputs-number.result in
    let y = c.index-mismatch-number.result in
    let made : NumberedFeed → ℕ → ℕ → Port = λ a b d. record { feed = a; levels = b; leaf = d } in
    let all = c.requires.mismatch ∙ map-map (λ i. (i.0, levels_of f i.1)) (λ x. (x.0, step_input_view x.1)) xs in
    let at : y ≡ (x.0, levels_of f (step_input_view x.1)) =
    mapped-at (λ x. (x.0, levels_of f (step_input_view x.1))) xs c.loop-number.number x y c.loop-number-test.true c.index-inputs-number.is (subst (λ ys. y ≡ get_or ys c.loop-number.number y) all c.index-mismatch-number.is)
    in
    let same =
    ap (λ z. made c.in_ok-feed_numbered.field-0 z.1 c.leaf_number.result) (sym c.index-mismatch-number.is)
    ∙ ap (λ a. made a y.1 c.leaf_number.result) c.in_ok-feed_numbered.ensures
    ∙ ap (λ z. made (port_among f leaves (x.0, step_input_view x.1)).feed z.1 c.leaf_number.result) at
    ∙ ap (λ n. made (port_among f leaves (x.0, step_input_view x.1)).feed (levels_of f (step_input_view x.1)) n) c.leaf_number.ensures
    in
    image-more (λ x. port_among f leaves (x.0, step_input_view x.1)) xs c.loop-number.ports.items c.push.new.self.items c.loop-number.number x (made c.in_ok-feed_numbered.field-0 (get_or c.args.mismatch.now c.loop-number.number y).1 c.leaf_number.result) c.loop-number-test.true c.index-inputs-number.is c.loop-number.invariant c.in_ok-push.ensures.items same

pub returns : goal.returns
returns c =
    let f = flow_view c.args.flow.now in
    let leaves = map (λ n. n.now) c.args.leaves.now in
    let xs = c.args.inputs.now in
    c.of.ensures
    ∙ c.loop-number.invariant
    ∙ ap (map (λ x. port_among f leaves (x.0, step_input_view x.1))) (take_all c.loop-number.number xs c.loop-number-test.false)
    ∙ sym (map-map (port_among f leaves) (λ x. (x.0, step_input_view x.1)) xs)
