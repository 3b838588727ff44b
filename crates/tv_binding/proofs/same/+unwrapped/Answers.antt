use Rattle.std.proofs.Common.{◌-◌, ap, sym, ◌∙◌, map}
use Rattle.std.proofs.lemmas.List.{length-map}
use Rattle.tv_value.specs.Nested.{trees_of}
use Rattle.tv_value.specs.Values.{list_value}
use Rattle.tv_value.specs.Views.{view}
use Rattle.tv_outputs.proofs.Comparing.{list_of-view}
use Rattle.tv_binding.specs.Delivered.{wrapped_value}
use Rattle.tv_binding.proofs.Comparing.{answer-mapped, less-more, once-unwrapped, others-unwrapped, single, wrapped-once}
use Rattle.tv_binding.proofs.same.+unwrapped.Goals as goal

pub returns-in-Some : goal.returns-in-Some
returns-in-Some t c =
    let k = c.args.times - 1 in
    let vs = c.as_slice.result.now in
    let x = c.in-Some.item.now in
    let one = c.in-Some.ensures {u = tt} in
    let e = list_of-view c.args.value.now c.in-List.items vs c.in-List.is c.as_slice.ensures ∙ ap (λ us. list_value (trees_of us)) (single vs x one.0 one.1) in
    answer-mapped c.unwrapped.result
    (λ never v h. never v (once-unwrapped k v (view x) (ap (λ n. wrapped_value n v) (less-more c.args.times c.if-times-eq0.false) ∙ h ∙ e)))
    (λ y h. ap (λ n. wrapped_value n (view y.now)) (sym (less-more c.args.times c.if-times-eq0.false)) ∙ wrapped-once k (view y.now) (view x) h ∙ sym e)
    c.unwrapped.ensures

pub returns-in-None : goal.returns-in-None
returns-in-None t c v h =
    let vs = c.as_slice.result.now in
    others-unwrapped (c.args.times - 1) v (map view vs) (λ one. c.in-None.ensures {u = tt} (sym (length-map vs view) ∙ one))
    (ap (λ n. wrapped_value n v) (less-more c.args.times c.if-times-eq0.false) ∙ h ∙ list_of-view c.args.value.now c.in-List.items vs c.in-List.is c.as_slice.ensures)
