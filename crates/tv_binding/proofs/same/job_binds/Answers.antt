use Rattle.std.proofs.Common.{◌≡◌, ◌<◌, ◌≤◌, ◌+◌, Some, drop, length, map, take, is_some, sym, ap, ◌∙◌, subst}
use Rattle.std.specs.Prelude.{◌↔◌, IsTrue, option_map}
use Rattle.std.proofs.lemmas.List.{length-map}
use Rattle.std.proofs.lemmas.Option.{get_or_from_slice_get, slice_get_within}
use Rattle.tv_value.specs.Views.{strategy_view, view}
use Rattle.tv_strategy.specs.Conditions.{number_of}
use Rattle.tv_strategy.specs.Splits.{split}
use Rattle.tv_naming.specs.Naming.{numbered}
use Rattle.tv_naming.proofs.Told.{length-numbered}
use Rattle.tv_outputs.proofs.Comparing.{told-no, told-yes, value-at}
use Rattle.tv_binding.specs.Constants.{constant_of_port, constants_view}
use Rattle.tv_binding.specs.Delivered.{wrapped_value}
use Rattle.tv_binding.specs.Found.{feed_found}
use Rattle.tv_binding.specs.Jobs.{port_found, wraps}
use Rattle.tv_binding.specs.Parts.{IsPartOf}
use Rattle.tv_binding.specs.Sourced.{known_by}
use Rattle.tv_binding.proofs.Comparing.{all-many, each-all, each-at, each-more, one-other, port-at}
use Rattle.tv_binding.proofs.SourceLemmas.{at-number, numbered-found, some-inside}
use Rattle.tv_binding.proofs.same.job_binds.Goals as goal

pub returns-then-values-step : goal.returns-then-values-step
returns-then-values-step c =
    let s = c.args.step.now in
    let f = port_found (known_by c.args.sources.now) (constants_view c.args.constants.now) s (split (number_of s.mismatch.now) (strategy_view s.tree.now) c.args.place.now) in
    let xs = numbered 0 s.ports.now in
    told-no (λ h. c.if-values-step.true (sym (length-map c.args.values.now view) ∙ all-many (map f xs) (map view c.args.values.now) h ∙ length-map xs f ∙ length-numbered 0 s.ports.now))

pub bounds-starts-port : goal.bounds-starts-port
bounds-starts-port c =
    let s = c.args.step.now in
    let r = each-at (IsPartOf s c.args.place.now c.args.starts.now) s.ports.now c.loop-number.number c.port-item.result c.requires.parts c.loop-number-test.true c.port-item.is in
    slice_get_within c.args.starts.now c.port-item.result.leaf r.start r.begins

pub part_of-part-requires : goal.part_of-part-requires
part_of-part-requires c =
    let s = c.args.step.now in
    let p = c.port-item.result in
    let r = each-at (IsPartOf s c.args.place.now c.args.starts.now) s.ports.now c.loop-number.number p c.requires.parts c.loop-number-test.true c.port-item.is in
    subst (λ n. n + p.levels ≤ length c.args.place.now) (sym (get_or_from_slice_get c.args.starts.now p.leaf r.start 0 r.begins)) r.fits

pub port_is-requires-clause-found : goal.port_is-requires-clause-found
port_is-requires-clause-found c =
    let k = known_by c.args.sources.now in
    let cs = constants_view c.args.constants.now in
    let s = c.args.step.now in
    let q = c.args.place.now in
    let i = c.loop-number.number in
    let p = c.port-item.result in
    let f = port_found k cs s (split (number_of s.mismatch.now) (strategy_view s.tree.now) q) in
    let r = each-at (IsPartOf s q c.args.starts.now) s.ports.now i p c.requires.parts c.loop-number-test.true c.port-item.is in
    let here = c.part_of-part.ensures ∙ ap (λ n. take p.levels (drop n q)) (get_or_from_slice_get c.args.starts.now p.leaf r.start 0 r.begins) in
    ap (λ x. is_some (feed_found k p.feed (constant_of_port cs s.number i) x)) here
    ∙ some-inside (wrapped_value (wraps s.inputs.now s.delivered.now i)) (feed_found k p.feed (constant_of_port cs s.number i) (take p.levels (drop r.start q)))
    (sym (ap is_some (port-at k cs s q c.args.starts.now i p r)) ∙ numbered-found f s.ports.now i p c.requires.found c.loop-number-test.true c.port-item.is)

pub returns-then-not-port_is : goal.returns-then-not-port_is
returns-then-not-port_is c =
    let k = known_by c.args.sources.now in
    let cs = constants_view c.args.constants.now in
    let s = c.args.step.now in
    let q = c.args.place.now in
    let i = c.loop-number.number in
    let p = c.port-item.result in
    let v = c.index-values-number.result in
    let f = port_found k cs s (split (number_of s.mismatch.now) (strategy_view s.tree.now) q) in
    let r = each-at (IsPartOf s q c.args.starts.now) s.ports.now i p c.requires.parts c.loop-number-test.true c.port-item.is in
    let here = c.part_of-part.ensures ∙ ap (λ n. take p.levels (drop n q)) (get_or_from_slice_get c.args.starts.now p.leaf r.start 0 r.begins) in
    let same : f (i, p) ≡ option_map (wrapped_value (wraps s.inputs.now s.delivered.now i)) (feed_found k p.feed (constant_of_port cs s.number i) c.part_of-part.result.now) =
    port-at k cs s q c.args.starts.now i p r ∙ ap (λ x. option_map (wrapped_value (wraps s.inputs.now s.delivered.now i)) (feed_found k p.feed (constant_of_port cs s.number i) x)) (sym here) in
    let within : i < length c.args.values.now = subst (λ m. i < m) (sym c.if-values-step.false) c.loop-number-test.true in
    one-other (map f (numbered 0 s.ports.now)) (map view c.args.values.now) i (f (i, p)) (view v) (at-number f s.ports.now i p c.loop-number-test.true c.port-item.is) (value-at c.args.values.now i v within c.index-values-number.is)
    (subst (λ b. IsTrue b ↔ (f (i, p) ≡ Some (view v))) c.if-not-port_is.true (subst (λ o. IsTrue c.port_is.result ↔ (o ≡ Some (view v))) (sym same) c.port_is.ensures))

pub loop-number-preserved : goal.loop-number-preserved
loop-number-preserved c =
    let k = known_by c.args.sources.now in
    let cs = constants_view c.args.constants.now in
    let s = c.args.step.now in
    let q = c.args.place.now in
    let i = c.loop-number.number in
    let p = c.port-item.result in
    let v = c.index-values-number.result in
    let f = port_found k cs s (split (number_of s.mismatch.now) (strategy_view s.tree.now) q) in
    let r = each-at (IsPartOf s q c.args.starts.now) s.ports.now i p c.requires.parts c.loop-number-test.true c.port-item.is in
    let here = c.part_of-part.ensures ∙ ap (λ n. take p.levels (drop n q)) (get_or_from_slice_get c.args.starts.now p.leaf r.start 0 r.begins) in
    let same : f (i, p) ≡ option_map (wrapped_value (wraps s.inputs.now s.delivered.now i)) (feed_found k p.feed (constant_of_port cs s.number i) c.part_of-part.result.now) =
    port-at k cs s q c.args.starts.now i p r ∙ ap (λ x. option_map (wrapped_value (wraps s.inputs.now s.delivered.now i)) (feed_found k p.feed (constant_of_port cs s.number i) x)) (sym here) in
    let within : i < length c.args.values.now = subst (λ m. i < m) (sym c.if-values-step.false) c.loop-number-test.true in
    each-more (map f (numbered 0 s.ports.now)) (map view c.args.values.now) i (view v) c.loop-number.invariant
    (at-number f s.ports.now i p c.loop-number-test.true c.port-item.is ∙ same ∙ c.port_is.ensures.0 c.if-not-port_is.false) (value-at c.args.values.now i v within c.index-values-number.is)

pub returns : goal.returns
returns c =
    let s = c.args.step.now in
    let f = port_found (known_by c.args.sources.now) (constants_view c.args.constants.now) s (split (number_of s.mismatch.now) (strategy_view s.tree.now) c.args.place.now) in
    let xs = numbered 0 s.ports.now in
    let many = length-map xs f ∙ length-numbered 0 s.ports.now in
    told-yes (each-all (map f xs) (map view c.args.values.now) (length-map c.args.values.now view ∙ c.if-values-step.false ∙ sym many) c.loop-number.number (subst (λ n. n ≤ c.loop-number.number) (sym many) c.loop-number-test.false) c.loop-number.invariant)
