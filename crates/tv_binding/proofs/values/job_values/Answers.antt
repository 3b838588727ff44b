use Rattle.std.proofs.Common.{◌≡◌, ◌≤◌, ◌+◌, Some, drop, length, map, take, is_some, sym, ap, ◌∙◌, subst}
use Rattle.std.specs.Prelude.{option_map}
use Rattle.std.proofs.lemmas.Option.{get_or_from_slice_get, slice_get_within}
use Rattle.tv_value.specs.Nested.{items}
use Rattle.tv_value.specs.Views.{strategy_view, view}
use Rattle.tv_value.proofs.ItemLemmas.{items-trees_of}
use Rattle.tv_strategy.specs.Conditions.{number_of}
use Rattle.tv_strategy.specs.Splits.{split}
use Rattle.tv_binding.specs.Constants.{constant_of_port, constants_view}
use Rattle.tv_binding.specs.Delivered.{wrapped_value}
use Rattle.tv_binding.specs.Found.{feed_found}
use Rattle.tv_binding.specs.Jobs.{port_found, wraps}
use Rattle.tv_binding.specs.Parts.{IsPartOf}
use Rattle.tv_binding.specs.Sourced.{known_by}
use Rattle.tv_binding.proofs.Comparing.{each-at, port-at}
use Rattle.tv_binding.proofs.SourceLemmas.{numbered-found, some-inside, values-all, values-more}
use Rattle.tv_binding.proofs.values.job_values.Goals as goal

pub bounds-starts-port : goal.bounds-starts-port
bounds-starts-port c =
    let s = c.args.step.now in
    let r = each-at (IsPartOf s c.args.place.now c.args.starts.now) s.ports.now c.loop-number.number c.port-item.result c.requires.parts c.loop-number-test.true c.port-item.is in
    slice_get_within c.args.starts.now c.port-item.result.leaf r.start r.begins

pub part_of-part-requires : goal.part_of-part-requires
part_of-part-requires c =
    let s = c.args.step.now in
    let p = c.port-item.result in
    let r = each-at (IsPartOf s c.args.place.now c.args.starts.now) s.ports.now c.loop-number.number p c.requires.parts c.loop-number-test.true c.port-item.is in
    subst (λ n. n + p.levels ≤ length c.args.place.now) (sym (get_or_from_slice_get c.args.starts.now p.leaf r.start 0 r.begins)) r.fits

pub port_value-requires-clause-found : goal.port_value-requires-clause-found
port_value-requires-clause-found c =
    let k = known_by c.args.sources.now in
    let cs = constants_view c.args.constants.now in
    let s = c.args.step.now in
    let q = c.args.place.now in
    let i = c.loop-number.number in
    let p = c.port-item.result in
    let f = port_found k cs s (split (number_of s.mismatch.now) (strategy_view s.tree.now) q) in
    let r = each-at (IsPartOf s q c.args.starts.now) s.ports.now i p c.requires.parts c.loop-number-test.true c.port-item.is in
    let here = c.part_of-part.ensures ∙ ap (λ n. take p.levels (drop n q)) (get_or_from_slice_get c.args.starts.now p.leaf r.start 0 r.begins) in
    ap (λ x. is_some (feed_found k p.feed (constant_of_port cs s.number i) x)) here
    ∙ some-inside (wrapped_value (wraps s.inputs.now s.delivered.now i)) (feed_found k p.feed (constant_of_port cs s.number i) (take p.levels (drop r.start q)))
    (sym (ap is_some (port-at k cs s q c.args.starts.now i p r)) ∙ numbered-found f s.ports.now i p c.requires.found c.loop-number-test.true c.port-item.is)

pub loop-number-preserved : goal.loop-number-preserved
loop-number-preserved c =
    let k = known_by c.args.sources.now in
    let cs = constants_view c.args.constants.now in
    let s = c.args.step.now in
    let q = c.args.place.now in
    let i = c.loop-number.number in
    let p = c.port-item.result in
    let f = port_found k cs s (split (number_of s.mismatch.now) (strategy_view s.tree.now) q) in
    let r = each-at (IsPartOf s q c.args.starts.now) s.ports.now i p c.requires.parts c.loop-number-test.true c.port-item.is in
    let here = c.part_of-part.ensures ∙ ap (λ n. take p.levels (drop n q)) (get_or_from_slice_get c.args.starts.now p.leaf r.start 0 r.begins) in
    let same : f (i, p) ≡ option_map (wrapped_value (wraps s.inputs.now s.delivered.now i)) (feed_found k p.feed (constant_of_port cs s.number i) c.part_of-part.result.now) =
    port-at k cs s q c.args.starts.now i p r ∙ ap (λ y. option_map (wrapped_value (wraps s.inputs.now s.delivered.now i)) (feed_found k p.feed (constant_of_port cs s.number i) y)) (sym here) in
    values-more f s.ports.now view c.loop-number.values.items c.push.new.self.items c.in_ok-port_value.field-0 i p c.loop-number.invariant c.in_ok-push.ensures.items c.loop-number-test.true c.port-item.is (same ∙ c.in_ok-port_value.ensures)

pub returns : goal.returns
returns c =
    let s = c.args.step.now in
    let f = port_found (known_by c.args.sources.now) (constants_view c.args.constants.now) s (split (number_of s.mismatch.now) (strategy_view s.tree.now) c.args.place.now) in
    values-all f s.ports.now (map view c.loop-number.values.items) c.loop-number.number c.loop-number.invariant c.loop-number-test.false
    ∙ ap Some (sym (ap items c.of.ensures ∙ items-trees_of (map view c.loop-number.values.items)))
