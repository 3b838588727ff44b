use Rattle.std.specs.Global.{Global}
use Rattle.std.specs.Prelude.{Vec, filter}
use Rattle.std.proofs.Common.{◌++◌, ◌∷◌, [], map, take, ap, sym, ◌∙◌}
use Rattle.std.proofs.lemmas.List.{map-append, map_more}
use Rattle.std.proofs.lemmas.Option.{get_or_from_slice_get, slice_get_within}
use Rattle.tv_check.specs.declared.wires.Wire.{Wire}
use Rattle.tv_telling.specs.Along.{is_walked}
use Rattle.tv_spread.proofs.wires.walked_wires.Goals as goal

pub loop-step-preserved : goal.loop-step-preserved
loop-step-preserved c =
    let wires = c.args.wiring.now.wires in
    let k = c.loop-step.step in
    let row = c.row.result.now in
    ap (map (λ (r : Vec Wire Global). r.items)) c.in_ok-push.ensures.items
    ∙ map-append (λ (r : Vec Wire Global). r.items) c.loop-step.rows.items (c.in_ok-walked_among.field-0 ∷ [])
    ∙ (λ i. c.loop-step.invariant i ++ c.in_ok-walked_among.ensures i ∷ [])
    ∙ ap (λ r. map (filter is_walked) (take k wires) ++ filter is_walked r ∷ []) (sym (get_or_from_slice_get wires k row [] c.row.ensures))
    ∙ sym (map_more (filter is_walked) wires k [] (slice_get_within wires k row c.row.ensures))
