-- The wires of a plan's flow into ports that walk some levels.
use Rattle.std.specs.Global.{Global}
use Rattle.std.specs.Prelude.{◌≡◌, refl, ◌<◌, ◌^◌, filter, List, length, map, Vec}
use Rattle.std.proofs.Common.{arith, ap, ◌∙◌}
use Rattle.std.proofs.lemmas.List.FromFn.{length-map-range_with_len}
use Rattle.tv_flow.specs.Views.{flow_view}
use Rattle.tv_check.specs.declared.plans.FlowPlan.{FlowPlan}
use Rattle.tv_check.specs.declared.wires.Wire.{Wire}
use Rattle.tv_check.specs.declared.wiring.Wiring.{Wiring}
use Rattle.tv_check.specs.Turned.{all_wires, from_number}
use Rattle.tv_check.specs.Wirings.{all_ports, wires_by_step}
use Rattle.tv_telling.specs.Along.{is_walked}
use Rattle.tv_frame.proofs.Order.{few-steps}
use Rattle.tv_frame.proofs.TableLemmas.{as-many-steps, wiring-is}

module _ (p : FlowPlan) where
  pub few-rows : length p.wiring.wires < 2 ^ 32
  few-rows =
      let many : length p.wiring.wires ≡ length (flow_view p.flow).steps =
      ap (λ (w : Wiring). length w.wires) (wiring-is p)
      ∙ length-map-range_with_len (λ n. from_number n (all_wires (all_ports (flow_view p.flow)))) 0 (length (flow_view p.flow).steps)
      in
      let few = few-steps p p.steps refl in
      omega (arith, many, few, as-many-steps p)

  pub walked-rows : (rows : List (Vec Wire Global)) → map (λ row. row.items) rows ≡ map (filter is_walked) p.wiring.wires → map (λ row. row.items) rows ≡ map (filter is_walked) (wires_by_step (flow_view p.flow))
  walked-rows rows are = are ∙ ap (λ (w : Wiring). map (filter is_walked) w.wires) (wiring-is p)
