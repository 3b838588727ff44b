use Rattle.std.proofs.Common.{◌∙◌, ap, sym, map}
use Rattle.std.proofs.lemmas.List.{take_all}
use Rattle.std.proofs.lemmas.Simd.{map-map}
use Rattle.tv_flow.specs.Views.{each, step_view}
use Rattle.tv_naming.specs.Numbers.{position}
use Rattle.tv_naming.proofs.Lists.{map-same}
use Rattle.tv_check.specs.Wirings.{after_of}
use Rattle.tv_check.proofs.Counting.{image-more}
use Rattle.tv_check.proofs.wiring.after_by_steps.Goals as goal
use Rattle.tv_naming.proofs.ByPosition.{position-each}

pub loop-step-preserved : goal.loop-step-preserved
loop-step-preserved c =
    image-more (λ s. map (λ n. position n c.args.steps.now) s.1.after) c.as_slice-step-items.result.now c.loop-step.after.items c.push.new.self.items c.loop-step.step-index c.step-item.result c.in_ok-names_numbered.field-0 c.loop-step-test.true c.step-item.is c.loop-step.invariant c.in_ok-push.ensures.items c.in_ok-names_numbered.ensures

pub returns : goal.returns
returns c =
    let steps = c.args.steps.now in
    c.of.ensures
    ∙ c.loop-step.invariant
    ∙ ap (map (λ s. map (λ n. position n steps) s.1.after)) (take_all c.loop-step.step-index c.as_slice-step-items.result.now c.loop-step-test.false ∙ c.as_slice-step-items.ensures)
    ∙ map-same (λ s. map (λ n. position n steps) s.1.after) (λ s. after_of (each step_view steps) (step_view s.1)) steps (λ s. map-same (λ n. position n steps) (λ n. position n (each step_view steps)) s.1.after (λ n. sym (position-each step_view n steps)))
    ∙ sym (map-map (λ s. after_of (each step_view steps) s.1) (λ x. (x.0, step_view x.1)) steps)
