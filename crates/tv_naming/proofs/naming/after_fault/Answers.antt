use Rattle.tv_flow.specs.Views.{flow_view}
use Rattle.std.specs.List.{flat_map}
use Rattle.std.proofs.lemmas.List.{map-id}
use Rattle.tv_naming.specs.Naming.{numbered, after_complaints}
use Rattle.tv_naming.specs.Faulty.{plainly, no_such_port, first_of}
use Rattle.std.proofs.Common.{◌∙◌, ap, sym, Some}
use Rattle.tv_naming.proofs.Firsts.{numbered_skipped, numbered_stopped, numbered_ended, quiet, told}
use Rattle.tv_naming.proofs.naming.after_fault.Goals as goal

pub loop-position-init : goal.loop-position-init
loop-position-init c = rw c.as_slice-earlier-items.ensures (ap (λ xs. first_of (flat_map (after_complaints c.args.name.now (flow_view c.args.flow.now) c.args.step_name.now) (numbered 0 xs))) (sym (map-id c.args.after.now)))

pub returns-then-not-has_step : goal.returns-then-not-has_step
returns-then-not-has_step c =
    numbered_stopped _ (λ n. n) c.as_slice-earlier-items.result.now c.loop-position.position c.earlier-item.result _ c.loop-position-test.true c.earlier-item.is (ap Some (c.plain_fault.ensures ∙ ap (plainly no_such_port) c.in_ok-spot.ensures) ∙ told _ _ (sym c.has_step.ensures ∙ c.if-not-has_step.true))
    ∙ sym c.loop-position.invariant

pub loop-position-preserved : goal.loop-position-preserved
loop-position-preserved c = c.loop-position.invariant ∙ numbered_skipped _ (λ n. n) c.as_slice-earlier-items.result.now c.loop-position.position c.earlier-item.result c.loop-position-test.true c.earlier-item.is (quiet _ _ (sym c.has_step.ensures ∙ c.if-not-has_step.false))

pub returns : goal.returns
returns c = sym (c.loop-position.invariant ∙ numbered_ended _ (λ n. n) c.as_slice-earlier-items.result.now c.loop-position.position c.loop-position-test.false)
