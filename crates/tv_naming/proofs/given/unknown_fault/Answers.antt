use Rattle.tv_naming.specs.Faulty.{plainly, input_unknown}
use Rattle.std.proofs.Common.{◌∙◌, ap, sym, refl, Some}
use Rattle.tv_value.specs.Views.{view as value_view}
use Rattle.tv_naming.proofs.Firsts.{skipped, stopped, ended, quiet, told}
use Rattle.tv_naming.proofs.given.unknown_fault.Goals as goal

pub loop-name-init : goal.loop-name-init
loop-name-init c = rw c.as_slice-name-items.ensures refl

pub returns-then-not-is_declared : goal.returns-then-not-is_declared
returns-then-not-is_declared c =
    stopped _ (λ e. (e.0, value_view e.1)) c.as_slice-name-items.result.now c.loop-name.name-index c.loop-name-item.result _ c.loop-name-test.true c.loop-name-item.is (ap Some (c.plain_fault.ensures ∙ ap (plainly input_unknown) c.in_ok-spot.ensures) ∙ told _ _ (sym c.is_declared.ensures ∙ c.if-not-is_declared.true))
    ∙ sym c.loop-name.invariant

pub loop-name-preserved : goal.loop-name-preserved
loop-name-preserved c = c.loop-name.invariant ∙ skipped _ (λ e. (e.0, value_view e.1)) c.as_slice-name-items.result.now c.loop-name.name-index c.loop-name-item.result c.loop-name-test.true c.loop-name-item.is (quiet _ _ (sym c.is_declared.ensures ∙ c.if-not-is_declared.false))

pub returns : goal.returns
returns c = sym (c.loop-name.invariant ∙ ended _ (λ e. (e.0, value_view e.1)) c.as_slice-name-items.result.now c.loop-name.name-index c.loop-name-test.false)
