use Rattle.tv_value.specs.Views.{view as value_view}
use Rattle.tv_flow.specs.Views.{each}
use Rattle.tv_naming.specs.Inputs.{missing_against}
use Rattle.std.specs.List.{flat_map}
use Rattle.std.proofs.lemmas.List.{map-id}
use Rattle.tv_naming.specs.Faulty.{plainly, input_missing, first_of}
use Rattle.std.proofs.Common.{◌∙◌, ap, sym, Some}
use Rattle.tv_naming.proofs.Firsts.{skipped, stopped, ended, quiet, told}
use Rattle.tv_naming.proofs.given.missing_fault.Goals as goal

pub loop-name-init : goal.loop-name-init
loop-name-init c = rw c.as_slice-name-items.ensures (ap (λ xs. first_of (flat_map (missing_against (each value_view c.args.given.now)) xs)) (sym (map-id c.args.inputs.now)))

pub returns-then-not-is_given : goal.returns-then-not-is_given
returns-then-not-is_given c =
    stopped _ (λ e. e) c.as_slice-name-items.result.now c.loop-name.name-index c.loop-name-item.result _ c.loop-name-test.true c.loop-name-item.is (ap Some (c.plain_fault.ensures ∙ ap (plainly input_missing) c.in_ok-spot.ensures) ∙ told _ _ (sym c.is_given.ensures ∙ c.if-not-is_given.true))
    ∙ sym c.loop-name.invariant

pub loop-name-preserved : goal.loop-name-preserved
loop-name-preserved c = c.loop-name.invariant ∙ skipped _ (λ e. e) c.as_slice-name-items.result.now c.loop-name.name-index c.loop-name-item.result c.loop-name-test.true c.loop-name-item.is (quiet _ _ (sym c.is_given.ensures ∙ c.if-not-is_given.false))

pub returns : goal.returns
returns c = sym (c.loop-name.invariant ∙ ended _ (λ e. e) c.as_slice-name-items.result.now c.loop-name.name-index c.loop-name-test.false)
