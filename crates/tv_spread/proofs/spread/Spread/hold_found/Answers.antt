use Rattle.std.proofs.Common.{◌++◌, ◌∙◌, map}
use Rattle.std.specs.Prelude.{flat_map}
use Rattle.tv_telling.specs.Views.{way_tellings, whole_telling}
use Rattle.tv_spread.proofs.Holding.{can-shown}
use Rattle.tv_spread.proofs.spread.Spread.hold_found.Goals as goal

pub returns-clause-can : goal.returns-clause-can
returns-clause-can c = λ some.
    can-shown _ _ _
    (c.requires.can some _
    (λ s. c.in_ok-told.ensures s ∙ (λ n. flat_map (way_tellings s c.args.event.now) (c.as_slice.ensures.value n) ++ map (whole_telling s) (c.as_slice-2.ensures.value n))))
    c.in_ok-_things.ensures.ok
