use Rattle.std.proofs.Common.{ap, ◌∙◌, map}
use Rattle.std.proofs.lemmas.List.{take_all}
use Rattle.serde_json.specs.Data.{array}
use Rattle.serde_json.specs.View.{items_of}
use Rattle.serde_json.proofs.Views.{view-Array}
use Rattle.tv_json.proofs.Printing.{map-twice}
use Rattle.tv_json.proofs.printed.array.Goals as goal

pub returns : goal.returns
returns g c =
    let things = c.args.things.now in
    view-Array c.loop-thing.items
    ∙ ap (λ ds. array (items_of ds))
    (c.loop-thing.invariant
    ∙ ap (map (λ x. g.T.Printed.printed (g.T.Printed.seen x))) (take_all c.loop-thing.thing-index things c.loop-thing-test.false)
    ∙ map-twice g.T.Printed.seen g.T.Printed.printed things)
