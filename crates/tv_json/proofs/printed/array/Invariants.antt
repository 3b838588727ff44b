use Rattle.std.proofs.Common.{◌≡◌, map, take}
use Rattle.serde_json.specs.View.{view as json_view}
use Rattle.tv_json.proofs.printed.array.Given as goal

abbrev pub invariant-loop-thing : goal.invariant-loop-thing
invariant-loop-thing g l = map json_view l.items.items ≡ map (λ x. g.T.Printed.printed (g.T.Printed.seen x)) (take l.thing-index l.things)
