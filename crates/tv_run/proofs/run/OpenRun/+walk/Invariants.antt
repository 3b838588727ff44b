use Rattle.std.specs.Prelude.{List, Some, length, ℕ, ◌*◌, ◌+◌, ◌++◌, ◌≡◌}
use Rattle.tv_gate.specs.Outcomes.{Giving}
use Rattle.tv_instances.specs.FramingViews.{View}
use Rattle.tv_instances.specs.framing_turns.FirstReady.{by_falling_rank}
use Rattle.tv_instances.specs.Forest.{Instance, Instances, IsAt}
use Rattle.tv_run.specs.Standing.{Stands}
use Rattle.tv_run.specs.Walking.{IsOwn}
use Rattle.tv_run.proofs.WalkInside.{NoneOfFirst}
use Rattle.tv_run.proofs.WalkSteps.{NoneAmong}
use Rattle.tv_run.proofs.run.OpenRun.+walk.Given as goal

abbrev pub decreases-first_in : goal.decreases-first_in
decreases-first_in l = 3 * l.levels + 2

abbrev pub decreases-first_at : goal.decreases-first_at
decreases-first_at l = 3 * l.levels + 1

abbrev pub decreases-first_inside : goal.decreases-first_inside
decreases-first_inside l = 3 * l.levels

abbrev pub invariant-first_in-loop-step : goal.invariant-first_in-loop-step
invariant-first_in-loop-step l =
    (gives : Giving) (xs : Instances) (x : Instance) (v : View) → Stands gives l.self xs → IsAt xs l.instance x
    → x.view ≡ Some v → length x.name + l.levels ≡ 8
    → (passed : List ℕ) → passed ++ l.step-items ≡ by_falling_rank v.flow
    → NoneOfFirst gives l.self xs l.seeking l.instance x v (length passed + l.step-index)

abbrev pub invariant-first_inside-loop-number : goal.invariant-first_inside-loop-number
invariant-first_inside-loop-number l =
    (gives : Giving) (xs : Instances) (x : Instance) (v : View) → Stands gives l.self xs → IsAt xs l.instance x
    → x.view ≡ Some v → length x.name + l.levels ≡ 8
    → IsOwn gives l.self xs l.seeking l.instance x l.step l.own
    → NoneAmong gives l.self xs l.seeking l.instance x l.number-items l.number-index
