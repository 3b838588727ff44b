use Rattle.std.specs.Prelude.{List, Some, slice_get, ◌≡◌}
use Rattle.std.proofs.lemmas.Result.{IfOk-weaker}
use Rattle.tv_value.specs.Nested.{Place}
use Rattle.tv_value.specs.Values.{Name}
use Rattle.tv_value.specs.Views.{values_view}
use Rattle.tv_flow.specs.Flows.{Document, Flow}
use Rattle.tv_frame.specs.Answers.{AreInputs, numbered}
use Rattle.tv_frame.specs.FramingViews.{View}
use Rattle.tv_frame.specs.Kept.{Keeps}
use Rattle.tv_seats.specs.Seats.{Seat}
use Rattle.tv_forest.specs.seats.Seated.{spot_of}
use Rattle.tv_instances.specs.Standing.{IsOpen}
use Rattle.tv_instances.proofs.OpenLemmas.{numbered-at}
use Rattle.tv_instances.proofs.open.Open.values.Goals as goal

pub returns : goal.returns
returns c =
    let o = c.args.self.now in
    let plan = c.args.plan.now in
    let pool = c.args.pool.now in
    IfOk-weaker c.values.result
    (λ vs.
    (flows : List (Name × Flow)) (v : View) (j : Name × Place) → Keeps flows plan pool o.frame v
    → numbered v c.args.number ≡ Some j → AreInputs v j (values_view vs))
    (λ vs.
    (d : Document) (v : View) (s : Seat) → IsOpen d plan pool o v → slice_get o.seats.seats c.args.number ≡ Some s
    → AreInputs v (spot_of v.flow.steps s) (values_view vs))
    (λ vs h d v s io there.
    h d.flows v (spot_of v.flow.steps s) io.keeps (numbered-at d plan pool o v io c.args.number s there))
    c.values.ensures
