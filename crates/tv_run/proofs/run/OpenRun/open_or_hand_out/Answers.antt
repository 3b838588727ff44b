use Rattle.std.proofs.lemmas.Result.{IfOk-weaker}
use Rattle.tv_gate.specs.Outcomes.{Giving}
use Rattle.tv_run.specs.Settlements.{GoesOnFirst, IsQuietRun}
use Rattle.tv_run.specs.Standing.{StandsOpen}
use Rattle.tv_run.specs.Turns.{MovesTo}
use Rattle.tv_run.proofs.FlowsFirst.{goes-first}
use Rattle.tv_run.proofs.Moves.{rests}
use Rattle.tv_run.proofs.run.OpenRun.open_or_hand_out.Goals as goal

pub open_or_begin-requires : goal.open_or_begin-requires
open_or_begin-requires c =
    let q = c.requires in
    (q.0, goes-first q.0 c.args.self.now q.1 q.2 c.in-Some.job (c.in-Some.ensures q.0 q.1.0 q.1.1))

pub returns-in-None-clause-moved : goal.returns-in-None-clause-moved
returns-in-None-clause-moved c = λ gives so quiet.
    rests gives c.args.self.now so quiet (c.in-None.ensures gives so.0 so.1)

pub returns-in-Some-clause-moved : goal.returns-in-Some-clause-moved
returns-in-Some-clause-moved c =
    let r = c.args.self.now in
    let s = c.open_or_begin.new.self in
    IfOk-weaker c.open_or_begin.result
    (λ m. (gives : Giving) → GoesOnFirst gives r c.in-Some.job → MovesTo gives r s m)
    (λ m. (gives : Giving) → StandsOpen gives r → IsQuietRun gives r → MovesTo gives r s m)
    (λ m h gives so quiet.
    h gives (goes-first gives r so quiet c.in-Some.job (c.in-Some.ensures gives so.0 so.1))) c.open_or_begin.ensures.moved
