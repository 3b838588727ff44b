use Rattle.std.proofs.lemmas.Result.{IfOk-weaker}
use Rattle.tv_gate.specs.Outcomes.{Giving}
use Rattle.tv_run.specs.Settlements.{GoesOnFirst, IsQuietRun}
use Rattle.tv_run.specs.Standing.{StandsOpen}
use Rattle.tv_run.specs.Turns.{SettlesTo}
use Rattle.tv_run.proofs.FlowsFirst.{goes-first, nothing-goes}
use Rattle.tv_run.proofs.run.OpenRun.open_first.Goals as goal

pub open_next-requires : goal.open_next-requires
open_next-requires c =
    let q = c.requires in
    (q.0, goes-first q.0 c.args.self.now q.1 q.2 c.in-Some.job (c.in-Some.ensures q.0 q.1.0 q.1.1))

pub returns-in-None-clause-settled : goal.returns-in-None-clause-settled
returns-in-None-clause-settled c = λ gives so quiet.
    nothing-goes gives c.args.self.now so quiet (c.in-None.ensures gives so.0 so.1)

pub returns-in-Some-clause-settled : goal.returns-in-Some-clause-settled
returns-in-Some-clause-settled c =
    let r = c.args.self.now in
    let s = c.open_next.new.self in
    IfOk-weaker c.open_next.result
    (λ b. (gives : Giving) → GoesOnFirst gives r c.in-Some.job → SettlesTo gives r s b)
    (λ b. (gives : Giving) → StandsOpen gives r → IsQuietRun gives r → SettlesTo gives r s b)
    (λ b h gives so quiet.
    h gives (goes-first gives r so quiet c.in-Some.job (c.in-Some.ensures gives so.0 so.1))) c.open_next.ensures.settled
