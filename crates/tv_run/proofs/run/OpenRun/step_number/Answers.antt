use Rattle.std.specs.Prelude.{Some}
use Rattle.std.proofs.Common.{ap, arith, sym, ◌∙◌}
use Rattle.tv_run.proofs.Steps.{code-low, seats-within, step-read}
use Rattle.tv_run.proofs.run.OpenRun.step_number.Goals as goal

pub index-requires : goal.index-requires
index-requires c =
    let r = c.args.self.now in
    let q = c.requires in
    let m = c.known-instance.result in
    let h = code-low r q.0 q.1 c.args.job m c.known-instance.ensures in
    omega (arith, h, r.instances.ok.0)

pub step-requires : goal.step-requires
step-requires c =
    let r = c.args.self.now in
    let q = c.requires in
    seats-within r q.0 q.1 c.args.job c.known-instance.result c.known-instance.ensures c.index.result.now c.index.ensures

pub returns : goal.returns
returns c =
    let r = c.args.self.now in
    let q = c.requires in
    let m = c.known-instance.result in
    step-read r q.0 q.1 c.args.job m c.known-instance.ensures c.index.result.now c.index.ensures
    ∙ ap Some (sym c.step.ensures)
