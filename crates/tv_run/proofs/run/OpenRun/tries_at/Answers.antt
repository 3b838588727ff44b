use Rattle.tv_run.proofs.Steps.{tries-are, tries-there}
use Rattle.tv_run.proofs.run.OpenRun.tries_at.Goals as goal

pub tries_of-requires : goal.tries_of-requires
tries_of-requires c =
    let q = c.requires in
    tries-there c.args.self.now q.0 q.1 c.args.job c.known.result c.known.ensures c.step_number.result c.step_number.ensures

pub returns : goal.returns
returns c =
    let q = c.requires in
    tries-are c.args.self.now q.0 q.1 c.args.job c.known.result c.known.ensures c.step_number.result c.step_number.ensures
    c.tries_of.result.now c.tries_of.ensures
