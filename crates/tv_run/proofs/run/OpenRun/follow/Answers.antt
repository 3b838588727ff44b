use Rattle.tv_run.proofs.Numbering.{followed}
use Rattle.tv_run.proofs.run.OpenRun.follow.Goals as goal

pub returns : goal.returns
returns c =
    followed c.args.self.now c.number_new.new.self c.look_into.new.self c.args.instance c.requires c.number_new.ensures
    c.look_into.ensures
