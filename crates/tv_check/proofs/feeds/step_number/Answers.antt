use Rattle.std.proofs.Common.{◌∙◌, ap, sym, length}
use Rattle.tv_check.proofs.Numbering.{position-absent}
use Rattle.tv_check.proofs.feeds.step_number.Goals as goal

pub returns-in-None : goal.returns-in-None
returns-in-None c = ap length c.as_slice.ensures ∙ sym (position-absent c.args.name.now c.args.steps.now (sym c.in-None.ensures.number))
