use Rattle.std.proofs.Common.{sym, ◌∙◌}
use Rattle.tv_match.proofs.Shells.{same-depths}
use Rattle.tv_match.proofs.matchers.shells.same_depths.Goals as goal

pub returns-in_default : goal.returns-in_default
returns-in_default c h = same-depths c.args.first.now c.args.second.now (sym c.eq.ensures ∙ h)
