use Rattle.std.proofs.Common.{◌∙◌}
use Rattle.tv_flow.proofs.Growing.{member_count-each}
use Rattle.tv_flow.proofs.lists.member_count.Goals as goal

pub returns-clause-count : goal.returns-clause-count
returns-clause-count c = c.len.ensures.len ∙ member_count-each c.args.members.now.entries
