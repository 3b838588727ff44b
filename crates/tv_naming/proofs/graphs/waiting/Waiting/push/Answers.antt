use Rattle.tv_naming.proofs.Rows.{row-push}
use Rattle.tv_naming.proofs.graphs.waiting.Waiting.push.Goals as goal

pub returns-clause-added : goal.returns-clause-added
returns-clause-added c = row-push c.args.self.now.lists.items c.args.at c.args.vertex c.index_mut.result.now c.push.new.self c.requires c.index_mut.ensures.value c.in_ok-push.ensures.items
