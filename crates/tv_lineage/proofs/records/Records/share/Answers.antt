use Rattle.tv_lineage.proofs.Holding.{shared-is, shared-kept, shared-records}
use Rattle.tv_lineage.proofs.records.Records.share.Goals as goal

pub invariant_of-self-2 : goal.invariant_of-self-2
invariant_of-self-2 c = shared-kept _ c.self.inside.entries.items _ _ c.self.view_is c.self.invariant c.args.parts c.requires.before c.in_ok-push.ensures.items

pub returns-clause-ok : goal.returns-clause-ok
returns-clause-ok c = shared-is _ c.self.inside.entries.items _ _ c.self.view_is c.self.invariant c.args.parts c.requires.before c.in_ok-push.ensures.items

pub returns-clause-records : goal.returns-clause-records
returns-clause-records c = shared-records _ c.self.inside.entries.items _ _ c.self.view_is c.self.invariant c.args.parts c.requires.before c.in_ok-push.ensures.items
