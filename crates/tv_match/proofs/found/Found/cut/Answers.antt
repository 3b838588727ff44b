use Rattle.tv_match.proofs.Linking.{cut-linked}
use Rattle.tv_match.proofs.found.Found.cut.Goals as goal

pub invariant_of-self : goal.invariant_of-self
invariant_of-self c =
    cut-linked c.self.inside.links.items c.self.inside.bag c.self.invariant c.front_len-count.result c.unhang_all.new.links.items c.truncate.new.self.items c.truncate-2.new.self c.front_len-count.ensures.within c.unhang_all.ensures.long c.unhang_all.ensures.rising c.unhang_all.ensures.agree c.truncate.ensures.items c.truncate-2.ensures
