use Rattle.tv_match.proofs.Placing.{first-kept}
use Rattle.tv_match.proofs.places.Places.make_deep.Goals as goal

pub returns-clause-first : goal.returns-clause-first
returns-clause-first c h = first-kept c.args.from c.args.self.now.made.items c.truncate.new.self.items c.put_places.new.made.items h c.truncate.ensures.items c.put_places.ensures.first
