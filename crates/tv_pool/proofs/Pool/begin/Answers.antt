use Rattle.std.proofs.Common.{refl, sym, arith}
use Rattle.tv_pool.proofs.PoolLemmas.{Keeps-begin}
use Rattle.tv_pool.proofs.Steps.{IsLaidOut-begin, begin-regions, length-regions}
use Rattle.tv_pool.proofs.Pool.begin.Goals as goal

pub invariant_of-self : goal.invariant_of-self
invariant_of-self g c =
    IsLaidOut-begin c.self.inside.nodes c.self.inside.regions c.self.inside.begun c.self.invariant c.insert.new.self c.in-Ok.entry _ refl refl c.in-Ok.ensures.was_vacant c.in-Ok.ensures.updates

pub returns-in-Ok-clause-ok : goal.returns-in-Ok-clause-ok
returns-in-Ok-clause-ok g c =
    rw (← c.self.view_is) (record {
      number = sym (length-regions c.self.inside.nodes c.self.inside.regions c.self.inside.begun c.self.invariant);
      regions = begin-regions c.self.inside.nodes c.self.inside.regions c.self.inside.begun c.self.invariant c.insert.new.self c.in-Ok.entry _ refl refl c.in-Ok.ensures.was_vacant c.in-Ok.ensures.updates;
    })

pub returns-in-Ok-clause-numbers : goal.returns-in-Ok-clause-numbers
returns-in-Ok-clause-numbers g c =
    rw (← c.self.view_is) (omega (arith, length-regions c.self.inside.nodes c.self.inside.regions c.self.inside.begun c.self.invariant))

pub returns-in-Ok-clause-kept : goal.returns-in-Ok-clause-kept
returns-in-Ok-clause-kept g c = Keeps-begin _ _ _ (returns-in-Ok-clause-ok g c)
