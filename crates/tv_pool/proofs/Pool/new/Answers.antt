use Rattle.tv_pool.proofs.Steps.{IsLaidOut-new}
use Rattle.tv_pool.proofs.Pool.new.Goals as goal

pub invariant_of-result : goal.invariant_of-result
invariant_of-result g c = IsLaidOut-new _ _ c.new.ensures.empty c.new-2.ensures.empty
