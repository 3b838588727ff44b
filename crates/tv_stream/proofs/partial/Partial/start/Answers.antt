use Rattle.std.proofs.Common.{sym, subst, refl}
use Rattle.std.specs.Result.{IfOk}
use Rattle.std.proofs.lemmas.Result.{IfOk-weaker}
use Rattle.tv_pool.specs.Pool.{item_in, number_of, slot_of}
use Rattle.tv_stream.specs.nodes.Calls.{Plants}
use Rattle.tv_stream.specs.declared.partial.Partial.{Partial as Handle}
use Rattle.tv_stream.specs.Stands.{Starts}
use Rattle.tv_stream.proofs.Calls.{starts}
use Rattle.tv_stream.proofs.partial.Partial.start.Goals as goal
use Rattle.tv_stream.proofs.partial.Partial.start.Goals.{in-Ok, in-Err}

pub returns-clause-ok : goal.returns-clause-ok
returns-clause-ok g c =
    let k = number_of c.args.region.now in
    elim c.match-plant.branch [
      | in-Ok w ↦ subst (λ r. IfOk r (λ (tree : Handle _). Starts c.args.pool.now c.plant.new.pool tree c.args.depth k)) (sym w.result-is) (starts c.args.pool.now c.plant.new.pool _ c.args.depth k refl c.ranges.depth.fits w.in-Ok.ensures.region (subst (Plants (item_in c.args.pool.now k) (item_in c.plant.new.pool k) (slot_of w.in-Ok.root)) c.wanting.ensures w.in-Ok.ensures.ok))
      | in-Err w ↦ subst (λ r. IfOk r (λ (tree : Handle _). Starts c.args.pool.now c.plant.new.pool tree c.args.depth k)) (sym w.result-is) tt
    ]

pub returns-clause-stands : goal.returns-clause-stands
returns-clause-stands g c = IfOk-weaker c.match-plant.result _ _ (λ tree h. (h.spots, h.stands)) (returns-clause-ok g c)

pub returns-clause-region : goal.returns-clause-region
returns-clause-region g c = IfOk-weaker c.match-plant.result _ _ (λ tree h. h.region) (returns-clause-ok g c)
