use Rattle.std.specs.Prelude.{refl}
use Rattle.tv_history.proofs.OrderLemmas.{jobs-in_order}
use Rattle.tv_history.proofs.Strict.{order-strict}
use Rattle.tv_history.proofs.Instances.{instance-order}
use Rattle.tv_history.proofs.order.laws.job_order.Goals as goal

pub returns : goal.returns
returns c = record { ordered = λ gives d. jobs-in_order gives d; strict = λ flows k f a b h. order-strict flows k f a b h; instances = λ gives d I j k i h x y e f b. instance-order gives d I j k i h x y e f b; rows = (refl, refl, refl, refl, refl) }
