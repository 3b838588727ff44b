use Rattle.tv_model.proofs.records.Meant.{meaning-backward, meaning-forward, meaning-reached}
use Rattle.tv_model.proofs.records.Rising.{forward-rises}
use Rattle.tv_model.proofs.records.Steps.{by_step-is}
use Rattle.tv_model.proofs.laws.records.meanings.Goals as goal

pub returns : goal.returns
returns c = record { reached = meaning-reached; backward = meaning-backward; forward = meaning-forward; in_order = forward-rises; by_step = by_step-is }
