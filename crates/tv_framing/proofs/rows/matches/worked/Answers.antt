use Rattle.tv_framing.proofs.matches.Computed.{finds-parts, sorts-outcomes}
use Rattle.tv_framing.proofs.rows.matches.worked.Goals as goal

pub returns : goal.returns
returns c = record { parts = finds-parts; outcomes = sorts-outcomes }
