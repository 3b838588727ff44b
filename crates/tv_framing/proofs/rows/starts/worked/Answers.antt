use Rattle.tv_framing.proofs.starts.Computed.{tells-feeds}
use Rattle.tv_framing.proofs.rows.starts.worked.Goals as goal

pub returns : goal.returns
returns c = tells-feeds
