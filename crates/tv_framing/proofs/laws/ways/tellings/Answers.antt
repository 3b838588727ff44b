use Rattle.tv_framing.proofs.ways.Ways.{ports-by_ways, values-alike, ways-alike}
use Rattle.tv_framing.proofs.laws.ways.tellings.Goals as goal

pub returns : goal.returns
returns c = record { values = values-alike; ways = ways-alike; ports = ports-by_ways }
