use Rattle.tv_model.proofs.LawLemmas.{counters-rise, longer_prefixes-turn_whole, prefixes-turn_whole}
use Rattle.tv_model.proofs.instance.laws.one_event_more.Goals as goal

pub returns : goal.returns
returns c = record { prefixes = prefixes-turn_whole; longer = longer_prefixes-turn_whole; counters = counters-rise }
