use Rattle.tv_matching.proofs.LawLemmas.{store-is_matched, store-starts, store-grows, store-works, cross-of_one_child, crosses-nest}
use Rattle.tv_matching.proofs.laws.stores.Goals as goal

pub returns : goal.returns
returns c = record { matched = store-is_matched; starts = store-starts; grows = store-grows; works = store-works; one = cross-of_one_child; nest = crosses-nest }
