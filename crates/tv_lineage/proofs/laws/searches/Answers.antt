use Rattle.tv_lineage.proofs.LawLemmas.{search-begins, search-finds, search-goes_on}
use Rattle.tv_lineage.proofs.laws.searches.Goals as goal

pub returns : goal.returns
returns c = record { begins = search-begins; goes_on = search-goes_on; finds = search-finds }
