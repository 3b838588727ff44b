-- What a search of the code stands for.
use Rattle.tv_lineage.specs.Reaching as spec
use Rattle.tv_lineage.specs.declared.search.Search.{Search}

abbrev pub search_view : Search → spec.Search
search_view s = record { met = s.met.items; pending = s.pending.items; found = s.found.keys }
