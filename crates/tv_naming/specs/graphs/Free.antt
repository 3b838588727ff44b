-- Whether a vertex is in the set.
use Rattle.std.specs.Prelude.{ℕ, Bool}
use Rattle.std.specs.Ordering.{nat_cmp}
use Rattle.std.specs.BTreeSet.{contains}
use Rattle.tv_naming.specs.declared.graphs.free.Free.{Free}

abbrev pub has : Free → ℕ → Bool
has s u = contains nat_cmp s.vertices u
