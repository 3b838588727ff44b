use Rattle.std.proofs.Common.{map, []}
use Rattle.tv_value.specs.Views.{view}
use Rattle.tv_binding.specs.Found.{link_found}
use Rattle.tv_binding.specs.Sourced.{known_by}
use Rattle.tv_binding.proofs.Comparing.{AreEach}
use Rattle.tv_binding.proofs.same.links_are.Given as goal

abbrev pub invariant-loop-index : goal.invariant-loop-index
invariant-loop-index l = AreEach (map (λ m. link_found (known_by l.sources) m []) l.links) (map view l.values) l.index
