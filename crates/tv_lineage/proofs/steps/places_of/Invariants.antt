use Rattle.std.proofs.Common.{filter_map, take}
use Rattle.tv_value.specs.Orders.{place_cmp}
use Rattle.tv_lineage.specs.Members.{HaveSame, Rises}
use Rattle.tv_lineage.specs.Views.{place_in}
use Rattle.tv_lineage.proofs.steps.places_of.Given as goal

abbrev pub invariant-loop-entry : goal.invariant-loop-entry
invariant-loop-entry l = record { rises : Rises place_cmp l.places.keys; members : HaveSame l.places.keys (filter_map (place_in l.step) (take l.entry-index l.entries)) }
