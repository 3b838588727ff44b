use Rattle.std.proofs.Common.{◌≡◌, ℕ, List, ◌++◌, Bor, map, take}
use Rattle.std.specs.BTreeSet.{contains}
use Rattle.std.specs.Ordering.{nat_cmp}
use Rattle.std.specs.Cmp.Lexicographic.{slice_cmp}
use Rattle.tv_value.specs.Values.{text_value}
use Rattle.tv_value.specs.Views.{view}
use Rattle.tv_local.specs.Lists.{text_among, distinct}
use Rattle.tv_local.specs.Reading.{text_of}
use Rattle.tv_local.proofs.Lists.{still}
use Rattle.tv_local.proofs.list.distinct_texts.Given as goal

abbrev pub invariant-loop-value : goal.invariant-loop-value
invariant-loop-value l =
    ((q : Bor (List ℕ)) → contains (λ x y. slice_cmp nat_cmp x.now y.now) l.seen q ≡ text_among (take l.value-index (map text_of (map view l.values))) q.now)
    × (map view l.texts.items ++ map text_value (still (map text_of (map view l.values)) l.value-index) ≡ map text_value (distinct (map text_of (map view l.values))))
