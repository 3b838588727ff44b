use Rattle.std.proofs.Common.{◌≡◌, ◌++◌, drop, length, take}
use Rattle.tv_match.specs.Entries.{places_of}
use Rattle.tv_match.proofs.places.put_places.Given as goal

abbrev pub invariant-loop-at : goal.invariant-loop-at
invariant-loop-at l = record {
  end_is : l.at-end ≡ length l.out;
  rest : l.made.items ++ places_of (drop l.at l.out) ≡ l.fn.made.items ++ places_of (drop l.from l.out);
  first : take (length l.fn.made.items) l.made.items ≡ l.fn.made.items;
}
