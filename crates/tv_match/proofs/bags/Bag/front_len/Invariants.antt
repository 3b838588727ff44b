use Rattle.std.proofs.Common.{◌≡◌, ◌≤◌, length, take}
use Rattle.tv_match.specs.Entries.{front}
use Rattle.tv_match.specs.Slots.{bag_entries}
use Rattle.tv_match.proofs.bags.Bag.front_len.Given as goal

abbrev pub invariant-loop-count : goal.invariant-loop-count
invariant-loop-count l =
    let es = bag_entries l.self-inside.indices.items l.self-inside.slots.items in
    (l.count ≤ length l.self-inside.slots.items) × (front l.number (take l.count es) ≡ front l.number es)

abbrev pub decreases-loop-count : goal.decreases-loop-count
decreases-loop-count l = l.count
