use Rattle.std.proofs.Common.{◌≡◌, ◌≤◌, length}
use Rattle.tv_match.specs.Linked.{AreRising, Agree}
use Rattle.tv_match.proofs.found.unhang_all.Given as goal

abbrev pub invariant-loop-last : goal.invariant-loop-last
invariant-loop-last l = record {
  within : l.last ≤ length l.bag;
  long : length l.links.items ≡ length l.initial.links.items;
  rising : AreRising l.links.items;
  agree : Agree l.count l.initial.links.items l.links.items;
}

abbrev pub decreases-loop-last : goal.decreases-loop-last
decreases-loop-last l = l.last
