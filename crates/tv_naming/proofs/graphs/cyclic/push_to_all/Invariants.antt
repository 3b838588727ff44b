use Rattle.std.proofs.Common.{◌≡◌, ℕ, ◌&&◌, ◌||◌, eqb, take}
use Rattle.tv_naming.specs.graphs.Graphs.{is_one_of}
use Rattle.tv_naming.specs.graphs.Waiting.{waiting_at, waiting_length}
use Rattle.tv_naming.proofs.graphs.cyclic.push_to_all.Given as goal

abbrev pub invariant-loop-earlier : goal.invariant-loop-earlier
invariant-loop-earlier l = record {
  count : waiting_length l.after ≡ waiting_length l.initial.after;
  added : (u v : ℕ) → is_one_of (waiting_at l.after u) v ≡ (is_one_of (waiting_at l.initial.after u) v || (eqb v l.vertex && is_one_of (take l.earlier-index l.before) u));
}
