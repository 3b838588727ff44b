use Rattle.std.proofs.Common.{◌≡◌, ℕ, [], vec_len, map}
use Rattle.tv_naming.specs.graphs.Graphs.{before}
use Rattle.tv_naming.proofs.graphs.waiting.Waiting.new.Given as goal

abbrev pub invariant-loop : goal.invariant-loop
invariant-loop l = record { count : vec_len l.lists ≡ l.counter; empty : (u : ℕ) → before (map (λ vs. vs.items) l.lists.items) u ≡ [] }
