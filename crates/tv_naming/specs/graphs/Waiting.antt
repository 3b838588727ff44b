-- The lists of those that wait, as a function of the vertex that they wait for.
use Rattle.std.specs.Prelude.{ℕ, List, [], map, length, unwrap_or, slice_get}
use Rattle.tv_naming.specs.declared.graphs.waiting.Waiting.{Waiting}

abbrev pub waiting_at : Waiting → ℕ → List ℕ
waiting_at w u = unwrap_or (slice_get (map (λ vs. vs.items) w.lists.items) u) []

abbrev pub waiting_length : Waiting → ℕ
waiting_length w = length w.lists.items
