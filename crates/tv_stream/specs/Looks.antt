-- What a look at a tree shows.
use Rattle.std.specs.Prelude.{ℕ}
use Rattle.tv_parts.specs.Partials.{Partial}
use Rattle.tv_pool.specs.Pool.{item_in, lies_at}
use Rattle.tv_stream.specs.declared.look.Look.{Look}
use Rattle.tv_stream.specs.Inside.{IsAt}
use Rattle.tv_stream.specs.Trees.{Marked}

-- that stands at its node
abbrev pub Shows : {T : Type 0} → Look T → Partial (Marked T) → Type 0
Shows look r = (number : ℕ) × IsAt (item_in look.pool.now number) (lies_at look.node) r
