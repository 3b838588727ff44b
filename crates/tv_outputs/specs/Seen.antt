-- What a look at a tree sees, and how many levels of lists stand there at the most.
use Rattle.std.specs.Prelude.{ℕ, suc, ◌≤◌, max}
use Rattle.tv_parts.specs.Partials.{Partial, wanting, item, growing, closed, Parts, no_parts, part}
use Rattle.tv_stream.specs.declared.look.Look.{Look}
use Rattle.tv_stream.specs.Looks.{Shows}
use Rattle.tv_stream.specs.Trees.{Marked}
use Rattle.tv_cell.specs.declared.piece.Piece.{Piece}
use Rattle.tv_outputs.specs.Kept.{IsNoted, EachItem}

-- how many lists stand inside one another
abbrev mutual
  pub levels_in : {A : Type 0} → Partial A → ℕ
  levels_in wanting = 0
  levels_in (item x) = 0
  levels_in (growing ps) = suc (levels_of ps)
  levels_in (closed ps) = suc (levels_of ps)

  pub levels_of : {A : Type 0} → Parts A → ℕ
  levels_of no_parts = 0
  levels_of (part p ps) = max (levels_in p) (levels_of ps)

-- it shows this tree, whose items are noted, and which has no more levels
pub record Sees (look : Look Piece) (levels : ℕ) (r : Partial (Marked Piece)) : Type 0 where
  pub shows : Shows look r
  pub noted : EachItem IsNoted r
  pub few : levels_in r ≤ levels
