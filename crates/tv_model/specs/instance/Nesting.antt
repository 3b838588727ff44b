-- How deep flows may nest.
use Rattle.std.specs.Prelude.{ℕ}

-- the outermost flow counted
abbrev pub nesting_limit : ℕ
nesting_limit = 8
