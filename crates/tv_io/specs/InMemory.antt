-- What contracts see of a source and a sink in memory.
use Rattle.std.specs.Prelude.{ℕ, List}

-- a source in memory: the bytes not yet read, the most that one call serves, the numbers of the calls
-- that fail, how many calls were made, and how many of them failed
pub record SourceState : Type 0 where
  pub left : List ℕ
  pub piece : ℕ
  pub failing : List ℕ
  pub calls : ℕ
  pub faults : ℕ

-- a sink in memory: the bytes taken, how many it has room for in all, the most that one call takes,
-- the numbers of the calls that fail, how many calls were made, and how many of them failed
pub record SinkState : Type 0 where
  pub sent : List ℕ
  pub room : ℕ
  pub piece : ℕ
  pub failing : List ℕ
  pub calls : ℕ
  pub faults : ℕ
