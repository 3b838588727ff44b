-- What is fed to a hasher for a value: its texts, and a 0 at the end of each list. Error documents feed nothing.
use Rattle.std.specs.Prelude.{◌++◌, []}
use Rattle.std.specs.Hash as fed
use Rattle.std.specs.Hash.{HashWrites}
use Rattle.tv_value.specs.Nested.{leaf, list, Trees, no_trees, tree}
use Rattle.tv_value.specs.Values.{Scalar, Value, text, fault}

abbrev pub scalar_writes : Scalar → HashWrites
scalar_writes (text t) = fed.str t
scalar_writes (fault e) = []

-- a list ends with a 0
abbrev mutual
  pub value_writes : Value → HashWrites
  value_writes (leaf n a) = scalar_writes a
  value_writes (list n ts) = values_writes ts

  pub values_writes : Trees (Unit {0}) Scalar → HashWrites
  values_writes no_trees = fed.u8 0
  values_writes (tree t ts) = value_writes t ++ values_writes ts
