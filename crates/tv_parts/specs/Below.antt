-- A partial tree below a value: all that is known is so in the value.
use Rattle.std.specs.Prelude.{◌≡◌}
use Rattle.tv_value.specs.Nested.{leaf, list, Trees, no_trees, tree}
use Rattle.tv_value.specs.Values.{Scalar, Value}
use Rattle.tv_parts.specs.Partials.{Partial, wanting, item, growing, closed, Parts, no_parts, part}

-- the items of a list
abbrev pub Values : Type 0
Values = Trees (Unit {0}) Scalar

-- the value is a list, and its items are such
abbrev pub IsListWith : Value → (Values → Type 0) → Type 0
IsListWith (leaf n a) P = ⊥
IsListWith (list n vs) P = P vs

-- a growing list has at most the value's items, a closed one has as many, and what is known of each is so
abbrev mutual
  pub Below : Partial Value → Value → Type 0
  Below wanting v = Unit {0}
  Below (item w) v = w ≡ v
  Below (growing ps) v = IsListWith v (λ vs. FirstBelow ps vs)
  Below (closed ps) v = IsListWith v (λ vs. EachBelow ps vs)

  pub FirstBelow : Parts Value → Values → Type 0
  FirstBelow no_parts vs = Unit {0}
  FirstBelow (part p ps) no_trees = ⊥
  FirstBelow (part p ps) (tree v vs) = Below p v × FirstBelow ps vs

  pub EachBelow : Parts Value → Values → Type 0
  EachBelow no_parts no_trees = Unit {0}
  EachBelow no_parts (tree v vs) = ⊥
  EachBelow (part p ps) no_trees = ⊥
  EachBelow (part p ps) (tree v vs) = Below p v × EachBelow ps vs

-- the value that a whole tree is
abbrev mutual
  pub value_in : Partial Value → Value
  value_in wanting = list tt no_trees
  value_in (item w) = w
  value_in (growing ps) = list tt (values_in ps)
  value_in (closed ps) = list tt (values_in ps)

  pub values_in : Parts Value → Values
  values_in no_parts = no_trees
  values_in (part p ps) = tree (value_in p) (values_in ps)
