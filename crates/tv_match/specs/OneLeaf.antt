-- Strategies that are one leaf, or have one child that is.
use Rattle.std.specs.Prelude.{◌≡◌}
use Rattle.tv_value.specs.Values.{Name}
use Rattle.tv_value.specs.Strategies.{Strategies, Strategy, cross, dot, prefix, no_strategies, port, strategy}

-- there is one child, a leaf
abbrev pub IsOnlyLeaf : Strategies → Type 0
IsOnlyLeaf cs = (p : Name) × (cs ≡ strategy (port p) no_strategies)

abbrev pub IsOneLeaf : Strategy → Type 0
IsOneLeaf (port p) = Unit {0}
IsOneLeaf (cross cs) = IsOnlyLeaf cs
IsOneLeaf (dot cs) = IsOnlyLeaf cs
IsOneLeaf (prefix l r) = ⊥
