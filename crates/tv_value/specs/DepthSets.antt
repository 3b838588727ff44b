-- The depths that a value has, all at once, and the least of them.
use Rattle.std.specs.Prelude.{◌≡◌, ℕ, ◌+◌, ◌^◌, ◌≤◌, max, nat_lt, nat_le, ◌==◌, if◌then◌else◌, Option, Some, None}
use Rattle.tv_value.specs.Nested.{Tree, leaf, list, Trees, no_trees, tree}
use Rattle.tv_value.specs.Values.{Scalar, scalar_depth}

-- the depths that a value has: one, all from one on, or none
pub data DepthSet : Type 0 where
  exactly : ℕ → DepthSet
  at_least : ℕ → DepthSet
  no_depth : DepthSet

-- a depth is one of these
abbrev pub IsOneOf : DepthSet → ℕ → Type 0
IsOneOf (exactly c) d = c ≡ d
IsOneOf (at_least c) d = c ≤ d
IsOneOf no_depth d = ⊥

-- the depths in both
abbrev pub common : DepthSet → DepthSet → DepthSet
common (exactly c) (exactly d) = if c == d then exactly c else no_depth
common (exactly c) (at_least d) = if nat_le d c then exactly c else no_depth
common (at_least c) (exactly d) = if nat_le c d then exactly d else no_depth
common (at_least c) (at_least d) = at_least (max c d)
common no_depth e = no_depth
common d no_depth = no_depth

-- every depth is below this
abbrev pub depth_limit : ℕ
depth_limit = 2 ^ 32

-- the depths of a list whose items have these in common
abbrev pub one_deeper : DepthSet → DepthSet
one_deeper (exactly d) = if nat_lt (d + 1) depth_limit then exactly (d + 1) else no_depth
one_deeper (at_least d) = if nat_lt (d + 1) depth_limit then at_least (d + 1) else no_depth
one_deeper no_depth = no_depth

abbrev mutual
  pub depths : {N : Type 0} → Tree N Scalar → DepthSet
  depths (leaf n a) = exactly (scalar_depth a)
  depths (list n ts) = one_deeper (common_depths ts)

  pub common_depths : {N : Type 0} → Trees N Scalar → DepthSet
  common_depths no_trees = at_least 0
  common_depths (tree t ts) = common (depths t) (common_depths ts)

abbrev pub least_of : DepthSet → Option ℕ
least_of (exactly d) = Some d
least_of (at_least d) = Some d
least_of no_depth = None

-- the least depth that a value has, below the limit; a value that has none is ragged
abbrev pub least_depth : {N : Type 0} → Tree N Scalar → Option ℕ
least_depth t = least_of (depths t)
