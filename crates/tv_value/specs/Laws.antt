-- What holds of every value's depths, and of the test whether two values are the same.
use Rattle.std.specs.Prelude.{◌≡◌, ℕ, ◌≤◌, ◌<◌, ◌↔◌, IsTrue, true, Some, None}
use Rattle.tv_value.specs.Values.{Value, HasDepth, has_depth}
use Rattle.tv_value.specs.Sameness.{same_value}
use Rattle.tv_value.specs.DepthSets.{IsOneOf, depths, depth_limit, least_depth}

-- the test says what the fact says
abbrev pub TestDecidesDepth : Type 0
TestDecidesDepth = (v : Value) → (d : ℕ) → (has_depth v d ≡ true) ↔ HasDepth v d

-- the depths of a value, below the limit, are those that it has
abbrev pub DepthsAreThose : Type 0
DepthsAreThose = (v : Value) → (d : ℕ) → d < depth_limit → HasDepth v d ↔ IsOneOf (depths v) d

-- the least depth is one that the value has, and it has no lesser one
abbrev pub LeastDepthIsLeast : Type 0
LeastDepthIsLeast = (v : Value) → (d : ℕ) → d < depth_limit → least_depth v ≡ Some d → HasDepth v d
    × ((c : ℕ) → HasDepth v c → d ≤ c)

-- a value with no least depth has none below the limit
abbrev pub RaggedHasNoDepth : Type 0
RaggedHasNoDepth = (v : Value) → (d : ℕ) → d < depth_limit → least_depth v ≡ None → HasDepth v d → ⊥

-- the test of sameness decides equality
abbrev pub TestDecidesSameness : Type 0
TestDecidesSameness = (v w : Value) → IsTrue (same_value v w) ↔ (v ≡ w)
