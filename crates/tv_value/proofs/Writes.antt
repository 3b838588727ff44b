-- What is fed for a list of values, item by item.
use Rattle.std.specs.Prelude.{◌≡◌, ℕ, List, [], ◌∷◌, ◌++◌, fold, refl}
use Rattle.std.specs.Hash as fed
use Rattle.std.specs.Hash.{HashWrites}
use Rattle.std.proofs.Common.{ap, sym}
use Rattle.tv_value.specs.Nested.{Trees, items, no_trees, tree, trees_of}
use Rattle.tv_value.specs.Values as spec
use Rattle.tv_value.specs.Writes.{value_writes, values_writes}

module _ {S : Type 0} (write : S → List ℕ → S) where
  pub fold-then : (s : S) (us vs : HashWrites) → fold write s (us ++ vs) ≡ fold write (fold write s us) vs
  fold-then s [] vs = refl
  fold-then s (u ∷ us) vs = fold-then (write s u) us vs

  -- one value, and then the rest
  pub fed-item : (s : S) (v : spec.Value) (vs : List spec.Value) → fold write (fold write s (value_writes v)) (values_writes (trees_of vs)) ≡ fold write s (values_writes (trees_of (v ∷ vs)))
  fed-item s v vs = sym (fold-then s (value_writes v) (values_writes (trees_of vs)))

pub trees_of-items : {N A : Type 0} (ts : Trees N A) → trees_of (items ts) ≡ ts
trees_of-items no_trees = refl
trees_of-items (tree t ts) = ap (tree t) (trees_of-items ts)
