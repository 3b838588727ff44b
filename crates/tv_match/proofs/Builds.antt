-- The store of a dot of several children.
use Rattle.std.proofs.Common.{◌≡◌, refl, ℕ, ◌+◌, ◌<◌, Bool, true, false, ◌==◌, List, [], ◌∷◌, length, None, eq-eqb, sym, ◌∙◌, arith}
use Rattle.tv_value.specs.Values.{Name}
use Rattle.tv_value.specs.Strategies.{Strategy, Strategies, no_strategies, strategy}
use Rattle.tv_value.specs.declared.tree.Tree.{Tree}
use Rattle.tv_strategy.specs.Measures.{leaf_names, all_leaf_names, strategy_depth}
use Rattle.tv_strategy.specs.Conditions.{sum_over}
use Rattle.tv_strategy.proofs.Measures.{sum_over-append, depth-small}
use Rattle.tv_strategy.specs.Views.{children_view}
use Rattle.tv_matching.specs.Stores as spec
use Rattle.tv_matching.specs.Stores.{dot_store, store_for, store_for_dot}

abbrev KeptStore : Type 0
KeptStore = spec.Store (Unit {0}) ℕ

pub dot-many : (ports : Name → ℕ) (i : ℕ) (c : Strategy) (ds : Strategies) → (ds ≡ no_strategies → ⊥) → (many : KeptStore) → many ≡ store_for_dot ports i (strategy c ds) → many ≡ dot_store None [] [] (store_for ports i c) (store_for_dot ports (i + length (leaf_names c)) ds)
dot-many ports i c no_strategies h many e = absurd (h refl)
dot-many ports i c (strategy d ds) h many e = e

pub others-some : (xs : List Tree) (b : Bool) → b ≡ (length xs == 0) → b ≡ false → children_view xs ≡ no_strategies → ⊥
others-some [] b e f g = clash (sym f ∙ e ∙ eq-eqb 0 0 refl)
  where
    clash : false ≡ true → ⊥
    clash h = absurd (cc)
others-some (x ∷ xs) b e f g = absurd (cc)

-- ---- depths fit

pub first-fits : (ports : Name → ℕ) (c : Strategy) (cs : Strategies) (a n : ℕ) → a + sum_over ports (all_leaf_names (strategy c cs)) < n → sum_over ports (leaf_names c) < n
first-fits ports c cs a n h = let e = sum_over-append ports (leaf_names c) (all_leaf_names cs) in omega (arith, e, h)

-- the depth of one more is added
pub more-fits : (ports : Name → ℕ) (c : Strategy) (cs : Strategies) (a d n : ℕ) → d ≡ strategy_depth ports c → a + sum_over ports (all_leaf_names (strategy c cs)) < n → (a + d) + sum_over ports (all_leaf_names cs) < n
more-fits ports c cs a d n k h =
    let e = sum_over-append ports (leaf_names c) (all_leaf_names cs) in
    let l = depth-small ports c in
    omega (arith, e, l, k, h)

pub front-fits : (ports : Name → ℕ) (c : Strategy) (cs : Strategies) (d n : ℕ) → d ≡ strategy_depth ports c → sum_over ports (all_leaf_names (strategy c cs)) < n → d + sum_over ports (all_leaf_names cs) < n
front-fits ports c cs d n k h =
    let e = sum_over-append ports (leaf_names c) (all_leaf_names cs) in
    let l = depth-small ports c in
    omega (arith, e, l, k, h)
