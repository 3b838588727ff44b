-- The leaves of a list of strategies, from those of its first and of the others.
use Rattle.std.specs.Prelude.{◌≡◌, ℕ, ◌+◌, List, ◌++◌, Option, Some, None, IfSome}
use Rattle.std.specs.Option.{SomeIff}
use Rattle.std.proofs.Common.{arith, ap, sym, ◌∙◌, append_assoc}
use Rattle.tv_value.specs.Values.{Name}
use Rattle.tv_value.specs.Strategies.{Strategy, Strategies, strategy, prefix}
use Rattle.tv_strategy.specs.Measures.{leaf_names, all_leaf_names}
use Rattle.tv_strategy.specs.Conditions.{DotsAreFilled, AllDotsAreFilled, sum_over}
use Rattle.tv_strategy.proofs.Measures.{sum_over-append}

-- what is so after the visit of one strategy, and of a list
abbrev pub Visited : (Name → ℕ) → Strategy → List Name → List Name → ℕ → Type 0
Visited ports s before after n = (n ≡ sum_over ports (leaf_names s)) × DotsAreFilled s × (after ≡ before ++ leaf_names s)

abbrev pub AllVisited : (Name → ℕ) → Strategies → List Name → List Name → ℕ → Type 0
AllVisited ports cs before after n = (n ≡ sum_over ports (all_leaf_names cs)) × AllDotsAreFilled cs × (after ≡ before ++ all_leaf_names cs)

-- what was visited of these names, and of more
visited-names : (ports : Name → ℕ) (F G : Type 0) (ns ms before mid after : List Name) (n m : ℕ) (P : Type 0) (o : Option ℕ) → (n ≡ sum_over ports ns) × F × (mid ≡ before ++ ns) → (m ≡ sum_over ports ms) × G × (after ≡ mid ++ ms) → SomeIff o P (n + m) → IfSome o (λ s. (s ≡ sum_over ports (ns ++ ms)) × (F × G) × (after ≡ before ++ (ns ++ ms)))
visited-names ports F G ns ms before mid after n m P None h k e = tt
visited-names ports F G ns ms before mid after n m P (Some s) h k e =
    (sum n m s (sum_over ports ns) (sum_over ports ms) e.1 h.0 k.0 ∙ sym (sum_over-append ports ns ms), (h.1, k.1), k.2 ∙ ap (λ xs. xs ++ ms) h.2 ∙ append_assoc before ns ms)
  where
    sum : (n m s a b : ℕ) → s ≡ n + m → n ≡ a → m ≡ b → s ≡ a + b
    sum n m s a b e h k = omega arith

pub visited-both : (ports : Name → ℕ) (c : Strategy) (cs : Strategies) (before mid after : List Name) (n m : ℕ) (P : Type 0) (o : Option ℕ) → Visited ports c before mid n → AllVisited ports cs mid after m → SomeIff o P (n + m) → IfSome o (AllVisited ports (strategy c cs) before after)
visited-both ports c cs before mid after n m P o h k e =
    visited-names ports (DotsAreFilled c) (AllDotsAreFilled cs) (leaf_names c) (all_leaf_names cs) before mid after n m P o h k e

pub visited-two : (ports : Name → ℕ) (l r : Strategy) (before mid after : List Name) (n m : ℕ) (P : Type 0) (o : Option ℕ) → Visited ports l before mid n → Visited ports r mid after m → SomeIff o P (n + m) → IfSome o (Visited ports (prefix l r) before after)
visited-two ports l r before mid after n m P o h k e =
    visited-names ports (DotsAreFilled l) (DotsAreFilled r) (leaf_names l) (leaf_names r) before mid after n m P o h k e
