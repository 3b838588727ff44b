-- What is matched depends on what the leaves of the strategy are told alone.
use Rattle.std.specs.Prelude.{◌≡◌, refl, List, []}
use Rattle.std.proofs.Common.{ap₂}
use Rattle.tv_lemmas.specs.Members.{Each}
use Rattle.tv_value.specs.Strategies.{Strategies, Strategy, cross, dot, prefix, no_strategies, port, strategy}
use Rattle.tv_value.specs.Values.{Name}
use Rattle.tv_strategy.specs.Measures.{all_leaf_names, leaf_names}
use Rattle.tv_matching.specs.Items.{Item}
use Rattle.tv_framing.proofs.starts.Leaves.{each-first, each-last}
use Rattle.tv_matching.specs.Matched.{crossed_items, joined_items, matched, matched_cross, matched_dot, prefixed_items, same}

module _ {X F : Type 0} (told heard : Name → List (Item X F)) where
  abbrev pub Alike : List Name → Type 0
  Alike ns = Each (λ p. told p ≡ heard p) ns

  mutual
    pub matched-alike : (s : Strategy) → Alike (leaf_names s) → matched told s ≡ matched heard s
    matched-alike (port p) h = h.0
    matched-alike (cross cs) h = cross-alike cs h
    matched-alike (dot cs) h = dot-alike cs h
    matched-alike (prefix l r) h =
        ap₂ prefixed_items (matched-alike l (each-first (λ p. told p ≡ heard p) (leaf_names l) (leaf_names r) h)) (matched-alike r (each-last (λ p. told p ≡ heard p) (leaf_names l) (leaf_names r) h))

    cross-alike : (cs : Strategies) → Alike (all_leaf_names cs) → matched_cross told cs ≡ matched_cross heard cs
    cross-alike no_strategies h = refl
    cross-alike (strategy c cs) h =
        ap₂ crossed_items (matched-alike c (each-first (λ p. told p ≡ heard p) (leaf_names c) (all_leaf_names cs) h)) (cross-alike cs (each-last (λ p. told p ≡ heard p) (leaf_names c) (all_leaf_names cs) h))

    dot-alike : (cs : Strategies) → Alike (all_leaf_names cs) → matched_dot told cs ≡ matched_dot heard cs
    dot-alike no_strategies h = refl
    dot-alike (strategy c no_strategies) h = matched-alike c (each-first (λ p. told p ≡ heard p) (leaf_names c) [] h)
    dot-alike (strategy c (strategy d ds)) h =
        ap₂ (joined_items same) (matched-alike c (each-first (λ p. told p ≡ heard p) (leaf_names c) (all_leaf_names (strategy d ds)) h)) (dot-alike (strategy d ds) (each-last (λ p. told p ≡ heard p) (leaf_names c) (all_leaf_names (strategy d ds)) h))
