-- A tree that shows the known nodes of its value is whole exactly where all of them are known.
use Rattle.std.specs.Prelude.{◌≡◌, refl, ℕ, suc, Bool, true, false, ◌&&◌, List, [], ◌∷◌, ◌++◌, Some, option_and_then}
use Rattle.std.specs.List.{list_all}
use Rattle.std.proofs.Common.{ap, ◌∙◌}
use Rattle.tv_value.specs.Nested.{Tree, leaf, list, Trees, no_trees, tree, Place, note, notes, all_notes, at, item_at, map_tree, map_trees}
use Rattle.tv_value.specs.Values.{Scalar, Value}
use Rattle.tv_parts.specs.Partials.{Partial, wanting, item, growing, closed, Parts, no_parts, part, part_of, shows, whole, all_whole}
use Rattle.tv_parts.specs.Below.{Values, Below, EachBelow}

-- N is what a node is noted with, and `known` tells which are known
module _ (N : Type 0) (known : N → Bool) where
  abbrev pub plain_of : Tree N Scalar → Value
  plain_of u = map_tree (λ o. tt) (λ a. a) u

  abbrev plains : Trees N Scalar → Values
  plains us = map_trees {N = N} {M = Unit {0}} (λ o. tt) (λ a. a) us

  abbrev pub ShowsNoted : Partial Value → Tree N Scalar → Type 0
  ShowsNoted r u = (s : Place) (x : Tree N Scalar) → at u s ≡ Some x → known (note x) ≡ shows r s

  -- the same at the items of a list
  abbrev ShowEach : Parts Value → Trees N Scalar → Type 0
  ShowEach ps us = (j : ℕ) (u : Tree N Scalar) → item_at us j ≡ Some u → ShowsNoted (part_of ps j) u

  abbrev AllAre : Bool → Tree N Scalar → Type 0
  AllAre b u = (s : Place) (x : Tree N Scalar) → at u s ≡ Some x → known (note x) ≡ b

  inner : (b : Bool) (o : N) (us : Trees N Scalar) → AllAre b (list o us) → (j : ℕ) (u : Tree N Scalar) → item_at us j ≡ Some u → AllAre b u
  inner b o us h j u e s x k = h (j ∷ s) x (ap (option_and_then (λ v. at v s)) e ∙ k)

  inner-shows : (r : Partial Value) (ps : Parts Value) (o : N) (us : Trees N Scalar) → ((j : ℕ) (s : Place) → shows r (j ∷ s) ≡ shows (part_of ps j) s) → ShowsNoted r (list o us) → ShowEach ps us
  inner-shows r ps o us f h j u e s x k = h (j ∷ s) x (ap (option_and_then (λ v. at v s)) e ∙ k) ∙ f j s

  more : (s r : List N) → list_all known (s ++ r) ≡ (list_all known s && list_all known r)
  more [] r = refl
  more (o ∷ s) r = ap (λ b. known o && b) (more s r) ∙ grouped (known o) (list_all known s) (list_all known r)
    where
      grouped : (a b c : Bool) → (a && (b && c)) ≡ ((a && b) && c)
      grouped true b c = refl
      grouped false b c = refl

  mutual
    all-noted : (u : Tree N Scalar) → AllAre true u → list_all known (notes u) ≡ true
    all-noted (leaf o a) h = ap (λ b. b && true) (h [] (leaf o a) refl)
    all-noted (list o us) h = ap (λ b. b && list_all known (all_notes us)) (h [] (list o us) refl) ∙ each-noted us (λ j u e. inner true o us h j u e)

    each-noted : (us : Trees N Scalar) → ((j : ℕ) (u : Tree N Scalar) → item_at us j ≡ Some u → AllAre true u) → list_all known (all_notes us) ≡ true
    each-noted no_trees h = refl
    each-noted (tree u us) h = more (notes u) (all_notes us) ∙ ap (λ b. b && list_all known (all_notes us)) (all-noted u (h 0 u refl)) ∙ each-noted us (λ j v e. h (suc j) v e)

  none-noted : (u : Tree N Scalar) → known (note u) ≡ false → list_all known (notes u) ≡ false
  none-noted (leaf o a) h = ap (λ b. b && true) h
  none-noted (list o us) h = ap (λ b. b && list_all known (all_notes us)) h

  mutual
    pub whole-noted : (r : Partial Value) (u : Tree N Scalar) → Below r (plain_of u) → ShowsNoted r u → list_all known (notes u) ≡ whole r
    whole-noted wanting u h a = none-noted u (a [] u refl)
    whole-noted (item w) u h a = all-noted u (λ s x e. a s x e)
    whole-noted (growing ps) u h a = none-noted u (a [] u refl)
    whole-noted (closed ps) (leaf o b) h a = absurd h
    whole-noted (closed ps) (list o us) h a = ap (λ b. b && list_all known (all_notes us)) (a [] (list o us) refl) ∙ wholes-noted ps us h (inner-shows (closed ps) ps o us (λ j s. refl) a)

    wholes-noted : (ps : Parts Value) (us : Trees N Scalar) → EachBelow ps (plains us) → ShowEach ps us → list_all known (all_notes us) ≡ all_whole ps
    wholes-noted no_parts no_trees h a = refl
    wholes-noted no_parts (tree u us) h a = absurd h
    wholes-noted (part r ps) no_trees h a = absurd h
    wholes-noted (part r ps) (tree u us) h a =
        more (notes u) (all_notes us)
        ∙ ap (λ b. b && list_all known (all_notes us)) (whole-noted r u h.0 (a 0 u refl))
        ∙ ap (λ b. whole r && b) (wholes-noted ps us h.1 (λ j v e. a (suc j) v e))
