-- Graphs of named things: they are graphs, and what the names say of them.
use Rattle.std.specs.Prelude.{◌≡◌, ℕ, suc, ◌<◌, ◌^◌, List, [], ◌∷◌, length, map, Bool, true, false, ◌&&◌, ◌||◌, ◌==◌, nat_lt, Option, Some, None, refl, unwrap_or, slice_get, if◌then◌else◌}
use Rattle.std.specs.List.{list_all, list_any, cons_option}
use Rattle.std.specs.Option.{option_map_or}
use Rattle.std.proofs.Common.{get_or, ap, sym, subst, ◌∙◌}
use Rattle.std.proofs.lemmas.Bool.{lt-ltb, eq-eqb, eqb-true}
use Rattle.std.proofs.lemmas.List.{length-map}
use Rattle.std.proofs.lemmas.Simd.{map-map}
use Rattle.tv_value.specs.Values.{Name}
use Rattle.tv_value.specs.Orders.{same_name, named}
use Rattle.tv_value.proofs.NameLemmas.{same_name-is, same_name-refl}
use Rattle.tv_flow.specs.Views.{each}
use Rattle.tv_naming.specs.graphs.Graphs.{Graph, is_graph, before}
use Rattle.tv_naming.specs.Naming.{has_name}
use Rattle.tv_naming.specs.Numbers.{number_in, position}
use Rattle.tv_check.specs.NamedGraphs.{numbers_of, graph_of}
use Rattle.tv_naming.proofs.ByPosition.{there, number-found}
use Rattle.tv_naming.proofs.Lists.{map-same, filter_map-same}
use Rattle.tv_check.proofs.NestedLemmas.{number-each}

-- ---- the numbers are vertices

module _ {A : Type 0} (xs : List (Name × A)) where
  abbrev below : ℕ → Bool
  below u = nat_lt u (length xs)

  below-cons : (o : Option ℕ) (us : List ℕ) → ((k : ℕ) → o ≡ Some k → k < length xs) → list_all below us ≡ true → list_all below (cons_option o us) ≡ true
  below-cons None us h e = e
  below-cons (Some k) us h e = ap (λ b. b && list_all below us) (lt-ltb k (length xs) (h k refl)) ∙ e

  numbers-below : (ns : List Name) → list_all below (numbers_of xs ns) ≡ true
  numbers-below [] = refl
  numbers-below (n ∷ ns) = below-cons (number_in xs n) (numbers_of xs ns) (λ k e. (number-found xs n k e).below) (numbers-below ns)

  rows-below : (f : A → List Name) (ys : List (Name × A)) → list_all (list_all below) (map (λ x. numbers_of xs (f x.1)) ys) ≡ true
  rows-below f [] = refl
  rows-below f (y ∷ ys) = ap (λ b. b && list_all (list_all below) (map (λ x. numbers_of xs (f x.1)) ys)) (numbers-below (f y.1)) ∙ rows-below f ys

  pub graph_of-is : (f : A → List Name) → length xs < 2 ^ 32 → is_graph (graph_of f xs) ≡ true
  graph_of-is f few =
      let g = graph_of f xs in
      let same : length xs ≡ length g = sym (length-map xs (λ x. numbers_of xs (f x.1))) in
      subst (λ n. (nat_lt n (2 ^ 32) && list_all (λ us. list_all (λ u. nat_lt u n) us) g) ≡ true) same
      (ap (λ b. b && list_all (list_all below) g) (lt-ltb (length xs) (2 ^ 32) few) ∙ rows-below f xs)

-- ---- things of the code, and what they stand for

module _ {A B : Type 0} (v : A → B) where
  pub number_in-each : (xs : List (Name × A)) (n : Name) → number_in (each v xs) n ≡ number_in xs n
  number_in-each xs n = number-each v n xs

  pub graph_of-each : (f : B → List Name) (xs : List (Name × A)) → graph_of f (each v xs) ≡ map (λ x. numbers_of xs (f (v x.1))) xs
  graph_of-each f xs =
      map-map (λ x. numbers_of (each v xs) (f x.1)) (λ x. (x.0, v x.1)) xs
      ∙ map-same _ _ xs (λ x. filter_map-same _ _ (f (v x.1)) (number_in-each xs))

-- ---- what comes before

module _ {A : Type 0} where
  -- the things directly before the one of a name, by name and by number
  before-position : (h : A → List ℕ) (n : Name) (xs : List (Name × A)) → unwrap_or (slice_get (map (λ x. h x.1) xs) (position n xs)) [] ≡ option_map_or h (named n xs) []
  before-position h n [] = refl
  before-position h n (x ∷ xs) = cases (same_name n x.0) (before-position h n xs)
    where
      cases : (b : Bool) → unwrap_or (slice_get (map (λ x. h x.1) xs) (position n xs)) [] ≡ option_map_or h (named n xs) [] → unwrap_or (slice_get (h x.1 ∷ map (λ x. h x.1) xs) (if b then 0 else suc (position n xs))) [] ≡ option_map_or h (if b then Some x.1 else named n xs) []
      cases true e = refl
      cases false e = e

  pub position-apart : (xs : List (Name × A)) (m n : Name) → has_name xs m ≡ true → has_name xs n ≡ true → (position m xs == position n xs) ≡ same_name m n
  position-apart [] m n hm hn = cc
  position-apart (x ∷ xs) m n hm hn = cases (same_name m n) refl
    where
      ys : List (Name × A)
      ys = x ∷ xs

      cases : (b : Bool) → same_name m n ≡ b → (position m (x ∷ xs) == position n (x ∷ xs)) ≡ b
      cases true e = eq-eqb _ _ (ap (λ k. position k (x ∷ xs)) (same_name-is m n e))
      cases false e = other (position m (x ∷ xs) == position n (x ∷ xs)) refl
        where
          other : (b : Bool) → (position m (x ∷ xs) == position n (x ∷ xs)) ≡ b → b ≡ false
          other false p = refl
          other true p =
              let k : position m (x ∷ xs) ≡ position n (x ∷ xs) = eqb-true _ _ p in
              let tm = there m (x ∷ xs) hm in
              let tn = there n (x ∷ xs) hn in
              let same : m ≡ n = sym (tm.name x) ∙ ap (λ i. (get_or (x ∷ xs) i x).0) k ∙ tn.name x in
              let q : true ≡ false = sym (same_name-refl m) ∙ ap (same_name m) same ∙ e in
              cc

module _ {A : Type 0} (f : A → List Name) (xs : List (Name × A)) where
  abbrev pub next : Name → List Name
  next n = option_map_or f (named n xs) []

  abbrev pub graph : Graph
  graph = graph_of f xs

  abbrev pub at : Name → ℕ
  at n = position n xs

  pub before-next : (n : Name) → before graph (at n) ≡ numbers_of xs (next n)
  before-next n = before-position (λ a. numbers_of xs (f a)) n xs ∙ cases (named n xs)
    where
      cases : (o : Option A) → option_map_or (λ a. numbers_of xs (f a)) o [] ≡ numbers_of xs (option_map_or f o [])
      cases None = refl
      cases (Some a) = refl

  -- a test of names that are there by their numbers
  pub any-numbers : (p : ℕ → Bool) (q : Name → Bool) → ((n : Name) → has_name xs n ≡ true → p (at n) ≡ q n) → ((n : Name) → has_name xs n ≡ false → q n ≡ false) → (ns : List Name) → list_any p (numbers_of xs ns) ≡ list_any q ns
  any-numbers p q here away [] = refl
  any-numbers p q here away (n ∷ ns) = cases (has_name xs n) refl (any-numbers p q here away ns)
    where
      cases : (b : Bool) → has_name xs n ≡ b → list_any p (numbers_of xs ns) ≡ list_any q ns → list_any p (cons_option (if b then Some (at n) else None) (numbers_of xs ns)) ≡ (q n || list_any q ns)
      cases true e h = ap (λ c. c || list_any p (numbers_of xs ns)) (here n e) ∙ ap (λ c. q n || c) h
      cases false e h = h ∙ ap (λ c. c || list_any q ns) (sym (away n e))
