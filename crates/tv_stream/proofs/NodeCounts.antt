-- How many nodes a tree has after a change, and how many a change inside a part takes.
use Rattle.std.proofs.Common.{◌≡◌, ◌≢◌, ℕ, zero, suc, ◌+◌, ◌<◌, ◌≤◌, max, arith, length, true, List, [], ◌∷◌, refl, sym, ap, ap₂, ◌∙◌, subst, Option, Some, None, ◌⊎◌, inl, inr}
use Rattle.tv_lemmas.proofs.Numbers.{is-plus_zero}
use Rattle.tv_parts.specs.Partials.{Partial, wanting, item, growing, closed, Parts, no_parts, part, part_of, part_at, map_partial, map_parts}
use Rattle.tv_parts.specs.Changes.{with_part, filled, arrive, close_here, close_at, CanArrive, CanClose}
use Rattle.tv_pool.specs.Pool.{Pool}
use Rattle.tv_stream.specs.declared.nodes.Entry.{Entry}
use Rattle.tv_stream.specs.nodes.Nodes.{part_in, body_in}
use Rattle.tv_stream.specs.nodes.Stands.{Spot, AreNodes}
use Rattle.tv_stream.specs.nodes.Calls.{count_in}
use Rattle.tv_stream.specs.declared.held.Held.{Held}
use Rattle.tv_stream.specs.Trees.{Marked, optional, tree_at}
use Rattle.tv_stream.specs.Inside.{has_index, InTree, Parted}
use Rattle.tv_stream.specs.NodeCounts.{known_nodes, known_nodes_of, tree_nodes, one_if_wanting, new_nodes, NodesAreAdded, AsManyNodes}
use Rattle.tv_stream.proofs.Listed.{stepped, arrive-step, close-step}
use Rattle.tv_stream.proofs.Same.{part-tree}
use Rattle.tv_stream.proofs.Steps.{part-in-tree, part-tree-is}

-- ---- trees

module _ {A : Type 0} where
  -- of a part nothing else is known, or it is a node
  known-or : (r : Partial A) → known_nodes r + one_if_wanting r ≡ tree_nodes r
  known-or wanting = refl
  known-or (item x) = refl
  known-or (growing ps) = some (known_nodes_of ps)
    where
      some : (n : ℕ) → suc n + 0 ≡ max 1 (suc n)
      some n = omega arith
  known-or (closed ps) = some (known_nodes_of ps)
    where
      some : (n : ℕ) → suc n + 0 ≡ max 1 (suc n)
      some n = omega arith

  known-there : (r : Partial A) → r ≢ wanting → known_nodes r ≡ tree_nodes r
  known-there wanting h = absurd (h refl)
  known-there (item x) h = refl
  known-there (growing ps) h = some (known_nodes_of ps)
    where
      some : (n : ℕ) → suc n ≡ max 1 (suc n)
      some n = omega arith
  known-there (closed ps) h = some (known_nodes_of ps)
    where
      some : (n : ℕ) → suc n ≡ max 1 (suc n)
      some n = omega arith

  -- a part is exchanged
  exchanged : (t : Partial A) (ps : Parts A) (i : ℕ) → known_nodes_of (with_part t ps i) + known_nodes (part_of ps i) ≡ known_nodes_of ps + known_nodes t
  exchanged t no_parts zero = first (known_nodes t)
    where
      first : (n : ℕ) → (n + 0) + 0 ≡ 0 + n
      first n = omega arith
  exchanged t no_parts (suc i) = before (known_nodes_of (with_part t no_parts i)) (known_nodes t) (exchanged t no_parts i)
    where
      before : (a b : ℕ) → a + 0 ≡ 0 + b → (0 + a) + 0 ≡ 0 + b
      before a b h = omega arith
  exchanged t (part p ps) zero = turn (known_nodes t) (known_nodes p) (known_nodes_of ps)
    where
      turn : (a b c : ℕ) → (a + c) + b ≡ (b + c) + a
      turn a b c = omega arith
  exchanged t (part p ps) (suc i) = behind (known_nodes p) (known_nodes_of (with_part t ps i)) (known_nodes (part_of ps i)) (known_nodes_of ps) (known_nodes t) (exchanged t ps i)
    where
      behind : (a b c d e : ℕ) → b + c ≡ d + e → (a + b) + c ≡ (a + d) + e
      behind a b c d e h = omega arith

  filled-nodes : (ps : Parts A) (n : ℕ) → known_nodes_of (filled ps n) ≡ known_nodes_of ps
  filled-nodes ps zero = refl
  filled-nodes no_parts (suc n) = ap (λ k. 0 + k) (filled-nodes no_parts n)
  filled-nodes (part p ps) (suc n) = ap (λ k. known_nodes p + k) (filled-nodes ps n)

  -- no item stands there
  abbrev IsOpen : Partial A → Type 0
  IsOpen r = (v : A) → r ≢ item v

  -- a change of a part adds to the list what it adds to the part
  list-nodes : (t : Partial A) (ps : Parts A) (i more : ℕ) → t ≢ wanting → tree_nodes t ≡ tree_nodes (part_of ps i) + more → max 1 (suc (known_nodes_of (with_part t ps i))) ≡ max 1 (suc (known_nodes_of ps)) + (one_if_wanting (part_of ps i) + more)
  list-nodes t ps i more there is = by (known_nodes_of (with_part t ps i)) (known_nodes (part_of ps i)) (known_nodes_of ps) (known_nodes t) (one_if_wanting (part_of ps i)) (exchanged t ps i) (known-there t there ∙ is ∙ ap (λ n. n + more) (sym (known-or (part_of ps i))))
    where
      by : (a b c d e : ℕ) → a + b ≡ c + d → d ≡ (b + e) + more → max 1 (suc a) ≡ max 1 (suc c) + (e + more)
      by a b c d e h k = omega arith

  stepped-nodes : (t : Partial A) (i more : ℕ) (r : Partial A) → IsOpen r → t ≢ wanting → tree_nodes t ≡ tree_nodes (part_at r i) + more → tree_nodes (stepped t i r) ≡ tree_nodes r + (one_if_wanting (part_at r i) + more)
  stepped-nodes t i more wanting no_item there is = list-nodes t no_parts i more there is
  stepped-nodes t i more (item v) no_item there is = absurd (no_item v refl)
  stepped-nodes t i more (growing ps) no_item there is = list-nodes t ps i more there is
  stepped-nodes t i more (closed ps) no_item there is = list-nodes t ps i more there is

  -- where something can change, no item stands
  growing-open : (ps : Parts A) → IsOpen (growing ps)
  growing-open ps v h = cc

  closed-open : (ps : Parts A) → IsOpen (closed ps)
  closed-open ps v h = cc

  wanting-open : IsOpen wanting
  wanting-open v h = cc

  arrive-part : (i : ℕ) (q : List ℕ) (r : Partial A) → CanArrive (i ∷ q) r → IsOpen r × CanArrive q (part_at r i)
  arrive-part i q wanting can = (wanting-open, nothing q)
    where
      nothing : (q : List ℕ) → CanArrive q (let w : Partial A = wanting in w)
      nothing [] = tt
      nothing (j ∷ q) = tt
  arrive-part i q (item v) can = absurd can
  arrive-part i q (growing ps) can = (growing-open ps, can)
  arrive-part i q (closed ps) can = (closed-open ps, can.1)

  close-part : (i : ℕ) (q : List ℕ) (n : ℕ) (r : Partial A) → CanClose (i ∷ q) n r → IsOpen r × CanClose q n (part_at r i)
  close-part i q n wanting can = (wanting-open, nothing q)
    where
      nothing : (q : List ℕ) → CanClose q n (let w : Partial A = wanting in w)
      nothing [] = tt
      nothing (j ∷ q) = tt
  close-part i q n (item v) can = absurd can
  close-part i q n (growing ps) can = (growing-open ps, can)
  close-part i q n (closed ps) can = (closed-open ps, can.1)

  -- something is known after a change
  stepped-there : (t : Partial A) (i : ℕ) (r : Partial A) → stepped t i r ≢ wanting
  stepped-there t i wanting h = cc
  stepped-there t i (item v) h = cc
  stepped-there t i (growing ps) h = cc
  stepped-there t i (closed ps) h = cc

  arrive-there : (q : List ℕ) (x : A) (r : Partial A) → arrive q x r ≢ wanting
  arrive-there [] x r h = cc
  arrive-there (i ∷ q) x r h = stepped-there (arrive q x (part_at r i)) i r (sym (arrive-step i q x r) ∙ h)

  close-there : (q : List ℕ) (n : ℕ) (r : Partial A) → close_at q n r ≢ wanting
  close-there [] n wanting h = cc
  close-there [] n (item v) h = cc
  close-there [] n (growing ps) h = cc
  close-there [] n (closed ps) h = cc
  close-there (i ∷ q) n r h = stepped-there (close_at q n (part_at r i)) i r (sym (close-step i q n r) ∙ h)

  arrive-nodes : (q : List ℕ) (x : A) (r : Partial A) → CanArrive q r → tree_nodes (arrive q x r) ≡ tree_nodes r + new_nodes q r
  arrive-nodes [] x wanting can = refl
  arrive-nodes [] x (item v) can = absurd can
  arrive-nodes [] x (growing ps) can = absurd can
  arrive-nodes [] x (closed ps) can = absurd can
  arrive-nodes (i ∷ q) x r can =
      let w = arrive-part i q r can in
      ap tree_nodes (arrive-step i q x r)
      ∙ stepped-nodes (arrive q x (part_at r i)) i (new_nodes q (part_at r i)) r w.0 (arrive-there q x (part_at r i)) (arrive-nodes q x (part_at r i) w.1)

  close-nodes : (q : List ℕ) (n : ℕ) (r : Partial A) → CanClose q n r → tree_nodes (close_at q n r) ≡ tree_nodes r + new_nodes q r
  close-nodes [] n wanting can = ap (λ k. max 1 (suc k)) (filled-nodes no_parts n)
  close-nodes [] n (item v) can = absurd can
  close-nodes [] n (growing ps) can = ap (λ k. max 1 (suc k)) (filled-nodes ps n) ∙ is-plus_zero (tree_nodes (let g : Partial A = growing ps in g))
  close-nodes [] n (closed ps) can = absurd can
  close-nodes (i ∷ q) n r can =
      let w = close-part i q n r can in
      ap tree_nodes (close-step i q n r)
      ∙ stepped-nodes (close_at q n (part_at r i)) i (new_nodes q (part_at r i)) r w.0 (close-there q n (part_at r i)) (close-nodes q n (part_at r i) w.1)

  pub nodes-added : NodesAreAdded A
  nodes-added = record { arrival = arrive-nodes; close = close-nodes }

-- ---- with other items

mutual
  known-mapped : {A B : Type 0} (f : A → B) (r : Partial A) → known_nodes (map_partial f r) ≡ known_nodes r
  known-mapped f wanting = refl
  known-mapped f (item x) = refl
  known-mapped f (growing ps) = ap suc (parts-mapped f ps)
  known-mapped f (closed ps) = ap suc (parts-mapped f ps)

  parts-mapped : {A B : Type 0} (f : A → B) (ps : Parts A) → known_nodes_of (map_parts f ps) ≡ known_nodes_of ps
  parts-mapped f no_parts = refl
  parts-mapped f (part p ps) = ap₂ (λ a b. a + b) (known-mapped f p) (parts-mapped f ps)

pub nodes-mapped : {A B : Type 0} → AsManyNodes A B
nodes-mapped f r = ap (max 1) (known-mapped f r)

-- ---- a change inside a part

pub as-many : {T : Type 0} (a b : Pool (Entry (Held T))) (number : ℕ) (P : Type 0) → P ⊎ (a ≡ b) → P ⊎ (count_in a number ≡ count_in b number)
as-many a b number P (inl h) = inl h
as-many a b number P (inr h) = inr (ap (λ x. count_in x number) h)

pub then-same : (a b c : ℕ) → a ≡ b → b ≤ c → a ≤ c
then-same a b c h k = omega arith

module _ {T : Type 0} (m mid : ℕ → Option (Entry (Held T))) (s t i : ℕ) (q l : List ℕ) (parts : (spots : ℕ → Option Spot) (p : Spot) → AreNodes m spots → spots s ≡ Some p → Parted m mid spots s i t) (e : l ≡ i ∷ q) (old inner new : ℕ) (same : (part_in m s i ≡ None) ⊎ (inner ≡ old)) (one : inner ≤ old + 1) where
  step : (spots : ℕ → Option Spot) (h : ℕ) (inside : InTree m spots s (suc h)) → new ≤ inner + new_nodes q (tree_at h mid t) → new ≤ old + new_nodes l (tree_at (suc h) m s)
  step spots h inside fits = subst (λ k. new ≤ old + new_nodes k (tree_at (suc h) m s)) (sym e) (by same)
    where
      it : tree_at h mid t ≡ part_at (tree_at (suc h) m s) i
      it = part-tree-is m mid spots s i t h inside (parts spots inside.spot inside.nodes inside.known)

      here : new ≤ inner + new_nodes q (part_at (tree_at (suc h) m s) i)
      here = subst (λ r. new ≤ inner + new_nodes q r) it fits

      was : part_at (tree_at (suc h) m s) i ≡ optional (tree_at h m) (part_in m s i)
      was = part-tree h m s inside.sound i

      fresh : (w n : ℕ) → w ≡ 1 → new ≤ inner + n → new ≤ old + (w + n)
      fresh w n h k = omega arith

      kept : (w n : ℕ) → inner ≡ old → new ≤ inner + n → new ≤ old + (w + n)
      kept w n h k = omega arith

      by : (part_in m s i ≡ None) ⊎ (inner ≡ old) → new ≤ old + (one_if_wanting (part_at (tree_at (suc h) m s) i) + new_nodes q (part_at (tree_at (suc h) m s) i))
      by (inl none) = fresh _ (new_nodes q (part_at (tree_at (suc h) m s) i)) (ap one_if_wanting (was ∙ ap (optional (tree_at h m)) none)) here
      by (inr is) = kept _ (new_nodes q (part_at (tree_at (suc h) m s) i)) is here

  inside-of : (spots : ℕ → Option Spot) (h : ℕ) (inside : InTree m spots s (suc h)) → InTree mid (parts spots inside.spot inside.nodes inside.known).more t h
  inside-of spots h inside = part-in-tree m mid spots s i t h inside (parts spots inside.spot inside.nodes inside.known)

  pub arrival-nodes : ((spots : ℕ → Option Spot) (height : ℕ) → InTree mid spots t height → length q ≤ height → new ≤ inner + new_nodes q (tree_at height mid t)) → (spots : ℕ → Option Spot) (height : ℕ) → InTree m spots s height → length l ≤ height → new ≤ old + new_nodes l (tree_at height m s)
  arrival-nodes fits spots zero inside tall = absurd (never (length q) (subst (λ k. length k ≤ 0) e tall))
    where
      never : (n : ℕ) → suc n ≤ 0 → ⊥
      never n h = omega arith
  arrival-nodes fits spots (suc h) inside tall = step spots h inside (fits _ h (inside-of spots h inside) (down (length q) h (subst (λ k. length k ≤ suc h) e tall)))
    where
      down : (n h : ℕ) → suc n ≤ suc h → n ≤ h
      down n h k = omega arith

  pub close-nodes-in : ((spots : ℕ → Option Spot) (height : ℕ) → InTree mid spots t height → length q < height → new ≤ inner + new_nodes q (tree_at height mid t)) → (spots : ℕ → Option Spot) (height : ℕ) → InTree m spots s height → length l < height → new ≤ old + new_nodes l (tree_at height m s)
  close-nodes-in fits spots zero inside tall = absurd (never (length l) tall)
    where
      never : (n : ℕ) → n < 0 → ⊥
      never n h = omega arith
  close-nodes-in fits spots (suc h) inside tall = step spots h inside (fits _ h (inside-of spots h inside) (down (length q) h (subst (λ k. length k < suc h) e tall)))
    where
      down : (n h : ℕ) → suc n < suc h → n < h
      down n h k = omega arith
