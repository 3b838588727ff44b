-- The known items of an iteration are those of its nodes whose sources are known; its nodes are what stands at its places, each place once.
use Rattle.std.specs.Prelude.{◌≡◌, refl, ℕ, zero, suc, ◌+◌, Bool, true, false, ◌⊎◌, List, [], ◌∷◌, ◌++◌, map, flat_map, Option, Some, None, option_and_then}
use Rattle.std.proofs.Common.{arith, sym, ap, subst, ◌∙◌, inl, inr}
use Rattle.std.proofs.lemmas.List.Folds.{flat_map-map}
use Rattle.tv_lemmas.specs.Members.{In}
use Rattle.tv_lemmas.proofs.Members.{in-append, in-flat, in-left, in-map, in-right, of-flat, of-map}
use Rattle.tv_value.specs.Nested.{leaf, list, no_trees, tree, Place, count, at, item_at}
use Rattle.tv_strategy.specs.Origins.{Origin}
use Rattle.tv_strategy.specs.Iterations.{Iteration, Iterations}
use Rattle.tv_matching.specs.Items.{closes, end_kind, within, here, if_so, Node, node_at, inside, nodes_of, nodes_from, all_known, known_items, known_from}
use Rattle.tv_matching.proofs.Lists.{flat-append, flat-same, map-flat, map-if}
use Rattle.tv_matching.proofs.Members.{in-if, of-if}
use Rattle.tv_matching.proofs.FromScratch.{WalkItem}

module _ (known : Origin → Bool) where
  abbrev pub if_known : Node → List WalkItem
  if_known n = if_so (all_known known n.sources) n.item

  inside-known : (i : ℕ) (ns : List Node) → map (within i) (flat_map if_known ns) ≡ flat_map if_known (map (inside i) ns)
  inside-known i ns =
      map-flat (within i) if_known ns ∙ flat-same (λ n. map (within i) (if_known n)) (λ n. if_known (inside i n)) (λ n. map-if (within i) (all_known known n.sources) n.item) ns ∙ sym (flat_map-map if_known (inside i) ns)

  one : (b : Bool) (x : WalkItem) → if_so b x ≡ if_so b x ++ []
  one true x = refl
  one false x = refl

  mutual
    pub known-nodes : (t : Iteration) → known_items known t ≡ flat_map if_known (nodes_of t)
    known-nodes (leaf s e) = one (all_known known s) (here (end_kind e))
    known-nodes (list s ts) = ap (λ l. if_so (all_known known s) (here (closes (count ts))) ++ l) (known_from-nodes 0 ts)

    known_from-nodes : (i : ℕ) (ts : Iterations) → known_from known i ts ≡ flat_map if_known (nodes_from i ts)
    known_from-nodes i no_trees = refl
    known_from-nodes i (tree t ts) =
        ap (λ l. map (within i) l ++ known_from known (suc i) ts) (known-nodes t)
        ∙ ap (λ l. l ++ known_from known (suc i) ts) (inside-known i (nodes_of t))
        ∙ ap (λ l. flat_map if_known (map (inside i) (nodes_of t)) ++ l) (known_from-nodes (suc i) ts)
        ∙ sym (flat-append if_known (map (inside i) (nodes_of t)) (nodes_from (suc i) ts))

  -- a known item is that of a node with known sources
  pub of-known : (t : Iteration) (x : WalkItem) → In x (known_items known t) → (n : Node) × In n (nodes_of t) × (n.item ≡ x) × (all_known known n.sources ≡ true)
  of-known t x h =
      let r = of-flat if_known x (nodes_of t) (subst (In x) (known-nodes t) h) in
      let k = of-if (all_known known r.0.sources) r.0.item x r.2 in
      (r.0, r.1, sym k.1, k.0)

  -- and the other way
  pub in-known : (t : Iteration) (n : Node) → In n (nodes_of t) → all_known known n.sources ≡ true → In n.item (known_items known t)
  in-known t n h k = subst (In n.item) (sym (known-nodes t)) (in-flat if_known n n.item (nodes_of t) h (in-if (all_known known n.sources) n.item k))

-- ---- a node stands at its place

-- what one of these iterations has
abbrev Found : ℕ → Iterations → Node → Type 0
Found i ts n = (j : ℕ) × (t : Iteration) × (m : Node) × (item_at ts j ≡ Some t) × In m (nodes_of t) × (n ≡ inside (i + j) m)

found-in : (i : ℕ) (ts : Iterations) (n : Node) → In n (nodes_from i ts) → Found i ts n
found-in i no_trees n h = absurd h
found-in i (tree t ts) n h = by (in-append n (map (inside i) (nodes_of t)) (nodes_from (suc i) ts) h) (λ k. found-in (suc i) ts n k)
  where
    zeroth : (i : ℕ) → i ≡ i + 0
    zeroth i = omega arith

    later : (i j : ℕ) → suc i + j ≡ i + suc j
    later i j = omega arith

    by : In n (map (inside i) (nodes_of t)) ⊎ In n (nodes_from (suc i) ts) → (In n (nodes_from (suc i) ts) → Found (suc i) ts n) → Found i (tree t ts) n
    by (inl k) rec = let r = of-map (inside i) n (nodes_of t) k in (0, t, r.0, refl, r.1, r.2 ∙ ap (λ j. inside j r.0) (zeroth i))
    by (inr k) rec = let r = rec k in (suc r.0, r.1, r.2, r.3, r.4, r.5 ∙ ap (λ j. inside j r.2) (later i r.0))

pub in-found : (i j : ℕ) (ts : Iterations) (t : Iteration) (m : Node) → item_at ts j ≡ Some t → In m (nodes_of t) → In (inside (i + j) m) (nodes_from i ts)
in-found i j no_trees t m e h = absurd (none e)
  where
    none : None ≡ Some t → ⊥
    none e = absurd (cc)
in-found i zero (tree u ts) t m e h =
    in-left (inside (i + 0) m) (map (inside i) (nodes_of u)) (nodes_from (suc i) ts) (subst (λ j. In (inside j m) (map (inside i) (nodes_of u))) (zeroth i) (in-map (inside i) m (nodes_of u) (subst (λ v. In m (nodes_of v)) (sym (only u t e)) h)))
  where
    zeroth : (i : ℕ) → i ≡ i + 0
    zeroth i = omega arith

    or_u : Option Iteration → Iteration
    or_u None = u
    or_u (Some v) = v

    only : (u t : Iteration) → Some u ≡ Some t → u ≡ t
    only u t e = ap or_u e
in-found i (suc j) (tree u ts) t m e h =
    in-right (inside (i + suc j) m) (map (inside i) (nodes_of u)) (nodes_from (suc i) ts) (subst (λ k. In (inside k m) (nodes_from (suc i) ts)) (later i j) (in-found (suc i) j ts t m e h))
  where
    later : (i j : ℕ) → suc i + j ≡ i + suc j
    later i j = omega arith

abbrev pub IsNodeOf : Option Iteration → Node → Type 0
IsNodeOf None n = ⊥
IsNodeOf (Some u) n = n ≡ node_at n.item.place u

-- each node is what stands at its place
pub node-stands : (q : Place) (t : Iteration) (n : Node) → n.item.place ≡ q → In n (nodes_of t) → IsNodeOf (at t q) n
node-stands q (leaf s e) n p (inr h) = absurd h
node-stands q (leaf s e) n p (inl h) = subst (λ r. IsNodeOf (at (leaf s e) r) n) (sym (ap (λ m. m.item.place) h) ∙ p) (h ∙ ap (λ r. node_at r (leaf s e)) (sym (ap (λ m. m.item.place) h)))
node-stands q (list s ts) n p (inl h) = subst (λ r. IsNodeOf (at (list s ts) r) n) (sym (ap (λ m. m.item.place) h) ∙ p) (h ∙ ap (λ r. node_at r (list s ts)) (sym (ap (λ m. m.item.place) h)))
node-stands [] (list s ts) n p (inr h) =
    let f = found-in 0 ts n h in
    absurd (none (0 + f.0) f.2.item.place (sym (ap (λ (m : Node). m.item.place) f.5) ∙ p))
  where
    none : (i : ℕ) (r : Place) → i ∷ r ≡ [] → ⊥
    none i r e = absurd (cc)
node-stands (i ∷ q) (list s ts) n p (inr h) =
    let f = found-in 0 ts n h in
    let e : (0 + f.0) ∷ f.2.item.place ≡ i ∷ q = sym (ap (λ (m : Node). m.item.place) f.5) ∙ p in
    let k = node-stands q f.1 f.2 (ap rest e) f.4 in
    subst (λ j. IsNodeOf (option_and_then (λ u. at u q) (item_at ts j)) n) (sym (from_zero f.0) ∙ ap first e) (subst (λ o. IsNodeOf (option_and_then (λ u. at u q) o) n) (sym f.3) (lifted (0 + f.0) (at f.1 q) f.2 k f.5))
  where
    rest : Place → Place
    rest [] = []
    rest (j ∷ r) = r

    first : Place → ℕ
    first [] = 0
    first (j ∷ r) = j

    from_zero : (j : ℕ) → 0 + j ≡ j
    from_zero j = omega arith

    lifted : (j : ℕ) (o : Option Iteration) (m : Node) → IsNodeOf o m → n ≡ inside j m → IsNodeOf o n
    lifted j None m k e = absurd k
    lifted j (Some u) m k e = e ∙ ap (inside j) k ∙ ap (λ r. node_at r u) (sym (ap (λ (x : Node). x.item.place) e))

-- and each place has its node
pub node-in : (q : Place) (t u : Iteration) → at t q ≡ Some u → In (node_at q u) (nodes_of t)
node-in [] t u e = top t u (ap (or_t t) e)
  where
    or_t : Iteration → Option Iteration → Iteration
    or_t t None = t
    or_t t (Some v) = v

    top : (t u : Iteration) → t ≡ u → In (node_at [] u) (nodes_of t)
    top (leaf s e) u p = inl (ap (node_at []) (sym p))
    top (list s ts) u p = inl (ap (node_at []) (sym p))
node-in (i ∷ q) (leaf s e) u h = absurd (none h)
  where
    none : None ≡ Some u → ⊥
    none e = absurd (cc)
node-in (i ∷ q) (list s ts) u h = inr (by (item_at ts i) refl h (λ t k. node-in q t u k))
  where
    none : None ≡ Some u → ⊥
    none e = absurd (cc)

    from_zero : (j : ℕ) → 0 + j ≡ j
    from_zero j = omega arith

    by : (o : Option Iteration) → item_at ts i ≡ o → option_and_then (λ v. at v q) o ≡ Some u → ((t : Iteration) → at t q ≡ Some u → In (node_at q u) (nodes_of t)) → In (node_at (i ∷ q) u) (nodes_from 0 ts)
    by None e k rec = absurd (none k)
    by (Some t) e k rec = subst (λ j. In (node_at (j ∷ q) u) (nodes_from 0 ts)) (from_zero i) (in-found 0 i ts t (node_at q u) e (rec t k))
