-- The leaves that were made from an element stand by port, then place.
use Rattle.std.specs.Prelude.{◌≡◌, ◌<◌, ◌≤◌, ◌⊎◌, ℕ, Bool, List, None, Option, Some, [], filter_map, flat_map, map, refl, suc, true, zero, ◌&&◌, ◌++◌, ◌∷◌}
use Rattle.std.specs.List.{cons_option, list_all, list_any}
use Rattle.std.specs.declared.cmp.Ordering.{Ordering}
use Rattle.std.specs.Cmp.{nat_cmp_is}
use Rattle.std.specs.Ordering.{is_lt, nat_cmp, ordering_then}
use Rattle.std.proofs.Common.{Equal, Greater, Less, ap, append-nil, append_assoc, arith, inl, inr, subst, sym, true≢false, ◌∙◌}
use Rattle.std.proofs.lemmas.Bool.{and_parts}
use Rattle.std.proofs.lemmas.Cmp.{nat_cmp_total, nat_list_cmp_total, tied_itself}
use Rattle.std.proofs.lemmas.Option.{cond_some, none-some}
use Rattle.tv_lemmas.specs.Members.{Each, In}
use Rattle.tv_lemmas.proofs.Members.{each_in, in-append, in_each, of-flat, of-options}
use Rattle.tv_value.specs.Nested.{Place, Tree, Trees, leaf, list, no_trees, nodes, nodes_below, nodes_from, tree}
use Rattle.tv_value.specs.Orders.{name_cmp, place_cmp}
use Rattle.tv_value.specs.Values.{JobName, Name, Value}
use Rattle.tv_gate.specs.Outcomes.{Giving}
use Rattle.tv_flow.specs.Flows.{Feed, Flow}
use Rattle.tv_flow.specs.Formed.{are_named, is_ascending, is_depth, is_feed, is_flow, is_step}
use Rattle.tv_flow.specs.Forms.{is_name}
use Rattle.tv_lineage.specs.Members.{Rises}
use Rattle.tv_strategy.specs.Origins.{Traced}
use Rattle.tv_model.specs.Instances.{given_of}
use Rattle.tv_lineage.specs.Touching.{Label, label_cmp, touches}
use Rattle.tv_model.specs.Lineages.{forward, leaf_label, lineage}
use Rattle.tv_model.specs.Made.{Meaning, feed_value}
use Rattle.tv_model.specs.Meanings.{flow_meaning, instance_meaning, meaning, nesting_limit, no_meaning}
use Rattle.tv_model.proofs.Fed.{named_map_or}
use Rattle.tv_model.proofs.Instances.{steps_of}
use Rattle.tv_model.specs.records.Stated.{ForwardRises}
use Rattle.tv_naming.proofs.FormedParts.{document-flows}

-- ---- lists that rise

abbrev IsLess : {A : Type 0} → (A → A → Ordering) → A → A → Type 0
IsLess cmp x y = is_lt (cmp x y) ≡ true

rises-append : {A : Type 0} (cmp : A → A → Ordering) (xs ys : List A) → Rises cmp xs → Rises cmp ys
    → ((x y : A) → In x xs → In y ys → IsLess cmp x y) → Rises cmp (xs ++ ys)
rises-append cmp [] ys a b f = b
rises-append {A = A} cmp (x ∷ xs) ys a b f =
    (in_each (IsLess cmp x) (xs ++ ys) (λ y i. by y (in-append y xs ys i)), rises-append cmp xs ys a.1 b (λ z y i j. f z y (inr i) j))
  where
    by : (y : A) → In y xs ⊎ In y ys → IsLess cmp x y
    by y (inl i) = each_in (IsLess cmp x) xs a.0 y i
    by y (inr i) = f x y (inl refl) i

module _ {A B : Type 0} (cmp : A → A → Ordering) (other : B → B → Ordering) where
  rises-flat : (f : A → List B) → ((x : A) → Rises other (f x))
      → ((x y : A) → IsLess cmp x y → (z w : B) → In z (f x) → In w (f y) → IsLess other z w)
      → (xs : List A) → Rises cmp xs → Rises other (flat_map f xs)
  rises-flat f own cross [] r = tt
  rises-flat f own cross (x ∷ xs) r =
      rises-append other (f x) (flat_map f xs) (own x) (rises-flat f own cross xs r.1)
      (λ z w i j. let u = of-flat f w xs j in cross x u.0 (each_in (IsLess cmp x) xs r.0 u.0 u.1) z w i u.2)

  rises-options : (f : A → Option B)
      → ((x y : A) (z w : B) → f x ≡ Some z → f y ≡ Some w → IsLess cmp x y → IsLess other z w)
      → (xs : List A) → Rises cmp xs → Rises other (filter_map f xs)
  rises-options f goes [] r = tt
  rises-options f goes (x ∷ xs) r = by (f x) refl (rises-options f goes xs r.1)
    where
      by : (o : Option B) → f x ≡ o → Rises other (filter_map f xs) → Rises other (cons_option o (filter_map f xs))
      by None e k = k
      by (Some z) e k =
          (in_each (IsLess other z) (filter_map f xs) (λ w i. let u = of-options f w xs i in goes x u.0 z w e u.2 (each_in (IsLess cmp x) xs r.0 u.0 u.1)), k)

-- ---- places

same-first : (i : ℕ) (o : Ordering) → is_lt (ordering_then (nat_cmp i i) o) ≡ is_lt o
same-first i o = ap (λ c. is_lt (ordering_then c o)) (tied_itself nat_cmp_total i)

place-longer : (q : Place) (i : ℕ) (r : Place) → IsLess place_cmp q (q ++ i ∷ r)
place-longer [] i r = refl
place-longer (k ∷ q) i r = same-first k (place_cmp q (q ++ i ∷ r)) ∙ place-longer q i r

place-less : (q : Place) (i j : ℕ) (r s : Place) → i < j → IsLess place_cmp (q ++ i ∷ r) (q ++ j ∷ s)
place-less [] i j r s h = ap (λ c. is_lt (ordering_then c (place_cmp r s))) (sym (nat_cmp_is i j Less h))
place-less (k ∷ q) i j r s h = same-first k (place_cmp (q ++ i ∷ r) (q ++ j ∷ s)) ∙ place-less q i j r s h

-- ---- the nodes of a tree

abbrev node_cmp : {N A : Type 0} → Place × Tree N A → Place × Tree N A → Ordering
node_cmp x y = place_cmp x.0 y.0

abbrev IsBelow : Place → Place → Type 0
IsBelow q p = (r : Place) × (p ≡ q ++ r)

abbrev IsFrom : Place → ℕ → Place → Type 0
IsFrom q i p = (j : ℕ) × (r : Place) × (i ≤ j) × (p ≡ q ++ j ∷ r)

across : (q : Place) (i : ℕ) (x y : Place) → IsBelow (q ++ i ∷ []) x → IsFrom q (suc i) y → IsLess place_cmp x y
across q i x y a b =
    subst (λ p. IsLess place_cmp p y) (sym (a.1 ∙ append_assoc q (i ∷ []) a.0))
    (subst (λ p. IsLess place_cmp (q ++ i ∷ a.0) p) (sym b.3) (place-less q i b.0 a.0 b.1 b.2))

module _ {N A : Type 0} where
  mutual
    below : (t : Tree N A) (q : Place) (x : Place × Tree N A) → In x (nodes_below q t) → IsBelow q x.0
    below (leaf n a) q x (inl p) = ([], ap (λ y. y.0) p ∙ sym (append-nil q))
    below (leaf n a) q x (inr i) = absurd i
    below (list n ts) q x (inl p) = ([], ap (λ y. y.0) p ∙ sym (append-nil q))
    below (list n ts) q x (inr i) = let r = from ts q 0 x i in (r.0 ∷ r.1, r.3)

    from : (ts : Trees N A) (q : Place) (i : ℕ) (x : Place × Tree N A) → In x (nodes_from q i ts) → IsFrom q i x.0
    from no_trees q i x h = absurd h
    from (tree t ts) q i x h =
        either (in-append x (nodes_below (q ++ i ∷ []) t) (nodes_from q (suc i) ts) h) (λ k. below t (q ++ i ∷ []) x k) (λ k. from ts q (suc i) x k)
      where
        either : In x (nodes_below (q ++ i ∷ []) t) ⊎ In x (nodes_from q (suc i) ts)
            → (In x (nodes_below (q ++ i ∷ []) t) → IsBelow (q ++ i ∷ []) x.0)
            → (In x (nodes_from q (suc i) ts) → IsFrom q (suc i) x.0) → IsFrom q i x.0
        either (inl k) f g = let r = f k in (i, r.0, (omega arith), r.1 ∙ append_assoc q (i ∷ []) r.0)
        either (inr k) f g = let r = g k in (r.0, r.1, (omega (arith, r.2)), r.3)

  mutual
    below-rise : (t : Tree N A) (q : Place) → Rises node_cmp (nodes_below q t)
    below-rise (leaf n a) q = (tt, tt)
    below-rise (list n ts) q = (
      in_each (IsLess node_cmp (q, list n ts)) (nodes_from q 0 ts) (λ y i. let r = from ts q 0 y i in subst (λ p. IsLess place_cmp q p) (sym r.3) (place-longer q r.0 r.1)),
      from-rise ts q 0,
    )

    from-rise : (ts : Trees N A) (q : Place) (i : ℕ) → Rises node_cmp (nodes_from q i ts)
    from-rise no_trees q i = tt
    from-rise (tree t ts) q i =
        rises-append node_cmp (nodes_below (q ++ i ∷ []) t) (nodes_from q (suc i) ts) (below-rise t (q ++ i ∷ [])) (from-rise ts q (suc i))
        (λ x y h k. across q i x.0 y.0 (below t (q ++ i ∷ []) x h) (from ts q (suc i) y k))

-- ---- the leaves of outputs

leaf-is : (m : Meaning) (x : Name) (q : Place) (p : Name) (n : Place × Traced) (l : Label)
    → leaf_label m x q p n ≡ Some l → l ≡ (p, n.0)
leaf-is m x q p (r, leaf o a) l e = sym (cond_some (list_any (touches x q) (lineage m (leaf o a))) (p, r) l e).1
leaf-is m x q p (r, list o ts) l e = absurd (none-some l e)

then-less : (o c : Ordering) → is_lt o ≡ true → is_lt (ordering_then o c) ≡ true
then-less Less c h = refl
then-less Equal c h = absurd (true≢false (sym h))
then-less Greater c h = absurd (true≢false (sym h))

abbrev output_cmp : Name × Traced → Name × Traced → Ordering
output_cmp a b = name_cmp a.0 b.0

module _ (m : Meaning) (x : Name) (q : Place) where
  abbrev of_output : Name × Traced → List Label
  of_output o = filter_map (leaf_label m x q o.0) (nodes o.1)

  one-rises : (o : Name × Traced) → Rises label_cmp (of_output o)
  one-rises o =
      rises-options node_cmp label_cmp (leaf_label m x q o.0)
      (λ a b l k e f h.
      subst (λ z. IsLess label_cmp z k) (sym (leaf-is m x q o.0 a l e))
      (subst (λ z. IsLess label_cmp (o.0, a.0) z) (sym (leaf-is m x q o.0 b k f))
      (ap (λ c. is_lt (ordering_then c (place_cmp a.0 b.0))) (tied_itself nat_list_cmp_total o.0) ∙ h)))
      (nodes o.1) (below-rise o.1 [])

  port-of : (o : Name × Traced) (l : Label) → In l (of_output o) → l.0 ≡ o.0
  port-of o l i =
      let u = of-options (leaf_label m x q o.0) l (nodes o.1) i in
      ap (λ k. k.0) (leaf-is m x q o.0 u.0 l u.2)

  all-rise : Rises output_cmp m.outputs → Rises label_cmp (forward m x q)
  all-rise r =
      rises-flat output_cmp label_cmp of_output one-rises
      (λ a b h l k i j.
      then-less (name_cmp l.0 k.0) (place_cmp l.1 k.1)
      (subst (λ n. IsLess name_cmp n k.0) (sym (port-of a l i)) (subst (λ n. IsLess name_cmp a.0 n) (sym (port-of b k j)) h)))
      m.outputs r

-- ---- the outputs of a formed flow

module _ (v : Feed → Traced) where
  abbrev delivered : List (Name × Feed) → List (Name × Traced)
  delivered os = map (λ o. (o.0, v o.1)) os

  all-above : (n : Name) (os : List (Name × Feed)) → list_all (λ k. is_lt (name_cmp n k)) (map (λ o. o.0) os) ≡ true
      → Each (λ o. IsLess name_cmp n o.0) (delivered os)
  all-above n [] h = tt
  all-above n (o ∷ os) h =
      let r = and_parts (is_lt (name_cmp n o.0)) (list_all (λ k. is_lt (name_cmp n k)) (map (λ o. o.0) os)) h in
      (r.0, all-above n os r.1)

  outputs-rise : (os : List (Name × Feed)) → is_ascending (map (λ o. o.0) os) ≡ true → Rises output_cmp (delivered os)
  outputs-rise [] h = tt
  outputs-rise (o ∷ os) h =
      let r = and_parts (list_all (λ k. is_lt (name_cmp o.0 k)) (map (λ o. o.0) os)) (is_ascending (map (λ o. o.0) os)) h in
      (all-above o.0 os r.0, outputs-rise os r.1)

entries-ascend : {A : Type 0} (test : A → Bool) (least most : ℕ) (es : List (Name × A)) → are_named test least most es ≡ true
    → (is_ascending (map (λ e. e.0) es) ≡ true) × (list_all (λ e. is_name e.0 && test e.1) es ≡ true)
entries-ascend test least most es h = and_parts _ _ (and_parts _ _ h).1

each-flow : (gs : List (Name × Flow)) → list_all (λ e. is_name e.0 && is_flow e.1) gs ≡ true → Each (λ g. is_flow g.1 ≡ true) gs
each-flow [] h = tt
each-flow (g ∷ gs) h = let r = and_parts _ _ h in ((and_parts (is_name g.0) (is_flow g.1) r.0).1, each-flow gs r.1)

outputs-formed : (flow : Flow) → is_flow flow ≡ true → are_named is_feed 0 16 flow.outputs ≡ true
outputs-formed flow h =
    (and_parts (are_named is_depth 0 16 flow.inputs && are_named is_step 0 1000 flow.steps) (are_named is_feed 0 16 flow.outputs) h).1

flow-rises : (gives : Giving) (inside : Name → JobName → List (Name × Value) → Meaning) (flow : Flow) (vs : List (Name × Value))
    → is_flow flow ≡ true → Rises output_cmp (instance_meaning gives inside [] flow vs).outputs
flow-rises gives inside flow vs h =
    outputs-rise (λ f. (feed_value (given_of flow vs) (steps_of gives inside [] flow vs) f).value) flow.outputs
    (entries-ascend is_feed 0 16 flow.outputs (outputs-formed flow h)).0

meaning-rises : (gives : Giving) (gs : List (Name × Flow)) (depth : ℕ) (f : Name) (vs : List (Name × Value))
    → list_all (λ e. is_name e.0 && is_flow e.1) gs ≡ true → Rises output_cmp (flow_meaning gives gs depth f [] vs).outputs
meaning-rises gives gs zero f vs h = tt
meaning-rises gives gs (suc depth) f vs h =
    named_map_or (λ g. is_flow g ≡ true) (λ m. Rises output_cmp m.outputs) (λ g. instance_meaning gives (flow_meaning gives gs depth) [] g vs)
    (λ g k. flow-rises gives (flow_meaning gives gs depth) g vs k) f gs no_meaning (each-flow gs h) tt

pub forward-rises : ForwardRises
forward-rises gives d h x q =
    all-rise (meaning gives d) x q
    (meaning-rises gives d.flows nesting_limit d.main d.inputs (entries-ascend is_flow 1 256 d.flows (document-flows d h)).1)
