-- What the matcher is told with an event is what the port gains.
use Rattle.std.specs.Prelude.{◌≡◌, refl, ℕ, zero, suc, pred, ◌+◌, List, [], ◌∷◌, ◌++◌, Bool, true, false, Option, Some, None, map, option_and_then}
use Rattle.std.proofs.Common.{arith, sym, ap, ap₂, subst, ◌∙◌, append_assoc, append-nil, add-zero}
use Rattle.std.proofs.lemmas.Option.{none-some, same_Some}
use Rattle.std.proofs.lemmas.List.{map-append}
use Rattle.tv_lemmas.proofs.Numbers.{is-zero_plus, plus-suc}
use Rattle.tv_value.specs.Nested.{Tree, leaf, list, Trees, no_trees, tree, Place, at, children, count, item_at, map_tree, map_trees, notes}
use Rattle.tv_value.specs.Values.{AllHaveDepth, ErrorDoc, HasDepth, JobName, Name, Scalar, Value, fault, text}
use Rattle.tv_strategy.specs.Origins.{Origin, Traced, from_job, from_level, traced}
use Rattle.tv_strategy.specs.Iterations.{job, passed, Iteration, Iterations, walk, walk_each}
use Rattle.tv_strategy.specs.Outputs.{output_below, outputs_from}
use Rattle.tv_strategy.proofs.AtDepth.{traced-depth}
use Rattle.tv_model.proofs.Sound.{AllStand, AllStandFrom}
use Rattle.tv_matching.specs.Items.{Bound, Item, Stopped, all_known, closes, ends, here, if_so, item, known_from, passes, within}
use Rattle.tv_matching.specs.Told.{Told, arrival, close, stop_of, value_there}
use Rattle.tv_model.specs.instance.Events as events
use Rattle.tv_framing.proofs.Gaining.{one-if}
use Rattle.tv_framing.specs.Arriving.{levels_below}
use Rattle.tv_framing.specs.Feeding.{GaveThis, HasDepthLeft}
use Rattle.tv_framing.specs.Gaining.{all_items, on_way, on_way_from}
use Rattle.tv_framing.specs.PortTellings.{placed, seen_told, value_told, values_told, way_told}
use Rattle.tv_model.specs.instance.Events.{Event, fault_set, gave, took}
use Rattle.tv_model.specs.instance.Fitting.{FitsNode}
use Rattle.tv_model.specs.instance.Wholeness.{is_new, is_whole}

pub placed-within : (q : Place) (i : ℕ) (ys : List (Item Bound Stopped)) → map (placed q) (map (within i) ys) ≡ map (placed (q ++ i ∷ [])) ys
placed-within q i [] = refl
placed-within q i (y ∷ ys) = ap₂ (λ a b. item a y.kind ∷ b) (sym (append_assoc q (i ∷ []) y.place)) (placed-within q i ys)

pub at-append : {N A : Type 0} (t : Tree N A) (q r : Place) (u : Tree N A) → at t q ≡ Some u → at t (q ++ r) ≡ at u r
at-append t [] r u h = ap (λ x. at x r) (same_Some t u h)
at-append {N = N} {A = A} t (i ∷ q) r u h = by (item_at (children t) i) h (λ x g. at-append x q r u g)
  where
    by : (o : Option (Tree N A)) → option_and_then (λ x. at x q) o ≡ Some u → ((x : Tree N A) → at x q ≡ Some u → at x (q ++ r) ≡ at u r) → option_and_then (λ x. at x (q ++ r)) o ≡ at u r
    by None g rec = absurd (none-some u g)
    by (Some x) g rec = rec x g

-- the items of a list stand at its indices
itself : {A : Type 0} (o : Option A) → option_and_then (λ u. Some u) o ≡ o
itself None = refl
itself (Some u) = refl

item-stands : {N A : Type 0} (v : Tree N A) (q : Place) (o : N) (ts : Trees N A) → at v q ≡ Some (list o ts) → (j : ℕ) (u : Tree N A) → item_at ts j ≡ Some u → at v (q ++ j ∷ []) ≡ Some u
item-stands v q o ts h j u g = at-append v q (j ∷ []) (list o ts) h ∙ itself (item_at ts j) ∙ g

pub items-stand : {N A : Type 0} (v : Tree N A) (q : Place) (o : N) (ts : Trees N A) → at v q ≡ Some (list o ts) → (j : ℕ) (u : Tree N A) → item_at ts j ≡ Some u → at v (q ++ (0 + j) ∷ []) ≡ Some u
items-stand v q o ts h j u g = subst (λ i. at v (q ++ i ∷ []) ≡ Some u) (is-zero_plus j) (item-stands v q o ts h j u g)

-- notes don't matter to tellings

pub map_count : {N M : Type 0} (f : N → M) (vs : Trees N Scalar) → count (map_trees f (λ a. a) vs) ≡ count vs
map_count f no_trees = refl
map_count f (tree v vs) = ap (λ x. suc x) (map_count f vs)

mutual
  pub told-plain : {N M : Type 0} (p : Name) (k : ℕ) (q : Place) (f : N → M) (v : Tree N Scalar) → value_told p k q (map_tree f (λ a. a) v) ≡ value_told p k q v
  told-plain p zero q f (leaf n a) = refl
  told-plain p zero q f (list n vs) = refl
  told-plain p (suc k) q f (leaf n (text t)) = refl
  told-plain p (suc k) q f (leaf n (fault e)) = refl
  told-plain p (suc k) q f (list n vs) = ap₂ (λ a b. close p q a ∷ b) (map_count f vs) (told-plains p k q 0 f vs)

  pub told-plains : {N M : Type 0} (p : Name) (k : ℕ) (q : Place) (i : ℕ) (f : N → M) (vs : Trees N Scalar) → values_told p k q i (map_trees f (λ a. a) vs) ≡ values_told p k q i vs
  told-plains p k q i f no_trees = refl
  told-plains p k q i f (tree v vs) = ap₂ (λ a b. a ++ b) (told-plain p k (q ++ i ∷ []) f v) (told-plains p k q (suc i) f vs)

module _ (known after : Origin → Bool) (values : Name → Traced) (p : Name) where
  abbrev said : List Told → List (Item Bound Stopped)
  said ts = map (seen_told values) ts

  pub arrival-seen : (q : Place) (v : Traced) → at (values p) q ≡ Some v → seen_told values (arrival p q false) ≡ item q (ends ((p, v) ∷ []))
  arrival-seen q v h = ap (λ o. item q (ends ((p, value_there (values p) o) ∷ []))) h

  fault-seen : (q : Place) (o : Origin) (e : ErrorDoc) → at (values p) q ≡ Some (leaf o (fault e)) → seen_told values (arrival p q true) ≡ item q (passes (o.mark, e))
  fault-seen q o e h = ap (λ x. item q (passes (stop_of x))) h

  pub placed-here : (q : Place) (y : Item Bound Stopped) → y.place ≡ [] → placed q y ≡ item q y.kind
  placed-here q y e = ap (λ x. item x y.kind) (ap (λ x. q ++ x) e ∙ append-nil q)

  -- ---- all of a value

  module _ (c : ℕ) where
    every : (os : List Origin) → all_known (λ o. true) os ≡ true
    every [] = refl
    every (x ∷ os) = every os

    mutual
      -- all items of a walk are what is told of the value there
      pub value-is_told : (k : ℕ) (q : Place) (v : Traced) → at (values p) q ≡ Some v → HasDepth v (k + c) → map (placed q) (all_items (walk p k v)) ≡ said (value_told p k q v)
      value-is_told zero q v h d = ap (map (placed q)) (one-if _ _ (every (notes v))) ∙ ap (λ x. x ∷ []) (placed-here q (here (ends ((p, v) ∷ []))) refl ∙ sym (arrival-seen q v h))
      value-is_told (suc k) q (leaf o (text t)) h d = absurd (none_left k c d)
        where
          none_left : (a b : ℕ) → 0 ≡ suc a + b → ⊥
          none_left a b e = omega arith
      value-is_told (suc k) q (leaf o (fault e)) h d = ap (λ x. x ∷ []) (placed-here q (here (passes (o.mark, e))) refl ∙ sym (fault-seen q o e h))
      value-is_told (suc k) q (list o ts) h d =
          ap₂ (λ a b. a ∷ b) (placed-here q (here (closes (count (walk_each p k ts)))) refl ∙ ap (λ x. item q (closes x)) (counts ts))
          (values-are_told k q 0 ts (λ j u g. items-stand (values p) q o ts h j u g) (subst (HasDepth (list o ts)) (sucs k c) d))
        where
          counts : (us : Trees Origin Scalar) → count (walk_each p k us) ≡ count us
          counts no_trees = refl
          counts (tree u us) = ap (λ x. suc x) (counts us)

          sucs : (a b : ℕ) → suc a + b ≡ suc (a + b)
          sucs a b = omega arith

      pub values-are_told : (k : ℕ) (q : Place) (i : ℕ) (vs : Trees Origin Scalar) → ((j : ℕ) (u : Traced) → item_at vs j ≡ Some u → at (values p) (q ++ (i + j) ∷ []) ≡ Some u) → AllHaveDepth vs (k + c) → map (placed q) (known_from (λ o. true) i (walk_each p k vs)) ≡ said (values_told p k q i vs)
      values-are_told k q i no_trees h d = refl
      values-are_told k q i (tree v vs) h d =
          map-append (placed q) (map (within i) (all_items (walk p k v))) (known_from (λ o. true) (suc i) (walk_each p k vs))
          ∙ ap₂ (λ a b. a ++ b) (placed-within q i (all_items (walk p k v)) ∙ value-is_told k (q ++ i ∷ []) v (subst (λ n. at (values p) (q ++ n ∷ []) ≡ Some v) (add-zero i) (h 0 v refl)) d.0) (values-are_told k q (suc i) vs (λ j u g. subst (λ n. at (values p) (q ++ n ∷ []) ≡ Some u) (plus-suc i j) (h (suc j) u g)) d.1)
          ∙ sym (map-append (seen_told values) (value_told p k (q ++ i ∷ []) v) (values_told p k q (suc i) vs))

  -- ---- on the way to an event

  module _ (named : Place → JobName) (made : Place → Value) (declared : ℕ) (c : ℕ) (newly : Place → Bool) (e : Event) (w : Value) where
    abbrev IsNewly : Place → Iteration → Type 0
    IsNewly x t = newly x ≡ is_new (is_whole named known x t) (is_whole named after x t)

    top-newly : (x : Place) (t : Iteration) → AllStand IsNewly x t → IsNewly x t
    top-newly x (leaf s a) h = h
    top-newly x (list s ts) h = h.0

    way-end : (t : Iteration) (q x : Place) (k d : ℕ) (f : Event) → GaveThis w made f x → HasDepthLeft w c f (suc k) → FitsNode f (Some t) → at (values p) q ≡ Some (output_below named made declared x d t) → map (placed q) (on_way known after named made declared p x (suc k) d t []) ≡ said (way_told newly p (suc k) q x [] f w)
    way-end (leaf s (job b)) q x k d (gave t y vs) g l n h =
        ap (λ v. map (placed q) (all_items (walk p (suc k) (traced (from_job (named x)) v)))) (sym g) ∙ value-is_told c (suc k) q (traced (from_job (named x)) w) (h ∙ ap (λ v. Some (traced (from_job (named x)) v)) (sym g)) (traced-depth (from_job (named x)) w (suc k + c) l) ∙ ap said (told-plain p (suc k) q (λ _. from_job (named x)) w)
    way-end (leaf s (job b)) q x k d (events.closed t y m) g l n h = absurd n
    way-end (leaf s (job b)) q x k d (fault_set t y m) g l n h = absurd n
    way-end (leaf s (job b)) q x k d (took t y) g l n h = absurd g
    way-end (leaf s (passed m a)) q x k d (gave t y vs) g l n h = absurd n
    way-end (leaf s (passed m a)) q x k d (events.closed t y i) g l n h = absurd n
    way-end (leaf s (passed m a)) q x k d (fault_set t y i) g l n h =
        ap (λ z. z ∷ []) (placed-here q (here (passes (m, record a { depth = d + declared }))) refl ∙ sym (fault-seen q (from_level (named x) m s) (record a { depth = d + declared }) h))
    way-end (leaf s (passed m a)) q x k d (took t y) g l n h = absurd g
    way-end (list s ts) q x k d (gave t y vs) g l n h = absurd n
    way-end (list s ts) q x k d (events.closed t y m) g l n h = ap (λ z. z ∷ []) (placed-here q (here (closes (count ts))) refl ∙ ap (λ z. item q (closes z)) n)
    way-end (list s ts) q x k d (fault_set t y m) g l n h = absurd n
    way-end (list s ts) q x k d (took t y) g l n h = absurd g

    mutual
      -- THE TELLINGS: what is told by places is what is gained
      pub way-is_told : (t : Iteration) (q x r : Place) (k d : ℕ) (node : Iteration) → at t r ≡ Some node → FitsNode e (Some node) → GaveThis w made e (x ++ r) → HasDepthLeft w c e (levels_below k r) → AllStand IsNewly x t → at (values p) q ≡ Some (output_below named made declared x d t) → map (placed q) (on_way known after named made declared p x k d t r) ≡ said (way_told newly p k q x r e w)
      way-is_told t q x r zero d node a n g l s h =
          ap (λ b. map (placed q) (if_so b (here (ends ((p, output_below named made declared x d t) ∷ []))))) (sym (top-newly x t s)) ∙ one (newly x)
        where
          one : (b : Bool) → map (placed q) (if_so b (here (ends ((p, output_below named made declared x d t) ∷ [])))) ≡ said (if_so b (arrival p q false))
          one true = ap (λ z. z ∷ []) (placed-here q (here (ends ((p, output_below named made declared x d t) ∷ []))) refl ∙ sym (arrival-seen q (output_below named made declared x d t) h))
          one false = refl
      way-is_told t q x [] (suc k) d node a n g l s h =
          way-end t q x k d e (subst (GaveThis w made e) (append-nil x) g) l (subst (λ y. FitsNode e (Some y)) (sym (same_Some t node a)) n) h
      way-is_told (leaf u y) q x (i ∷ r) (suc k) d node a n g l s h = absurd (none-some node a)
      way-is_told (list u ts) q x (i ∷ r) (suc k) d node a n g l s h =
          way-is_told_from ts q x r k (pred d) 0 i i node (is-zero_plus i) a n g l s.1 (λ j y b. items-stand (values p) q (from_level (named x) None u) (outputs_from named made declared x (pred d) 0 ts) h j y b)

      pub way-is_told_from : (ts : Iterations) (q x r : Place) (k d i m j : ℕ) (node : Iteration) → j ≡ i + m → option_and_then (λ y. at y r) (item_at ts m) ≡ Some node → FitsNode e (Some node) → GaveThis w made e (x ++ j ∷ r) → HasDepthLeft w c e (levels_below k r) → AllStandFrom IsNewly x i ts → ((j : ℕ) (y : Traced) → item_at (outputs_from named made declared x d i ts) j ≡ Some y → at (values p) (q ++ (i + j) ∷ []) ≡ Some y) → map (placed q) (on_way_from known after named made declared p x k d i ts m r) ≡ said (way_told newly p k (q ++ j ∷ []) (x ++ j ∷ []) r e w)
      way-is_told_from no_trees q x r k d i m j node f a n g l s h = absurd (none-some node a)
      way-is_told_from (tree t ts) q x r k d i zero j node f a n g l s h =
          placed-within q i (on_way known after named made declared p (x ++ i ∷ []) k d t r)
          ∙ way-is_told t (q ++ i ∷ []) (x ++ i ∷ []) r k d node a n (subst (GaveThis w made e) (ap (λ z. x ++ z ∷ r) (same j i f) ∙ sym (append_assoc x (i ∷ []) r)) g) l s.0 (subst (λ z. at (values p) (q ++ z ∷ []) ≡ Some (output_below named made declared (x ++ i ∷ []) d t)) (add-zero i) (h 0 (output_below named made declared (x ++ i ∷ []) d t) refl))
          ∙ ap (λ z. said (way_told newly p k (q ++ z ∷ []) (x ++ z ∷ []) r e w)) (sym (same j i f))
        where
          same : (a b : ℕ) → a ≡ b + 0 → a ≡ b
          same a b y = omega arith
      way-is_told_from (tree t ts) q x r k d i (suc m) j node f a n g l s h =
          way-is_told_from ts q x r k d (suc i) m j node (next j i m f) a n g l s.1 (λ b y z. subst (λ o. at (values p) (q ++ o ∷ []) ≡ Some y) (plus-suc i b) (h (suc b) y z))
        where
          next : (a b c : ℕ) → a ≡ b + suc c → a ≡ suc b + c
          next a b c y = omega arith
