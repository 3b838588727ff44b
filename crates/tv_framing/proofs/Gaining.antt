-- What a port gains with an event.
use Rattle.std.specs.Prelude.{◌≡◌, refl, ℕ, zero, suc, pred, ◌+◌, ◌<◌, List, [], ◌∷◌, ◌++◌, Bool, true, false, ◌&&◌, ◌||◌, Some, map, option_and_then}
use Rattle.std.specs.List.{list_all}
use Rattle.std.proofs.Common.{arith, sym, ap, ap₂, ◌∙◌, append_assoc, append-nil}
use Rattle.std.proofs.lemmas.Bool.{true≢false}
use Rattle.std.proofs.lemmas.Option.{none-some, same_Some}
use Rattle.std.proofs.Math.Bool.{and-true}
use Rattle.std.proofs.lemmas.List.{append_cancel_left}
use Rattle.tv_lemmas.specs.Members.{Each}
use Rattle.tv_value.specs.Nested.{leaf, list, Trees, no_trees, tree, Place, at, count, item_at, notes, map_trees}
use Rattle.tv_value.specs.Values.{JobName, Name, Scalar, Value}
use Rattle.tv_strategy.specs.Origins.{Origin, Traced, from_job, traced}
use Rattle.tv_strategy.specs.Iterations.{job, passed, Iteration, Iterations, walk, walk_each}
use Rattle.tv_strategy.specs.Outputs.{output_below, outputs_from}
use Rattle.tv_strategy.specs.Sources.{AtNodes, AtAllNodes}
use Rattle.tv_strategy.proofs.Sources.{notes-have}
use Rattle.tv_model.proofs.Sound.{AllStand, AllStandFrom, output-gives}
use Rattle.tv_matching.specs.Items.{all_known, closes, ends, here, if_so, known_from, within}
use Rattle.tv_framing.specs.Gaining.{all_items, gained_from, gained_items, is_gained, on_way, on_way_from}
use Rattle.tv_model.proofs.Wholeness.{Off, output-whole, traced-known}
use Rattle.tv_model.specs.instance.Wholeness.{is_new, origin_at}

-- the two forms of 'all are known' are one
pub all-forms : (known : Origin → Bool) (os : List Origin) → all_known known os ≡ list_all known os
all-forms known [] = refl
all-forms known (o ∷ os) = ap (λ b. known o && b) (all-forms known os)

pub new-none : (a b : Bool) → b ≡ a → is_new a b ≡ false
new-none true true e = refl
new-none false false e = refl
new-none true false e = refl
new-none false true e = absurd (true≢false e)

pub none-if : {A : Type 0} (b : Bool) (x : A) → b ≡ false → if_so b x ≡ []
none-if true x e = absurd (true≢false e)
none-if false x e = refl

pub one-if : {A : Type 0} (b : Bool) (x : A) → b ≡ true → if_so b x ≡ x ∷ []
one-if true x e = refl
one-if false x e = absurd (true≢false (sym e))

module _ (known after : Origin → Bool) where
  -- ---- where nothing changes, nothing is gained

  abbrev pub Same : Origin → Type 0
  Same o = after o ≡ known o

  all-same : (os : List Origin) → Each Same os → all_known after os ≡ all_known known os
  all-same [] h = refl
  all-same (o ∷ os) h = ap₂ (λ a b. a && b) h.0 (all-same os h.1)

  nothing-new : (os : List Origin) → Each Same os → is_gained known after os ≡ false
  nothing-new os h = new-none (all_known known os) (all_known after os) (all-same os h)

  module _ (p : Name) where
    mutual
      pub nothing-gained : (k : ℕ) (v : Traced) → AtNodes Same v → gained_items known after (walk p k v) ≡ []
      nothing-gained zero v h = none-if _ _ (nothing-new (notes v) (notes-have Same v h))
      nothing-gained (suc k) (leaf o a) h = none-if _ _ (nothing-new (o ∷ []) (h, tt))
      nothing-gained (suc k) (list o vs) h = ap₂ (λ a b. a ++ b) (none-if _ _ (nothing-new (o ∷ []) (h.0, tt))) (nothing-gained_from k 0 vs h.1)

      pub nothing-gained_from : (k i : ℕ) (vs : Trees Origin Scalar) → AtAllNodes Same vs → gained_from known after i (walk_each p k vs) ≡ []
      nothing-gained_from k i no_trees h = refl
      nothing-gained_from k i (tree v vs) h = ap₂ (λ a b. map (within i) a ++ b) (nothing-gained k v h.0) (nothing-gained_from k (suc i) vs h.1)

    -- ---- what a job gave is gained at once

    module _ (o : Origin) (not_yet : known o ≡ false) (now : after o ≡ true) where
      gained-one : is_gained known after (o ∷ []) ≡ true
      gained-one = ap₂ (λ a b. is_new a b) (and-true (known o) ∙ not_yet) (and-true (after o) ∙ now)

      gained-all : (v : Value) → is_gained known after (notes (traced o v)) ≡ true
      gained-all v = ap₂ (λ a b. is_new a b) (all-forms known (notes (traced o v)) ∙ traced-known known o v ∙ not_yet) (all-forms after (notes (traced o v)) ∙ traced-known after o v ∙ now)

      every : (os : List Origin) → all_known (λ o. true) os ≡ true
      every [] = refl
      every (x ∷ os) = every os

      mutual
        pub result-gained : (k : ℕ) (v : Value) → gained_items known after (walk p k (traced o v)) ≡ all_items (walk p k (traced o v))
        result-gained zero v = one-if _ _ (gained-all v) ∙ sym (one-if _ _ (every (notes (traced o v))))
        result-gained (suc k) (leaf n a) = one-if _ _ gained-one
        result-gained (suc k) (list n vs) = ap₂ (λ a b. a ++ b) (one-if _ _ gained-one) (results-gained k 0 vs)

        results-gained : (k i : ℕ) (vs : Trees (Unit {0}) Scalar) → gained_from known after i (walk_each p k (map_trees (λ _. o) (λ a. a) vs)) ≡ known_from (λ o. true) i (walk_each p k (map_trees (λ _. o) (λ a. a) vs))
        results-gained k i no_trees = refl
        results-gained k i (tree v vs) = ap₂ (λ a b. map (within i) a ++ b) (result-gained k v) (results-gained k (suc i) vs)

-- ---- an event of the step

module _ (named : Place → JobName) (known after hits : Origin → Bool) (with : (o : Origin) → after o ≡ (hits o || known o)) (p : Place) (own : (q : Place) (u : Iteration) → hits (origin_at named q u) ≡ true → q ≡ p) (made : Place → Value) (declared : ℕ) (n : Name) where
  abbrev Here : Place → Iteration → Type 0
  Here q u = after (origin_at named q u) ≡ known (origin_at named q u)

  elsewhere : (q : Place) (u : Iteration) → (q ≡ p → ⊥) → Here q u
  elsewhere q u f = with (origin_at named q u) ∙ by (hits (origin_at named q u)) (λ e. f (own q u e))
    where
      by : (b : Bool) → (b ≡ true → ⊥) → (b || known (origin_at named q u)) ≡ known (origin_at named q u)
      by true g = absurd (g refl)
      by false g = refl

  mutual
    stand-off : (t : Iteration) (q : Place) → Off p q → AllStand Here q t
    stand-off (leaf s e) q f = elsewhere q (leaf s e) (λ e. f [] (sym e ∙ sym (append-nil q)))
    stand-off (list s ts) q f = (elsewhere q (list s ts) (λ e. f [] (sym e ∙ sym (append-nil q))), stand-off_from ts q 0 (λ j r e. f (j ∷ r) (e ∙ append_assoc q (j ∷ []) r)))

    stand-off_from : (ts : Iterations) (q : Place) (i : ℕ) → ((j : ℕ) → Off p (q ++ j ∷ [])) → AllStandFrom Here q i ts
    stand-off_from no_trees q i f = tt
    stand-off_from (tree t ts) q i f = (stand-off t (q ++ i ∷ []) (f i), stand-off_from ts q (suc i) f)

  -- an output that isn't on the way gives nothing
  off-gains : (t : Iteration) (q : Place) (k d : ℕ) → Off p q → gained_items known after (walk n k (output_below named made declared q d t)) ≡ []
  off-gains t q k d f =
      nothing-gained known after n k (output_below named made declared q d t) (output-gives (Same known after) Here named made declared (λ q s b h. h) (λ q s m e h. h) (λ q s ts h. h) t q d (stand-off t q f))

  off-gains_from : (ts : Iterations) (q : Place) (k d i : ℕ) → ((j : ℕ) → Off p (q ++ j ∷ [])) → gained_from known after i (walk_each n k (outputs_from named made declared q d i ts)) ≡ []
  off-gains_from no_trees q k d i f = refl
  off-gains_from (tree t ts) q k d i f = ap₂ (λ a b. map (within i) a ++ b) (off-gains t (q ++ i ∷ []) k d (f i)) (off-gains_from ts q k d (suc i) f)

  walked-count : (ts : Iterations) (q : Place) (k d i : ℕ) → count (walk_each n k (outputs_from named made declared q d i ts)) ≡ count ts
  walked-count no_trees q k d i = refl
  walked-count (tree t ts) q k d i = ap (λ c. suc c) (walked-count ts q k d (suc i))

  no-nil : {A : Type 0} (i : ℕ) (r : Place) → [] ≡ i ∷ r → A
  no-nil i r e = absurd (true≢false (ap is_empty e))
    where
      is_empty : Place → Bool
      is_empty [] = true
      is_empty (x ∷ xs) = false

  first-same : (i j : ℕ) (r s : Place) → i ∷ r ≡ j ∷ s → i ≡ j
  first-same i j r s e = ap head e
    where
      head : Place → ℕ
      head [] = i
      head (x ∷ xs) = x

  off-other : (q r x : Place) (i j : ℕ) → p ≡ q ++ j ∷ r → (j ≡ i → ⊥) → Off p (q ++ i ∷ [])
  off-other q r x i j e f y g = f (first-same j i r y (append_cancel_left q (j ∷ r) (i ∷ y) (sym e ∙ g ∙ append_assoc q (i ∷ []) y)))

  later-gains : (ts : Iterations) (q r : Place) (k d i j : ℕ) → p ≡ q ++ j ∷ r → j < i → gained_from known after i (walk_each n k (outputs_from named made declared q d i ts)) ≡ []
  later-gains no_trees q r k d i j e l = refl
  later-gains (tree t ts) q r k d i j e l = ap₂ (λ a b. map (within i) a ++ b) (off-gains t (q ++ i ∷ []) k d (off-other q r [] i j e (apart j i l))) (later-gains ts q r k d (suc i) j e (more j i l))
    where
      apart : (a b : ℕ) → a < b → a ≡ b → ⊥
      apart a b f g = omega arith

      more : (a b : ℕ) → a < b → a < suc b
      more a b f = omega arith

  -- the node of the event isn't known before
  module _ (event_node : Iteration) (hit : hits (origin_at named p event_node) ≡ true) (not_yet : known (origin_at named p event_node) ≡ false) where
    now-known : after (origin_at named p event_node) ≡ true
    now-known = with (origin_at named p event_node) ∙ ap (λ b. b || known (origin_at named p event_node)) hit

    at-node : (q : Place) (u : Iteration) → p ≡ q → u ≡ event_node → (known (origin_at named q u) ≡ false) × (after (origin_at named q u) ≡ true)
    at-node q u e f = (ap₂ (λ x y. known (origin_at named x y)) (sym e) f ∙ not_yet, ap₂ (λ x y. after (origin_at named x y)) (sym e) f ∙ now-known)

    mutual
      -- THE INCREMENT: what a port gains of an output stands on the way to the event's node
      pub gained-on_way : (t : Iteration) (q r : Place) (k d : ℕ) → p ≡ q ++ r → at t r ≡ Some event_node → gained_items known after (walk n k (output_below named made declared q d t)) ≡ on_way known after named made declared n q k d t r
      gained-on_way t q r zero d e h =
          ap (λ b. if_so b (here (ends ((n, output_below named made declared q d t) ∷ []))))
          (ap₂ (λ a b. is_new a b) (all-forms known (notes (output_below named made declared q d t)) ∙ output-whole named known made declared t q d) (all-forms after (notes (output_below named made declared q d t)) ∙ output-whole named after made declared t q d))
      gained-on_way (leaf s (job b)) q [] (suc k) d e h =
          let w = at-node q (leaf s (job b)) (e ∙ append-nil q) (same_Some (leaf s (job b)) event_node h) in result-gained known after n (from_job (named q)) w.0 w.1 (suc k) (made q)
      gained-on_way (leaf s (passed m f)) q [] (suc k) d e h =
          let w = at-node q (leaf s (passed m f)) (e ∙ append-nil q) (same_Some (leaf s (passed m f)) event_node h) in one-if _ _ (ap₂ (λ a b. is_new a b) (and-true _ ∙ w.0) (and-true _ ∙ w.1))
      gained-on_way (leaf s x) q (i ∷ r) (suc k) d e h = absurd (none-some event_node h)
      gained-on_way (list s ts) q [] (suc k) d e h =
          let w = at-node q (list s ts) (e ∙ append-nil q) (same_Some (list s ts) event_node h) in
          ap₂ (λ a b. a ++ b) (one-if _ _ (ap₂ (λ a b. is_new a b) (and-true _ ∙ w.0) (and-true _ ∙ w.1))) (off-gains_from ts q k (pred d) 0 (λ j x g. no-nil j x (append_cancel_left q [] (j ∷ x) (sym e ∙ g ∙ append_assoc q (j ∷ []) x))))
          ∙ ap (λ c. here (closes c) ∷ []) (walked-count ts q k (pred d) 0)
      gained-on_way (list s ts) q (i ∷ r) (suc k) d e h =
          ap₂ (λ a b. a ++ b) (none-if _ _ (new-none _ _ (ap (λ b. b && true) (elsewhere q (list s ts) (λ g. no-nil i r (append_cancel_left q [] (i ∷ r) (append-nil q ∙ g ∙ e))))))) (gained-on_way_from ts q r k (pred d) 0 i i (zero_left i) e h)
        where
          zero_left : (a : ℕ) → a ≡ 0 + a
          zero_left a = omega arith

      gained-on_way_from : (ts : Iterations) (q r : Place) (k d i m j : ℕ) → j ≡ i + m → p ≡ q ++ j ∷ r → option_and_then (λ u. at u r) (item_at ts m) ≡ Some event_node → gained_from known after i (walk_each n k (outputs_from named made declared q d i ts)) ≡ on_way_from known after named made declared n q k d i ts m r
      gained-on_way_from no_trees q r k d i m j l e h = absurd (none-some event_node h)
      gained-on_way_from (tree t ts) q r k d i zero j l e h =
          ap₂ (λ a b. map (within i) a ++ b) (gained-on_way t (q ++ i ∷ []) r k d (e ∙ ap (λ x. q ++ x ∷ r) (same j i l) ∙ sym (append_assoc q (i ∷ []) r)) h) (later-gains ts q r k d (suc i) j e (less j i l)) ∙ append-nil _
        where
          same : (a b : ℕ) → a ≡ b + 0 → a ≡ b
          same a b f = omega arith

          less : (a b : ℕ) → a ≡ b + 0 → a < suc b
          less a b f = omega arith
      gained-on_way_from (tree t ts) q r k d i (suc m) j l e h =
          ap₂ (λ a b. map (within i) a ++ b) (off-gains t (q ++ i ∷ []) k d (λ x g. apart j i m l (first-same j i r x (append_cancel_left q (j ∷ r) (i ∷ x) (sym e ∙ g ∙ append_assoc q (i ∷ []) x))))) (gained-on_way_from ts q r k d (suc i) m j (next j i m l) e h)
        where
          apart : (a b c : ℕ) → a ≡ b + suc c → a ≡ b → ⊥
          apart a b c f g = omega arith

          next : (a b c : ℕ) → a ≡ b + suc c → a ≡ suc b + c
          next a b c f = omega arith
