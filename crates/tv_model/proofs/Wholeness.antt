-- The laws of wholeness: outputs, ending and counters say the same.
use Rattle.std.specs.Prelude.{◌≡◌, refl, ℕ, zero, suc, pred, ◌+◌, ◌==◌, ◌≤◌, ◌≢◌, ◌⊎◌, Bool, true, false, ◌&&◌, ◌||◌, [], ◌∷◌, ◌++◌, map, Some, None, option_and_then}
use Rattle.std.specs.List.{list_all}
use Rattle.std.proofs.Common.{arith, eq-eqb, eqb-true, ne_eqb, sym, ap, ap₂, subst, ◌∙◌, inl, inr, append_assoc, append-nil}
use Rattle.std.proofs.lemmas.List.Folds.{list_all-append}
use Rattle.std.proofs.Math.Bool.{and-true}
use Rattle.std.proofs.lemmas.Bool.{or_right, true≢false}
use Rattle.std.proofs.lemmas.List.{map-append}
use Rattle.std.proofs.lemmas.Option.{none-some, same_Some}
use Rattle.std.proofs.lemmas.List.{append_cancel_left}
use Rattle.std.specs.Cmp.Derive.{one_truth}
use Rattle.tv_value.specs.Nested.{leaf, list, Trees, no_trees, tree, Place, count, at, item_at, notes, all_notes, nodes_below, nodes_from, map_trees}
use Rattle.tv_value.specs.Values.{JobName, Scalar, Value}
use Rattle.tv_strategy.specs.Origins.{Origin, Traced, traced, from_job, from_level}
use Rattle.tv_strategy.specs.Iterations.{job, passed, Iteration, Iterations}
use Rattle.tv_strategy.specs.Outputs.{output_below, outputs_from}
use Rattle.tv_model.specs.instance.Wholeness.{all_whole, is_new, is_whole, is_whole_at, item_whole_at, one_if, origin_at, whole_items}
use Rattle.tv_lemmas.proofs.Tests.{and-left_false, and-right_false}

-- ---- tests

and-all : (b c : Bool) → c ≡ true ⊎ c ≡ b → (b && c) ≡ b
and-all true c (inl e) = e
and-all true c (inr e) = e
and-all false c e = refl

-- ---- the nodes of what one job gave are known together

module _ (known : Origin → Bool) (o : Origin) where
  mutual
    pub traced-known : (v : Value) → list_all known (notes (traced o v)) ≡ known o
    traced-known (leaf n a) = and-true (known o)
    traced-known (list n vs) = and-all (known o) _ (all_traced-known vs)

    all_traced-known : (vs : Trees (Unit {0}) Scalar) → (list_all known (all_notes (map_trees (λ _. o) (λ a. a) vs)) ≡ true) ⊎ (list_all known (all_notes (map_trees (λ _. o) (λ a. a) vs)) ≡ known o)
    all_traced-known no_trees = inl refl
    all_traced-known (tree v vs) = inr (list_all-append known (notes (traced o v)) (all_notes (map_trees (λ _. o) (λ a. a) vs)) ∙ ap (λ b. b && list_all known (all_notes (map_trees (λ _. o) (λ a. a) vs))) (traced-known v) ∙ and-all (known o) _ (all_traced-known vs))

-- ---- numbers

pub same_sucs : (m n : ℕ) → (m == n) ≡ ((1 + m) == suc n)
same_sucs m n = one_truth (m == n) ((1 + m) == suc n) (λ e. eq-eqb (1 + m) (suc n) (up m n (eqb-true m n e))) (λ e. eq-eqb m n (down m n (eqb-true (1 + m) (suc n) e)))
  where
    up : (a b : ℕ) → a ≡ b → 1 + a ≡ suc b
    up a b e = omega arith

    down : (a b : ℕ) → 1 + a ≡ suc b → a ≡ b
    down a b e = omega arith

pub more_than : (m n : ℕ) → m ≤ n → false ≡ ((0 + m) == suc n)
more_than m n p = sym (ne_eqb (0 + m) (suc n) (apart m n p))
  where
    apart : (a b : ℕ) → a ≤ b → 0 + a ≢ suc b
    apart a b h = omega arith

module _ (named : Place → JobName) (known : Origin → Bool) where
  -- ---- an output is known where the iteration is whole

  module _ (made : Place → Value) (declared : ℕ) where
    mutual
      pub output-whole : (t : Iteration) (q : Place) (d : ℕ) → list_all known (notes (output_below named made declared q d t)) ≡ is_whole named known q t
      output-whole (leaf s (job b)) q d = traced-known known (from_job (named q)) (made q)
      output-whole (leaf s (passed m e)) q d = and-true (known (from_level (named q) m s))
      output-whole (list s ts) q d = ap (λ b. known (from_level (named q) None s) && b) (outputs-whole ts q (pred d) 0)

      pub outputs-whole : (ts : Iterations) (q : Place) (d i : ℕ) → list_all known (all_notes (outputs_from named made declared q d i ts)) ≡ all_whole named known q i ts
      outputs-whole no_trees q d i = refl
      outputs-whole (tree t ts) q d i =
          list_all-append known (notes (output_below named made declared (q ++ i ∷ []) d t)) (all_notes (outputs_from named made declared q d (suc i) ts)) ∙ ap₂ (λ b c. b && c) (output-whole t (q ++ i ∷ []) d) (outputs-whole ts q d (suc i))

  -- ---- and so are the nodes that the step's ending lists

  abbrev pub origin_of : Place × Iteration → Origin
  origin_of x = origin_at named x.0 x.1

  mutual
    pub ending-whole : (t : Iteration) (q : Place) → list_all known (map origin_of (nodes_below q t)) ≡ is_whole named known q t
    ending-whole (leaf s e) q = and-true (known (origin_at named q (leaf s e)))
    ending-whole (list s ts) q = ap (λ b. known (origin_at named q (list s ts)) && b) (endings-whole ts q 0)

    pub endings-whole : (ts : Iterations) (q : Place) (i : ℕ) → list_all known (map origin_of (nodes_from q i ts)) ≡ all_whole named known q i ts
    endings-whole no_trees q i = refl
    endings-whole (tree t ts) q i =
        ap (list_all known) (map-append origin_of (nodes_below (q ++ i ∷ []) t) (nodes_from q (suc i) ts)) ∙ list_all-append known (map origin_of (nodes_below (q ++ i ∷ []) t)) (map origin_of (nodes_from q (suc i) ts)) ∙ ap₂ (λ b c. b && c) (ending-whole t (q ++ i ∷ [])) (endings-whole ts q (suc i))

  -- ---- the counter form

  pub counted-at_most : (ts : Iterations) (q : Place) (i : ℕ) → whole_items named known q i ts ≤ count ts
  counted-at_most no_trees q i = omega arith
  counted-at_most (tree t ts) q i = by (is_whole named known (q ++ i ∷ []) t) (counted-at_most ts q (suc i))
    where
      by : (b : Bool) → whole_items named known q (suc i) ts ≤ count ts → one_if b + whole_items named known q (suc i) ts ≤ suc (count ts)
      by true h = omega arith
      by false h = omega arith

  -- all items are whole exactly where the counter has the length of the list
  pub counted-whole : (ts : Iterations) (q : Place) (i : ℕ) → all_whole named known q i ts ≡ (whole_items named known q i ts == count ts)
  counted-whole no_trees q i = sym (eq-eqb 0 0 refl)
  counted-whole (tree t ts) q i = by (is_whole named known (q ++ i ∷ []) t) (counted-whole ts q (suc i)) (counted-at_most ts q (suc i))
    where
      by : (b : Bool) → all_whole named known q (suc i) ts ≡ (whole_items named known q (suc i) ts == count ts) → whole_items named known q (suc i) ts ≤ count ts → (b && all_whole named known q (suc i) ts) ≡ ((one_if b + whole_items named known q (suc i) ts) == suc (count ts))
      by true h k = h ∙ same_sucs (whole_items named known q (suc i) ts) (count ts)
      by false h k = more_than (whole_items named known q (suc i) ts) (count ts) k

-- ---- the nodes inside an output

module _ (known : Origin → Bool) (o : Origin) where
  mutual
    inside-known : (v : Value) (r : Place) (w : Traced) → at (traced o v) r ≡ Some w → list_all known (notes w) ≡ known o
    inside-known (leaf n a) [] w e = subst (λ u. list_all known (notes u) ≡ known o) (same_Some (traced o (leaf n a)) w e) (traced-known known o (leaf n a))
    inside-known (leaf n a) (i ∷ r) w e = absurd (none-some w e)
    inside-known (list n vs) [] w e = subst (λ u. list_all known (notes u) ≡ known o) (same_Some (traced o (list n vs)) w e) (traced-known known o (list n vs))
    inside-known (list n vs) (i ∷ r) w e = items-inside vs i r w e

    items-inside : (vs : Trees (Unit {0}) Scalar) (i : ℕ) (r : Place) (w : Traced) → option_and_then (λ u. at u r) (item_at (map_trees (λ _. o) (λ a. a) vs) i) ≡ Some w → list_all known (notes w) ≡ known o
    items-inside no_trees i r w e = absurd (none-some w e)
    items-inside (tree v vs) zero r w e = inside-known v r w e
    items-inside (tree v vs) (suc i) r w e = items-inside vs i r w e

module _ (named : Place → JobName) (known : Origin → Bool) (made : Place → Value) (declared : ℕ) where
  -- a node of an output is whole where its step's counters say so
  mutual
    pub output-at : (t : Iteration) (q : Place) (d : ℕ) (r : Place) (w : Traced) → at (output_below named made declared q d t) r ≡ Some w → list_all known (notes w) ≡ is_whole_at named known q t r
    output-at (leaf s (job b)) q d r w e = inside-known known (from_job (named q)) (made q) r w e
    output-at (leaf s (passed m f)) q d [] w e = subst (λ u. list_all known (notes u) ≡ known (from_level (named q) m s)) (same_Some (output_below named made declared q d (leaf s (passed m f))) w e) (output-whole named known made declared (leaf s (passed m f)) q d)
    output-at (leaf s (passed m f)) q d (i ∷ r) w e = absurd (none-some w e)
    output-at (list s ts) q d [] w e = subst (λ u. list_all known (notes u) ≡ is_whole named known q (list s ts)) (same_Some (output_below named made declared q d (list s ts)) w e) (output-whole named known made declared (list s ts) q d)
    output-at (list s ts) q d (i ∷ r) w e = outputs-at ts q (pred d) 0 i r w e

    outputs-at : (ts : Iterations) (q : Place) (d i k : ℕ) (r : Place) (w : Traced) → option_and_then (λ u. at u r) (item_at (outputs_from named made declared q d i ts) k) ≡ Some w → list_all known (notes w) ≡ item_whole_at named known q i ts k r
    outputs-at no_trees q d i k r w e = absurd (none-some w e)
    outputs-at (tree t ts) q d i zero r w e = output-at t (q ++ i ∷ []) d r w e
    outputs-at (tree t ts) q d i (suc k) r w e = outputs-at ts q d (suc i) k r w e

-- ---- one event more

abbrev pub Off : Place → Place → Type 0
Off p q = (r : Place) → p ≡ q ++ r → ⊥

-- `hits` are the nodes of the event, which all stand at p
module _ (named : Place → JobName) (known after hits : Origin → Bool) (with : (o : Origin) → after o ≡ (hits o || known o)) (p : Place) (own : (q : Place) (u : Iteration) → hits (origin_at named q u) ≡ true → q ≡ p) where
  more : (o : Origin) → known o ≡ true → after o ≡ true
  more o e = with o ∙ or_right (hits o) (known o) e

  -- elsewhere nothing changes
  not-here : (q : Place) (u : Iteration) → Off p q → after (origin_at named q u) ≡ known (origin_at named q u)
  not-here q u f = with (origin_at named q u) ∙ by (hits (origin_at named q u)) (λ e. absurd (f [] (sym (own q u e) ∙ sym (append-nil q))))
    where
      by : (b : Bool) → (b ≡ true → ⊥) → (b || known (origin_at named q u)) ≡ known (origin_at named q u)
      by true g = absurd (g refl)
      by false g = refl

  off-item : (q : Place) (i : ℕ) → Off p q → Off p (q ++ i ∷ [])
  off-item q i f r e = f (i ∷ r) (e ∙ append_assoc q (i ∷ []) r)

  -- what isn't on the way to the event stays as it is: so what becomes whole stands at prefixes of its place
  mutual
    pub off-same : (t : Iteration) (q : Place) → Off p q → is_whole named after q t ≡ is_whole named known q t
    off-same (leaf s e) q f = not-here q (leaf s e) f
    off-same (list s ts) q f = ap₂ (λ b c. b && c) (not-here q (list s ts) f) (off-items ts q 0 (λ j. off-item q j f))

    off-items : (ts : Iterations) (q : Place) (i : ℕ) → ((j : ℕ) → Off p (q ++ j ∷ [])) → all_whole named after q i ts ≡ all_whole named known q i ts
    off-items no_trees q i f = refl
    off-items (tree t ts) q i f = ap₂ (λ b c. b && c) (off-same t (q ++ i ∷ []) (f i)) (off-items ts q (suc i) f)

  -- what is whole stays whole
  and-more : (a b c d : Bool) → (a ≡ true → c ≡ true) → (b ≡ true → d ≡ true) → (a && b) ≡ true → (c && d) ≡ true
  and-more true b c d f g h = subst (λ x. (x && d) ≡ true) (sym (f refl)) (g h)
  and-more false b c d f g h = absurd (true≢false (sym h))

  mutual
    pub stays-whole : (t : Iteration) (q : Place) → is_whole named known q t ≡ true → is_whole named after q t ≡ true
    stays-whole (leaf s e) q h = more (origin_at named q (leaf s e)) h
    stays-whole (list s ts) q h = and-more _ _ _ _ (more (origin_at named q (list s ts))) (stay-whole ts q 0) h

    stay-whole : (ts : Iterations) (q : Place) (i : ℕ) → all_whole named known q i ts ≡ true → all_whole named after q i ts ≡ true
    stay-whole no_trees q i h = h
    stay-whole (tree t ts) q i h = and-more _ _ _ _ (stays-whole t (q ++ i ∷ [])) (stay-whole ts q (suc i)) h

  -- ---- the counter of a list on the way rises by one exactly where its item on the way becomes whole

  parts : (m j : ℕ) (s r : Place) → m ∷ s ≡ j ∷ r → m ≡ j
  parts m j s r e = ap head e
    where
      head : Place → ℕ
      head [] = m
      head (x ∷ xs) = x

  off-other : (q : Place) (m : ℕ) (s : Place) → p ≡ q ++ m ∷ s → (j : ℕ) → (m ≡ j → ⊥) → Off p (q ++ j ∷ [])
  off-other q m s e j f r g = f (parts m j s r (append_cancel_left q (m ∷ s) (j ∷ r) (sym e ∙ g ∙ append_assoc q (j ∷ []) r)))

  off-later : (ts : Iterations) (q : Place) (i m : ℕ) (s : Place) → p ≡ q ++ m ∷ s → suc m ≤ i → whole_items named after q i ts ≡ whole_items named known q i ts
  off-later no_trees q i m s e l = refl
  off-later (tree t ts) q i m s e l = ap₂ (λ b c. one_if b + c) (off-same t (q ++ i ∷ []) (off-other q m s e i (apart m i l))) (off-later ts q (suc i) m s e (later m i l))
    where
      apart : (a b : ℕ) → suc a ≤ b → a ≡ b → ⊥
      apart a b h k = omega arith

      later : (a b : ℕ) → suc a ≤ b → suc a ≤ suc b
      later a b h = omega arith

  abbrev pub becomes_whole : Place → Iteration → Bool
  becomes_whole q t = is_new (is_whole named known q t) (is_whole named after q t)

  pub counter-rises : (ts : Iterations) (q : Place) (i k m : ℕ) (s : Place) (t : Iteration) → m ≡ i + k → p ≡ q ++ m ∷ s → item_at ts k ≡ Some t → whole_items named after q i ts ≡ one_if (becomes_whole (q ++ m ∷ []) t) + whole_items named known q i ts
  counter-rises no_trees q i k m s t l e h = absurd (none-some t h)
  counter-rises (tree u us) q i zero m s t l e h = by (is_whole named known (q ++ i ∷ []) u) (is_whole named after (q ++ i ∷ []) u) refl refl (stays-whole u (q ++ i ∷ []))
    where
      same : i ≡ m
      same = omega arith

      this : becomes_whole (q ++ i ∷ []) u ≡ becomes_whole (q ++ m ∷ []) t
      this = ap₂ (λ j x. becomes_whole (q ++ j ∷ []) x) same (same_Some u t h)

      rest : whole_items named after q (suc i) us ≡ whole_items named known q (suc i) us
      rest = off-later us q (suc i) m s e (omega arith)

      sum : (a b : Bool) → (a ≡ true → b ≡ true) → (n : ℕ) → one_if b + n ≡ one_if (is_new a b) + (one_if a + n)
      sum true true f n = omega arith
      sum true false f n = absurd (true≢false (sym (f refl)))
      sum false true f n = omega arith
      sum false false f n = omega arith

      by : (a b : Bool) → is_whole named known (q ++ i ∷ []) u ≡ a → is_whole named after (q ++ i ∷ []) u ≡ b → (is_whole named known (q ++ i ∷ []) u ≡ true → is_whole named after (q ++ i ∷ []) u ≡ true) → one_if (is_whole named after (q ++ i ∷ []) u) + whole_items named after q (suc i) us ≡ one_if (becomes_whole (q ++ m ∷ []) t) + (one_if (is_whole named known (q ++ i ∷ []) u) + whole_items named known q (suc i) us)
      by a b f g w = ap (λ n. one_if (is_whole named after (q ++ i ∷ []) u) + n) rest ∙ sum (is_whole named known (q ++ i ∷ []) u) (is_whole named after (q ++ i ∷ []) u) w (whole_items named known q (suc i) us) ∙ ap (λ b. one_if b + (one_if (is_whole named known (q ++ i ∷ []) u) + whole_items named known q (suc i) us)) this
  counter-rises (tree u us) q i (suc k) m s t l e h =
      ap₂ (λ b c. one_if b + c) (off-same u (q ++ i ∷ []) (off-other q m s e i (apart m i k l))) (counter-rises us q (suc i) k m s t (next m i k l) e h) ∙ swap (one_if (is_whole named known (q ++ i ∷ []) u)) (one_if (becomes_whole (q ++ m ∷ []) t)) (whole_items named known q (suc i) us)
    where
      apart : (a b c : ℕ) → a ≡ b + suc c → a ≡ b → ⊥
      apart a b c f g = omega arith

      next : (a b c : ℕ) → a ≡ b + suc c → a ≡ suc b + c
      next a b c f = omega arith

      swap : (a b c : ℕ) → a + (b + c) ≡ b + (a + c)
      swap a b c = omega arith

-- ---- a node above one that isn't known isn't whole

module _ (named : Place → JobName) (known : Origin → Bool) where
  mutual
    pub node-holds : (t : Iteration) (q r : Place) (u : Iteration) → at t r ≡ Some u → known (origin_at named (q ++ r) u) ≡ false → is_whole named known q t ≡ false
    node-holds (leaf s e) q [] u h w = ap₂ (λ j x. known (origin_at named j x)) (sym (append-nil q)) (same_Some (leaf s e) u h) ∙ w
    node-holds (list s ts) q [] u h w = and-left_false _ _ (ap₂ (λ j x. known (origin_at named j x)) (sym (append-nil q)) (same_Some (list s ts) u h) ∙ w)
    node-holds (leaf s e) q (i ∷ r) u h w = absurd (none-some u h)
    node-holds (list s ts) q (i ∷ r) u h w = and-right_false _ _ (nodes-hold ts q 0 i i r u (zero_left i) h w)
      where
        zero_left : (n : ℕ) → n ≡ 0 + n
        zero_left n = omega arith

    nodes-hold : (ts : Iterations) (q : Place) (i k m : ℕ) (r : Place) (u : Iteration) → m ≡ i + k → option_and_then (λ x. at x r) (item_at ts k) ≡ Some u → known (origin_at named (q ++ m ∷ r) u) ≡ false → all_whole named known q i ts ≡ false
    nodes-hold no_trees q i k m r u l h w = absurd (none-some u h)
    nodes-hold (tree t ts) q i zero m r u l h w = and-left_false _ _ (node-holds t (q ++ i ∷ []) r u h (ap (λ j. known (origin_at named j u)) (append_assoc q (i ∷ []) r ∙ ap (λ j. q ++ j ∷ r) (same m i l)) ∙ w))
      where
        same : (a b : ℕ) → a ≡ b + 0 → b ≡ a
        same a b e = omega arith
    nodes-hold (tree t ts) q i (suc k) m r u l h w = and-right_false _ _ (nodes-hold ts q (suc i) k m r u (next m i k l) h w)
      where
        next : (a b c : ℕ) → a ≡ b + suc c → a ≡ suc b + c
        next a b c f = omega arith
