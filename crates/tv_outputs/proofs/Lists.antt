-- What is known of the trees of a list, by their numbers.
use Rattle.std.proofs.Common.{◌≡◌, ◌≢◌, ℕ, zero, suc, ◌+◌, ◌≤◌, ◌<◌, List, [], ◌∷◌, ◌++◌, length, map, Some, None, ◌⊎◌, inl, inr, refl, sym, ap, ◌∙◌, subst, arith}
use Rattle.std.specs.Prelude.{slice_get}
use Rattle.std.specs.Option.{option_map}
use Rattle.std.proofs.lemmas.Bool.{cases_eq}
use Rattle.std.proofs.lemmas.Option.{same_Some, slice_get-map, get_or_from_slice_get}
use Rattle.tv_value.specs.Nested.{Place}
use Rattle.tv_value.specs.Values.{Value}
use Rattle.tv_parts.specs.Partials.{Partial, wanting}
use Rattle.tv_parts.specs.Changes.{arrive, close_at}
use Rattle.tv_stream.specs.declared.partial.Partial.{Partial as Handle}
use Rattle.tv_cell.specs.declared.piece.Piece.{Piece}
use Rattle.tv_outputs.specs.Known.{Nodes, known_of, known_in, depths_in, tree_in, depth_in, needed}
use Rattle.tv_outputs.specs.Changes.{Arrive, Close, Turns}

pub tree-at : (pool : Nodes) (trees : List (Handle Piece)) (k : ℕ) (tree : Handle Piece) → slice_get trees k ≡ Some tree → tree_in (known_in pool trees) k ≡ known_of pool tree
tree-at pool trees k tree e = get_or_from_slice_get (known_in pool trees) k (known_of pool tree) wanting (slice_get-map (known_of pool) trees k ∙ ap (option_map (known_of pool)) e)

pub depth-at : (trees : List (Handle Piece)) (k : ℕ) (tree : Handle Piece) → slice_get trees k ≡ Some tree → depth_in (depths_in trees) k ≡ tree.depth
depth-at trees k tree e = get_or_from_slice_get (depths_in trees) k tree.depth 0 (slice_get-map (λ t. t.depth) trees k ∙ ap (option_map (λ t. t.depth)) e)

pub same-in : (old new : Nodes) (trees : List (Handle Piece)) (j : ℕ) → ((tree : Handle Piece) → slice_get trees j ≡ Some tree → known_of new tree ≡ known_of old tree) → tree_in (known_in new trees) j ≡ tree_in (known_in old trees) j
same-in old new [] j h = refl
same-in old new (tree ∷ trees) zero h = h tree refl
same-in old new (tree ∷ trees) (suc j) h = same-in old new trees j h

pub all-same : (old new : Nodes) (trees : List (Handle Piece)) → ((j : ℕ) (tree : Handle Piece) → slice_get trees j ≡ Some tree → known_of new tree ≡ known_of old tree) → known_in new trees ≡ known_in old trees
all-same old new [] h = refl
all-same old new (tree ∷ trees) h = ap (λ t. t ∷ known_in new trees) (h 0 tree refl) ∙ ap (λ ts. known_of old tree ∷ ts) (all-same old new trees (λ j t e. h (suc j) t e))

-- ---- one more tree in turn

pub arrive-none : (first : ℕ) (q : Place) (ts : List (Partial Value)) → Arrive first q [] ts ts
arrive-none first q ts = record { arrived = λ k v e. absurd (none k v e); others = λ j h. refl; as_many = refl }
  where
    none : (k : ℕ) (v : Value) → slice_get [] k ≡ Some v → ⊥
    none k v e = cc

-- what a list with one more at its end has is of the list, or is the last
pub get-cases : {A : Type 0} (xs : List A) (x : A) (k : ℕ) (y : A) → slice_get (xs ++ x ∷ []) k ≡ Some y → ((k < length xs) × (slice_get xs k ≡ Some y)) ⊎ ((k ≡ length xs) × (x ≡ y))
get-cases [] x zero y e = inr (refl, same_Some _ _ e)
get-cases [] x (suc k) y e = absurd (none e)
  where
    none : None ≡ Some y → ⊥
    none h = cc
get-cases (z ∷ xs) x zero y e = inl (positive (length xs), e)
  where
    positive : (n : ℕ) → 0 < suc n
    positive n = omega arith
get-cases (z ∷ xs) x (suc k) y e = elim (get-cases xs x k y e) [
  | inl h ↦ inl (more k (length xs) h.0, h.1)
  | inr h ↦ inr (ap suc h.0, h.1)
]
  where
    more : (k n : ℕ) → k < n → suc k < suc n
    more k n h = omega arith

pub map-more : {A B : Type 0} (f : A → B) (xs : List A) (x : A) → map f (xs ++ x ∷ []) ≡ map f xs ++ f x ∷ []
map-more f [] x = refl
map-more f (y ∷ xs) x = ap (λ ys. f y ∷ ys) (map-more f xs x)

pub length-more : {A : Type 0} (vs : List A) (v : A) → length (vs ++ v ∷ []) ≡ length vs + 1
length-more [] v = refl
length-more (w ∷ vs) v = ap suc (length-more vs v) ∙ one (length vs)
  where
    one : (n : ℕ) → suc (n + 1) ≡ suc n + 1
    one n = omega arith

pub arrive-more : (first : ℕ) (q : Place) (vs : List Value) (v : Value) (old mid new : List (Partial Value)) → Arrive first q vs old mid → Turns (first + length vs) (arrive q v (tree_in mid (first + length vs))) mid new → Arrive first q (vs ++ v ∷ []) old new
arrive-more first q vs v old mid new a t = record {
  arrived = λ k w e. elim (get-cases vs v k w e) [
    | inl h ↦ t.others (first + k) (not-last first k (length vs) h.0) ∙ a.arrived k w h.1
    | inr h ↦ subst (λ j. tree_in new (first + j) ≡ arrive q w (tree_in old (first + j))) (sym h.0) (t.turned ∙ ap (arrive q v) (a.others (first + length vs) (inr (self (first + length vs)))) ∙ ap (λ u. arrive q u (tree_in old (first + length vs))) h.1)
  ];
  others = λ j h. t.others j (outside j first (length vs) (length (vs ++ v ∷ [])) (length-more vs v) h) ∙ a.others j (wider j first (length vs) (length (vs ++ v ∷ [])) (length-more vs v) h);
  as_many = t.as_many ∙ a.as_many;
}
  where
    self : (n : ℕ) → n ≤ n
    self n = omega arith

    not-last : (first k n : ℕ) → k < n → first + k ≢ first + n
    not-last first k n h e = omega arith

    outside : (j first n m : ℕ) → m ≡ n + 1 → (j < first) ⊎ (first + m ≤ j) → j ≢ first + n
    outside j first n m is (inl h) e = omega arith
    outside j first n m is (inr h) e = omega arith

    wider : (j first n m : ℕ) → m ≡ n + 1 → (j < first) ⊎ (first + m ≤ j) → (j < first) ⊎ (first + n ≤ j)
    wider j first n m is (inl h) = inl h
    wider j first n m is (inr h) = inr (omega arith)

pub close-none : (first : ℕ) (q : Place) (size : ℕ) (ts : List (Partial Value)) → Close first 0 q size ts ts
close-none first q size ts = record { closed = λ k h. absurd (none k h); others = λ j h. refl; as_many = refl }
  where
    none : (k : ℕ) → k < 0 → ⊥
    none k h = omega arith

pub close-more : (first count : ℕ) (q : Place) (size : ℕ) (old mid new : List (Partial Value)) → Close first count q size old mid → Turns (first + count) (close_at q size (tree_in mid (first + count))) mid new → Close first (count + 1) q size old new
close-more first count q size old mid new a t = record {
  closed = λ k h. elim (cases_eq k count) [
    | inl same ↦ subst (λ j. tree_in new (first + j) ≡ close_at q size (tree_in old (first + j))) (sym same) (t.turned ∙ ap (close_at q size) (a.others (first + count) (inr (self (first + count)))))
    | inr ne ↦ t.others (first + k) (not-last first k count ne) ∙ a.closed k (before k count h ne)
  ];
  others = λ j h. t.others j (outside j first count h) ∙ a.others j (wider j first count h);
  as_many = t.as_many ∙ a.as_many;
}
  where
    self : (n : ℕ) → n ≤ n
    self n = omega arith

    not-last : (first k n : ℕ) → k ≢ n → first + k ≢ first + n
    not-last first k n h e = h (cancel first k n e)
      where
        cancel : (a b c : ℕ) → a + b ≡ a + c → b ≡ c
        cancel a b c e = omega arith

    before : (k n : ℕ) → k < n + 1 → k ≢ n → k < n
    before k n h ne = omega arith

    outside : (j first n : ℕ) → (j < first) ⊎ (first + (n + 1) ≤ j) → j ≢ first + n
    outside j first n (inl h) e = omega arith
    outside j first n (inr h) e = omega arith

    wider : (j first n : ℕ) → (j < first) ⊎ (first + (n + 1) ≤ j) → (j < first) ⊎ (first + n ≤ j)
    wider j first n (inl h) = inl h
    wider j first n (inr h) = inr (omega arith)

-- ---- what is needed

pub needed-more : (ds : List ℕ) (first count : ℕ) → needed ds first (count + 1) ≡ needed ds first count + (depth_in ds (first + count) + 1)
needed-more ds first count = ap (needed ds first) (one count)
  where
    one : (n : ℕ) → n + 1 ≡ suc n
    one n = omega arith

pub needed-part : (ds : List ℕ) (first n m : ℕ) → n ≤ m → needed ds first n ≤ needed ds first m
needed-part ds first n zero h = subst (λ k. needed ds first k ≤ 0) (sym (none n h)) (omega arith)
  where
    none : (n : ℕ) → n ≤ 0 → n ≡ 0
    none n h = omega arith
needed-part ds first n (suc m) h = elim (cases_eq n (suc m)) [
  | inl same ↦ subst (λ k. needed ds first n ≤ needed ds first k) same (self (needed ds first n))
  | inr ne ↦ longer (needed ds first n) (needed ds first m) (depth_in ds (first + m) + 1) (needed-part ds first n m (below n m h ne))
]
  where
    self : (n : ℕ) → n ≤ n
    self n = omega arith

    below : (n m : ℕ) → n ≤ suc m → n ≢ suc m → n ≤ m
    below n m h ne = omega arith

    longer : (a b c : ℕ) → a ≤ b → a ≤ b + c
    longer a b c h = omega arith
