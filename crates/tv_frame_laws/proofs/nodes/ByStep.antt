-- The nodes of all trees of a frame, step by step.
use Rattle.std.specs.List.{sum_by}
use Rattle.std.specs.Prelude.{◌≡◌, refl, ℕ, zero, suc, ◌+◌, ◌<◌, ◌≤◌, List, [], ◌∷◌, length, flat_map, map, replicate, Some, slice_get}
use Rattle.std.proofs.Common.{arith, ap, ap₂, subst, sym, ◌∙◌}
use Rattle.std.proofs.lemmas.List.{length-append, length-replicate}
use Rattle.std.proofs.lemmas.List.Sums.{sum_by-cons}
use Rattle.tv_value.specs.Values.{Name, Value}
use Rattle.tv_flow.specs.Flows.{Flow, Step}
use Rattle.tv_parts.specs.Partials.{Partial}
use Rattle.tv_stream.specs.NodeCounts.{tree_nodes}
use Rattle.tv_outputs.specs.Known.{all_nodes, tree_in}
use Rattle.tv_frame.specs.Tables.{first_tree, trees_of}

-- ---- sums over the first numbers

abbrev pub sum_to : (ℕ → ℕ) → ℕ → ℕ
sum_to h zero = 0
sum_to h (suc n) = h 0 + sum_to (λ k. h (suc k)) n

pub sum-same : (n : ℕ) (g h : ℕ → ℕ) → ((k : ℕ) → k < n → g k ≡ h k) → sum_to g n ≡ sum_to h n
sum-same zero g h e = refl
sum-same (suc n) g h e = ap₂ (λ a b. a + b) (e 0 (first n)) (sum-same n (λ k. g (suc k)) (λ k. h (suc k)) (λ k l. e (suc k) (up k n l)))
  where
    first : (n : ℕ) → 0 < suc n
    first n = omega arith

    up : (k n : ℕ) → k < n → suc k < suc n
    up k n l = omega arith

sum-plus : (m n : ℕ) (h : ℕ → ℕ) → sum_to h (m + n) ≡ sum_to h m + sum_to (λ k. h (m + k)) n
sum-plus zero n h =
    ap (sum_to h) (none n) ∙ none-more (sum_to h n) ∙ ap (λ s. 0 + s) (sum-same n h (λ k. h (0 + k)) (λ k l. ap h (sym (none k))))
  where
    none : (n : ℕ) → 0 + n ≡ n
    none n = omega arith

    none-more : (n : ℕ) → n ≡ 0 + n
    none-more n = omega arith
sum-plus (suc m) n h =
    ap (sum_to h) (next m n)
    ∙ ap (λ s. h 0 + s) (sum-plus m n (λ k. h (suc k)))
    ∙ behind (h 0) (sum_to (λ k. h (suc k)) m) (sum_to (λ k. h (suc (m + k))) n)
    ∙ ap (λ s. (h 0 + sum_to (λ k. h (suc k)) m) + s) (sum-same n (λ k. h (suc (m + k))) (λ k. h (suc m + k)) (λ k l. ap h (sym (next m k))))
  where
    next : (m n : ℕ) → suc m + n ≡ suc (m + n)
    next m n = omega arith

    behind : (a b c : ℕ) → a + (b + c) ≡ (a + b) + c
    behind a b c = omega arith

-- ---- trees by their numbers

pub nodes-by_number : (ts : List (Partial Value)) → all_nodes ts ≡ sum_to (λ k. tree_nodes (tree_in ts k)) (length ts)
nodes-by_number [] = refl
nodes-by_number (t ∷ ts) = ap (λ n. tree_nodes t + n) (nodes-by_number ts)

abbrev pub total : List (Name × Step) → ℕ
total [] = 0
total (s ∷ ss) = trees_of s + total ss

pub by-steps : (ss : List (Name × Step)) (h : ℕ → ℕ) (c : Name × Step → ℕ)
    → ((n : ℕ) (s : Name × Step) → slice_get ss n ≡ Some s → sum_to (λ k. h (first_tree ss n + k)) (trees_of s) ≤ c s)
    → sum_to h (total ss) ≤ sum_by c ss
by-steps [] h c few = omega arith
by-steps (s ∷ ss) h c few =
    both (sum_to h (trees_of s)) (sum_to (λ k. h (trees_of s + k)) (total ss)) (c s) (sum_by c ss) (sum_to h (total (s ∷ ss))) (sum_by c (s ∷ ss))
    (sum-plus (trees_of s) (total ss) h)
    (subst (λ n. n ≤ c s) (sum-same (trees_of s) (λ k. h (0 + k)) h (λ k l. ap h (none k))) (few 0 s refl))
    (by-steps ss (λ k. h (trees_of s + k)) c (λ n t e.
    subst (λ m. m ≤ c t)
    (sum-same (trees_of t) (λ k. h ((trees_of s + first_tree ss n) + k)) (λ k. h (trees_of s + (first_tree ss n + k))) (λ k l. ap h (turn (trees_of s) (first_tree ss n) k)))
    (few (suc n) t e)))
    (sum_by-cons c s ss)
  where
    none : (n : ℕ) → 0 + n ≡ n
    none n = omega arith

    turn : (a b k : ℕ) → (a + b) + k ≡ a + (b + k)
    turn a b k = omega arith

    both : (a b c d m n : ℕ) → m ≡ a + b → a ≤ c → b ≤ d → n ≡ c + d → m ≤ n
    both a b c d m n e h k f = omega arith

pub total-is : (g : Name × Step → ℕ) (ss : List (Name × Step)) → length (flat_map (λ s. replicate (trees_of s) (g s)) ss) ≡ total ss
total-is g [] = refl
total-is g (s ∷ ss) =
    length-append (replicate (trees_of s) (g s)) (flat_map (λ t. replicate (trees_of t) (g t)) ss)
    ∙ ap₂ (λ a b. a + b) (length-replicate (trees_of s) (g s)) (total-is g ss)
