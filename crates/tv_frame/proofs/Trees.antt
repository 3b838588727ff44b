-- The trees of a step, by their numbers, and the outputs of a step by their names.
use Rattle.std.specs.Prelude.{◌≡◌, refl, ℕ, zero, suc, ◌+◌, ◌<◌, ◌≤◌, Bool, true, false, if◌then◌else◌, List, [], ◌∷◌, ◌++◌, flat_map, length, map, replicate, Some, slice_get, slice_index_or, unwrap_or}
use Rattle.std.specs.List.{range_with_len}
use Rattle.std.proofs.Common.{sym, ap, subst, ◌∙◌, add_assoc, arith, length-append}
use Rattle.std.proofs.lemmas.List.{get_or-append-add, get_or-replicate, get_or_append_left, length-replicate}
use Rattle.std.proofs.lemmas.List.FromFn.{get_or-map-range_with_len}
use Rattle.std.proofs.lemmas.Option.{none-some, same_Some, slice_get_within}
use Rattle.tv_value.specs.Orders.{named, same_name}
use Rattle.tv_value.specs.Values.{Name}
use Rattle.tv_flow.specs.Flows.{Step}
use Rattle.tv_naming.specs.Numbers.{position}
use Rattle.tv_frame.specs.Tables.{first_tree, trees_of}

-- ---- trees

module _ (depth : Name × Step → ℕ) where
  abbrev all : List (Name × Step) → List ℕ
  all ss = flat_map (λ s. replicate (trees_of s) (depth s)) ss

  all-long : (x : Name × Step) (ss : List (Name × Step)) → length (all (x ∷ ss)) ≡ trees_of x + length (all ss)
  all-long x ss = length-append (replicate (trees_of x) (depth x)) (all ss) ∙ ap (λ m. m + length (all ss)) (length-replicate (trees_of x) (depth x))

  -- a step's trees are there
  pub trees-within : (ss : List (Name × Step)) (n : ℕ) (s : Name × Step) → slice_get ss n ≡ Some s → first_tree ss n + trees_of s ≤ length (all ss)
  trees-within [] n s e = absurd (none-some s e)
  trees-within (x ∷ ss) zero s e =
      let l = all-long x ss in
      let t : trees_of x ≡ trees_of s = ap trees_of (same_Some x s e) in
      omega (arith, l, t)
  trees-within (x ∷ ss) (suc n) s e =
      let l = all-long x ss in
      let h = trees-within ss n s e in
      omega (arith, l, h)

  -- and have the step's depth
  pub tree-depth : (ss : List (Name × Step)) (n : ℕ) (s : Name × Step) → slice_get ss n ≡ Some s → (k : ℕ) → k < trees_of s → slice_index_or (all ss) (first_tree ss n + k) 0 ≡ depth s
  tree-depth [] n s e k h = absurd (none-some s e)
  tree-depth (x ∷ ss) zero s e k h =
      let t : x ≡ s = same_Some x s e in
      let l : k < length (replicate (trees_of x) (depth x)) = subst (λ m. k < m) (sym (length-replicate (trees_of x) (depth x))) (subst (λ y. k < trees_of y) (sym t) h) in
      let z : 0 + k ≡ k = omega arith in
      ap (λ i. slice_index_or (all (x ∷ ss)) i 0) z
      ∙ get_or_append_left (replicate (trees_of x) (depth x)) (all ss) 0 k l
      ∙ get_or-replicate (trees_of x) k (depth x) 0 (subst (λ y. k < trees_of y) (sym t) h)
      ∙ ap depth t
  tree-depth (x ∷ ss) (suc n) s e k h =
      let r = replicate (trees_of x) (depth x) in
      ap (λ i. slice_index_or (all (x ∷ ss)) i 0) (add_assoc (trees_of x) (first_tree ss n) k)
      ∙ ap (λ i. slice_index_or (r ++ all ss) (i + (first_tree ss n + k)) 0) (sym (length-replicate (trees_of x) (depth x)))
      ∙ get_or-append-add r (all ss) (first_tree ss n + k) 0
      ∙ tree-depth ss n s e k h

-- what a table says at a step's number
pub first-read : (ss : List (Name × Step)) (firsts : List ℕ) → firsts ≡ map (first_tree ss) (range_with_len 0 (length ss)) → (n : ℕ) (s : Name × Step) → slice_get ss n ≡ Some s → (d : ℕ) → slice_index_or firsts n d ≡ first_tree ss n
first-read ss firsts e n s a d = ap (λ l. slice_index_or l n d) e ∙ get_or-map-range_with_len (first_tree ss) 0 (length ss) n n d (slice_get_within ss n s a) (omega arith)

-- ---- outputs

-- the depth that is declared of an output
pub declared-named : (o : Name) (xs : List (Name × ℕ)) → slice_index_or (map (λ x. x.1) xs) (position o xs) 0 ≡ unwrap_or (named o xs) 0
declared-named o [] = refl
declared-named o (x ∷ xs) = by (same_name o x.0) (declared-named o xs)
  where
    by : (b : Bool) → slice_index_or (map (λ y. y.1) xs) (position o xs) 0 ≡ unwrap_or (named o xs) 0 → slice_index_or (x.1 ∷ map (λ y. y.1) xs) (if b then 0 else suc (position o xs)) 0 ≡ unwrap_or (if b then Some x.1 else named o xs) 0
    by true h = refl
    by false h = h
