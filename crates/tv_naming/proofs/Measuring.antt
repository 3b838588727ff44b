-- Heights, vertex by vertex in an order in which each stands after those before it.
use Rattle.std.proofs.Common.{◌≡◌, ◌≢◌, ℕ, ◌+◌, ◌<◌, ◌≤◌, true, suc, zero, List, [], ◌∷◌, map, length, get_or, refl, sym, ap, ◌∙◌, subst, inl, inr, arith}
use Rattle.std.proofs.lemmas.Bool.{cases_eq, and_parts}
use Rattle.std.proofs.lemmas.Bool.Decides.{nat_tests}
use Rattle.std.specs.List.{list_all, range_with_len}
use Rattle.tv_naming.specs.graphs.Graphs.{Graph, before, is_one_of, is_next, greatest, height, heights}
use Rattle.tv_naming.proofs.Members.{all-member}

pub map-same : (f h : ℕ → ℕ) (xs : List ℕ) → ((u : ℕ) → is_one_of xs u ≡ true → f u ≡ h u) → map f xs ≡ map h xs
map-same f h [] same = refl
map-same f h (x ∷ xs) same =
    let here : f x ≡ h x = same x (grind (arith, nat_tests)) in
    let rest : map f xs ≡ map h xs = map-same f h xs (λ u e. same u (grind (arith, nat_tests))) in
    rw (here, rest) refl

pub greatest-le : (h : ℕ → ℕ) (b : ℕ) (xs : List ℕ) → ((u : ℕ) → is_one_of xs u ≡ true → h u ≤ b) → greatest (map h xs) ≤ b
greatest-le h b [] bounded = omega arith
greatest-le h b (x ∷ xs) bounded =
    let here : h x ≤ b = bounded x (grind (arith, nat_tests)) in
    omega (arith, greatest-le h b xs (λ u e. bounded u (grind (arith, nat_tests))))

-- h has the heights of what is taken, which are at most as many
pub record IsMeasured (g : Graph) (taken : List ℕ) (h : ℕ → ℕ) : Type 0 where
  pub deep : (v m : ℕ) → is_one_of taken v ≡ true → length taken ≤ suc m → height g m v ≡ h v
  pub bounded : (v : ℕ) → is_one_of taken v ≡ true → h v ≤ length taken

none_before : (taken xs : List ℕ) → length taken ≡ 0 → list_all (is_one_of taken) xs ≡ true → xs ≡ []
none_before taken [] e all = refl
none_before [] (x ∷ xs) e all = cc
none_before (t ∷ taken) (x ∷ xs) e all = absurd (omega arith)

module _ (g : Graph) (taken : List ℕ) (h : ℕ → ℕ) (k : IsMeasured g taken h) (x : ℕ) (next : is_next g taken x ≡ true) where
  pub before_taken : (u : ℕ) → is_one_of (before g x) u ≡ true → is_one_of taken u ≡ true
  before_taken u e = all-member (is_one_of taken) (before g x) u (and_parts _ _ next).1 e

  pub greatest_bounded : greatest (map h (before g x)) ≤ length taken
  greatest_bounded = greatest-le h (length taken) (before g x) (λ u e. k.bounded u (before_taken u e))

  height_next : (m : ℕ) → length taken ≤ m → height g m x ≡ suc (greatest (map h (before g x)))
  height_next zero deep =
      let nil : before g x ≡ [] = none_before taken (before g x) (omega arith) (and_parts _ _ next).1 in
      ap (λ us. suc (greatest (map h us))) (sym nil)
  height_next (suc m) deep = ap (λ hs. suc (greatest hs)) (map-same (height g m) h (before g x) (λ u e. k.deep u m (before_taken u e) deep))

  pub IsMeasured-cons : (h' : ℕ → ℕ) → h' x ≡ suc (greatest (map h (before g x))) → ((v : ℕ) → v ≢ x → h' v ≡ h v) → IsMeasured g (x ∷ taken) h'
  IsMeasured-cons h' here others = record {
    deep = λ v m e deep. elim (cases_eq v x) [
      | inl same ↦ subst (λ (y : ℕ). height g m y ≡ h' y) (sym same) (height_next m (omega arith) ∙ sym here)
      | inr ne ↦ k.deep v m (grind (arith, nat_tests)) (omega arith) ∙ sym (others v ne)
    ];
    bounded = λ v e. elim (cases_eq v x) [
      | inl same ↦ subst (λ (y : ℕ). h' y ≤ suc (length taken)) (sym same) (omega (arith, here, greatest_bounded))
      | inr ne ↦ omega (arith, others v ne, k.bounded v (grind (arith, nat_tests)))
    ];
  }

range-map : (f : ℕ → ℕ) (a : ℕ) (hs : List ℕ) → ((i : ℕ) → i < length hs → get_or hs i 0 ≡ f (a + i)) → hs ≡ map f (range_with_len a (length hs))
range-map f a [] at = refl
range-map f a (x ∷ hs) at =
    let here : x ≡ f a = at 0 (omega arith) ∙ ap f (omega arith) in
    let rest : hs ≡ map f (range_with_len (a + 1) (length hs)) = range-map f (a + 1) hs (λ i below. at (suc i) (omega arith) ∙ ap f (omega arith)) in
    ap (λ y. y ∷ hs) here ∙ ap (λ ys. f a ∷ ys) rest

pub heights-all : (g : Graph) (hs : List ℕ) → length hs ≡ length g → ((v : ℕ) → v < length g → height g (length g) v ≡ get_or hs v 0) → hs ≡ heights g
heights-all g hs e at =
    range-map (height g (length g)) 0 hs (λ i below. sym (at i (omega arith)) ∙ ap (height g (length g)) (omega arith))
    ∙ ap (λ n. map (height g (length g)) (range_with_len 0 n)) e
