-- How many of a list pass a test.
use Rattle.std.specs.Prelude.{◌≡◌, ℕ, zero, suc, ◌+◌, ◌<◌, List, [], ◌∷◌, ◌++◌, length, set, replicate, count_by, Bool, true, false, not, ◌&&◌, ◌||◌, ◌==◌, cond, refl}
use Rattle.std.specs.List.{list_all}
use Rattle.std.proofs.Common.{arith, get_or, ap, sym, ◌∙◌, zero-add}
use Rattle.std.proofs.lemmas.Bool.{ne_eqb}
use Rattle.std.proofs.lemmas.List.Sums.{sum_by-append, sum_by-cons, sum_by-set}
use Rattle.tv_telling.specs.endings.Ends.{is_one_of}

module _ {X : Type 0} (p : X → Bool) where
  pub count-cons : (x : X) (xs : List X) → count_by p (x ∷ xs) ≡ cond (p x) 1 0 + count_by p xs
  count-cons x xs = sum_by-cons (λ y. cond (p y) 1 0) x xs

  pub count-append : (xs ys : List X) → count_by p (xs ++ ys) ≡ count_by p xs + count_by p ys
  count-append xs ys = sum_by-append (λ y. cond (p y) 1 0) xs ys

-- a test that is one of two others at each place counts as both
pub count-split : {X : Type 0} (p q r : X → Bool) → ((x : X) → cond (p x) 1 0 ≡ cond (q x) 1 0 + cond (r x) 1 0) → (xs : List X) → count_by p xs ≡ count_by q xs + count_by r xs
count-split p q r h [] = refl
count-split p q r h (x ∷ xs) =
    let a = count-cons p x xs in
    let b = count-cons q x xs in
    let c = count-cons r x xs in
    let d = count-split p q r h xs in
    let e = h x in
    omega (arith, a, b, c, d, e)

pub count-same : {X : Type 0} (p q : X → Bool) → ((x : X) → p x ≡ q x) → (xs : List X) → count_by p xs ≡ count_by q xs
count-same p q h [] = refl
count-same p q h (x ∷ xs) =
    count-cons p x xs ∙ ap (λ b. cond b 1 0 + count_by p xs) (h x) ∙ ap (λ n. cond (q x) 1 0 + n) (count-same p q h xs) ∙ sym (count-cons q x xs)

abbrev pub one : Bool → ℕ
one b = cond b 1 0

abbrev pub ones : Bool → ℕ
ones b = cond (not b) 1 0

-- none fails the test exactly where all pass it
pub none-fails : {X : Type 0} (p : X → Bool) (xs : List X) → (count_by (λ x. not (p x)) xs == 0) ≡ list_all p xs
none-fails p [] = refl
none-fails p (x ∷ xs) = cases (p x) refl (none-fails p xs)
  where
    cases : (b : Bool) → p x ≡ b → (count_by (λ x. not (p x)) xs == 0) ≡ list_all p xs → (count_by (λ x. not (p x)) (x ∷ xs) == 0) ≡ (p x && list_all p xs)
    cases true e h =
        let n : count_by (λ x. not (p x)) (x ∷ xs) ≡ count_by (λ x. not (p x)) xs = count-cons (λ x. not (p x)) x xs ∙ ap (λ b. ones b + count_by (λ x. not (p x)) xs) e ∙ zero-add _ in
        ap (λ k. k == 0) n ∙ h ∙ ap (λ b. b && list_all p xs) (sym e)
    cases false e h =
        let n : count_by (λ x. not (p x)) (x ∷ xs) ≡ 1 + count_by (λ x. not (p x)) xs = count-cons (λ x. not (p x)) x xs ∙ ap (λ b. ones b + count_by (λ x. not (p x)) xs) e in
        ne_eqb (count_by (λ x. not (p x)) (x ∷ xs)) 0 (λ q. omega (arith, q, n)) ∙ ap (λ b. b && list_all p xs) (sym e)

-- one place set to true
pub count-set : (xs : List Bool) (i : ℕ) → i < length xs → get_or xs i false ≡ false → count_by not (set xs i true) + 1 ≡ count_by not xs
count-set xs i lt e =
    let s = sum_by-set ones xs i true false lt in
    let t : ones (get_or xs i false) ≡ 1 = ap ones e in
    omega (arith, s, t)

pub count-none : (n : ℕ) → count_by not (replicate n false) ≡ n
count-none zero = refl
count-none (suc n) = let e : 1 + n ≡ suc n = omega arith in count-cons not false (replicate n false) ∙ ap (λ k. 1 + k) (count-none n) ∙ e

-- one more number
pub one-more : (ns : List ℕ) (n m : ℕ) → is_one_of (ns ++ n ∷ []) m ≡ (is_one_of ns m || n == m)
one-more [] n m = cases (n == m)
  where
    cases : (b : Bool) → (b || false) ≡ b
    cases true = refl
    cases false = refl
one-more (k ∷ ks) n m = ap (λ b. k == m || b) (one-more ks n m) ∙ regroup (k == m) (is_one_of ks m) (n == m)
  where
    regroup : (a b c : Bool) → (a || (b || c)) ≡ ((a || b) || c)
    regroup true b c = refl
    regroup false b c = refl
