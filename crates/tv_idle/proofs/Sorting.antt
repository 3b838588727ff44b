-- Lists in order: there is one order of the same things.
use Rattle.std.specs.Prelude.{◌≡◌, ℕ, suc, ◌+◌, ◌≤◌, List, [], ◌∷◌, length, sum_by, count_by, Bool, true, false, not, ◌&&◌, ◌==◌, cond, if◌then◌else◌, IsPermutation, refl}
use Rattle.std.specs.Cmp.{IsStrictWeakOrder}
use Rattle.std.specs.List.{list_all}
use Rattle.std.proofs.Common.{arith, ap, sym, ◌∙◌}
use Rattle.std.proofs.lemmas.Bool.{eq-eqb, eqb-true, and_parts}
use Rattle.std.proofs.lemmas.List.Sorted.{sum_by-IsPermutation}
use Rattle.std.proofs.lemmas.List.Sums.{sum_by-cons}
use Rattle.tv_idle.specs.Orders.{in_order, inserted}

-- ---- tests

abbrev pub one : Bool → ℕ
one b = cond b 1 0

pub count-cons : (p : ℕ → Bool) (x : ℕ) (xs : List ℕ) → count_by p (x ∷ xs) ≡ one (p x) + count_by p xs
count-cons p x xs = sum_by-cons (λ y. cond (p y) 1 0) x xs

-- ones that pass, and one that fails, which isn't among them
pub none-of : (p : ℕ → Bool) (x : ℕ) (xs : List ℕ) → list_all p xs ≡ true → p x ≡ false → count_by (λ y. y == x) xs ≡ 0
none-of p x [] h f = refl
none-of p x (y ∷ ys) h f = cases (y == x) refl (and_parts (p y) (list_all p ys) h).0 (none-of p x ys (and_parts (p y) (list_all p ys) h).1 f)
  where
    cases : (b : Bool) → (y == x) ≡ b → p y ≡ true → count_by (λ y. y == x) ys ≡ 0 → count_by (λ y. y == x) (y ∷ ys) ≡ 0
    cases true e g r = let s : y ≡ x = eqb-true y x e in let t : false ≡ true = sym f ∙ ap p (sym s) ∙ g in cc
    cases false e g r = let c = count-cons (λ y. y == x) y ys in let o : one (y == x) ≡ 0 = ap one e in omega (arith, c, o, r)

pub all-by : (p q : ℕ → Bool) (xs : List ℕ) → ((x : ℕ) → p x ≡ true → q x ≡ true) → list_all p xs ≡ true → list_all q xs ≡ true
all-by p q [] h e = refl
all-by p q (x ∷ xs) h e = let b = and_parts (p x) (list_all p xs) e in ap (λ c. c && list_all q xs) (h x b.0) ∙ all-by p q xs h b.1

none-fails : (p : ℕ → Bool) (xs : List ℕ) → list_all p xs ≡ true → count_by (λ x. not (p x)) xs ≡ 0
none-fails p [] e = refl
none-fails p (x ∷ xs) e =
    let b = and_parts (p x) (list_all p xs) e in
    let c = count-cons (λ x. not (p x)) x xs in
    let o : one (not (p x)) ≡ 0 = ap (λ b. one (not b)) b.0 in
    let r = none-fails p xs b.1 in
    omega (arith, c, o, r)

all-if : (p : ℕ → Bool) (xs : List ℕ) → count_by (λ x. not (p x)) xs ≡ 0 → list_all p xs ≡ true
all-if p [] e = refl
all-if p (x ∷ xs) e = cases (p x) refl (all-if p xs)
  where
    cases : (b : Bool) → p x ≡ b → (count_by (λ x. not (p x)) xs ≡ 0 → list_all p xs ≡ true) → (p x && list_all p xs) ≡ true
    cases true g r =
        let c = count-cons (λ x. not (p x)) x xs in
        let z : count_by (λ x. not (p x)) xs ≡ 0 = omega (arith, c, e) in
        ap (λ b. b && list_all p xs) g ∙ r z
    cases false g r =
        let c = count-cons (λ x. not (p x)) x xs in
        let o : one (not (p x)) ≡ 1 = ap (λ b. one (not b)) g in
        absurd (omega (arith, c, o, e))

pub all-same : (p : ℕ → Bool) (xs ys : List ℕ) → IsPermutation xs ys → list_all p xs ≡ true → list_all p ys ≡ true
all-same p xs ys h e = all-if p ys (sum_by-IsPermutation (λ x. cond (not (p x)) 1 0) xs ys h ∙ none-fails p xs e)

module _ (lt : ℕ → ℕ → Bool) where
  -- ---- what is inserted

  pub all-inserted : (p : ℕ → Bool) (x : ℕ) (xs : List ℕ) → p x ≡ true → list_all p xs ≡ true → list_all p (inserted lt x xs) ≡ true
  all-inserted p x [] h e = ap (λ b. b && true) h
  all-inserted p x (y ∷ ys) h e = cases (lt x y) (and_parts (p y) (list_all p ys) e).0 (all-inserted p x ys h (and_parts (p y) (list_all p ys) e).1)
    where
      cases : (b : Bool) → p y ≡ true → list_all p (inserted lt x ys) ≡ true → list_all p (if b then x ∷ y ∷ ys else y ∷ inserted lt x ys) ≡ true
      cases true g r = ap (λ b. b && list_all p (y ∷ ys)) h ∙ e
      cases false g r = ap (λ b. b && list_all p (inserted lt x ys)) g ∙ r

  pub count-inserted : (p : ℕ → Bool) (x : ℕ) (xs : List ℕ) → count_by p (inserted lt x xs) ≡ one (p x) + count_by p xs
  count-inserted p x [] = count-cons p x []
  count-inserted p x (y ∷ ys) = cases (lt x y) (count-inserted p x ys)
    where
      cases : (b : Bool) → count_by p (inserted lt x ys) ≡ one (p x) + count_by p ys → count_by p (if b then x ∷ y ∷ ys else y ∷ inserted lt x ys) ≡ one (p x) + count_by p (y ∷ ys)
      cases true r = count-cons p x (y ∷ ys)
      cases false r = let a = count-cons p y (inserted lt x ys) in let b = count-cons p y ys in omega (arith, a, b, r)

  pub count-in_order : (p : ℕ → Bool) (xs : List ℕ) → count_by p (in_order lt xs) ≡ count_by p xs
  count-in_order p [] = refl
  count-in_order p (x ∷ xs) =
      let a = count-inserted p x (in_order lt xs) in
      let b = count-in_order p xs in
      let c = count-cons p x xs in
      omega (arith, a, b, c)

  pub all-in_order : (p : ℕ → Bool) (xs : List ℕ) → list_all p xs ≡ true → list_all p (in_order lt xs) ≡ true
  all-in_order p [] e = refl
  all-in_order p (x ∷ xs) e = let b = and_parts (p x) (list_all p xs) e in all-inserted p x (in_order lt xs) b.0 (all-in_order p xs b.1)

  -- ---- lists in order

  -- none of these stands before x
  abbrev pub none_before : ℕ → List ℕ → Bool
  none_before x ys = list_all (λ y. not (lt y x)) ys

  abbrev pub IsOrdered : List ℕ → Type 0
  IsOrdered [] = Unit {0}
  IsOrdered (x ∷ xs) = (none_before x xs ≡ true) × IsOrdered xs

  module _ (o : IsStrictWeakOrder lt) where
    pub later : (x y : ℕ) (zs : List ℕ) → lt y x ≡ false → none_before y zs ≡ true → none_before x zs ≡ true
    later x y zs h e = all-by (λ z. not (lt z y)) (λ z. not (lt z x)) zs (λ z g. ap (λ b. not b) (o.chain z y x (is-false (lt z y) g) h)) e
      where
        is-false : (b : Bool) → not b ≡ true → b ≡ false
        is-false true e = cc
        is-false false e = refl

    inserted-ordered : (x : ℕ) (xs : List ℕ) → IsOrdered xs → IsOrdered (inserted lt x xs)
    inserted-ordered x [] h = (refl, tt)
    inserted-ordered x (y ∷ ys) h = cases (lt x y) refl (inserted-ordered x ys h.1)
      where
        cases : (b : Bool) → lt x y ≡ b → IsOrdered (inserted lt x ys) → IsOrdered (if b then x ∷ y ∷ ys else y ∷ inserted lt x ys)
        cases true e r =
            let f : lt y x ≡ false = o.one_way x y e in
            (ap (λ b. not b && none_before x ys) f ∙ later x y ys f h.0, h)
        cases false e r = (all-inserted (λ z. not (lt z y)) x ys (ap (λ b. not b) e) h.0, r)

    pub in_order-ordered : (xs : List ℕ) → IsOrdered (in_order lt xs)
    in_order-ordered [] = tt
    in_order-ordered (x ∷ xs) = inserted-ordered x (in_order lt xs) (in_order-ordered xs)

    pub itself : (x : ℕ) → lt x x ≡ false
    itself x = cases (lt x x) refl
      where
        cases : (b : Bool) → lt x x ≡ b → lt x x ≡ false
        cases true e = o.one_way x x e
        cases false e = e

    pub onward : (x y z : ℕ) → lt x y ≡ true → lt y z ≡ true → lt x z ≡ true
    onward x y z p q = cases (lt x z) refl
      where
        cases : (b : Bool) → lt x z ≡ b → lt x z ≡ true
        cases true e = e
        cases false e = let f : false ≡ true = sym (o.chain x z y e (o.one_way y z q)) ∙ p in cc

    -- nothing that is in order from y on stands before y
    absent : (x y : ℕ) (ys : List ℕ) → IsOrdered (y ∷ ys) → lt x y ≡ true → count_by (λ z. z == x) (y ∷ ys) ≡ 0
    absent x y ys h e =
        none-of (λ z. not (lt z y)) x (y ∷ ys) (ap (λ b. not b && none_before y ys) (itself y) ∙ h.0) (ap (λ b. not b) e)

    module _ (tie : (a b : ℕ) → lt a b ≡ false → lt b a ≡ false → a ≡ b) where
      own : (x : ℕ) (xs : List ℕ) → 1 ≤ count_by (λ z. z == x) (x ∷ xs)
      own x xs = let c = count-cons (λ z. z == x) x xs in let e : one (x == x) ≡ 1 = ap one (eq-eqb x x refl) in omega (arith, c, e)

      not-before : (x y : ℕ) (xs ys : List ℕ) → IsOrdered (y ∷ ys) → ((z : ℕ) → count_by (λ w. w == z) (x ∷ xs) ≡ count_by (λ w. w == z) (y ∷ ys)) → lt x y ≡ false
      not-before x y xs ys h same = cases (lt x y) refl
        where
          cases : (b : Bool) → lt x y ≡ b → lt x y ≡ false
          cases false e = e
          cases true e = let a = own x xs in let b = absent x y ys h e in let c = same x in absurd (omega (arith, a, b, c))

      -- two lists in order, of the same things
      unique : (xs ys : List ℕ) → IsOrdered xs → IsOrdered ys → ((z : ℕ) → count_by (λ w. w == z) xs ≡ count_by (λ w. w == z) ys) → xs ≡ ys
      unique [] [] g h same = refl
      unique [] (y ∷ ys) g h same = let a = own y ys in let b : 0 ≡ count_by (λ w. w == y) (y ∷ ys) = same y in absurd (omega (arith, a, b))
      unique (x ∷ xs) [] g h same = let a = own x xs in let b : count_by (λ w. w == x) (x ∷ xs) ≡ 0 = same x in absurd (omega (arith, a, b))
      unique (x ∷ xs) (y ∷ ys) g h same =
          let e : x ≡ y = tie x y (not-before x y xs ys h same) (not-before y x ys xs g (λ z. sym (same z))) in
          let rest : xs ≡ ys = unique xs ys g.1 h.1
          (λ z.
          let a = count-cons (λ w. w == z) x xs in
          let b = count-cons (λ w. w == z) y ys in
          let c = same z in
          let d : one (x == z) ≡ one (y == z) = ap (λ n. one (n == z)) e in
          omega (arith, a, b, c, d))
          in
          cc

      -- there is one order of the same things
      pub same-order : (xs ys : List ℕ) → IsPermutation xs ys → in_order lt xs ≡ in_order lt ys
      same-order xs ys h =
          unique (in_order lt xs) (in_order lt ys) (in_order-ordered xs) (in_order-ordered ys)
          (λ z. count-in_order (λ w. w == z) xs ∙ sym (sum_by-IsPermutation (λ w. cond (w == z) 1 0) xs ys h) ∙ sym (count-in_order (λ w. w == z) ys))

      -- one before which none of the others stands comes first
      pub first-in_order : (x : ℕ) (xs : List ℕ) → none_before x xs ≡ true → in_order lt (x ∷ xs) ≡ x ∷ in_order lt xs
      first-in_order x xs h =
          unique (in_order lt (x ∷ xs)) (x ∷ in_order lt xs) (in_order-ordered (x ∷ xs)) (all-in_order (λ y. not (lt y x)) xs h, in_order-ordered xs)
          (λ z.
          let a = count-in_order (λ w. w == z) (x ∷ xs) in
          let b = count-cons (λ w. w == z) x xs in
          let c = count-cons (λ w. w == z) x (in_order lt xs) in
          let d = count-in_order (λ w. w == z) xs in
          omega (arith, a, b, c, d))

  length-inserted : (x : ℕ) (xs : List ℕ) → length (inserted lt x xs) ≡ suc (length xs)
  length-inserted x [] = refl
  length-inserted x (y ∷ ys) = cases (lt x y) (length-inserted x ys)
    where
      cases : (b : Bool) → length (inserted lt x ys) ≡ suc (length ys) → length (if b then x ∷ y ∷ ys else y ∷ inserted lt x ys) ≡ suc (suc (length ys))
      cases true h = refl
      cases false h = ap suc h

  pub length-in_order : (xs : List ℕ) → length (in_order lt xs) ≡ length xs
  length-in_order [] = refl
  length-in_order (x ∷ xs) = length-inserted x (in_order lt xs) ∙ ap suc (length-in_order xs)

all-ones : (zs : List ℕ) → sum_by {X = ℕ} (λ x. 1) zs ≡ length zs
all-ones [] = refl
all-ones (z ∷ zs) =
    let a = sum_by-cons {X = ℕ} (λ x. 1) z zs in
    let b = all-ones zs in
    omega (arith, a, b)

pub perm-length : (xs ys : List ℕ) → IsPermutation xs ys → length xs ≡ length ys
perm-length xs ys h =
    let a = all-ones xs in
    let b = all-ones ys in
    let c : sum_by {X = ℕ} (λ x. 1) ys ≡ sum_by {X = ℕ} (λ x. 1) xs = sum_by-IsPermutation (λ x. 1) xs ys h in
    omega (arith, a, b, c)
