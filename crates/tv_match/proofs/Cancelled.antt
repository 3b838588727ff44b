-- What two lists have in front can be taken off both, where one is a permutation of the other.
use Rattle.std.specs.Prelude.{ℕ, zero, suc, ◌<◌, set, IsPermutation}
use Rattle.std.specs.List.{swap}
use Rattle.std.proofs.Common.{◌≡◌, refl, List, [], ◌∷◌, ◌++◌, length, get_or, drop, sym, ap, subst, ◌∙◌, arith}
use Rattle.std.proofs.lemmas.List.Edits.{swap_is}
use Rattle.std.proofs.lemmas.List.Sorted.{IsPermutation-refl, IsPermutation-sym, IsPermutation-trans, IsPermutation-cons, IsPermutation-middle, IsPermutation-keeps}
use Rattle.tv_matching.proofs.Permutes.{perm-from}

module _ {A : Type 0} where
  -- x stands in the list, and beside it a permutation of others
  record Stands (x : A) (others ys : List A) : Type 0 where
    pub before : List A
    pub after : List A
    pub is : ys ≡ before ++ x ∷ after
    pub beside : IsPermutation others (before ++ after)

  -- whatever stands in the first list stands in the second
  abbrev Carries : List A → List A → Type 0
  Carries xs ys = (x : A) (before after : List A) → xs ≡ before ++ x ∷ after → Stands x (before ++ after) ys

  heads : (a b : A) (xs ys : List A) → a ∷ xs ≡ b ∷ ys → a ≡ b
  heads a b xs ys e = ap (λ l. get_or l 0 a) e

  tails : (a b : A) (xs ys : List A) → a ∷ xs ≡ b ∷ ys → xs ≡ ys
  tails a b xs ys e = ap (drop 1) e

  carried-same : (xs : List A) → Carries xs xs
  carried-same xs x before after e =
      record { before = before; after = after; is = e; beside = IsPermutation-refl (before ++ after) }

  carried-on : (xs ys zs : List A) → Carries xs ys → Carries ys zs → Carries xs zs
  carried-on xs ys zs f g x before after e =
      let r = f x before after e in
      let s = g x r.before r.after r.is in
      record { before = s.before; after = s.after; is = s.is; beside = IsPermutation-trans _ _ _ r.beside s.beside }

  carried-below : (a : A) (xs ys : List A) → IsPermutation xs ys → Carries xs ys → Carries (a ∷ xs) (a ∷ ys)
  carried-below a xs ys p f x [] after e =
      record {
        before = [];
        after = ys;
        is = ap (λ z. z ∷ ys) (heads a x xs after e);
        beside = subst (λ l. IsPermutation l ys) (tails a x xs after e) p;
      }
  carried-below a xs ys p f x (b ∷ bs) after e =
      let r = f x bs after (tails a b xs (bs ++ x ∷ after) e) in
      record {
        before = b ∷ r.before;
        after = r.after;
        is = ap (λ z. z ∷ ys) (heads a b xs (bs ++ x ∷ after) e) ∙ ap (λ l. b ∷ l) r.is;
        beside = IsPermutation-cons b (bs ++ after) (r.before ++ r.after) r.beside;
      }

  first-two : (a b : A) (xs : List A) → IsPermutation (a ∷ b ∷ xs) (b ∷ a ∷ xs)
  first-two a b xs = IsPermutation-middle (a ∷ []) b xs

  carried-first : (a b : A) (xs : List A) → Carries (a ∷ b ∷ xs) (b ∷ a ∷ xs)
  carried-first a b xs x [] after e =
      record {
        before = b ∷ [];
        after = xs;
        is = ap (λ z. b ∷ z ∷ xs) (heads a x (b ∷ xs) after e);
        beside = perm-from after (b ∷ xs) (sym (tails a x (b ∷ xs) after e));
      }
  carried-first a b xs x (c ∷ []) after e =
      let t = tails a c (b ∷ xs) (x ∷ after) e in
      record {
        before = [];
        after = c ∷ after;
        is =
            ap (λ z. z ∷ a ∷ xs) (heads b x xs after t)
            ∙ ap (λ z. x ∷ z ∷ xs) (heads a c (b ∷ xs) (x ∷ after) e)
            ∙ ap (λ l. x ∷ c ∷ l) (tails b x xs after t);
        beside = IsPermutation-refl (c ∷ after);
      }
  carried-first a b xs x (c ∷ d ∷ ds) after e =
      let t = tails a c (b ∷ xs) (d ∷ (ds ++ x ∷ after)) e in
      record {
        before = d ∷ c ∷ ds;
        after = after;
        is =
            ap (λ z. z ∷ a ∷ xs) (heads b d xs (ds ++ x ∷ after) t)
            ∙ ap (λ z. d ∷ z ∷ xs) (heads a c (b ∷ xs) (d ∷ (ds ++ x ∷ after)) e)
            ∙ ap (λ l. d ∷ c ∷ l) (tails b d xs (ds ++ x ∷ after) t);
        beside = first-two c d (ds ++ after);
      }

  -- ---- of lists with two items exchanged

  record AreAlike (xs ys : List A) : Type 0 where
    pub permutes : IsPermutation xs ys
    pub carries : Carries xs ys

  same : (xs : List A) → AreAlike xs xs
  same xs = record { permutes = IsPermutation-refl xs; carries = carried-same xs }

  on : (xs ys zs : List A) → AreAlike xs ys → AreAlike ys zs → AreAlike xs zs
  on xs ys zs f g =
      record {
        permutes = IsPermutation-trans xs ys zs f.permutes g.permutes;
        carries = carried-on xs ys zs f.carries g.carries;
      }

  below : (a : A) (xs ys : List A) → AreAlike xs ys → AreAlike (a ∷ xs) (a ∷ ys)
  below a xs ys f =
      record {
        permutes = IsPermutation-cons a xs ys f.permutes;
        carries = carried-below a xs ys f.permutes f.carries;
      }

  first : (a b : A) (xs : List A) → AreAlike (a ∷ b ∷ xs) (b ∷ a ∷ xs)
  first a b xs = record { permutes = first-two a b xs; carries = carried-first a b xs }

  exchanged : (xs : List A) (j : ℕ) (y d : A) → j < length xs → AreAlike (y ∷ xs) (get_or xs j d ∷ set xs j y)
  exchanged [] j y d h = absurd (none j h)
    where
      none : (j : ℕ) → j < 0 → ⊥
      none j h = omega arith
  exchanged (x ∷ xs) zero y d h = first y x xs
  exchanged (x ∷ xs) (suc j) y d h =
      on _ _ _ (first y x xs)
      (on _ _ _ (below x (y ∷ xs) (get_or xs j d ∷ set xs j y) (exchanged xs j y d (omega arith)))
      (first x (get_or xs j d) (set xs j y)))

  swapped :
      (xs : List A) (i j : ℕ) (d : A) → i < length xs → j < length xs
      → AreAlike xs (set (set xs i (get_or xs j d)) j (get_or xs i d))
  swapped [] i j d h k = same []
  swapped (x ∷ xs) zero zero d h k = same (x ∷ xs)
  swapped (x ∷ xs) zero (suc j) d h k = exchanged xs j x d (omega arith)
  swapped (x ∷ xs) (suc i) zero d h k = exchanged xs i x d (omega arith)
  swapped (x ∷ xs) (suc i) (suc j) d h k =
      below x xs (set (set xs i (get_or xs j d)) j (get_or xs i d)) (swapped xs i j d (omega arith) (omega arith))

  swap-alike : (l : List A) (i j : ℕ) → i < length l → j < length l → AreAlike l (swap l i j)
  swap-alike [] i j p q = same []
  swap-alike (d ∷ l) i j p q = subst (AreAlike (d ∷ l)) (swap_is (d ∷ l) i j d p q) (swapped (d ∷ l) i j d p q)

  alike : (xs ys : List A) → IsPermutation xs ys → AreAlike xs ys
  alike xs ys =
      IsPermutation-keeps xs (AreAlike xs) (same xs) (λ l i j p q h. on xs l (swap l i j) h (swap-alike l i j p q)) ys

  -- ---- taken off

  one-off : (x : A) (xs ys : List A) → IsPermutation (x ∷ xs) (x ∷ ys) → IsPermutation xs ys
  one-off x xs ys h =
      let r = (alike (x ∷ xs) (x ∷ ys) h).carries x [] xs refl in
      by r.before r.after r.is r.beside
    where
      by : (before after : List A) → x ∷ ys ≡ before ++ x ∷ after → IsPermutation xs (before ++ after) → IsPermutation xs ys
      by [] after e p = subst (IsPermutation xs) (sym (tails x x ys after e)) p
      by (b ∷ bs) after e p =
          IsPermutation-trans _ _ _ p
          (subst (λ z. IsPermutation (z ∷ (bs ++ after)) ys) (heads x b ys (bs ++ x ∷ after) e)
          (subst (IsPermutation (x ∷ (bs ++ after))) (sym (tails x b ys (bs ++ x ∷ after) e))
          (IsPermutation-sym _ _ (IsPermutation-middle bs x after))))

  pub front-off : (zs xs ys : List A) → IsPermutation (zs ++ xs) (zs ++ ys) → IsPermutation xs ys
  front-off [] xs ys h = h
  front-off (z ∷ zs) xs ys h = front-off zs xs ys (one-off z (zs ++ xs) (zs ++ ys) h)
