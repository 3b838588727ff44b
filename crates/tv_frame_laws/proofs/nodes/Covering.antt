-- Numbered things, each of which is no more than the sum over what belongs to it in another list, are together no more than the
-- sum over that list, where nothing belongs to two of them.
use Rattle.std.specs.List.{sum_by}
use Rattle.std.specs.Prelude.{◌≡◌, ◌≢◌, refl, ℕ, suc, ◌+◌, ◌≤◌, Bool, true, false, ◌&&◌, not, if◌then◌else◌, List, [], ◌∷◌, Some, slice_get, ◌⊎◌}
use Rattle.std.proofs.Common.{arith, ap, inl, inr, subst, sym, ◌∙◌}
use Rattle.std.proofs.lemmas.Bool.{true≢false}
use Rattle.std.proofs.lemmas.List.Sums.{sum_by-cons}
use Rattle.tv_lemmas.specs.Members.{In}

module _ {X : Type 0} (f : X → ℕ) where
  -- the sum over those that pass a test
  abbrev pub sum_where : (X → Bool) → List X → ℕ
  sum_where p [] = 0
  sum_where p (x ∷ xs) = (if p x then f x else 0) + sum_where p xs

  abbrev pub without : (X → Bool) → (X → Bool) → X → Bool
  without p q x = q x && not (p x)

  split : (b c : Bool) (n l m k : ℕ) → (b ≡ true → c ≡ true) → l ≡ m + k
      → (if c then n else 0) + l ≡ ((if b then n else 0) + m) + ((if c && not b then n else 0) + k)
  split true true n l m k h e = turn n l m k e
    where
      turn : (n l m k : ℕ) → l ≡ m + k → n + l ≡ (n + m) + (0 + k)
      turn n l m k e = omega arith
  split true false n l m k h e = absurd (true≢false (sym (h refl)))
  split false true n l m k h e = turn n l m k e
    where
      turn : (n l m k : ℕ) → l ≡ m + k → n + l ≡ (0 + m) + (n + k)
      turn n l m k e = omega arith
  split false false n l m k h e = turn l m k e
    where
      turn : (l m k : ℕ) → l ≡ m + k → 0 + l ≡ (0 + m) + (0 + k)
      turn l m k e = omega arith

  parted : (p q : X → Bool) → ((x : X) → p x ≡ true → q x ≡ true) → (xs : List X)
      → sum_where q xs ≡ sum_where p xs + sum_where (without p q) xs
  parted p q h [] = refl
  parted p q h (x ∷ xs) =
      split (p x) (q x) (f x) (sum_where q xs) (sum_where p xs) (sum_where (without p q) xs) (h x) (parted p q h xs)

  pub sum-all : (xs : List X) → sum_where (λ x. true) xs ≡ sum_by f xs
  sum-all [] = refl
  sum-all (x ∷ xs) = ap (λ n. f x + n) (sum-all xs) ∙ sym (sum_by-cons f x xs)

module _ {B X K : Type 0} (c : B → ℕ) (f : X → ℕ) (test : K → X → Bool) (Has : ℕ → K → Type 0)
    (apart : (n m : ℕ) (k l : K) → Has n k → Has m l → n ≢ m → (x : X) → test k x ≡ true → test l x ≡ true → ⊥)
    (xs : List X) where
  -- what belongs to number n, all of it still left, is no less
  pub record Covers (n : ℕ) (b : B) (left : X → Bool) : Type 0 where
    pub key : K
    pub has : Has n key
    pub inside : (x : X) → test key x ≡ true → left x ≡ true
    pub few : c b ≤ sum_where f (test key) xs

  and-not : (b c : Bool) → c ≡ true → (b ≡ true → ⊥) → (c && not b) ≡ true
  and-not true c h k = absurd (k refl)
  and-not false true h k = refl
  and-not false false h k = absurd (true≢false (sym h))

  pub covered : (from : ℕ) (bs : List B) (left : X → Bool)
      → ((n : ℕ) (b : B) → slice_get bs n ≡ Some b → (c b ≡ 0) ⊎ Covers (from + n) b left)
      → sum_by c bs ≤ sum_where f left xs
  covered from [] left h = none (sum_where f left xs)
    where
      none : (n : ℕ) → 0 ≤ n
      none n = omega arith
  covered from (b ∷ bs) left h = by (λ l k. covered (suc from) bs l k) (h 0 b refl)
    where
      later : (n : ℕ) → from + suc n ≡ suc from + n
      later n = omega arith

      nothing : (a t m s : ℕ) → a ≡ 0 → s ≡ a + t → t ≤ m → s ≤ m
      nothing a t m s e k l = omega arith

      some : (a t s m u w : ℕ) → s ≡ a + t → a ≤ u → t ≤ w → m ≡ u + w → s ≤ m
      some a t s m u w e h k l = omega arith

      self : from + 0 ≡ from
      self = omega arith

      above : (n : ℕ) → suc from + n ≡ from → ⊥
      above n e = omega arith

      by : ((l : X → Bool) → ((n : ℕ) (d : B) → slice_get bs n ≡ Some d → (c d ≡ 0) ⊎ Covers (suc from + n) d l) → sum_by c bs ≤ sum_where f l xs) → (c b ≡ 0) ⊎ Covers (from + 0) b left
          → sum_by c (b ∷ bs) ≤ sum_where f left xs
      by rec (inl zero_is) =
          nothing (c b) (sum_by c bs) (sum_where f left xs) (sum_by c (b ∷ bs)) zero_is (sum_by-cons c b bs)
          (rec left (λ n d e. next n d (h (suc n) d e)))
        where
          next : (n : ℕ) (d : B) → (c d ≡ 0) ⊎ Covers (from + suc n) d left → (c d ≡ 0) ⊎ Covers (suc from + n) d left
          next n d (inl e) = inl e
          next n d (inr w) = inr (subst (λ m. Covers m d left) (later n) w)
      by rec (inr w) =
          some (c b) (sum_by c bs) (sum_by c (b ∷ bs)) (sum_where f left xs) (sum_where f (test w.key) xs)
          (sum_where f (without f (test w.key) left) xs) (sum_by-cons c b bs) w.few
          (rec (without f (test w.key) left) (λ n d e. next n d (h (suc n) d e)))
          (parted f (test w.key) left w.inside xs)
        where
          next : (n : ℕ) (d : B) → (c d ≡ 0) ⊎ Covers (from + suc n) d left
              → (c d ≡ 0) ⊎ Covers (suc from + n) d (without f (test w.key) left)
          next n d (inl e) = inl e
          next n d (inr u) =
              let has = subst (λ m. Has m u.key) (later n) u.has in
              inr (record {
                key = u.key;
                has = has;
                inside = λ x t.
                    and-not (test w.key x) (left x) (u.inside x t)
                    (λ o. apart (suc from + n) from u.key w.key has (subst (λ m. Has m w.key) self w.has) (above n) x t o);
                few = u.few;
              })

-- one that passes the test is no more than the sum of those
pub one-where : {X : Type 0} (f : X → ℕ) (p : X → Bool) (xs : List X) (x : X) → In x xs → p x ≡ true → f x ≤ sum_where f p xs
one-where f p [] x i h = absurd i
one-where f p (y ∷ xs) x (inl e) h = subst (λ n. n ≤ (if p y then f y else 0) + sum_where f p xs) (ap f (sym e)) (here (p y) (f y) (sum_where f p xs) (ap p (sym e) ∙ h))
  where
    here : (b : Bool) (n m : ℕ) → b ≡ true → n ≤ (if b then n else 0) + m
    here true n m h = omega arith
    here false n m h = absurd (true≢false (sym h))
one-where f p (y ∷ xs) x (inr i) h = behind (f x) (if p y then f y else 0) (sum_where f p xs) (one-where f p xs x i h)
  where
    behind : (a b c : ℕ) → a ≤ c → a ≤ b + c
    behind a b c h = omega arith
