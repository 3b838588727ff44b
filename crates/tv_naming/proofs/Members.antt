-- Tests over lists: what `find`, `list_any` and `list_all` say of the members.
use Rattle.std.proofs.Common.{◌≡◌, ℕ, ◌+◌, ◌<◌, ◌≤◌, Bool, true, false, not, cond, ◌&&◌, ◌||◌, suc, zero, eqb, List, [], ◌∷◌, length, take, Some, None, refl, sym, subst, inl, inr, arith, get_or, drop, drop-cons, add-one, get_or-set_same, get_or-set_other}
use Rattle.std.proofs.Math.ListN.{set}
use Rattle.std.proofs.lemmas.Bool.{eq-eqb, ne_eqb, cases_eq, and_cases}
use Rattle.std.proofs.lemmas.Bool.Decides.{nat_tests}
use Rattle.std.specs.Prelude.{find, slice_get}
use Rattle.std.specs.List.{list_any, list_all, range_with_len}
use Rattle.tv_naming.specs.graphs.Graphs.{is_one_of}

module _ (p : ℕ → Bool) where
  pub find-passes : (xs : List ℕ) (x : ℕ) → find p xs ≡ Some x → p x ≡ true
  find-passes [] x e = cc
  find-passes (y ∷ ys) x e = grind (arith, find-passes ys x)

  pub find-member : (xs : List ℕ) (x : ℕ) → find p xs ≡ Some x → is_one_of xs x ≡ true
  find-member [] x e = cc
  find-member (y ∷ ys) x e = grind (arith, nat_tests, find-member ys x)

  pub all-member : (xs : List ℕ) (x : ℕ) → list_all p xs ≡ true → is_one_of xs x ≡ true → p x ≡ true
  all-member [] x e h = cc
  all-member (y ∷ ys) x e h = grind (arith, nat_tests, all-member ys x)

  pub any-member : (xs : List ℕ) (x : ℕ) → is_one_of xs x ≡ true → p x ≡ true → list_any p xs ≡ true
  any-member [] x e h = cc
  any-member (y ∷ ys) x e h = grind (arith, nat_tests, any-member ys x)

  pub find-all : (xs : List ℕ) → find (λ u. not (p u)) xs ≡ None → list_all p xs ≡ true
  find-all [] e = refl
  find-all (y ∷ ys) e = grind (arith, find-all ys)

  pub all-find : (xs : List ℕ) → list_all p xs ≡ true → find (λ u. not (p u)) xs ≡ None
  all-find [] e = refl
  all-find (y ∷ ys) e = grind (arith, all-find ys)

  pub find-at : (xs : List ℕ) (k u : ℕ) → list_all p (take k xs) ≡ true → slice_get xs k ≡ Some u → p u ≡ false → find (λ u. not (p u)) xs ≡ Some u
  find-at [] k u all e h = cc
  find-at (y ∷ ys) zero u all e h = grind (arith)
  find-at (y ∷ ys) (suc k) u all e h = grind (arith, find-at ys k u)

  module _ (q : ℕ → Bool) (fewer : (w : ℕ) → p w ≡ false → q w ≡ false) where
    pub find-stays : (xs : List ℕ) (u : ℕ) → find p xs ≡ Some u → q u ≡ true → find q xs ≡ Some u
    find-stays [] u e h = cc
    find-stays (y ∷ ys) u e h = grind (arith, fewer y, find-stays ys u)

    pub find-stays-none : (xs : List ℕ) → find p xs ≡ None → find q xs ≡ None
    find-stays-none [] e = refl
    find-stays-none (y ∷ ys) e = grind (arith, fewer y, find-stays-none ys)

  pub find-range : (n a v : ℕ) → a ≤ v → v < a + n → p v ≡ true → ((u : ℕ) → a ≤ u → u < v → p u ≡ false) → find p (range_with_len a n) ≡ Some v
  find-range zero a v low high h least = absurd (omega arith)
  find-range (suc n) a v low high h least =
      elim (cases_eq a v) [
        | inl e ↦ let pa : p a ≡ true = cc in grind arith
        | inr ne ↦ rw (least a (omega arith) (omega arith)) (find-range n (a + 1) v (omega arith) (omega arith) h (λ u lo hi. least u (omega arith) hi))
      ]

  pub find-range-none : (n a : ℕ) → ((u : ℕ) → a ≤ u → u < a + n → p u ≡ false) → find p (range_with_len a n) ≡ None
  find-range-none zero a none = refl
  find-range-none (suc n) a none =
      rw (none a (omega arith) (omega arith)) (find-range-none n (a + 1) (λ u lo hi. none u (omega arith) (omega arith)))

-- what a search from a place on found, where the lists are given by other names
pub found-at : (us vs : List ℕ) (ts rs : List Bool) (place : ℕ) → slice_get us place ≡ find (λ u. not (get_or ts u false)) us → us ≡ vs → ts ≡ rs →
    find (λ u. not (get_or rs u false)) vs ≡ slice_get us place
found-at us vs ts rs place found same_us same_ts =
    subst (λ (ws : List ℕ). find (λ u. not (get_or rs u false)) ws ≡ slice_get us place) same_us
    (subst (λ (qs : List Bool). find (λ u. not (get_or qs u false)) us ≡ slice_get us place) same_ts (sym found))

pub all-more : (p q : ℕ → Bool) → ((w : ℕ) → p w ≡ true → q w ≡ true) → (xs : List ℕ) → list_all p xs ≡ true → list_all q xs ≡ true
all-more p q more [] h = refl
all-more p q more (x ∷ xs) h = grind (arith, more x, all-more p q more xs)

pub member-at : (xs : List ℕ) (i : ℕ) → i < length xs → is_one_of xs (get_or xs i 0) ≡ true
member-at [] i h = absurd (omega arith)
member-at (x ∷ xs) zero h = grind (arith, nat_tests)
member-at (x ∷ xs) (suc i) h = grind (arith, nat_tests, member-at xs i)

pub member-cond : (b : Bool) (xs : List ℕ) (w : ℕ) → is_one_of (cond b [] xs) w ≡ (not b && is_one_of xs w)
member-cond true xs w = refl
member-cond false xs w = refl

-- what is left after the element at i, and isn't it, was left at i
pub rest-but : (xs : List ℕ) (i v : ℕ) → i < length xs → is_one_of (drop (i + 1) xs) v ≡ false → (is_one_of (drop i xs) v && not (eqb v (get_or xs i 0))) ≡ false
rest-but xs i v h rest =
    let after : is_one_of (drop (suc i) xs) v ≡ false = rw (← add-one) rest in
    rw (drop-cons xs i 0 h) (grind (arith, nat_tests))

-- a mark is set
pub marked-set : (ts : List Bool) (v u : ℕ) → v < length ts → get_or (set ts v true) u false ≡ (get_or ts u false || eqb u v)
marked-set ts v u h =
    elim (cases_eq u v) [
      | inl e ↦ rw (e, get_or-set_same ts v true false h, eq-eqb v v refl) (grind arith)
      | inr ne ↦ rw (get_or-set_other ts v u true false ne, ne_eqb u v ne) (grind arith)
    ]

pub marked-below : (ts : List Bool) (u : ℕ) → get_or ts u false ≡ true → u < length ts
marked-below [] u h = cc
marked-below (t ∷ ts) zero h = omega arith
marked-below (t ∷ ts) (suc u) h = omega (arith, marked-below ts u h)

pub member-none : (xs : List ℕ) (u : ℕ) → length xs ≡ 0 → is_one_of xs u ≡ false
member-none [] u e = refl
member-none (x ∷ xs) u e = absurd (omega arith)

pub find-range-below : (p : ℕ → Bool) (n a v : ℕ) → find p (range_with_len a n) ≡ Some v → v < a + n
find-range-below p zero a v e = cc
find-range-below p (suc n) a v e = grind (arith, find-range-below p n (a + 1) v)

pub find-range-clear : (p : ℕ → Bool) (n a v : ℕ) → find p (range_with_len a n) ≡ None → a ≤ v → v < a + n → p v ≡ false
find-range-clear p zero a v e low high = absurd (omega arith)
find-range-clear p (suc n) a v e low high =
    elim (cases_eq a v) [
      | inl same ↦ rw (← same) (grind arith)
      | inr ne ↦ find-range-clear p n (a + 1) v (grind arith) (omega arith) (omega arith)
    ]

pub all-fails-find : (p : ℕ → Bool) (xs : List ℕ) → list_all p xs ≡ false → (x : ℕ) × (is_one_of xs x ≡ true) × (p x ≡ false)
all-fails-find p [] e = cc
all-fails-find p (x ∷ xs) e =
    elim (and_cases (p x) (list_all p xs) e) [
      | inl here ↦ (x, grind (arith, nat_tests), here)
      | inr there ↦ let found = all-fails-find p xs there in (found.0, grind (arith, nat_tests, found.1), found.2)
    ]
