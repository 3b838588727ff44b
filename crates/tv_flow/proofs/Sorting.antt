-- Names put in byte order, one by one.
use Rattle.std.specs.Prelude.{◌≡◌, ℕ, zero, suc, ◌+◌, ◌<◌, ◌≤◌, List, [], ◌∷◌, ◌++◌, length, take, drop, Bool, true, ◌&&◌, nat_le, refl}
use Rattle.std.specs.declared.cmp.Ordering.{Ordering}
use Rattle.std.specs.List.{list_all}
use Rattle.std.specs.Ordering.{is_lt, ordering_reverse, match_ordering}
use Rattle.std.proofs.Common.{ap, ◌∙◌, arith, get_or, Less, Equal, Greater}
use Rattle.std.proofs.lemmas.Bool.Decides.{nat_tests}
use Rattle.std.proofs.lemmas.Cmp.{nat_list_cmp_total}
use Rattle.std.specs.Cmp.{first_so, second_so}
use Rattle.tv_lemmas.proofs.Numbers.{none-below}
use Rattle.tv_lemmas.proofs.Orderings.{is_lt-less}
use Rattle.tv_value.specs.Values.{Name}
use Rattle.tv_value.specs.Orders.{name_cmp, put_in_order, in_order}
use Rattle.tv_flow.specs.Forms.{is_name}
use Rattle.tv_flow.specs.Formed.{is_ascending, is_between, are_listed, are_names}

module _ (n : Name) where
  abbrev pub put : List Name → List Name
  put = put_in_order name_cmp n

  -- the names before an index, and the others with the new one among them
  abbrev pub put_from : ℕ → List Name → List Name
  put_from i xs = take i xs ++ put (drop i xs)

  pub put-less : (xs : List Name) (i : ℕ) (d : Name) → i < length xs → name_cmp n (get_or xs i d) ≡ Less → put_from i xs ≡ take i xs ++ (n ∷ drop i xs)
  put-less [] i d h e = absurd (none-below i h)
  put-less (x ∷ xs) zero d h e = ap (λ o. match_ordering o (n ∷ x ∷ xs) (x ∷ xs) (x ∷ put xs)) e
  put-less (x ∷ xs) (suc i) d h e = ap (λ ys. x ∷ ys) (put-less xs i d (omega arith) e)

  pub put-equal : (xs : List Name) (i : ℕ) (d : Name) → i < length xs → name_cmp n (get_or xs i d) ≡ Equal → put_from i xs ≡ xs
  put-equal [] i d h e = absurd (none-below i h)
  put-equal (x ∷ xs) zero d h e = ap (λ o. match_ordering o (n ∷ x ∷ xs) (x ∷ xs) (x ∷ put xs)) e
  put-equal (x ∷ xs) (suc i) d h e = ap (λ ys. x ∷ ys) (put-equal xs i d (omega arith) e)

  pub put-end : (xs : List Name) (i : ℕ) → length xs ≤ i → put_from i xs ≡ xs ++ n ∷ []
  put-end [] zero h = refl
  put-end [] (suc i) h = refl
  put-end (x ∷ xs) zero h = absurd (none-below (length xs) (omega arith))
  put-end (x ∷ xs) (suc i) h = ap (λ ys. x ∷ ys) (put-end xs i (omega arith))

-- names put among others, the last first
abbrev pub put_all : List Name → List Name → List Name
put_all [] ys = ys
put_all (x ∷ xs) ys = put_in_order name_cmp x (put_all xs ys)

pub put_all-last : (xs : List Name) (n : Name) (ys : List Name) → put_all (xs ++ n ∷ []) ys ≡ put_all xs (put_in_order name_cmp n ys)
put_all-last [] n ys = refl
put_all-last (x ∷ xs) n ys = ap (put_in_order name_cmp x) (put_all-last xs n ys)

pub put_all-in_order : (xs : List Name) → put_all xs [] ≡ in_order name_cmp xs
put_all-in_order [] = refl
put_all-in_order (x ∷ xs) = ap (put_in_order name_cmp x) (put_all-in_order xs)

-- ---- what is kept

abbrev pub above : Name → List Name → Bool
above n xs = list_all (λ m. is_lt (name_cmp n m)) xs

-- what is above a name is above each below it
above-trans : (m n : Name) (xs : List Name) → name_cmp m n ≡ Less → above n xs ≡ true → above m xs ≡ true
above-trans m n [] e h = refl
above-trans m n (x ∷ xs) e h =
    ap (λ o. is_lt o && above m xs) (nat_list_cmp_total.trans m n x e (is_lt-less (name_cmp n x) (first_so (is_lt (name_cmp n x)) (above n xs) h)))
    ∙ above-trans m n xs e (second_so (is_lt (name_cmp n x)) (above n xs) h)

all-step : (test : Name → Bool) (n x : Name) (xs : List Name) (o : Ordering) → test n ≡ true → (test x && list_all test xs) ≡ true → list_all test (put_in_order name_cmp n xs) ≡ true → list_all test (match_ordering o (n ∷ x ∷ xs) (x ∷ xs) (x ∷ put_in_order name_cmp n xs)) ≡ true
all-step test n x xs Less p h g = ap (λ b. b && list_all test (x ∷ xs)) p ∙ h
all-step test n x xs Equal p h g = h
all-step test n x xs Greater p h g = ap (λ b. b && list_all test (put_in_order name_cmp n xs)) (first_so (test x) (list_all test xs) h) ∙ g

all-put : (test : Name → Bool) (n : Name) (xs : List Name) → test n ≡ true → list_all test xs ≡ true → list_all test (put_in_order name_cmp n xs) ≡ true
all-put test n [] p h = ap (λ b. b && true) p
all-put test n (x ∷ xs) p h = all-step test n x xs (name_cmp n x) p h (all-put test n xs p (second_so (test x) (list_all test xs) h))

ascending-step : (n x : Name) (xs : List Name) (o : Ordering) → name_cmp n x ≡ o → (above x xs && is_ascending xs) ≡ true → is_ascending (put_in_order name_cmp n xs) ≡ true → is_ascending (match_ordering o (n ∷ x ∷ xs) (x ∷ xs) (x ∷ put_in_order name_cmp n xs)) ≡ true
ascending-step n x xs Less e h g =
    ap (λ b. b && is_ascending (x ∷ xs)) (ap (λ o. is_lt o && above n xs) e ∙ above-trans n x xs e (first_so (above x xs) (is_ascending xs) h)) ∙ h
ascending-step n x xs Equal e h g = h
ascending-step n x xs Greater e h g =
    ap (λ b. b && is_ascending (put_in_order name_cmp n xs)) (all-put (λ m. is_lt (name_cmp x m)) n xs (ap is_lt (nat_list_cmp_total.antisymm x n ∙ ap ordering_reverse e)) (first_so (above x xs) (is_ascending xs) h))
    ∙ g

ascending-put : (n : Name) (xs : List Name) → is_ascending xs ≡ true → is_ascending (put_in_order name_cmp n xs) ≡ true
ascending-put n [] h = refl
ascending-put n (x ∷ xs) h = ascending-step n x xs (name_cmp n x) refl h (ascending-put n xs (second_so (above x xs) (is_ascending xs) h))

pub ascending-in_order : (xs : List Name) → is_ascending (in_order name_cmp xs) ≡ true
ascending-in_order [] = refl
ascending-in_order (x ∷ xs) = ascending-put x (in_order name_cmp xs) (ascending-in_order xs)

pub named-in_order : (xs : List Name) → list_all is_name xs ≡ true → list_all is_name (in_order name_cmp xs) ≡ true
named-in_order [] h = refl
named-in_order (x ∷ xs) h = all-put is_name x (in_order name_cmp xs) (first_so (is_name x) (list_all is_name xs) h) (named-in_order xs (second_so (is_name x) (list_all is_name xs) h))

length-put : (n : Name) (xs : List Name) → length (put_in_order name_cmp n xs) ≤ suc (length xs)
length-put n [] = omega arith
length-put n (x ∷ xs) = cases (name_cmp n x) (length-put n xs)
  where
    cases : (o : Ordering) → length (put_in_order name_cmp n xs) ≤ suc (length xs) → length (match_ordering o (n ∷ x ∷ xs) (x ∷ xs) (x ∷ put_in_order name_cmp n xs)) ≤ suc (suc (length xs))
    cases Less h = omega arith
    cases Equal h = omega arith
    cases Greater h = omega arith

pub length-in_order : (xs : List Name) → length (in_order name_cmp xs) ≤ length xs
length-in_order [] = omega arith
length-in_order (x ∷ xs) = omega (arith, length-put x (in_order name_cmp xs), length-in_order xs)

few : (m n : ℕ) → m ≤ n → nat_le n 16 ≡ true → nat_le m 16 ≡ true
few m n h e = grind (arith, nat_tests)

-- at most 16 names, once they are in order
pub names-kept : (xs : List Name) → are_listed is_name 0 16 xs ≡ true → are_names (in_order name_cmp xs) ≡ true
names-kept xs h =
    let n = length xs in
    let fits = second_so (nat_le 0 n) (nat_le n 16) (first_so (is_between 0 16 n) (list_all is_name xs) h) in
    let ns = in_order name_cmp xs in
    ap (λ b. b && is_ascending ns && list_all is_name ns) (few (length ns) n (length-in_order xs) fits)
    ∙ ap (λ b. b && list_all is_name ns) (ascending-in_order xs)
    ∙ named-in_order xs (second_so (is_between 0 16 n) (list_all is_name xs) h)
