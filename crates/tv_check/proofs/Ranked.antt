-- Steps by rank: all have one where there are as many ranks as steps; and what stands at a place.
use Rattle.std.proofs.Common.{◌≡◌, ◌∙◌, refl, sym, ap, subst, ℕ, zero, suc, ◌<◌, ◌≤◌, ◌-◌, List, [], ◌∷◌, length, Bool, true, false, not, Option, Some, None, arith, set, slice_get, if◌then◌else◌}
use Rattle.std.proofs.lemmas.Option.{get_or_from_slice_get, slice_get_within}
use Rattle.std.specs.Prelude.{filter}
use Rattle.std.specs.List.{list_all, find}
use Rattle.std.specs.Option.{option_map_or}
use Rattle.tv_lemmas.proofs.Numbers.{none-below}
use Rattle.tv_value.specs.Values.{Name}
use Rattle.tv_value.specs.Orders.{same_name}
use Rattle.tv_value.proofs.NameLemmas.{same_name-is, same_name-refl}
use Rattle.tv_flow.specs.Flows.{Step}
use Rattle.tv_model.specs.instance.Ranks.{earlier_steps, is_among, by_rank, ranked}
use Rattle.tv_flow.specs.Formed.{is_ascending}
use Rattle.tv_naming.specs.Numbers.{position}
use Rattle.tv_naming.proofs.ByPosition.{names_of, position-at}

-- ---- what stands at a place

pub get-set-same : {A : Type 0} (xs : List A) (i : ℕ) (x : A) → i < length xs → slice_get (set xs i x) i ≡ Some x
get-set-same [] i x h = none-below i h
get-set-same (y ∷ ys) zero x h = refl
get-set-same (y ∷ ys) (suc i) x h = get-set-same ys i x (omega arith)

pub get-set-other : {A : Type 0} (xs : List A) (i j : ℕ) (x : A) → (i ≡ j → ⊥) → slice_get (set xs i x) j ≡ slice_get xs j
get-set-other [] i j x h = refl
get-set-other (y ∷ ys) zero zero x h = absurd (h refl)
get-set-other (y ∷ ys) zero (suc j) x h = refl
get-set-other (y ∷ ys) (suc i) zero x h = refl
get-set-other (y ∷ ys) (suc i) (suc j) x h = get-set-other ys i j x (λ e. h (ap suc e))

-- in a list of names in order each thing stands at one place
pub one-place : {A : Type 0} (xs : List (Name × A)) (k l : ℕ) (s t : Name × A) → is_ascending (names_of xs) ≡ true → slice_get xs k ≡ Some s → slice_get xs l ≡ Some t → s.0 ≡ t.0 → k ≡ l
one-place {A = A} xs k l s t h e f g =
    let at : (i : ℕ) (x : Name × A) → slice_get xs i ≡ Some x → position x.0 xs ≡ i =
    λ i x p. subst (λ (y : Name × A). position y.0 xs ≡ i) (get_or_from_slice_get xs i x x p) (position-at xs i x h (slice_get_within xs i x p))
    in
    sym (at k s e) ∙ (ap (λ n. position n xs) g ∙ at l t f)

-- ---- all steps have a rank where there are as many ranks as steps

abbrev pub IsItem : Name × Step → List (Name × Step) → Type 0
IsItem s xs = (j : ℕ) × (slice_get xs j ≡ Some s)

next-in : (s x : Name × Step) (xs : List (Name × Step)) → IsItem s xs → IsItem s (x ∷ xs)
next-in s x xs (j, e) = (suc j, e)

out-of : (p : Name × Step → Bool) (xs : List (Name × Step)) (s : Name × Step) → IsItem s (filter p xs) → IsItem s xs
out-of p [] s h = h
out-of p (x ∷ xs) s h = by_test (p x) h (out-of p xs s)
  where
    by_test : (b : Bool) → IsItem s (if b then x ∷ filter p xs else filter p xs) → (IsItem s (filter p xs) → IsItem s xs) → IsItem s (x ∷ xs)
    by_test true (zero, e) k = (0, e)
    by_test true (suc j, e) k = next-in s x xs (k (j, e))
    by_test false g k = next-in s x xs (k g)

into : (p : Name × Step → Bool) (xs : List (Name × Step)) (s : Name × Step) (j : ℕ) → slice_get xs j ≡ Some s → p s ≡ true → IsItem s (filter p xs)
into p [] s j e h = cc
into p (x ∷ xs) s zero e h =
    let q : x ≡ s = cc in
    subst (λ b. IsItem s (if b then x ∷ filter p xs else filter p xs)) (sym (subst (λ u. p u ≡ true) (sym q) h)) (0, ap Some q)
into p (x ∷ xs) s (suc j) e h = by_test (p x) (into p xs s j e h)
  where
    by_test : (b : Bool) → IsItem s (filter p xs) → IsItem s (if b then x ∷ filter p xs else filter p xs)
    by_test true g = next-in s x (filter p xs) g
    by_test false g = g

no-longer : (p : Name × Step → Bool) (xs : List (Name × Step)) → length (filter p xs) ≤ length xs
no-longer p [] = omega arith
no-longer p (x ∷ xs) = by_test (p x) (no-longer p xs)
  where
    by_test : (b : Bool) → length (filter p xs) ≤ length xs → length (if b then x ∷ filter p xs else filter p xs) ≤ suc (length xs)
    by_test true h = omega arith
    by_test false h = omega arith

shorter : (p : Name × Step → Bool) (xs : List (Name × Step)) (s : Name × Step) (j : ℕ) → slice_get xs j ≡ Some s → p s ≡ false → length (filter p xs) < length xs
shorter p [] s j e h = cc
shorter p (x ∷ xs) s zero e h =
    let q : x ≡ s = cc in
    subst (λ b. length (if b then x ∷ filter p xs else filter p xs) < suc (length xs)) (sym (subst (λ u. p u ≡ false) (sym q) h)) (omega (arith, no-longer p xs))
shorter p (x ∷ xs) s (suc j) e h = by_test (p x) (shorter p xs s j e h)
  where
    by_test : (b : Bool) → length (filter p xs) < length xs → length (if b then x ∷ filter p xs else filter p xs) < suc (length xs)
    by_test true h = omega arith
    by_test false h = omega arith

found-in : (p : Name × Step → Bool) (xs : List (Name × Step)) (s : Name × Step) → find p xs ≡ Some s → IsItem s xs
found-in p [] s e = cc
found-in p (x ∷ xs) s e = by_test (p x) e (found-in p xs s)
  where
    by_test : (b : Bool) → (if b then Some x else find p xs) ≡ Some s → (find p xs ≡ Some s → IsItem s xs) → IsItem s (x ∷ xs)
    by_test true f k = (0, f)
    by_test false f k = next-in s x xs (k f)

by_rank-all : (n : ℕ) (done : List Name) (steps : List (Name × Step)) → ((a b : Name × Step) → IsItem a steps → IsItem b steps → same_name a.0 b.0 ≡ true → a ≡ b) → length steps ≤ length (by_rank n done steps) → (s : Name × Step) → IsItem s steps → IsItem s (by_rank n done steps)
by_rank-all zero done steps u h s (k, e) = none-below k (omega (arith, slice_get_within steps k s e))
by_rank-all (suc n) done steps u h s i =
    by_found (find (λ t. list_all (is_among done) (earlier_steps t.1)) steps) refl h
    (λ x v le j. by_rank-all n (x.0 ∷ done) (filter (λ y. not (same_name x.0 y.0)) steps) v le s j)
  where
    by_found : (o : Option (Name × Step)) → find (λ t. list_all (is_among done) (earlier_steps t.1)) steps ≡ o → length steps ≤ length (option_map_or (λ t. t ∷ by_rank n (t.0 ∷ done) (filter (λ y. not (same_name t.0 y.0)) steps)) o []) → ((x : Name × Step) → ((a b : Name × Step) → IsItem a (filter (λ y. not (same_name x.0 y.0)) steps) → IsItem b (filter (λ y. not (same_name x.0 y.0)) steps) → same_name a.0 b.0 ≡ true → a ≡ b) → length (filter (λ y. not (same_name x.0 y.0)) steps) ≤ length (by_rank n (x.0 ∷ done) (filter (λ y. not (same_name x.0 y.0)) steps)) → IsItem s (filter (λ y. not (same_name x.0 y.0)) steps) → IsItem s (by_rank n (x.0 ∷ done) (filter (λ y. not (same_name x.0 y.0)) steps))) → IsItem s (option_map_or (λ t. t ∷ by_rank n (t.0 ∷ done) (filter (λ y. not (same_name t.0 y.0)) steps)) o [])
    by_found None f g k = none-below i.0 (omega (arith, slice_get_within steps i.0 s i.1))
    by_found (Some x) f g k = by_name (same_name x.0 s.0) refl
      where
        there : IsItem x steps
        there = found-in (λ t. list_all (is_among done) (earlier_steps t.1)) steps x f

        by_name : (b : Bool) → same_name x.0 s.0 ≡ b → IsItem s (x ∷ by_rank n (x.0 ∷ done) (filter (λ y. not (same_name x.0 y.0)) steps))
        by_name true e = (0, ap Some (u x s there i e))
        by_name false e =
            let q : Name × Step → Bool = λ y. not (same_name x.0 y.0) in
            let lt = shorter q steps x there.0 there.1 (ap not (same_name-refl x.0)) in
            next-in s x (by_rank n (x.0 ∷ done) (filter q steps))
            (k x (λ a b ia ib same. u a b (out-of q steps a ia) (out-of q steps b ib) same) (omega (arith, lt, g)) (into q steps s i.0 i.1 (ap not e)))

pub all-ranked : (steps : List (Name × Step)) → is_ascending (names_of steps) ≡ true → length (ranked steps) ≡ length steps → (s : Name × Step) → IsItem s steps → IsItem s (ranked steps)
all-ranked steps h e s i =
    by_rank-all (length steps) [] steps
    (λ a b ia ib same.
    let k : ia.0 ≡ ib.0 = one-place steps ia.0 ib.0 a b h ia.1 ib.1 (same_name-is a.0 b.0 same) in
    let p : Some a ≡ Some b = sym ia.1 ∙ (ap (slice_get steps) k ∙ ib.1) in
    cc)
    (omega (arith, e)) s i
