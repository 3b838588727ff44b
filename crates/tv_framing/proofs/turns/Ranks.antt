-- Steps by falling rank, by their names and by their numbers.
use Rattle.std.specs.Prelude.{◌≡◌, ◌⊎◌, refl, ℕ, zero, suc, ◌<◌, ◌==◌, Bool, true, false, nat_lt, not, cond, if◌then◌else◌, List, [], ◌∷◌, filter, find, is_some, length, map, Option, Some, None, slice_get}
use Rattle.std.specs.List.{list_all}
use Rattle.std.specs.Option.{option_map_or}
use Rattle.std.specs.Ordering.{is_lt, nat_cmp, ordering_then}
use Rattle.std.specs.Cmp.Lexicographic.{slice_cmp}
use Rattle.std.proofs.Common.{arith, ap, sym, subst, ◌∙◌, inl, inr, Less, Equal, Greater}
use Rattle.std.proofs.lemmas.Bool.{eqb-true, ltb-true}
use Rattle.std.proofs.lemmas.Option.{get_or_from_slice_get, slice_get_within}
use Rattle.tv_lemmas.specs.Members.{In}
use Rattle.tv_lemmas.proofs.Members.{in-map, of-filter, of-map}
use Rattle.tv_value.specs.Nested.{Place}
use Rattle.tv_value.specs.Orders.{named, same_name}
use Rattle.tv_value.specs.Values.{Name}
use Rattle.tv_value.proofs.NameLemmas.{same_name-is, same_name-refl}
use Rattle.tv_flow.specs.Flows.{Step}
use Rattle.tv_flow.specs.Formed.{is_ascending}
use Rattle.tv_naming.specs.Naming.{has_name}
use Rattle.tv_naming.specs.Numbers.{position}
use Rattle.tv_naming.proofs.ByPosition.{names_of, position-at}
use Rattle.tv_model.specs.instance.Ranks.{by_rank, earlier_steps, is_among, ranked}
use Rattle.tv_check.proofs.Ranked.{all-ranked}
use Rattle.tv_model.proofs.Ranks.{IsOrdered, ranked-ordered, ranks-apart}
use Rattle.tv_idle.specs.Sought.{stands_after}
use Rattle.tv_model.specs.instance.ByResults.{last_first}
use Rattle.tv_model.specs.JobOrder.{place_before, rank_in}
use Rattle.tv_framing.proofs.turns.Turns.{Falls}

abbrev Steps : Type 0
Steps = List (Name × Step)

-- ---- places

pub place-is : (q r : Place) → place_before q r ≡ stands_after q r
place-is [] [] = refl
place-is (i ∷ q) [] = refl
place-is [] (j ∷ r) = refl
place-is (i ∷ q) (j ∷ r) = by (nat_lt i j) (i == j) refl refl (place-is q r)
  where
    by : (a b : Bool) → nat_lt i j ≡ a → (i == j) ≡ b → place_before q r ≡ stands_after q r
        → (if b then place_before q r else a) ≡ is_lt (ordering_then (cond a Less (cond b Equal Greater)) (slice_cmp nat_cmp q r))
    by true true e f rec = let l = ltb-true i j e in let s = eqb-true i j f in absurd (omega (arith, l, s))
    by true false e f rec = refl
    by false true e f rec = rec
    by false false e f rec = refl

-- ---- steps by number and by name

pub step-at : (xs : Steps) (n : Name) → has_name xs n ≡ true → (s : Name × Step) × (slice_get xs (position n xs) ≡ Some s) × (s.0 ≡ n)
step-at [] n h = cc
step-at (x ∷ xs) n h = by (same_name n x.0) refl h (step-at xs n)
  where
    by : (b : Bool) → same_name n x.0 ≡ b → is_some (if b then Some x.1 else named n xs) ≡ true
        → (has_name xs n ≡ true → (s : Name × Step) × (slice_get xs (position n xs) ≡ Some s) × (s.0 ≡ n))
        → (s : Name × Step) × (slice_get (x ∷ xs) (if b then 0 else suc (position n xs)) ≡ Some s) × (s.0 ≡ n)
    by true e g rec = (x, refl, sym (same_name-is n x.0 e))
    by false e g rec = rec g

pub number-of : (xs : Steps) (k : ℕ) (s : Name × Step) → is_ascending (names_of xs) ≡ true → slice_get xs k ≡ Some s → position s.0 xs ≡ k
number-of xs k s rise e = ap (λ (t : Name × Step). position t.0 xs) (sym (get_or_from_slice_get xs k s s e)) ∙ position-at xs k s rise (slice_get_within xs k s e)

pub in-at : (xs : Steps) (k : ℕ) (s : Name × Step) → slice_get xs k ≡ Some s → In s xs
in-at [] k s e = cc
in-at (x ∷ xs) zero s e = let p : x ≡ s = cc in inl (sym p)
in-at (x ∷ xs) (suc k) s e = inr (in-at xs k s e)

pub at-in : (xs : Steps) (s : Name × Step) → In s xs → (k : ℕ) × (slice_get xs k ≡ Some s)
at-in [] s i = absurd i
at-in (x ∷ xs) s (inl e) = (0, ap Some (sym e))
at-in (x ∷ xs) s (inr i) = let r = at-in xs s i in (suc r.0, r.1)

-- a name of the steps is that of one
pub named-step : (xs : Steps) (s : Name × Step) → In s xs → has_name xs s.0 ≡ true
named-step [] s i = absurd i
named-step (x ∷ xs) s i = by (same_name s.0 x.0) refl i (named-step xs s)
  where
    by : (b : Bool) → same_name s.0 x.0 ≡ b → In s (x ∷ xs) → (In s xs → has_name xs s.0 ≡ true) → is_some (if b then Some x.1 else named s.0 xs) ≡ true
    by true e i rec = refl
    by false e (inl p) rec = let f : false ≡ true = sym e ∙ ap (λ (t : Name × Step). same_name s.0 t.0) (sym p) ∙ same_name-refl s.0 in cc
    by false e (inr i) rec = rec i

-- ---- the ranked ones are steps

find-in : (p : Name × Step → Bool) (xs : Steps) (s : Name × Step) → find p xs ≡ Some s → In s xs
find-in p [] s e = cc
find-in p (x ∷ xs) s e = by (p x) e (find-in p xs s)
  where
    by : (b : Bool) → (if b then Some x else find p xs) ≡ Some s → (find p xs ≡ Some s → In s xs) → In s (x ∷ xs)
    by true f rec = let q : x ≡ s = cc in inl (sym q)
    by false f rec = inr (rec f)

by_rank-in : (n : ℕ) (done : List Name) (xs : Steps) (s : Name × Step) → In s (by_rank n done xs) → In s xs
by_rank-in zero done xs s i = absurd i
by_rank-in (suc n) done xs s i =
    by (find (λ t. list_all (is_among done) (earlier_steps t.1)) xs) refl i (λ x. by_rank-in n (x.0 ∷ done) (filter (λ t. not (same_name x.0 t.0)) xs) s)
  where
    by : (o : Option (Name × Step)) → find (λ t. list_all (is_among done) (earlier_steps t.1)) xs ≡ o
        → In s (option_map_or (λ x. x ∷ by_rank n (x.0 ∷ done) (filter (λ t. not (same_name x.0 t.0)) xs)) o [])
        → ((x : Name × Step) → In s (by_rank n (x.0 ∷ done) (filter (λ t. not (same_name x.0 t.0)) xs)) → In s (filter (λ t. not (same_name x.0 t.0)) xs)) → In s xs
    by None e j rec = absurd j
    by (Some x) e (inl p) rec = subst (λ t. In t xs) (sym p) (find-in (λ t. list_all (is_among done) (earlier_steps t.1)) xs x e)
    by (Some x) e (inr j) rec = (of-filter (λ t. not (same_name x.0 t.0)) s xs (rec x j)).0

pub ranked-in : (xs : Steps) (s : Name × Step) → In s (ranked xs) → In s xs
ranked-in xs s i = by_rank-in (length xs) [] xs s i

-- ---- turned round

pub in-turned : (rs ts : Steps) (s : Name × Step) → In s rs ⊎ In s ts → In s (last_first rs ts)
in-turned [] ts s (inl i) = absurd i
in-turned [] ts s (inr i) = i
in-turned (r ∷ rs) ts s (inl (inl e)) = in-turned rs (r ∷ ts) s (inr (inl e))
in-turned (r ∷ rs) ts s (inl (inr i)) = in-turned rs (r ∷ ts) s (inl i)
in-turned (r ∷ rs) ts s (inr i) = in-turned rs (r ∷ ts) s (inr (inr i))

pub of-turned : (rs ts : Steps) (s : Name × Step) → In s (last_first rs ts) → In s rs ⊎ In s ts
of-turned [] ts s i = inr i
of-turned (r ∷ rs) ts s i = by (of-turned rs (r ∷ ts) s i)
  where
    by : In s rs ⊎ In s (r ∷ ts) → In s (r ∷ rs) ⊎ In s ts
    by (inl j) = inl (inr j)
    by (inr (inl e)) = inl (inl e)
    by (inr (inr j)) = inr j

-- ---- ranks rise, and turned round they fall

module _ (rank : Name × Step → ℕ) where
  abbrev Rises : Steps → Type 0
  Rises [] = Unit {0}
  Rises (x ∷ xs) = ((y : Name × Step) → In y xs → rank x < rank y) × Rises xs

  abbrev FallsBy : Steps → Type 0
  FallsBy [] = Unit {0}
  FallsBy (x ∷ xs) = ((y : Name × Step) → In y xs → rank y < rank x) × FallsBy xs

  turned-falls : (rs ts : Steps) → Rises rs → FallsBy ts → ((x y : Name × Step) → In x rs → In y ts → rank y < rank x) → FallsBy (last_first rs ts)
  turned-falls [] ts r f h = f
  turned-falls (x ∷ rs) ts r f h = turned-falls rs (x ∷ ts) r.1 ((λ y i. h x y (inl refl) i), f) all
    where
      all : (z y : Name × Step) → In z rs → In y (x ∷ ts) → rank y < rank z
      all z y i (inl e) = subst (λ w. rank w < rank z) (sym e) (r.0 z i)
      all z y i (inr j) = h z y (inr i) j

  -- by their numbers
  falls-numbers : (number : Name × Step → ℕ) (of_number : ℕ → ℕ) (xs : Steps) → ((s : Name × Step) → In s xs → of_number (number s) ≡ rank s) → FallsBy xs → Falls of_number (map number xs)
  falls-numbers number of_number [] same f = tt
  falls-numbers number of_number (x ∷ xs) same f = (less, falls-numbers number of_number xs (λ s i. same s (inr i)) f.1)
    where
      less : (t : ℕ) → In t (map number xs) → of_number t < of_number (number x)
      less t i =
          let m = of-map number t xs i in
          let a : of_number t ≡ rank m.0 = ap of_number m.2 ∙ same m.0 (inr m.1) in
          let b : of_number (number x) ≡ rank x = same x (inl refl) in
          let l = f.0 m.0 m.1 in
          omega (arith, a, b, l)

abbrev pub rank_of : Steps → Name × Step → ℕ
rank_of rs s = rank_in rs s.0

rises-more : (r t : Name × Step → ℕ) (xs : Steps) → ((y : Name × Step) → In y xs → t y ≡ suc (r y)) → Rises r xs → Rises t xs
rises-more r t [] h f = tt
rises-more r t (x ∷ xs) h f =
    ((λ y i. let a = h x (inl refl) in let b = h y (inr i) in let l = f.0 y i in omega (arith, a, b, l)), rises-more r t xs (λ y i. h y (inr i)) f.1)

ranks-rise : (done : List Name) (rs : Steps) → IsOrdered done rs → Rises (rank_of rs) rs
ranks-rise done [] o = tt
ranks-rise done (x ∷ rs) o = (first, rises-more (rank_of rs) (rank_of (x ∷ rs)) rs further (ranks-rise (x.0 ∷ done) rs o.1.1))
  where
    further : (y : Name × Step) → In y rs → rank_of (x ∷ rs) y ≡ suc (rank_of rs y)
    further y i =
        let at = at-in rs y i in
        ap (λ b. if b then 0 else suc (rank_in rs y.0)) (ranks-apart done (x ∷ rs) 0 (suc at.0) x y o refl at.1 (omega arith))

    first : (y : Name × Step) → In y rs → rank_of (x ∷ rs) x < rank_of (x ∷ rs) y
    first y i =
        let a : rank_of (x ∷ rs) x ≡ 0 = ap (λ b. if b then 0 else suc (rank_in rs x.0)) (same_name-refl x.0) in
        let b = further y i in
        omega (arith, a, b)

-- THE STEPS BY FALLING RANK
pub falling : (steps : Steps) (number : Name × Step → ℕ) (of_number : ℕ → ℕ) → ((s : Name × Step) → In s steps → of_number (number s) ≡ rank_of (ranked steps) s)
    → Falls of_number (map number (last_first (ranked steps) []))
falling steps number of_number same =
    let rs = ranked steps in
    falls-numbers (rank_of rs) number of_number (last_first rs []) (λ s i. same s (ranked-in steps s (one s (of-turned rs [] s i))))
    (turned-falls (rank_of rs) rs [] (ranks-rise [] rs (ranked-ordered steps)) tt (λ x y i j. absurd j))
  where
    one : (s : Name × Step) → In s (ranked steps) ⊎ In s [] → In s (ranked steps)
    one s (inl i) = i
    one s (inr i) = absurd i

-- each step is one of them
pub has-number : (steps : Steps) (number : Name × Step → ℕ) → is_ascending (names_of steps) ≡ true → length (ranked steps) ≡ length steps → (k : ℕ) (s : Name × Step) → slice_get steps k ≡ Some s
    → In (number s) (map number (last_first (ranked steps) []))
has-number steps number rise all k s e =
    let there = all-ranked steps rise all s (k, e) in
    in-map number s (last_first (ranked steps) []) (in-turned (ranked steps) [] s (inl (in-at (ranked steps) there.0 s there.1)))

-- and each of them is a step
pub numbers-step : (steps : Steps) (number : Name × Step → ℕ) (t : ℕ) → In t (map number (last_first (ranked steps) [])) → (s : Name × Step) × In s steps × (t ≡ number s)
numbers-step steps number t i =
    let m = of-map number t (last_first (ranked steps) []) i in
    (m.0, ranked-in steps m.0 (one m.0 (of-turned (ranked steps) [] m.0 m.1)), m.2)
  where
    one : (s : Name × Step) → In s (ranked steps) ⊎ In s [] → In s (ranked steps)
    one s (inl i) = i
    one s (inr i) = absurd i
