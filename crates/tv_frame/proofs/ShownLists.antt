-- Lists of steps, each of which brings something.
use Rattle.std.specs.Option.{option_map_or}
use Rattle.std.specs.Prelude.{◌≡◌, refl, ℕ, suc, ◌+◌, ◌<◌, ◌≤◌, ◌==◌, ◌||◌, Bool, true, false, if◌then◌else◌, List, [], ◌∷◌, ◌++◌, filter, flat_map, length, map, Option, Some, None, slice_get}
use Rattle.std.proofs.Common.{sym, ap, subst, ◌∙◌, arith, eq-eqb, append-nil, le_refl}
use Rattle.std.proofs.lemmas.Bool.{eqb-true, true≢false, ne_eqb}
use Rattle.std.proofs.lemmas.List.Elements.{filter-append}
use Rattle.std.proofs.lemmas.List.{map-append}
use Rattle.tv_lemmas.specs.Members.{Each}
use Rattle.tv_strategy.proofs.Each.{each-weaken}
use Rattle.tv_lemmas.proofs.Cases.{on_test}
use Rattle.tv_matching.specs.Matchers.{Outcome}
use Rattle.tv_naming.specs.Naming.{numbered}
use Rattle.tv_spread.specs.Spreads.{IsAscending}
use Rattle.tv_frame.specs.Kept.{things_of}
use Rattle.tv_frame.specs.Prepared.{is_one_of}

-- ---- one of them or none

itself : (c : ℕ) → (c == c) ≡ true
itself c = eq-eqb c c refl

pub not-one : (cs : List ℕ) (n : ℕ) → is_one_of cs n ≡ false → Each (λ d. d ≡ n → ⊥) cs
not-one [] n h = tt
not-one (c ∷ cs) n h = by (c == n) refl h (λ k. not-one cs n k)
  where
    clash : true ≡ false → ⊥
    clash e = cc

    by : (b : Bool) → (c == n) ≡ b → (b || is_one_of cs n) ≡ false → (is_one_of cs n ≡ false → Each (λ d. d ≡ n → ⊥) cs) → (c ≡ n → ⊥) × Each (λ d. d ≡ n → ⊥) cs
    by true e k rec = absurd (clash k)
    by false e k rec = (λ same. clash (sym (eq-eqb c n same) ∙ e), rec k)

pub one-each : (P : ℕ → Type 0) (cs : List ℕ) (n : ℕ) → Each P cs → is_one_of cs n ≡ true → P n
one-each P [] n h k = absurd (cc)
one-each P (c ∷ cs) n h k = by (c == n) refl k (λ m. one-each P cs n h.1 m)
  where
    by : (b : Bool) → (c == n) ≡ b → (b || is_one_of cs n) ≡ true → (is_one_of cs n ≡ true → P n) → P n
    by true e k rec = subst P (eqb-true c n e) h.0
    by false e k rec = rec k

pub each-one : (P : ℕ → Type 0) (cs : List ℕ) → ((n : ℕ) → is_one_of cs n ≡ true → P n) → Each P cs
each-one P [] h = tt
each-one P (c ∷ cs) h =
    (h c (ap (λ b. b || is_one_of cs c) (itself c)), each-one P cs (λ n k. h n (behind (c == n) (is_one_of cs n) k)))
  where
    behind : (a b : Bool) → b ≡ true → (a || b) ≡ true
    behind true b e = refl
    behind false b e = e

pub same-length : {A : Type 0} (xs ys : List A) → ((n : ℕ) → slice_get xs n ≡ None → slice_get ys n ≡ None) → ((n : ℕ) → slice_get ys n ≡ None → slice_get xs n ≡ None) → length ys ≡ length xs
same-length [] [] h k = refl
same-length [] (y ∷ ys) h k = absurd (clash (h 0 refl))
  where
    clash : Some y ≡ None → ⊥
    clash e = cc
same-length (x ∷ xs) [] h k = absurd (clash (k 0 refl))
  where
    clash : Some x ≡ None → ⊥
    clash e = cc
same-length (x ∷ xs) (y ∷ ys) h k = ap suc (same-length xs ys (λ n e. h (suc n) e) (λ n e. k (suc n) e))

-- ---- what steps bring, step by step

lower : (k c : ℕ) → suc k ≤ c → k ≤ c
lower k c h = omega arith

above : (k c d : ℕ) → c ≡ k → c < d → suc k ≤ d
above k c d e l = omega arith

after : (k c d : ℕ) → k < c → c < d → suc k ≤ d
after k c d e l = omega arith

later : (k c d : ℕ) → k < c → c < d → d ≡ k → ⊥
later k c d e l same = omega arith

apart : (k c d : ℕ) → c ≡ k → suc k ≤ d → c ≡ d → ⊥
apart k c d e l same = omega arith

beyond : (k c : ℕ) → (c ≡ k → ⊥) → k ≤ c → k < c
beyond k c ne l = omega arith

less : (k n d : ℕ) → d < k + suc n → d < suc k + n
less k n d h = omega arith

module _ {A B : Type 0} (brings : ℕ → A → List B) (look : ℕ → Option A) where
  next : (k : ℕ) (a : A) (ss : List A) → ((n : ℕ) → slice_get (a ∷ ss) n ≡ look (k + n)) → (n : ℕ) → slice_get ss n ≡ look (suc k + n)
  next k a ss h n = let e : k + suc n ≡ suc k + n = omega arith in h (suc n) ∙ ap look e

  zero-more : (k : ℕ) → look (k + 0) ≡ look k
  zero-more k = let e : k + 0 ≡ k = omega arith in ap look e

  abbrev at_step : ℕ → List B
  at_step c = option_map_or (brings c) (look c) []

  -- where the others bring nothing, that is what these bring
  pub flat-in :
      (k : ℕ) (ss : List A) (cs : List ℕ) → IsAscending cs → Each (λ c. k ≤ c) cs → Each (λ c. c < k + length ss) cs
      → ((n : ℕ) → slice_get ss n ≡ look (k + n))
      → ((c : ℕ) (a : A) → k ≤ c → Each (λ d. d ≡ c → ⊥) cs → brings c a ≡ [])
      → flat_map (λ (x : ℕ × A). brings x.0 x.1) (numbered k ss) ≡ flat_map at_step cs
  flat-in k [] [] up low high looks none = refl
  flat-in k [] (c ∷ cs) up low high looks none = absurd (beyond k c low.0 high.0)
    where
      beyond : (k c : ℕ) → k ≤ c → c < k + 0 → ⊥
      beyond k c h l = omega arith
  flat-in k (a ∷ ss) [] up low high looks none =
      ap (λ l. l ++ flat_map (λ (x : ℕ × A). brings x.0 x.1) (numbered (suc k) ss)) (none k a (le_refl k) tt)
      ∙ flat-in (suc k) ss [] tt tt tt (next k a ss looks) (λ c b l h. none c b (lower k c l) h)
  flat-in k (a ∷ ss) (c ∷ cs) up low high looks none =
      on_test (c == k)
      (λ h.
      let e : c ≡ k = eqb-true c k h in
      let at : at_step c ≡ brings k a = ap at_step e ∙ ap (λ o. option_map_or (brings k) o []) (sym (looks 0 ∙ zero-more k)) in
      ap (λ l. brings k a ++ l)
      (flat-in (suc k) ss cs up.1 (each-weaken (λ d. c < d) (λ d. suc k ≤ d) (λ d l. above k c d e l) cs up.0)
      (each-weaken (λ d. d < k + suc (length ss)) (λ d. d < suc k + length ss) (λ d l. less k (length ss) d l) cs high.1) (next k a ss looks)
      (λ d b l m. none d b (lower k d l) (λ same. apart k c d e l same, m)))
      ∙ ap (λ l. l ++ flat_map at_step cs) (sym at))
      (λ h.
      let ne : c ≡ k → ⊥ = λ e. true≢false (sym (eq-eqb c k e) ∙ h) in
      let past : k < c = beyond k c ne low.0 in
      ap (λ l. l ++ flat_map (λ (x : ℕ × A). brings x.0 x.1) (numbered (suc k) ss))
      (none k a (le_refl k) (ne, each-weaken (λ d. c < d) (λ d. d ≡ k → ⊥) (λ d l same. later k c d past l same) cs up.0))
      ∙ flat-in (suc k) ss (c ∷ cs) up (past, each-weaken (λ d. c < d) (λ d. suc k ≤ d) (λ d l. after k c d past l) cs up.0)
      (each-weaken (λ d. d < k + suc (length ss)) (λ d. d < suc k + length ss) (λ d l. less k (length ss) d l) (c ∷ cs) high) (next k a ss looks)
      (λ d b l m. none d b (lower k d l) m))

-- ---- what stands at one step of all

pub things-append : (n : ℕ) (xs ys : List (ℕ × Outcome)) → things_of n (xs ++ ys) ≡ things_of n xs ++ things_of n ys
things-append n xs ys =
    ap (map (λ x. x.1)) (filter-append (λ (x : ℕ × Outcome). x.0 == n) xs ys)
    ∙ map-append (λ x. x.1) (filter (λ (x : ℕ × Outcome). x.0 == n) xs) (filter (λ (x : ℕ × Outcome). x.0 == n) ys)

things-own : (n c : ℕ) (os : List Outcome) → (c == n) ≡ true → things_of n (map (λ o. (c, o)) os) ≡ os
things-own n c [] h = refl
things-own n c (o ∷ os) h =
    ap (λ b. map (λ (x : ℕ × Outcome). x.1) (if b then (c, o) ∷ filter (λ (x : ℕ × Outcome). x.0 == n) (map (λ u. (c, u)) os) else filter (λ (x : ℕ × Outcome). x.0 == n) (map (λ u. (c, u)) os))) h
    ∙ ap (λ l. o ∷ l) (things-own n c os h)

things-other : (n c : ℕ) (os : List Outcome) → (c == n) ≡ false → things_of n (map (λ o. (c, o)) os) ≡ []
things-other n c [] h = refl
things-other n c (o ∷ os) h =
    ap (λ b. map (λ (x : ℕ × Outcome). x.1) (if b then (c, o) ∷ filter (λ (x : ℕ × Outcome). x.0 == n) (map (λ u. (c, u)) os) else filter (λ (x : ℕ × Outcome). x.0 == n) (map (λ u. (c, u)) os))) h
    ∙ things-other n c os h

module _ (brings : ℕ → List Outcome) where
  abbrev all_things : List ℕ → List (ℕ × Outcome)
  all_things cs = flat_map (λ c. map (λ o. (c, o)) (brings c)) cs

  pub things-none : (n : ℕ) (cs : List ℕ) → Each (λ c. c ≡ n → ⊥) cs → things_of n (all_things cs) ≡ []
  things-none n [] h = refl
  things-none n (c ∷ cs) h =
      things-append n (map (λ o. (c, o)) (brings c)) (all_things cs)
      ∙ ap (λ l. l ++ things_of n (all_things cs)) (things-other n c (brings c) (ne_eqb c n h.0))
      ∙ things-none n cs h.1

  pub things-here : (n : ℕ) (cs : List ℕ) → IsAscending cs → is_one_of cs n ≡ true → things_of n (all_things cs) ≡ brings n
  things-here n [] up h = absurd (cc)
  things-here n (c ∷ cs) up h = things-append n (map (λ o. (c, o)) (brings c)) (all_things cs) ∙ by (c == n) refl h (λ k. things-here n cs up.1 k)
    where
      by : (b : Bool) → (c == n) ≡ b → (b || is_one_of cs n) ≡ true → (is_one_of cs n ≡ true → things_of n (all_things cs) ≡ brings n) → things_of n (map (λ o. (c, o)) (brings c)) ++ things_of n (all_things cs) ≡ brings n
      by true e k rec =
          let same : c ≡ n = eqb-true c n e in
          ap (λ l. l ++ things_of n (all_things cs)) (things-own n c (brings c) e)
          ∙ ap (λ l. brings c ++ l) (things-none n cs (each-weaken (λ d. c < d) (λ d. d ≡ n → ⊥) (λ d l eq. behind c n d same l eq) cs up.0))
          ∙ append-nil (brings c)
          ∙ ap brings same
        where
          behind : (c n d : ℕ) → c ≡ n → c < d → d ≡ n → ⊥
          behind c n d e l eq = omega arith
      by false e k rec = ap (λ l. l ++ things_of n (all_things cs)) (things-other n c (brings c) e) ∙ rec k

  -- beside what stood there before
  pub things-more : (n : ℕ) (cs : List ℕ) (before : List (ℕ × Outcome)) → things_of n (before ++ all_things cs) ≡ things_of n before ++ things_of n (all_things cs)
  things-more n cs before = things-append n before (all_things cs)
