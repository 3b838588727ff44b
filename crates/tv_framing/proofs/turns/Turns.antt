-- What is taken in turn is the first of all.
use Rattle.std.specs.Prelude.{◌≡◌, ◌⊎◌, ℕ, ◌==◌, ◌<◌, ◌&&◌, not, Bool, true, false, nat_lt, cond, List, [], ◌∷◌, filter, Option, Some, None, if◌then◌else◌, refl}
use Rattle.std.specs.declared.cmp.Ordering.{Ordering}
use Rattle.std.specs.Cmp.Lexicographic.{slice_cmp}
use Rattle.std.specs.List.{list_all}
use Rattle.std.specs.Option.{option_or}
use Rattle.std.specs.Ordering.{is_lt, nat_cmp, ordering_then}
use Rattle.std.proofs.Common.{arith, ap, sym, subst, ◌∙◌, inl, inr, Less, Equal, Greater}
use Rattle.std.proofs.lemmas.Bool.{cases_eq, eq-eqb, le-ltb, lt-ltb, ne_eqb, and_parts, not-true, false≢true}
use Rattle.std.proofs.lemmas.Cmp.{nat_list_cmp_total}
use Rattle.tv_lemmas.specs.Members.{In}
use Rattle.tv_lemmas.proofs.Orderings.{then-not_reversed}
use Rattle.tv_idle.specs.Sought.{stands_after}
use Rattle.tv_idle.proofs.Finding.{places}
use Rattle.tv_idle.specs.Idles as idles
use Rattle.tv_idle.specs.Idles.{StepIdle, first_after, first_of, of_step, standing_after}
use Rattle.tv_idle.specs.Kept.{are_in_order}
use Rattle.tv_framing.specs.turns.IdleJobs.{AreInOrder, IsIdle}
use Rattle.tv_telling.specs.endings.Turns.{first_in_turn, first_of_step, first_of_step_after, first_of_steps, first_of_steps_after}

abbrev pub Job : Type 0
Job = ℕ × List ℕ

-- ---- what is taken in turn

module _ (rank : ℕ → ℕ) where
  -- a place at a step stands before another
  abbrev pub is_before : ℕ × List ℕ → ℕ × List ℕ → Bool
  is_before x y = if x.0 == y.0 then stands_after x.1 y.1 else nat_lt (rank y.0) (rank x.0)

  -- each step has a greater rank than all that follow
  abbrev pub Falls : List ℕ → Type 0
  Falls [] = Unit {0}
  Falls (k ∷ ks) = ((t : ℕ) → In t ks → rank t < rank k) × Falls ks

  -- of the jobs of these steps that are wanted, the one of that number is the first
  pub record IsTheFirst (Wanted : ℕ → ℕ × List ℕ → Type 0) (ks : List ℕ) (n : ℕ) : Type 0 where
    pub step : ℕ
    pub place : List ℕ
    pub among : In step ks
    pub wanted : Wanted step (n, place)
    pub first : (t : ℕ) (j : ℕ × List ℕ) → In t ks → Wanted t j → is_before (t, j.1) (step, place) ≡ false

  abbrev pub IsFirstOf : (ℕ → ℕ × List ℕ → Type 0) → List ℕ → Option ℕ → Type 0
  IsFirstOf Wanted ks None = (t : ℕ) (j : ℕ × List ℕ) → In t ks → Wanted t j → ⊥
  IsFirstOf Wanted ks (Some n) = IsTheFirst Wanted ks n

-- ---- places

pub itself : (p : List ℕ) → stands_after p p ≡ false
itself p = by (stands_after p p) refl
  where
    by : (b : Bool) → stands_after p p ≡ b → stands_after p p ≡ false
    by true e = places.one_way p p e
    by false e = e

kept : (o p : Ordering) → is_lt (ordering_then o p) ≡ false → is_lt o ≡ false
kept Less p e = cc
kept Equal p e = refl
kept Greater p e = refl

-- one that comes before another at one place or at a lesser
not-after : (f g : Job) → idles.is_before f g ≡ true → stands_after g.1 f.1 ≡ false
not-after f g e = ap is_lt (nat_list_cmp_total.antisymm g.1 f.1) ∙ then-not_reversed (slice_cmp nat_cmp f.1 g.1) (nat_cmp f.0 g.0) e

not-before : (f g : Job) → idles.is_before f g ≡ false → stands_after f.1 g.1 ≡ false
not-before f g e = kept (slice_cmp nat_cmp f.1 g.1) (nat_cmp f.0 g.0) e

-- ---- jobs of a step

head-first : (x : Job) (xs : List Job) (j : Job) → are_in_order (x ∷ xs) ≡ true → In j (x ∷ xs) → stands_after j.1 x.1 ≡ false
head-first x xs j o (inl e) = ap (λ (k : Job). stands_after k.1 x.1) e ∙ itself x.1
head-first x xs j o (inr i) = among xs (and_parts (list_all (λ k. not (stands_after k.1 x.1)) xs) (are_in_order xs) o).0 i
  where
    among : (ys : List Job) → list_all (λ k. not (stands_after k.1 x.1)) ys ≡ true → In j ys → stands_after j.1 x.1 ≡ false
    among [] h i = absurd i
    among (y ∷ ys) h (inl e) = ap (λ (k : Job). stands_after k.1 x.1) e ∙ not-true (stands_after y.1 x.1) (and_parts (not (stands_after y.1 x.1)) (list_all (λ k. not (stands_after k.1 x.1)) ys) h).0
    among (y ∷ ys) h (inr i) = among ys (and_parts (not (stands_after y.1 x.1)) (list_all (λ k. not (stands_after k.1 x.1)) ys) h).1 i

-- the first of the jobs of one step that are wanted
pub record IsTheFirstHere (Wanted : Job → Type 0) (n : ℕ) : Type 0 where
  pub place : List ℕ
  pub wanted : Wanted (n, place)
  pub first : (j : Job) → Wanted j → stands_after j.1 place ≡ false

abbrev pub IsFirstHere : (Job → Type 0) → Option ℕ → Type 0
IsFirstHere Wanted None = (j : Job) → Wanted j → ⊥
IsFirstHere Wanted (Some n) = IsTheFirstHere Wanted n

abbrev Either : List Job → List Job → Job → Type 0
Either gs fs j = In j gs ⊎ In j fs

first-is : (gs fs : List Job) → are_in_order gs ≡ true → are_in_order fs ≡ true → IsFirstHere (Either gs fs) (first_of gs fs)
first-is [] [] o p = none
  where
    none : (j : Job) → Either [] [] j → ⊥
    none j (inl i) = i
    none j (inr i) = i
first-is [] (f ∷ fs) o p = record { place = f.1; wanted = inr (inl refl); first = one }
  where
    one : (j : Job) → Either [] (f ∷ fs) j → stands_after j.1 f.1 ≡ false
    one j (inl i) = absurd i
    one j (inr i) = head-first f fs j p i
first-is (g ∷ gs) [] o p = record { place = g.1; wanted = inl (inl refl); first = one }
  where
    one : (j : Job) → Either (g ∷ gs) [] j → stands_after j.1 g.1 ≡ false
    one j (inl i) = head-first g gs j o i
    one j (inr i) = absurd i
first-is (g ∷ gs) (f ∷ fs) o p = by (idles.is_before f g) refl
  where
    fault : idles.is_before f g ≡ true → (j : Job) → Either (g ∷ gs) (f ∷ fs) j → stands_after j.1 f.1 ≡ false
    fault e j (inl i) = places.chain j.1 g.1 f.1 (head-first g gs j o i) (not-after f g e)
    fault e j (inr i) = head-first f fs j p i

    good : idles.is_before f g ≡ false → (j : Job) → Either (g ∷ gs) (f ∷ fs) j → stands_after j.1 g.1 ≡ false
    good e j (inl i) = head-first g gs j o i
    good e j (inr i) = places.chain j.1 f.1 g.1 (head-first f fs j p i) (not-before f g e)

    by : (b : Bool) → idles.is_before f g ≡ b → IsFirstHere (Either (g ∷ gs) (f ∷ fs)) (if b then Some f.0 else Some g.0)
    by true e = record { place = f.1; wanted = inr (inl refl); first = fault e }
    by false e = record { place = g.1; wanted = inl (inl refl); first = good e }

-- ---- those that pass

pub in-passed : (p : Job → Bool) (xs : List Job) (j : Job) → In j (filter p xs) → In j xs × (p j ≡ true)
in-passed p [] j i = absurd i
in-passed p (x ∷ xs) j i = by (p x) refl i (in-passed p xs j)
  where
    by : (b : Bool) → p x ≡ b → In j (cond b (x ∷ filter p xs) (filter p xs)) → (In j (filter p xs) → In j xs × (p j ≡ true)) → In j (x ∷ xs) × (p j ≡ true)
    by true e (inl s) rec = (inl s, ap p s ∙ e)
    by true e (inr r) rec = let m = rec r in (inr m.0, m.1)
    by false e r rec = let m = rec r in (inr m.0, m.1)

pub passed-in : (p : Job → Bool) (xs : List Job) (j : Job) → In j xs → p j ≡ true → In j (filter p xs)
passed-in p [] j i h = i
passed-in p (x ∷ xs) j (inl s) h = subst (λ b. In j (cond b (x ∷ filter p xs) (filter p xs))) (sym h ∙ ap p s) (inl s)
passed-in p (x ∷ xs) j (inr r) h = by (p x) (passed-in p xs j r h)
  where
    by : (b : Bool) → In j (filter p xs) → In j (cond b (x ∷ filter p xs) (filter p xs))
    by true i = inr i
    by false i = i

all-passed : (p q : Job → Bool) (xs : List Job) → list_all q xs ≡ true → list_all q (filter p xs) ≡ true
all-passed p q [] h = refl
all-passed p q (x ∷ xs) h = by (p x) (all-passed p q xs (and_parts (q x) (list_all q xs) h).1)
  where
    by : (b : Bool) → list_all q (filter p xs) ≡ true → list_all q (cond b (x ∷ filter p xs) (filter p xs)) ≡ true
    by true r = ap (λ b. b && list_all q (filter p xs)) (and_parts (q x) (list_all q xs) h).0 ∙ r
    by false r = r

pub passed-order : (p : Job → Bool) (xs : List Job) → are_in_order xs ≡ true → are_in_order (filter p xs) ≡ true
passed-order p [] o = refl
passed-order p (x ∷ xs) o = by (p x) (passed-order p xs (and_parts (list_all (λ k. not (stands_after k.1 x.1)) xs) (are_in_order xs) o).1)
  where
    by : (b : Bool) → are_in_order (filter p xs) ≡ true → are_in_order (cond b (x ∷ filter p xs) (filter p xs)) ≡ true
    by true r =
        ap (λ b. b && are_in_order (filter p xs)) (all-passed p (λ k. not (stands_after k.1 x.1)) xs (and_parts (list_all (λ k. not (stands_after k.1 x.1)) xs) (are_in_order xs) o).0)
        ∙ r
    by false r = r

-- what is said of some is said of others that are the same
same-here : (V W : Job → Type 0) → ((j : Job) → V j → W j) → ((j : Job) → W j → V j) → (o : Option ℕ) → IsFirstHere V o → IsFirstHere W o
same-here V W to from None h = λ j w. h j (from j w)
same-here V W to from (Some n) h = record { place = h.place; wanted = to (n, h.place) h.wanted; first = λ j w. h.first j (from j w) }

-- ---- steps in turn

module _ (rank : ℕ → ℕ) where
  here-not-before : (k : ℕ) (r q : List ℕ) → stands_after r q ≡ false → is_before rank (k, r) (k, q) ≡ false
  here-not-before k r q h = ap (λ b. if b then stands_after r q else nat_lt (rank k) (rank k)) (eq-eqb k k refl) ∙ h

  apart : (t k : ℕ) → rank t < rank k → t ≡ k → ⊥
  apart t k l e = let r = ap rank e in absurd (omega (arith, l, r))

  later-not-before : (t k : ℕ) (r q : List ℕ) → rank t < rank k → is_before rank (t, r) (k, q) ≡ false
  later-not-before t k r q l =
      ap (λ b. if b then stands_after r q else nat_lt (rank k) (rank t)) (ne_eqb t k (apart t k l)) ∙ le-ltb (rank k) (rank t) (omega (arith, l))

  earlier-before : (t k : ℕ) (r q : List ℕ) → rank t < rank k → is_before rank (k, q) (t, r) ≡ true
  earlier-before t k r q l =
      ap (λ b. if b then stands_after q r else nat_lt (rank t) (rank k)) (ne_eqb k t (λ e. apart t k l (sym e))) ∙ lt-ltb (rank t) (rank k) l

  -- one step in front of others
  one-more : (W : ℕ → Job → Type 0) (k : ℕ) (ks : List ℕ) (a b : Option ℕ) → ((t : ℕ) → In t ks → rank t < rank k)
      → IsFirstHere (W k) a → IsFirstOf rank W ks b → IsFirstOf rank W (k ∷ ks) (option_or a b)
  one-more W k ks (Some n) b less f g = record { step = k; place = f.place; among = inl refl; wanted = f.wanted; first = all }
    where
      all : (t : ℕ) (j : Job) → In t (k ∷ ks) → W t j → is_before rank (t, j.1) (k, f.place) ≡ false
      all t j (inl e) w = ap (λ i. is_before rank (i, j.1) (k, f.place)) e ∙ here-not-before k j.1 f.place (f.first j (subst (λ i. W i j) e w))
      all t j (inr i) w = later-not-before t k j.1 f.place (less t i)
  one-more W k ks None None less f g = none
    where
      none : (t : ℕ) (j : Job) → In t (k ∷ ks) → W t j → ⊥
      none t j (inl e) w = f j (subst (λ i. W i j) e w)
      none t j (inr i) w = g t j i w
  one-more W k ks None (Some n) less f g = record { step = g.step; place = g.place; among = inr g.among; wanted = g.wanted; first = all }
    where
      all : (t : ℕ) (j : Job) → In t (k ∷ ks) → W t j → is_before rank (t, j.1) (g.step, g.place) ≡ false
      all t j (inl e) w = absurd (f j (subst (λ i. W i j) e w))
      all t j (inr i) w = g.first t j i w

  module _ (may : ℕ → Bool) (ss : List StepIdle) (o : AreInOrder ss) where
    -- idle, at a step whose jobs may settle
    abbrev pub Waits : ℕ → Job → Type 0
    Waits t j = (may t ≡ true) × IsIdle ss t j

    here : (k : ℕ) → IsFirstHere (Waits k) (first_of_step may ss k)
    here k = by (may k) refl
      where
        by : (b : Bool) → may k ≡ b → IsFirstHere (Waits k) (if b then first_of (of_step ss k).good (of_step ss k).faulty else None)
        by true e =
            same-here (IsIdle ss k) (Waits k) (λ j i. (e, i)) (λ j w. w.1) (first_of (of_step ss k).good (of_step ss k).faulty)
            (first-is (of_step ss k).good (of_step ss k).faulty (o.good k) (o.faulty k))
        by false e = λ j w. false≢true (sym e ∙ w.0)

    -- any that are those that wait at these steps
    all-steps : (W : ℕ → Job → Type 0) (ks : List ℕ) → Falls rank ks → ((t : ℕ) → In t ks → (j : Job) → Waits t j → W t j) → ((t : ℕ) → In t ks → (j : Job) → W t j → Waits t j)
        → IsFirstOf rank W ks (first_of_steps may ss ks)
    all-steps W [] f to from = λ t j i w. i
    all-steps W (k ∷ ks) f to from =
        one-more W k ks (first_of_step may ss k) (first_of_steps may ss ks) f.0
        (same-here (Waits k) (W k) (to k (inl refl)) (from k (inl refl)) (first_of_step may ss k) (here k))
        (all-steps W ks f.1 (λ t i. to t (inr i)) (λ t i. from t (inr i)))

    module _ (s : ℕ) (p : List ℕ) where
      -- and stands after a place of a step
      abbrev pub Follows : ℕ → Job → Type 0
      Follows t j = Waits t j × (is_before rank (s, p) (t, j.1) ≡ true)

      here-after : IsFirstHere (Follows s) (first_of_step_after may ss p s)
      here-after = by (may s) refl
        where
          V : Job → Type 0
          V = Either (standing_after p (of_step ss s).good) (standing_after p (of_step ss s).faulty)

          same : (r : List ℕ) → is_before rank (s, p) (s, r) ≡ stands_after p r
          same r = ap (λ b. if b then stands_after p r else nat_lt (rank s) (rank s)) (eq-eqb s s refl)

          to : may s ≡ true → (j : Job) → V j → Follows s j
          to e j (inl i) = let m = in-passed (λ j. stands_after p j.1) (of_step ss s).good j i in ((e, inl m.0), same j.1 ∙ m.1)
          to e j (inr i) = let m = in-passed (λ j. stands_after p j.1) (of_step ss s).faulty j i in ((e, inr m.0), same j.1 ∙ m.1)

          from : (j : Job) → Follows s j → V j
          from j w = side w.0.1
            where
              side : IsIdle ss s j → V j
              side (inl i) = inl (passed-in (λ j. stands_after p j.1) (of_step ss s).good j i (sym (same j.1) ∙ w.1))
              side (inr i) = inr (passed-in (λ j. stands_after p j.1) (of_step ss s).faulty j i (sym (same j.1) ∙ w.1))

          by : (b : Bool) → may s ≡ b → IsFirstHere (Follows s) (if b then first_after p (of_step ss s) else None)
          by true e =
              same-here V (Follows s) (to e) from (first_after p (of_step ss s))
              (first-is (standing_after p (of_step ss s).good) (standing_after p (of_step ss s).faulty)
              (passed-order (λ j. stands_after p j.1) (of_step ss s).good (o.good s))
              (passed-order (λ j. stands_after p j.1) (of_step ss s).faulty (o.faulty s)))
          by false e = λ j w. false≢true (sym e ∙ w.0.0)

      all-after : (ks : List ℕ) → Falls rank ks → In s ks → IsFirstOf rank Follows ks (first_of_steps_after may ss s p ks)
      all-after [] f i = absurd i
      all-after (k ∷ ks) f i =
          elim (cases_eq k s) [
            | inl e ↦
                subst (λ b. IsFirstOf rank Follows (k ∷ ks) (if b then option_or (first_of_step_after may ss p k) (first_of_steps may ss ks) else first_of_steps_after may ss s p ks)) (sym (eq-eqb k s e))
                (one-more Follows k ks (first_of_step_after may ss p k) (first_of_steps may ss ks) f.0
                (subst (λ t. IsFirstHere (Follows t) (first_of_step_after may ss p t)) (sym e) here-after)
                (all-steps Follows ks f.1 (λ t m j w. (w, earlier-before t s j.1 p (subst (λ x. rank t < rank x) e (f.0 t m)))) (λ t m j w. w.0)))
            | inr ne ↦
                subst (λ b. IsFirstOf rank Follows (k ∷ ks) (if b then option_or (first_of_step_after may ss p k) (first_of_steps may ss ks) else first_of_steps_after may ss s p ks)) (sym (ne_eqb k s ne))
                (let rest = other k ks ne i in
                one-more Follows k ks None (first_of_steps_after may ss s p ks) f.0
                (λ j w. false≢true (sym (later-not-before s k p j.1 (f.0 s rest)) ∙ w.1))
                (all-after ks f.1 rest))
          ]
        where
          other : (k : ℕ) (ks : List ℕ) → (k ≡ s → ⊥) → In s (k ∷ ks) → In s ks
          other k ks ne (inl e) = absurd (ne (sym e))
          other k ks ne (inr m) = m

    -- ---- whether or not a job is given

    abbrev pub Comes : Option Job → ℕ → Job → Type 0
    Comes None t j = Waits t j
    Comes (Some a) t j = Follows a.0 a.1 t j

    abbrev pub IsAmong : List ℕ → Option Job → Type 0
    IsAmong ks None = Unit {0}
    IsAmong ks (Some a) = In a.0 ks

    -- THE FIRST IN TURN
    pub first-in_turn : (order : List ℕ) → Falls rank order → (after : Option Job) → IsAmong order after → IsFirstOf rank (Comes after) order (first_in_turn may ss order after)
    first-in_turn order f None i = all-steps Waits order f (λ t m j w. w) (λ t m j w. w)
    first-in_turn order f (Some a) i = all-after a.0 a.1 order f i
