-- Jobs that become idle, one by one.
use Rattle.std.specs.Prelude.{◌≡◌, ℕ, ◌+◌, ◌-◌, ◌<◌, ◌≤◌, not, Bool, true, false, cond, List, [], ◌∷◌, ◌++◌, Option, Some, None, count_by, length, slice_set, refl}
use Rattle.std.proofs.Common.{arith, ap, sym, subst, ◌∙◌, length-set, get_or-set_same, get_or-set_other}
use Rattle.std.proofs.lemmas.List.Sums.{sum_by-cons}
use Rattle.tv_lemmas.specs.Members.{Each}
use Rattle.tv_value.specs.Nested.{Place}
use Rattle.tv_match.specs.declared.matchers.Matcher.{Matcher}
use Rattle.tv_intake.specs.declared.intakes.Intakes.{Intakes}
use Rattle.tv_intake.specs.Intaken.{IsFaultyAt, matcher_at}
use Rattle.tv_idle.specs.Idles.{Idles, StepIdle, none_idle, of_step, room_for, with_idle}
use Rattle.tv_spread.specs.Spreads.{IsAt, faulty_now_at, is_faulty_now, with_all_new, with_new}

abbrev Job : Type 0
Job = ℕ × Place

-- ---- what is added

pub all-both : (f : Job → Bool) (xs ys : List Job) (i : Idles) → with_all_new f (xs ++ ys) i ≡ with_all_new f ys (with_all_new f xs i)
all-both f [] ys i = refl
all-both f (x ∷ xs) ys i = all-both f xs ys (with_new f x i)

pub all-same : (f g : Job → Bool) (xs : List Job) → Each (λ x. f x ≡ g x) xs → (i : Idles) → with_all_new f xs i ≡ with_all_new g xs i
all-same f g [] h i = refl
all-same f g (x ∷ xs) h i =
    all-same f g xs h.1 (with_new f x i)
    ∙ ap (λ b. with_all_new g xs (record { steps = slice_set i.steps x.0 (with_idle b (i.known, x.1) (of_step i.steps x.0)); known = i.known + 1; room = i.room - 1 })) h.0

-- other steps, and how many there are
module _ (f : Job → Bool) (c : ℕ) where
  pub all-other : (d : ℕ) → (d ≡ c → ⊥) → (xs : List Job) → Each (λ (x : Job). x.0 ≡ c) xs → (i : Idles) → of_step (with_all_new f xs i).steps d ≡ of_step i.steps d
  all-other d ne [] h i = refl
  all-other d ne (x ∷ xs) h i =
      all-other d ne xs h.1 (with_new f x i)
      ∙ get_or-set_other i.steps x.0 d (with_idle (f x) (i.known, x.1) (of_step i.steps x.0)) (none_idle 0) (λ e. ne (e ∙ h.0))

pub all-many : (f : Job → Bool) (xs : List Job) (i : Idles) → length (with_all_new f xs i).steps ≡ length i.steps
all-many f [] i = refl
all-many f (x ∷ xs) i = all-many f xs (with_new f x i) ∙ length-set i.steps x.0 (with_idle (f x) (i.known, x.1) (of_step i.steps x.0))

pub all-room : (f : Job → Bool) (xs : List Job) (i : Idles) → (with_all_new f xs i).room ≡ i.room - length xs
all-room f [] i = omega arith
all-room f (x ∷ xs) i = let e = all-room f xs (with_new f x i) in omega (arith, e)

-- ---- one at a time, with room for the rest

pub record Adding (f : Job → Bool) (c : ℕ) (xs : List Job) (i : Idles) : Type 0 where
  pub within : c < length i.steps
  pub places : Each (IsAt c (of_step i.steps c).levels) xs
  pub good : count_by (λ x. not (f x)) xs ≤ (of_step i.steps c).good_room
  pub faulty : count_by f xs ≤ (of_step i.steps c).faulty_room
  pub numbers : length xs ≤ i.room

module _ (f : Job → Bool) (c : ℕ) (x : Job) (xs : List Job) (i : Idles) (h : Adding f c (x ∷ xs) i) where
  has-room : (b : Bool) → f x ≡ b → 0 < room_for b (of_step i.steps c)
  has-room true e =
      let s = sum_by-cons (λ y. cond (f y) 1 0) x xs in
      let one : ◌≡◌ {A = ℕ} (cond (f x) 1 0) 1 = ap (λ b. cond b 1 0) e in
      omega (arith, h.faulty, s, one)
  has-room false e =
      let s = sum_by-cons (λ y. cond (not (f y)) 1 0) x xs in
      let one : ◌≡◌ {A = ℕ} (cond (not (f x)) 1 0) 1 = ap (λ b. cond (not b) 1 0) e in
      omega (arith, h.good, s, one)

  pub room-here : (b : Bool) → b ≡ f x → 0 < room_for b (of_step i.steps c)
  room-here b e = has-room b (sym e)

  -- what the call makes is this
  pub added-is : (b : Bool) → b ≡ f x → (j : Idles) → j.steps ≡ slice_set i.steps c (with_idle b (i.known, x.1) (of_step i.steps c)) → j.known ≡ i.known + 1 → j.room ≡ i.room - 1 → j ≡ with_new f x i
  added-is b e j s k r =
      (λ n. record { steps = s n; known = k n; room = r n })
      ∙ (λ n. record { steps = slice_set i.steps (sym h.places.0.0 n) (with_idle (e n) (i.known, x.1) (of_step i.steps (sym h.places.0.0 n))); known = i.known + 1; room = i.room - 1 })

  at-own : of_step (with_new f x i).steps c ≡ with_idle (f x) (i.known, x.1) (of_step i.steps c)
  at-own =
      ap (λ d. of_step (slice_set i.steps d (with_idle (f x) (i.known, x.1) (of_step i.steps d))) c) h.places.0.0
      ∙ get_or-set_same i.steps c (with_idle (f x) (i.known, x.1) (of_step i.steps c)) (none_idle 0) h.within

  levels-of : (b : Bool) (s : StepIdle) → (with_idle b (i.known, x.1) s).levels ≡ s.levels
  levels-of true s = refl
  levels-of false s = refl

  good-left : (b : Bool) → f x ≡ b → count_by (λ y. not (f y)) xs ≤ (with_idle b (i.known, x.1) (of_step i.steps c)).good_room
  good-left true e =
      let s = sum_by-cons (λ y. cond (not (f y)) 1 0) x xs in
      omega (arith, h.good, s)
  good-left false e =
      let s = sum_by-cons (λ y. cond (not (f y)) 1 0) x xs in
      let one : ◌≡◌ {A = ℕ} (cond (not (f x)) 1 0) 1 = ap (λ b. cond (not b) 1 0) e in
      omega (arith, h.good, s, one)

  faulty-left : (b : Bool) → f x ≡ b → count_by f xs ≤ (with_idle b (i.known, x.1) (of_step i.steps c)).faulty_room
  faulty-left true e =
      let s = sum_by-cons (λ y. cond (f y) 1 0) x xs in
      let one : ◌≡◌ {A = ℕ} (cond (f x) 1 0) 1 = ap (λ b. cond b 1 0) e in
      omega (arith, h.faulty, s, one)
  faulty-left false e =
      let s = sum_by-cons (λ y. cond (f y) 1 0) x xs in
      omega (arith, h.faulty, s)

  pub adding-more : Adding f c xs (with_new f x i)
  adding-more =
      record {
        within = let e = length-set i.steps x.0 (with_idle (f x) (i.known, x.1) (of_step i.steps x.0)) in omega (arith, e, h.within);
        places = subst (λ (s : StepIdle). Each (IsAt c s.levels) xs) (sym at-own) (subst (λ l. Each (IsAt c l) xs) (sym (levels-of (f x) (of_step i.steps c))) h.places.1);
        good = subst (λ (s : StepIdle). count_by (λ y. not (f y)) xs ≤ s.good_room) (sym at-own) (good-left (f x) refl);
        faulty = subst (λ (s : StepIdle). count_by f xs ≤ s.faulty_room) (sym at-own) (faulty-left (f x) refl);
        numbers = let n = h.numbers in omega (arith, n);
      }

-- ---- whether it binds a fault

pub told-faulty : (i : Intakes) (x : Job) (b : Bool) → IsFaultyAt (matcher_at i x.0) x.1 b → b ≡ is_faulty_now i x
told-faulty i x b h = by (matcher_at i x.0) h
  where
    by : (o : Option Matcher) → IsFaultyAt o x.1 b → b ≡ faulty_now_at o x.1
    by None h = absurd h
    by (Some m) h = h
