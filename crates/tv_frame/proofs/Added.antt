-- The idle jobs of all steps once new ones were added: those that were idle, and the new ones with the numbers that follow.
use Rattle.std.specs.Prelude.{◌≡◌, refl, ℕ, zero, suc, ◌+◌, ◌<◌, ◌⊎◌, Bool, true, false, if◌then◌else◌, List, [], ◌∷◌, length, Some, slice_get, slice_set}
use Rattle.std.specs.Cmp.Lexicographic.{slice_cmp}
use Rattle.std.specs.Ordering.{is_lt, nat_cmp}
use Rattle.std.proofs.Common.{sym, ap, subst, ◌∙◌, arith, inl, inr}
use Rattle.std.proofs.lemmas.Option.{none-some, same_Some}
use Rattle.tv_lemmas.specs.Members.{In}
use Rattle.tv_value.specs.Nested.{Place}
use Rattle.tv_lemmas.proofs.Cases.{on_either}
use Rattle.tv_idle.specs.Listed.{with_job}
use Rattle.tv_idle.specs.Idles.{Idles, StepIdle, of_step, with_idle}
use Rattle.tv_idle.specs.Kept.{IsKept}
use Rattle.tv_idle.proofs.Listing.{grown-kept, kept-more}
use Rattle.tv_spread.specs.Spreads.{with_all_new, with_new}

abbrev Job : Type 0
Job = ℕ × Place

-- ---- one list

in-grown : (x j : ℕ × List ℕ) (js : List (ℕ × List ℕ)) → In x (with_job j js) → (x ≡ j) ⊎ In x js
in-grown x j [] (inl e) = inl e
in-grown x j [] (inr i) = absurd i
in-grown x j (k ∷ ks) i = by (is_lt (slice_cmp nat_cmp j.1 k.1)) i (λ h. in-grown x j ks h)
  where
    by : (b : Bool) → In x (if b then j ∷ k ∷ ks else k ∷ with_job j ks) → (In x (with_job j ks) → (x ≡ j) ⊎ In x ks) → (x ≡ j) ⊎ In x (k ∷ ks)
    by true (inl e) rec = inl e
    by true (inr h) rec = inr h
    by false (inl e) rec = inr (inl e)
    by false (inr h) rec = on_either (rec h) (λ e. inl e) (λ m. inr (inr m))

grown-in : (x j : ℕ × List ℕ) (js : List (ℕ × List ℕ)) → (x ≡ j) ⊎ In x js → In x (with_job j js)
grown-in x j [] (inl e) = inl e
grown-in x j [] (inr i) = absurd i
grown-in x j (k ∷ ks) i = by (is_lt (slice_cmp nat_cmp j.1 k.1)) i (λ h. grown-in x j ks h)
  where
    by : (b : Bool) → (x ≡ j) ⊎ In x (k ∷ ks) → ((x ≡ j) ⊎ In x ks → In x (with_job j ks)) → In x (if b then j ∷ k ∷ ks else k ∷ with_job j ks)
    by true (inl e) rec = inl e
    by true (inr h) rec = inr h
    by false (inl e) rec = inr (rec (inl e))
    by false (inr (inl e)) rec = inl e
    by false (inr (inr h)) rec = inr (rec (inr h))

-- ---- one step of all

pub at-set : (steps : List StepIdle) (x c : ℕ) (s : StepIdle) → ((c ≡ x) × (of_step (slice_set steps x s) c ≡ s)) ⊎ (of_step (slice_set steps x s) c ≡ of_step steps c)
at-set [] x c s = inr refl
at-set (t ∷ ts) zero zero s = inl (refl, refl)
at-set (t ∷ ts) zero (suc c) s = inr refl
at-set (t ∷ ts) (suc x) zero s = inr refl
at-set (t ∷ ts) (suc x) (suc c) s = on_either (at-set ts x c s) (λ h. inl (ap suc h.0, h.1)) (λ h. inr h)

set-there : (steps : List StepIdle) (x : ℕ) (s : StepIdle) → x < length steps → of_step (slice_set steps x s) x ≡ s
set-there [] x s l = absurd (omega arith)
set-there (t ∷ ts) zero s l = refl
set-there (t ∷ ts) (suc x) s l = set-there ts x s (omega arith)

pub set-many : (steps : List StepIdle) (x : ℕ) (s : StepIdle) → length (slice_set steps x s) ≡ length steps
set-many [] x s = refl
set-many (t ∷ ts) zero s = refl
set-many (t ∷ ts) (suc x) s = ap suc (set-many ts x s)

-- the queue of those that bind a fault, or of the others
abbrev pub queue : Bool → StepIdle → List (ℕ × List ℕ)
queue true s = s.faulty
queue false s = s.good

module _ (f : Job → Bool) where
  abbrev next_one : Job → Idles → StepIdle
  next_one x i = with_idle (f x) (i.known, x.1) (of_step i.steps x.0)

  -- ---- what was idle stays so

  queue-stays : (b c : Bool) (j k : ℕ × List ℕ) (s : StepIdle) → In k (queue b s) → In k (queue b (with_idle c j s))
  queue-stays true true j k s i = grown-in k j s.faulty (inr i)
  queue-stays true false j k s i = i
  queue-stays false true j k s i = i
  queue-stays false false j k s i = grown-in k j s.good (inr i)

  one-stays : (x : Job) (i : Idles) (b : Bool) (c : ℕ) (k : ℕ × List ℕ) → In k (queue b (of_step i.steps c)) → In k (queue b (of_step (with_new f x i).steps c))
  one-stays x i b c k h =
      on_either (at-set i.steps x.0 c (next_one x i))
      (λ e. subst (λ s. In k (queue b s)) (sym e.1) (queue-stays b (f x) (i.known, x.1) k (of_step i.steps x.0) (subst (λ d. In k (queue b (of_step i.steps d))) e.0 h)))
      (λ e. subst (λ s. In k (queue b s)) (sym e) h)

  pub all-stay : (xs : List Job) (i : Idles) (b : Bool) (c : ℕ) (k : ℕ × List ℕ) → In k (queue b (of_step i.steps c)) → In k (queue b (of_step (with_all_new f xs i).steps c))
  all-stay [] i b c k h = h
  all-stay (x ∷ xs) i b c k h = all-stay xs (with_new f x i) b c k (one-stays x i b c k h)

  -- ---- each new one is idle

  queue-new : (b : Bool) (j : ℕ × List ℕ) (s : StepIdle) → In j (queue b (with_idle b j s))
  queue-new true j s = grown-in j j s.faulty (inl refl)
  queue-new false j s = grown-in j j s.good (inl refl)

  pub all-new : (xs : List Job) (i : Idles) (p : ℕ) (x : Job) → slice_get xs p ≡ Some x → x.0 < length i.steps → In (i.known + p, x.1) (queue (f x) (of_step (with_all_new f xs i).steps x.0))
  all-new [] i p x e l = absurd (none-some x e)
  all-new (y ∷ xs) i zero x e l =
      let same : y ≡ x = same_Some y x e in
      let number : i.known ≡ i.known + 0 = omega arith in
      all-stay xs (with_new f y i) (f x) x.0 (i.known + 0, x.1)
      (subst (λ (z : Job). In (i.known + 0, z.1) (queue (f z) (of_step (with_new f y i).steps z.0))) same
      (subst (λ s. In (i.known + 0, y.1) (queue (f y) s)) (sym (set-there i.steps y.0 (next_one y i) (subst (λ (z : Job). z.0 < length i.steps) (sym same) l)))
      (subst (λ m. In (m, y.1) (queue (f y) (next_one y i))) number (queue-new (f y) (i.known, y.1) (of_step i.steps y.0)))))
  all-new (y ∷ xs) i (suc p) x e l =
      let number : (i.known + 1) + p ≡ i.known + suc p = omega arith in
      subst (λ m. In (m, x.1) (queue (f x) (of_step (with_all_new f (y ∷ xs) i).steps x.0))) number
      (all-new xs (with_new f y i) p x e (subst (λ m. x.0 < m) (sym (set-many i.steps y.0 (next_one y i))) l))

  -- ---- and nothing else

  -- it is one of these, with its number
  pub record IsNew (xs : List Job) (known : ℕ) (b : Bool) (c : ℕ) (k : ℕ × List ℕ) : Type 0 where
    pub at : ℕ
    pub there : slice_get xs at ≡ Some (c, k.1)
    pub number : k.0 ≡ known + at
    pub flag : f (c, k.1) ≡ b

  queue-of : (b c : Bool) (j k : ℕ × List ℕ) (s : StepIdle) → In k (queue b (with_idle c j s)) → ((k ≡ j) × (c ≡ b)) ⊎ In k (queue b s)
  queue-of true true j k s i = on_either (in-grown k j s.faulty i) (λ e. inl (e, refl)) (λ h. inr h)
  queue-of true false j k s i = inr i
  queue-of false true j k s i = inr i
  queue-of false false j k s i = on_either (in-grown k j s.good i) (λ e. inl (e, refl)) (λ h. inr h)

  one-of : (x : Job) (i : Idles) (b : Bool) (c : ℕ) (k : ℕ × List ℕ) → In k (queue b (of_step (with_new f x i).steps c)) → ((c ≡ x.0) × (k ≡ (i.known, x.1)) × (f x ≡ b)) ⊎ In k (queue b (of_step i.steps c))
  one-of x i b c k h =
      on_either (at-set i.steps x.0 c (next_one x i))
      (λ e. on_either (queue-of b (f x) (i.known, x.1) k (of_step i.steps x.0) (subst (λ s. In k (queue b s)) e.1 h)) (λ g. inl (e.0, g.0, g.1)) (λ g. inr (subst (λ d. In k (queue b (of_step i.steps d))) (sym e.0) g)))
      (λ e. inr (subst (λ s. In k (queue b s)) e h))

  pub all-of : (xs : List Job) (i : Idles) (b : Bool) (c : ℕ) (k : ℕ × List ℕ) → In k (queue b (of_step (with_all_new f xs i).steps c)) → IsNew xs i.known b c k ⊎ In k (queue b (of_step i.steps c))
  all-of [] i b c k h = inr h
  all-of (x ∷ xs) i b c k h =
      on_either (all-of xs (with_new f x i) b c k h)
      (λ n. inl (record { at = suc n.at; there = n.there; number = n.number ∙ shift i.known n.at; flag = n.flag }))
      (λ g. on_either (one-of x i b c k g) (λ e. inl (first e.0 e.1 e.2)) (λ o. inr o))
    where
      shift : (a p : ℕ) → (a + 1) + p ≡ a + suc p
      shift a p = omega arith

      none-more : (a : ℕ) → a ≡ a + 0
      none-more a = omega arith

      first : c ≡ x.0 → k ≡ (i.known, x.1) → f x ≡ b → IsNew (x ∷ xs) i.known b c k
      first e g t =
          let place : k.1 ≡ x.1 = ap (λ (y : ℕ × List ℕ). y.1) g in
          let same : x ≡ (c, k.1) = λ j. (sym e j, sym place j) in
          record { at = 0; there = ap (λ (y : Job). Some y) same; number = ap (λ (y : ℕ × List ℕ). y.0) g ∙ none-more i.known; flag = ap f (sym same) ∙ t }

  -- ---- order, levels and numbers

  abbrev none_gone : ℕ → Bool
  none_gone n = false

  pub record AreInPlace (n : ℕ) (s : StepIdle) : Type 0 where
    pub good : IsKept none_gone n s.good
    pub faulty : IsKept none_gone n s.faulty

  one-placed : (b : Bool) (n : ℕ) (q : List ℕ) (s : StepIdle) → AreInPlace n s → AreInPlace (n + 1) (with_idle b (n, q) s)
  one-placed true n q s h = record { good = kept-more none_gone n s.good h.good; faulty = grown-kept none_gone n q s.faulty refl h.faulty }
  one-placed false n q s h = record { good = grown-kept none_gone n q s.good refl h.good; faulty = kept-more none_gone n s.faulty h.faulty }

  pub all-placed : (xs : List Job) (i : Idles) → ((c : ℕ) → AreInPlace i.known (of_step i.steps c)) → (c : ℕ) → AreInPlace (with_all_new f xs i).known (of_step (with_all_new f xs i).steps c)
  all-placed [] i h c = h c
  all-placed (x ∷ xs) i h c = all-placed xs (with_new f x i) next c
    where
      next : (d : ℕ) → AreInPlace (i.known + 1) (of_step (with_new f x i).steps d)
      next d =
          on_either (at-set i.steps x.0 d (next_one x i))
          (λ e. subst (AreInPlace (i.known + 1)) (sym e.1) (one-placed (f x) i.known x.1 (of_step i.steps x.0) (h x.0)))
          (λ e. subst (AreInPlace (i.known + 1)) (sym e) (record { good = kept-more none_gone i.known (of_step i.steps d).good (h d).good; faulty = kept-more none_gone i.known (of_step i.steps d).faulty (h d).faulty }))

  one-level : (b : Bool) (j : ℕ × List ℕ) (s : StepIdle) → (with_idle b j s).levels ≡ s.levels
  one-level true j s = refl
  one-level false j s = refl

  pub all-levels : (xs : List Job) (i : Idles) (c : ℕ) → (of_step (with_all_new f xs i).steps c).levels ≡ (of_step i.steps c).levels
  all-levels [] i c = refl
  all-levels (x ∷ xs) i c = all-levels xs (with_new f x i) c ∙ one
    where
      one : (of_step (with_new f x i).steps c).levels ≡ (of_step i.steps c).levels
      one =
          on_either (at-set i.steps x.0 c (next_one x i))
          (λ e. ap (λ (s : StepIdle). s.levels) e.1 ∙ one-level (f x) (i.known, x.1) (of_step i.steps x.0) ∙ ap (λ d. (of_step i.steps d).levels) (sym e.0))
          (λ e. ap (λ (s : StepIdle). s.levels) e)

  pub all-known : (xs : List Job) (i : Idles) → (with_all_new f xs i).known ≡ i.known + length xs
  all-known [] i = none-more i.known
    where
      none-more : (a : ℕ) → a ≡ a + 0
      none-more a = omega arith
  all-known (x ∷ xs) i = all-known xs (with_new f x i) ∙ shift i.known (length xs)
    where
      shift : (a p : ℕ) → (a + 1) + p ≡ a + suc p
      shift a p = omega arith
