-- The items before those that late tellings brought.
use Rattle.std.proofs.Common.{◌≡◌, refl, ℕ, zero, suc, ◌<◌, ◌≤◌, Bool, true, false, nat_lt, List, [], ◌∷◌, ◌++◌, length, take, sym, ap, subst, ◌∙◌, arith, take-suc, take_all, append_assoc, append-nil}
use Rattle.tv_lemmas.specs.Members.{Each}
use Rattle.tv_strategy.proofs.Sources.{each-append}
use Rattle.tv_strategy.proofs.Each.{each-weaken}
use Rattle.tv_match.specs.Entries.{Entry, no_entry, entry_at, before_last, front, AreMore, Rise}

late : (n m : ℕ) → n < m → nat_lt n m ≡ true
late n m h = grind arith

early : (n m : ℕ) → m ≤ n → nat_lt n m ≡ false
early n m h = grind arith

module _ (n : ℕ) where
  pub front-late : (es : List Entry) (e : Entry) → n < e.number → front n (es ++ e ∷ []) ≡ front n es
  front-late [] e h = ap (λ b. before_last [] b e) (late n e.number h)
  front-late (f ∷ es) e h = ap (λ l. before_last l (nat_lt n f.number) f) (front-late es e h)

  pub front-early : (es : List Entry) (e : Entry) → e.number ≤ n → front n (es ++ e ∷ []) ≡ es ++ e ∷ []
  front-early [] e h = ap (λ b. before_last [] b e) (early n e.number h)
  front-early (f ∷ es) e h = ap (λ l. before_last l (nat_lt n f.number) f) (front-early es e h) ∙ kept es
    where
      kept : (es : List Entry) → before_last (es ++ e ∷ []) (nat_lt n f.number) f ≡ f ∷ (es ++ e ∷ [])
      kept [] = refl
      kept (g ∷ es) = refl

  -- the last of some is late
  pub front-step : (es : List Entry) (i j : ℕ) → i ≡ suc j → i ≤ length es → n < (entry_at es j).number → front n (take i es) ≡ front n (take j es)
  front-step es i j e h k =
      ap (λ m. front n (take m es)) e ∙ ap (front n) (take-suc es j no_entry (omega (arith, e, h))) ∙ front-late (take j es) (entry_at es j) k

  pub front-ends : (es : List Entry) (i j : ℕ) → i ≡ suc j → i ≤ length es → (entry_at es j).number ≤ n → front n (take i es) ≡ take i es
  front-ends es i j e h k =
      let t : take i es ≡ take j es ++ entry_at es j ∷ [] = ap (λ m. take m es) e ∙ take-suc es j no_entry (omega (arith, e, h)) in
      ap (front n) t ∙ front-early (take j es) (entry_at es j) k ∙ sym t

-- ---- a front is the first so many

module _ (n : ℕ) where
  pub front-short : (es : List Entry) → length (front n es) ≤ length es
  front-short [] = omega arith
  front-short (e ∷ es) = by (front n es) (nat_lt n e.number) (front-short es)
    where
      by : (r : List Entry) (b : Bool) → length r ≤ length es → length (before_last r b e) ≤ length (e ∷ es)
      by [] true h = omega arith
      by [] false h = omega arith
      by (f ∷ fs) b h = omega (arith, h)

  pub front-first : (es : List Entry) → take (length (front n es)) es ≡ front n es
  front-first [] = refl
  front-first (e ∷ es) = by (front n es) (nat_lt n e.number) (front-first es)
    where
      by : (r : List Entry) (b : Bool) → take (length r) es ≡ r → take (length (before_last r b e)) (e ∷ es) ≡ before_last r b e
      by [] true h = refl
      by [] false h = refl
      by (f ∷ fs) b h = ap (λ l. e ∷ l) h

  -- what is early stands in front
  pub early-in_front : (es : List Entry) (i : ℕ) → i < length es → (entry_at es i).number ≤ n → i < length (front n es)
  early-in_front [] i h k = absurd (none i h)
    where
      none : (i : ℕ) → i < 0 → ⊥
      none i h = omega arith
  early-in_front (e ∷ es) zero h k = by (front n es)
    where
      by : (r : List Entry) → 0 < length (before_last r (nat_lt n e.number) e)
      by [] = subst (λ b. 0 < length (before_last [] b e)) (sym (early n e.number k)) (omega arith)
      by (f ∷ fs) = omega arith
  early-in_front (e ∷ es) (suc i) h k = by (front n es) (early-in_front es i (omega (arith, h)) k)
    where
      by : (r : List Entry) → i < length r → suc i < length (before_last r (nat_lt n e.number) e)
      by [] j = absurd (omega (arith, j))
      by (f ∷ fs) j = omega (arith, j)

  all-late : (es : List Entry) → Each (λ e. n < e.number) es → front n es ≡ []
  all-late [] h = refl
  all-late (e ∷ es) h = ap (λ l. before_last l (nat_lt n e.number) e) (all-late es h.1) ∙ ap (λ b. before_last [] b e) (late n e.number h.0)

  -- and what is late behind, where numbers rise
  pub late-behind : (es : List Entry) (i : ℕ) → Rise es → i < length es → n < (entry_at es i).number → length (front n es) ≤ i
  late-behind [] i r h k = absurd (none i h)
    where
      none : (i : ℕ) → i < 0 → ⊥
      none i h = omega arith
  late-behind (e ∷ es) zero r h k =
      subst (λ l. length l ≤ 0) (sym (all-late (e ∷ es) (k, later es r.0))) (omega arith)
    where
      later : (fs : List Entry) → Each (λ f. e.number ≤ f.number) fs → Each (λ f. n < f.number) fs
      later [] h = tt
      later (f ∷ fs) h = (omega (arith, h.0, k), later fs h.1)
  late-behind (e ∷ es) (suc i) r h k = by (front n es) (late-behind es i r.1 (omega (arith, h)) k)
    where
      by : (l : List Entry) → length l ≤ i → length (before_last l (nat_lt n e.number) e) ≤ suc i
      by [] j = one (nat_lt n e.number)
        where
          one : (b : Bool) → length (before_last [] b e) ≤ suc i
          one true = omega arith
          one false = omega arith
      by (f ∷ fs) j = omega (arith, j)

-- ---- fronts of fronts

pub front-less : (k n : ℕ) → k ≤ n → (es : List Entry) → front k (front n es) ≡ front k es
front-less k n h [] = refl
front-less k n h (e ∷ es) = by (front n es) (nat_lt n e.number) refl (front-less k n h es)
  where
    late-too : (m : ℕ) → nat_lt n m ≡ true → k ≤ n → nat_lt k m ≡ true
    late-too m e h = grind arith

    by : (r : List Entry) (b : Bool) → nat_lt n e.number ≡ b → front k r ≡ front k es → front k (before_last r b e) ≡ front k (e ∷ es)
    by [] true f i = sym (ap (λ b. before_last [] b e) (late-too e.number f h)) ∙ ap (λ l. before_last l (nat_lt k e.number) e) i
    by [] false f i = ap (λ l. before_last l (nat_lt k e.number) e) i
    by (g ∷ gs) b f i = ap (λ l. before_last l (nat_lt k e.number) e) i

pub front-again : (n : ℕ) (es : List Entry) → front n (front n es) ≡ front n es
front-again n es = front-less n n (omega arith) es

-- what is in front with one number is so with a greater one
pub front-greater : (k n : ℕ) → k ≤ n → (es : List Entry) → front k es ≡ es → front n es ≡ es
front-greater k n h es f =
    let a = ap length (front-less k n h es ∙ f) in
    let b = front-short k (front n es) in
    let c = front-short n es in
    let e : length (front n es) ≡ length es = omega (arith, a, b, c) in
    sym (front-first n es) ∙ ap (λ m. take m es) e ∙ take_all (length es) es (omega arith)

-- ---- more of one number

fronts-late : (k : ℕ) (es more : List Entry) → Each (λ e. k < e.number) more → front k (es ++ more) ≡ front k es
fronts-late k es [] h = ap (front k) (append-nil es)
fronts-late k es (m ∷ more) h = ap (front k) (sym (append_assoc es (m ∷ []) more)) ∙ fronts-late k (es ++ m ∷ []) more h.1 ∙ front-late k es m h.0

pub more-late : (k n : ℕ) (es fs : List Entry) → k < n → AreMore n es fs → front k fs ≡ front k es
more-late k n es fs h m = ap (front k) m.new_is ∙ fronts-late k es m.more (each-weaken (λ e. e.number ≡ n) (λ e. k < e.number) (λ e i. omega (arith, h, i)) m.more m.are_of)

fronts-early : (k : ℕ) (es more : List Entry) → front k es ≡ es → Each (λ e. e.number ≤ k) more → front k (es ++ more) ≡ es ++ more
fronts-early k es [] f h = ap (front k) (append-nil es) ∙ f ∙ sym (append-nil es)
fronts-early k es (m ∷ more) f h = ap (front k) (sym (append_assoc es (m ∷ []) more)) ∙ fronts-early k (es ++ m ∷ []) more (front-early k es m h.0) h.1 ∙ append_assoc es (m ∷ []) more

pub more-early : (k n : ℕ) (es fs : List Entry) → k ≤ n → front k es ≡ es → AreMore n es fs → front n fs ≡ fs
more-early k n es fs h f m = ap (front n) m.new_is ∙ fronts-early n es m.more (front-greater k n h es f) (each-weaken (λ e. e.number ≡ n) (λ e. e.number ≤ n) (λ e i. omega (arith, i)) m.more m.are_of) ∙ sym m.new_is

-- ---- numbers that rise

rise-of : (n : ℕ) (es : List Entry) → Each (λ e. e.number ≡ n) es → Rise es
rise-of n [] h = tt
rise-of n (e ∷ es) h = (each-weaken (λ f. f.number ≡ n) (λ f. e.number ≤ f.number) (λ f i. omega (arith, i, h.0)) es h.1, rise-of n es h.1)

rise-both : (es fs : List Entry) → Rise es → Rise fs → Each (λ e. Each (λ f. e.number ≤ f.number) fs) es → Rise (es ++ fs)
rise-both [] fs r s h = s
rise-both (e ∷ es) fs r s h = (each-append (λ f. e.number ≤ f.number) es fs r.0 h.0, rise-both es fs r.1 s h.1)

pub more-rise : (n : ℕ) (es fs : List Entry) → Rise es → Each (λ e. e.number ≤ n) es → AreMore n es fs → Rise fs × Each (λ e. e.number ≤ n) fs
more-rise n es fs r h m = (
  subst Rise (sym m.new_is) (rise-both es m.more r (rise-of n m.more m.are_of) (each-weaken (λ e. e.number ≤ n) (λ e. Each (λ f. e.number ≤ f.number) m.more) (λ e i. each-weaken (λ f. f.number ≡ n) (λ f. e.number ≤ f.number) (λ f j. omega (arith, i, j)) m.more m.are_of) es h)),
  subst (Each (λ e. e.number ≤ n)) (sym m.new_is) (each-append (λ e. e.number ≤ n) es m.more h (each-weaken (λ f. f.number ≡ n) (λ f. f.number ≤ n) (λ f j. omega (arith, j)) m.more m.are_of)),
)

-- a front of numbers that rise has early ones alone
pub front-rise : (n : ℕ) (es : List Entry) → Rise es → Rise (front n es) × Each (λ e. e.number ≤ n) (front n es)
front-rise n [] r = (tt, tt)
front-rise n (e ∷ es) r = by (front n es) (nat_lt n e.number) refl (front-rise n es r.1) (first (length (front n es)) es r.0 (front n es) (front-first n es))
  where
    first : (m : ℕ) (es : List Entry) → Each (λ f. e.number ≤ f.number) es → (l : List Entry) → take m es ≡ l → Each (λ f. e.number ≤ f.number) l
    first zero es h l i = subst (Each (λ f. e.number ≤ f.number)) i tt
    first (suc m) [] h l i = subst (Each (λ f. e.number ≤ f.number)) i tt
    first (suc m) (f ∷ fs) h l i = subst (Each (λ f. e.number ≤ f.number)) i (h.0, first m fs h.1 (take m fs) refl)

    not-late : (m : ℕ) → nat_lt n m ≡ false → m ≤ n
    not-late m h = grind arith

    by : (l : List Entry) (b : Bool) → nat_lt n e.number ≡ b → Rise l × Each (λ f. f.number ≤ n) l → Each (λ f. e.number ≤ f.number) l → Rise (before_last l b e) × Each (λ f. f.number ≤ n) (before_last l b e)
    by [] true h r i = (tt, tt)
    by [] false h r i = ((tt, tt), (not-late e.number h, tt))
    by (f ∷ fs) b h r i = ((i, r.0), (omega (arith, i.0, r.1.0), r.1))

pub front-longer : (k n : ℕ) → k ≤ n → (es : List Entry) → length (front k es) ≤ length (front n es)
front-longer k n h es = let e = ap length (front-less k n h es) in let l = front-short k (front n es) in omega (arith, e, l)
