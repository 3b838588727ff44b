-- What the calls of a matcher leave.
use Rattle.std.specs.Prelude.{IsPermutation}
use Rattle.std.proofs.Common.{◌≡◌, ◌⊎◌, inl, inr, refl, ℕ, zero, suc, ◌+◌, ◌<◌, ◌≤◌, List, [], ◌∷◌, ◌++◌, map, length, take, drop, sym, ap, subst, ◌∙◌, arith, take-suc, length-append}
use Rattle.std.proofs.lemmas.List.{length-take-le, map-append}
use Rattle.tv_lemmas.specs.Members.{Each}
use Rattle.tv_value.specs.Values.{Name}
use Rattle.tv_value.specs.Strategies.{Strategy}
use Rattle.tv_strategy.specs.Conditions.{number_of}
use Rattle.tv_strategy.specs.Measures.{strategy_depth}
use Rattle.tv_strategy.proofs.Sources.{each-append}
use Rattle.tv_matching.specs.Members.{Once}
use Rattle.tv_matching.specs.Told.{Told, told_to, matched_after, IsFit, IsNew}
use Rattle.tv_matching.specs.Matchers.{Matching, out as out_of, CanTell, IsTold, IsFreed}
use Rattle.tv_matching.proofs.Lists.{each-map}
use Rattle.tv_matching.proofs.Permutes.{perm-from}
use Rattle.tv_matching.proofs.LawLemmas.{new-is_once}
use Rattle.tv_match.specs.Entries.{Entry, no_entry, entry_at, front, AreMore}
use Rattle.tv_match.specs.Filed.{Filed}
use Rattle.tv_match.specs.Working.{IsDone}
use Rattle.tv_match.specs.Seen.{telling_of, tellings_of, outcome_of, seen_as, AreSound, IsProper}
use Rattle.tv_match.proofs.Fronts.{early-in_front, front-first, front-short, front-again, front-longer, more-late}
use Rattle.tv_match.proofs.Putting.{from-next, past}
use Rattle.tv_match.proofs.Seeing.{telling-same, out-all, places-short}
use Rattle.tv_match.proofs.Working.{take-less, take-within}

pub each-take : {A : Type 0} (P : A → Type 0) (n : ℕ) (xs : List A) → Each P xs → Each P (take n xs)
each-take P zero xs h = tt
each-take P (suc n) [] h = tt
each-take P (suc n) (x ∷ xs) h = (h.0, each-take P n xs h.1)

heads : {A : Type 0} (x y : A) (xs ys : List A) → x ∷ xs ≡ y ∷ ys → x ≡ y
heads x y xs ys e = cc

-- a telling is judged by what was told and what has come out
pub told-from : (t : Told) (m k n : Matching) → k.strategy ≡ m.strategy → k.mismatch ≡ m.mismatch → k.told ≡ m.told → k.given ≡ m.given → IsTold t k n → IsTold t m n
told-from t m k n a b c d h =
    record {
      strategy_is = h.strategy_is ∙ a;
      mismatch_is = h.mismatch_is ∙ b;
      told_is = subst (λ l. IsPermutation n.told (l ++ t ∷ [])) c h.told_is;
      given_is = h.given_is ∙ d;
    }

module _ (s : Strategy) (mm : List (Name × ℕ)) where
  -- ---- the next held telling is made

  module _ (root : Filed) (log out : List Entry) (n g : ℕ) (e : Entry) (a : AreSound s mm root log out n g) (h : n < length log) (q : entry_at log n ≡ e) where
    one-more : tellings_of s (take (n + 1) log) ≡ tellings_of s (take n log) ++ telling_of s e ∷ []
    one-more =
        ap (λ k. tellings_of s (take k log)) (plus n)
        ∙ ap (tellings_of s) (take-suc log n no_entry h)
        ∙ map-append (telling_of s) (take n log) (entry_at log n ∷ [])
        ∙ ap (λ x. tellings_of s (take n log) ++ telling_of s x ∷ []) q
      where
        plus : (n : ℕ) → n + 1 ≡ suc n
        plus n = omega arith

    pub next-sound : CanTell (seen_as s mm log out n g) (telling_of s e) → AreSound s mm root log out (n + 1) g
    next-sound c =
        record {
          suits = a.suits;
          agree = a.agree;
          fit = a.fit;
          once = λ p. subst (λ l. Once (told_to l p)) (sym one-more) (new-is_once (tellings_of s (take n log)) a.once (telling_of s e) c.1 p);
          proper = a.proper;
          done = a.done;
          told_within = omega (arith, h);
          given_within = let l = front-longer n (n + 1) (omega arith) out in let k = a.given_within in omega (arith, l, k);
        }

    pub next-told : IsTold (telling_of s e) (seen_as s mm log out n g) (seen_as s mm log out (n + 1) g)
    next-told = record { strategy_is = refl; mismatch_is = refl; told_is = perm-from _ _ one-more; given_is = refl }

  pub held-head : (log : List Entry) (n : ℕ) (t : Told) (rest : List Told) → n < length log → tellings_of s (drop n log) ≡ t ∷ rest → telling_of s (entry_at log n) ≡ t
  held-head log n t rest h e = heads (telling_of s (entry_at log n)) t (tellings_of s (drop (n + 1) log)) rest (sym (ap (tellings_of s) (from-next log n h)) ∙ e)

  pub held-there : (log : List Entry) (n : ℕ) (t : Told) (rest : List Told) → length log ≤ n → tellings_of s (drop n log) ≡ t ∷ rest → ⊥
  held-there log n t rest h e = none-there (sym (ap (tellings_of s) (past log n h)) ∙ e)
    where
      none-there : [] ≡ t ∷ rest → ⊥
      none-there f = absurd (cc)

  -- ---- what was held is taken back

  module _ (root next : Filed) (log out : List Entry) (n g : ℕ) (a : AreSound s mm root log out n g) where
    same-told : take n (take n log) ≡ take n log
    same-told = take-less n n log (omega arith)

    pub back-sound : IsDone (number_of mm) s next (take n log) (front n out) → AreSound s mm next (take n log) (front n out) n g
    back-sound d =
        record {
          suits = a.suits;
          agree = a.agree;
          fit = each-take (λ e. IsFit (number_of mm) (telling_of s e)) n log a.fit;
          once = λ p. subst (λ l. Once (told_to (tellings_of s l) p)) (sym same-told) (a.once p);
          proper = each-take (IsProper s) n log a.proper;
          done = d;
          told_within = let l = length-take-le n log a.told_within in omega (arith, l);
          given_within = subst (λ l. g ≤ length l) (sym (front-again n out)) a.given_within;
        }

    pub back-freed : IsFreed (seen_as s mm log out n g) (seen_as s mm (take n log) (front n out) n g)
    back-freed =
        record {
          strategy_is = refl;
          mismatch_is = refl;
          told_is = ap (tellings_of s) same-told;
          held_is = ap (tellings_of s) (past (take n log) n (let l = length-take-le n log a.told_within in omega (arith, l)));
          given_is = ap (map outcome_of) (ap (take g) (sym (front-first n out)) ∙ take-less g (length (front n out)) out a.given_within);
        }

  -- ---- one more is listed

  module _ (root next : Filed) (log more out outs : List Entry) (n g : ℕ) (e : Entry) (a : AreSound s mm root log out n g) (l : n ≡ length log) (m : more ≡ log ++ e ∷ []) (b : AreMore (length log + 1) out outs) where
    same-first : take n more ≡ take n log
    same-first = ap (take n) m ∙ take-within n log (e ∷ []) (omega (arith, l))

    same-front : front n outs ≡ front n out
    same-front = more-late n (length log + 1) out outs (omega (arith, l)) b

    pub listed-sound : IsProper s e → IsFit (number_of mm) (telling_of s e) → IsDone (number_of mm) s next more outs → AreSound s mm next more outs n g
    listed-sound p f d =
        record {
          suits = a.suits;
          agree = a.agree;
          fit = subst (Each (λ e. IsFit (number_of mm) (telling_of s e))) (sym m) (each-append (λ e. IsFit (number_of mm) (telling_of s e)) log (e ∷ []) a.fit (f, tt));
          once = λ q. subst (λ x. Once (told_to (tellings_of s x) q)) (sym same-first) (a.once q);
          proper = subst (Each (IsProper s)) (sym m) (each-append (IsProper s) log (e ∷ []) a.proper (p, tt));
          done = d;
          told_within = let k = ap length m in let j = length-append log (e ∷ []) in omega (arith, k, j, l);
          given_within = subst (λ x. g ≤ length x) (sym same-front) a.given_within;
        }

    pub listed-told : tellings_of s (take n more) ≡ tellings_of s (take n log)
    listed-told = ap (tellings_of s) same-first

    pub listed-given : map outcome_of (take g outs) ≡ map outcome_of (take g out)
    listed-given = ap (map outcome_of) (ap (take g) b.new_is ∙ take-within g out b.more (let k = front-longer n n (omega arith) out in let j = front-within n out in let i = a.given_within in omega (arith, i, j)))
      where
        front-within : (n : ℕ) (es : List Entry) → length (front n es) ≤ length es
        front-within n es = front-short n es

-- ---- a telling that is not the next held one

module _ (s : Strategy) (mm : List (Name × ℕ)) (root : Filed) (log out : List Entry) (n g : ℕ) (e : Entry) (a : AreSound s mm root log out n g) (p : IsProper s e) where
  -- it isn't the first that is held
  pub not-held : ((n < length log) × (entry_at log n ≡ e) → ⊥) → (rest : List Told) → tellings_of s (drop n log) ≡ telling_of s e ∷ rest → ⊥
  not-held other rest h = by (lt_or n (length log))
    where
      lt_or : (i j : ℕ) → (i < j) ⊎ (j ≤ i)
      lt_or zero zero = inr (omega arith)
      lt_or zero (suc j) = inl (omega arith)
      lt_or (suc i) zero = inr (omega arith)
      lt_or (suc i) (suc j) = next (lt_or i j)
        where
          next : (i < j) ⊎ (j ≤ i) → (suc i < suc j) ⊎ (suc j ≤ suc i)
          next (inl k) = inl (omega (arith, k))
          next (inr k) = inr (omega (arith, k))

      proper-at : (es : List Entry) (i : ℕ) → Each (IsProper s) es → i < length es → IsProper s (entry_at es i)
      proper-at [] i h l = absurd (none i l)
        where
          none : (i : ℕ) → i < 0 → ⊥
          none i h = omega arith
      proper-at (f ∷ es) zero h l = h.0
      proper-at (f ∷ es) (suc i) h l = proper-at es i h.1 (omega (arith, l))

      by : (n < length log) ⊎ (length log ≤ n) → ⊥
      by (inl l) = other (l, telling-same s a.suits.leaves_differ (entry_at log n) e (proper-at log n a.proper l) p (held-head s mm log n (telling_of s e) rest l h))
      by (inr l) = held-there s mm log n (telling_of s e) rest l h

  module _ (one : Filed) (d : IsDone (number_of mm) s one (take n log) (front n out)) where
    long : n ≡ length (take n log)
    long = sym (length-take-le n log a.told_within)

    back : AreSound s mm one (take n log) (front n out) n g
    back = back-sound s mm root one log out n g a d

    -- it is worked, and made
    module _ (two : Filed) (more outs : List Entry) (m : more ≡ take n log ++ e ∷ []) (b : AreMore (length (take n log) + 1) (front n out) outs) (done : IsDone (number_of mm) s two more outs) (c : CanTell (seen_as s mm log out n g) (telling_of s e)) where
      listed : AreSound s mm two more outs n g
      listed = listed-sound s mm one two (take n log) more (front n out) outs n g e back long m b p c.0 done

      told-same : tellings_of s (take n more) ≡ tellings_of s (take n log)
      told-same = listed-told s mm one two (take n log) more (front n out) outs n g e back long m b ∙ (back-freed s mm root one log out n g a).told_is

      here : n < length more
      here = let k = ap length m in let j = length-append (take n log) (e ∷ []) in let l = long in omega (arith, k, j, l)

      at-end : entry_at more n ≡ e
      at-end = ap (λ es. entry_at es n) m ∙ ap (entry_at (take n log ++ e ∷ [])) long ∙ last (take n log)
        where
          last : (es : List Entry) → entry_at (es ++ e ∷ []) (length es) ≡ e
          last [] = refl
          last (f ∷ es) = last es

      can : CanTell (seen_as s mm more outs n g) (telling_of s e)
      can = (c.0, subst (λ l. IsNew l (telling_of s e)) (sym told-same) c.1)

      pub made-sound : AreSound s mm two more outs (n + 1) g
      made-sound = next-sound s mm two more outs n g e listed here at-end can

      pub made-told : IsTold (telling_of s e) (seen_as s mm log out n g) (seen_as s mm more outs (n + 1) g)
      made-told =
          told-from (telling_of s e) (seen_as s mm log out n g) (seen_as s mm more outs n g) (seen_as s mm more outs (n + 1) g) refl refl told-same
          (listed-given s mm one two (take n log) more (front n out) outs n g e back long m b ∙ (back-freed s mm root one log out n g a).given_is)
          (next-told s mm two more outs n g e listed here at-end)

    -- or memory was wanting, and what there is of it is taken back
    module _ (two three : Filed) (more outs log' out' : List Entry) (b : AreMore (length (take n log) + 1) (front n out) outs) (l : take (length (take n log)) more ≡ take n log) (k : log' ≡ take n more) (o : out' ≡ front n outs) (w : IsDone (number_of mm) s three log' out') where
      log-same : log' ≡ take n log
      log-same = k ∙ ap (λ i. take i more) long ∙ l

      out-same : out' ≡ front n out
      out-same = o ∙ more-late n (length (take n log) + 1) (front n out) outs (let i = long in omega (arith, i)) b ∙ front-again n out

      pub failed-sound : AreSound s mm three log' out' n g
      failed-sound =
          subst (λ x. AreSound s mm three x out' n g) (sym log-same)
          (subst (λ x. AreSound s mm three (take n log) x n g) (sym out-same)
          (back-sound s mm root three log out n g a (subst (λ x. IsDone (number_of mm) s three x (front n out)) log-same (subst (λ x. IsDone (number_of mm) s three log' x) out-same w))))

      pub failed-freed : IsFreed (seen_as s mm log out n g) (seen_as s mm log' out' n g)
      failed-freed =
          subst (λ x. IsFreed (seen_as s mm log out n g) (seen_as s mm x out' n g)) (sym log-same)
          (subst (λ x. IsFreed (seen_as s mm log out n g) (seen_as s mm (take n log) x n g)) (sym out-same) (back-freed s mm root three log out n g a))

-- ---- facts of calls, at equal lists

pub done-at : (ports : Name → ℕ) (s : Strategy) (one : Filed) (a b c d : List Entry) → a ≡ c → b ≡ d → IsDone ports s one a b → IsDone ports s one c d
done-at ports s one a b c d e f h = subst (λ x. IsDone ports s one x d) e (subst (λ x. IsDone ports s one a x) f h)

pub more-at : (a b c d outs : List Entry) → a ≡ c → b ≡ d → AreMore (length a + 1) b outs → AreMore (length c + 1) d outs
more-at a b c d outs e f h = subst (λ x. AreMore (length x + 1) d outs) e (subst (λ x. AreMore (length a + 1) x outs) f h)

pub listed-at : (a c more : List Entry) → a ≡ c → take (length a) more ≡ a → take (length c) more ≡ c
listed-at a c more e h = subst (λ x. take (length x) more ≡ x) e h

pub listed-long : (a more : List Entry) → take (length a) more ≡ a → length a ≤ length more
listed-long a more h = let k = ap length h in let l = short (length a) more in omega (arith, k, l)
  where
    short : (n : ℕ) (xs : List Entry) → length (take n xs) ≤ length xs
    short zero xs = omega arith
    short (suc n) [] = omega arith
    short (suc n) (x ∷ xs) = let r = short n xs in omega (arith, r)

pub first-long : (n : ℕ) (a log : List Entry) → n ≤ length log → a ≡ take n log → n ≤ length a
first-long n a log h e = let k = ap length e in let l = length-take-le n log h in omega (arith, k, l)

pub listed-count : (n : ℕ) (log more : List Entry) (e : Entry) → n ≤ length log → more ≡ take n log ++ e ∷ [] → length more ≡ n + 1
listed-count n log more e h m = let k = ap length m in let j = length-append (take n log) (e ∷ []) in let l = length-take-le n log h in omega (arith, k, j, l)

-- what was told is fit
pub told-fit : (s : Strategy) (mm : List (Name × ℕ)) (root : Filed) (log out : List Entry) (n g : ℕ) → AreSound s mm root log out n g → Each (IsFit (number_of mm)) (tellings_of s (take n log))
told-fit s mm root log out n g a = each-map (IsFit (number_of mm)) (telling_of s) (take n log) (each-take (λ e. IsFit (number_of mm) (telling_of s e)) n log a.fit)

-- ---- what has come out

module _ (s : Strategy) (mm : List (Name × ℕ)) (root : Filed) (log out : List Entry) (n g : ℕ) (a : AreSound s mm root log out n g) where
  pub gave-all : length (front n out) ≤ g → IsPermutation (map outcome_of (take g out)) (map (out_of s) (matched_after s (tellings_of s (take n log))))
  gave-all h =
      let l = a.given_within in
      let e : g ≡ length (front n out) = omega (arith, h, l) in
      subst (λ xs. IsPermutation (map outcome_of xs) (map (out_of s) (matched_after s (tellings_of s (take n log))))) (sym (ap (λ k. take k out) e ∙ front-first n out))
      (out-all s a.suits.leaves_differ (number_of mm) a.agree (take n log) (front n out) (each-take (IsProper s) n log a.proper) (each-take (λ e. IsFit (number_of mm) (telling_of s e)) n log a.fit) (a.done.worked.items n a.told_within))

  -- the next one comes out
  pub given-sound : g < length out → (entry_at out g).number ≤ n → AreSound s mm root log out n (g + 1)
  given-sound h k =
      record {
        suits = a.suits;
        agree = a.agree;
        fit = a.fit;
        once = a.once;
        proper = a.proper;
        done = a.done;
        told_within = a.told_within;
        given_within = let l = early-in_front n out g h k in omega (arith, l);
      }

-- ---- where what was held is let go

pub freed-at : (s : Strategy) (mm : List (Name × ℕ)) (root : Filed) (log out log' out' : List Entry) (n g : ℕ) → AreSound s mm root log out n g → log' ≡ take n log → out' ≡ front n out → IsFreed (seen_as s mm log out n g) (seen_as s mm log' out' n g)
freed-at s mm root log out log' out' n g a k o =
    subst (λ x. IsFreed (seen_as s mm log out n g) (seen_as s mm x out' n g)) (sym k)
    (subst (λ x. IsFreed (seen_as s mm log out n g) (seen_as s mm (take n log) x n g)) (sym o) (back-freed s mm root root log out n g a))

pub back-sound_at : (s : Strategy) (mm : List (Name × ℕ)) (root next : Filed) (log out log' out' : List Entry) (n g : ℕ) → AreSound s mm root log out n g → log' ≡ take n log → out' ≡ front n out → IsDone (number_of mm) s next log' out' → AreSound s mm next log' out' n g
back-sound_at s mm root next log out log' out' n g a k o d =
    subst (λ x. AreSound s mm next x out' n g) (sym k)
    (subst (λ x. AreSound s mm next (take n log) x n g) (sym o)
    (back-sound s mm root next log out n g a (done-at (number_of mm) s next log' out' (take n log) (front n out) k o d)))

pub back-log : (n : ℕ) (log mid more : List Entry) → n ≤ length log → mid ≡ take n log → take (length mid) more ≡ mid → take n more ≡ take n log
back-log n log mid more h e l = ap (λ i. take i more) (sym (ap length e ∙ length-take-le n log h)) ∙ l ∙ e

pub back-out : (n : ℕ) (out mid outs : List Entry) → mid ≡ front n out → front n outs ≡ front n mid → front n outs ≡ front n out
back-out n out mid outs e f = f ∙ ap (front n) e ∙ front-again n out

-- ---- the place of what comes out

module _ (s : Strategy) (mm : List (Name × ℕ)) (root : Filed) (log out : List Entry) (n g : ℕ) (a : AreSound s mm root log out n g) where
  taken-at : (k : ℕ) (es : List Entry) (i : ℕ) → i < k → entry_at (take k es) i ≡ entry_at es i
  taken-at zero es i h = absurd (none i h)
    where
      none : (i : ℕ) → i < 0 → ⊥
      none i h = omega arith
  taken-at (suc k) [] i h = refl
  taken-at (suc k) (e ∷ es) zero h = refl
  taken-at (suc k) (e ∷ es) (suc i) h = taken-at k es i (omega (arith, h))

  pub next-short : g < length out → (entry_at out g).number ≤ n → length (entry_at out g).place ≤ strategy_depth (number_of mm) s
  next-short h k =
      let l = early-in_front n out g h k in
      let at : entry_at (front n out) g ≡ entry_at out g = ap (λ es. entry_at es g) (sym (front-first n out)) ∙ taken-at (length (front n out)) out g l in
      subst (λ (e : Entry). length e.place ≤ strategy_depth (number_of mm) s) at
      (places-short s (number_of mm) a.suits.leaves_differ (take n log) (front n out) (each-take (IsProper s) n log a.proper) (each-take (λ e. IsFit (number_of mm) (telling_of s e)) n log a.fit) a.once a.agree (a.done.worked.items n a.told_within) g l)
