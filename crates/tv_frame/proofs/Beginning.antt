-- Steps that begin, one after the other.
use Rattle.std.specs.List.{range_with_len}
use Rattle.std.specs.Option.{option_map_or}
use Rattle.std.specs.Prelude.{◌≡◌, ◌⊎◌, refl, ℕ, zero, suc, ◌+◌, ◌<◌, ◌≤◌, ◌==◌, Bool, true, false, List, [], ◌∷◌, ◌++◌, IsPermutation, drop, flat_map, if◌then◌else◌, length, map, Option, Some, None, slice_get}
use Rattle.std.proofs.Common.{arith, sym, ap, subst, ◌∙◌, append-nil, append_assoc, eq-eqb, eqb-true, inl, inr, length-append, ne_of_lt}
use Rattle.std.proofs.Math.Seq.{drop-append_seam}
use Rattle.std.proofs.lemmas.List.Sorted.{IsPermutation-refl, IsPermutation-trans}
use Rattle.std.proofs.lemmas.Option.{slice_get_past}
use Rattle.tv_lemmas.specs.Members.{In}
use Rattle.tv_value.specs.Nested.{Place}
use Rattle.tv_value.specs.Strategies.{Strategy}
use Rattle.tv_value.specs.Values.{Name}
use Rattle.tv_flow.specs.Flows.{Flow, Step}
use Rattle.tv_lemmas.proofs.Cases.{on_either}
use Rattle.tv_lemmas.proofs.Lists.{in-front, in-behind}
use Rattle.tv_model.specs.instance.Steps.{strategy_of}
use Rattle.tv_check.specs.Ports.{mismatches}
use Rattle.tv_matching.specs.Matchers.{Outcome, fault_at, job_at, list_at}
use Rattle.tv_matching.specs.Told.{Told}
use Rattle.tv_match.specs.declared.matchers.Matcher.{Matcher}
use Rattle.tv_match.specs.Seen.{in_order, matching}
use Rattle.tv_intake.specs.declared.intakes.Intakes.{Intakes}
use Rattle.tv_intake.specs.Intaken.{AreIntaken, IsStartedAt, IsToldAt, OthersStay, followed_at, known_jobs, matcher_at, waiting_things}
use Rattle.tv_intake.specs.Sorting.{job_places, others_among}
use Rattle.tv_idle.specs.Idles.{Idles, StepIdle, of_step}
use Rattle.tv_idle.specs.Kept.{IsKept}
use Rattle.tv_spread.specs.Spreads.{faulty_now_at, is_faulty_now, with_all_new}
use Rattle.tv_spread.proofs.AddingLemmas.{all-many}
use Rattle.tv_framing.specs.turns.IdleJobs.{IsIdle}
use Rattle.tv_frame.specs.Started.{AllAreIdle, HasBegun, HaveBegun, but_at}
use Rattle.tv_check.specs.Tables.{step_level}
use Rattle.tv_frame.proofs.Added.{IsNew, all-known, all-levels, all-new, all-of, all-placed, all-stay, queue}

-- ---- lists

module _ {A : Type 0} where
  in-both : (xs ys : List A) (n : ℕ) (x : A) → slice_get (xs ++ ys) n ≡ Some x → (slice_get xs n ≡ Some x) ⊎ ((p : ℕ) × ((n ≡ length xs + p) × (slice_get ys p ≡ Some x)))
  in-both [] ys n x e = let m : n ≡ 0 + n = omega arith in inr (n, (m, e))
  in-both (y ∷ xs) ys zero x e = inl e
  in-both (y ∷ xs) ys (suc n) x e = on_either (in-both xs ys n x e) (λ h. inl h) (λ h. inr (h.0, (more n (length xs) h.0 h.1.0, h.1.1)))
    where
      more : (n l p : ℕ) → n ≡ l + p → suc n ≡ suc l + p
      more n l p e = omega (arith, e)

  range-more : (g : ℕ → List A) (a n : ℕ) → flat_map g (range_with_len a (suc n)) ≡ flat_map g (range_with_len a n) ++ g (a + n)
  range-more g a zero = let m : a ≡ a + 0 = omega arith in append-nil (g a) ∙ ap g m
  range-more g a (suc n) =
      let m : (a + 1) + n ≡ a + suc n = omega arith in
      ap (λ l. g a ++ l) (range-more g (a + 1) n ∙ ap (λ j. flat_map g (range_with_len (a + 1) n) ++ g j) m)
      ∙ sym (append_assoc (g a) (flat_map g (range_with_len (a + 1) n)) (g (a + suc n)))

  range-same : (g h : ℕ → List A) (a n : ℕ) → ((k : ℕ) → a ≤ k → k < a + n → g k ≡ h k) → flat_map g (range_with_len a n) ≡ flat_map h (range_with_len a n)
  range-same g h a zero e = refl
  range-same g h a (suc n) e =
      let le : a ≤ a = omega arith in
      let lt : a < a + suc n = omega arith in
      ap (λ l. l ++ flat_map g (range_with_len (a + 1) n)) (e a le lt)
      ∙ ap (λ l. h a ++ l) (range-same g h (a + 1) n (λ k p q. e k (omega (arith, p)) (omega (arith, q))))

  pub range-next : (g : ℕ → List A) (n : ℕ) → flat_map g (range_with_len 0 (n + 1)) ≡ flat_map g (range_with_len 0 n) ++ g n
  range-next g n = let m : n + 1 ≡ suc n = omega arith in let z : 0 + n ≡ n = omega arith in ap (λ k. flat_map g (range_with_len 0 k)) m ∙ range-more g 0 n ∙ ap (λ k. flat_map g (range_with_len 0 n) ++ g k) z

  -- what comes from all steps, where the last brings more
  pub lists-more : (g h : ℕ → List A) (count : ℕ) (before part new after : List A) → before ≡ flat_map g (range_with_len 0 count) ++ part → ((k : ℕ) → k < count → g k ≡ h k) → h count ≡ part ++ new → after ≡ before ++ new → after ≡ flat_map h (range_with_len 0 (count + 1))
  lists-more g h count before part new after b same last e =
      e ∙ ap (λ l. l ++ new) b ∙ append_assoc (flat_map g (range_with_len 0 count)) part new
      ∙ ap (λ l. l ++ (part ++ new)) (range-same g h 0 count (λ k p q. same k (omega (arith, q))))
      ∙ ap (λ l. flat_map h (range_with_len 0 count) ++ l) (sym last)
      ∙ sym (range-next h count)

-- ---- idle jobs

-- the same jobs are idle, with other rooms and maybe more steps
pub record HasSameJobs (idle mid : Idles) : Type 0 where
  pub known : mid.known ≡ idle.known
  pub good : (c : ℕ) → (of_step mid.steps c).good ≡ (of_step idle.steps c).good
  pub faulty : (c : ℕ) → (of_step mid.steps c).faulty ≡ (of_step idle.steps c).faulty

module _ (i j : Intakes) (idle mid : Idles) (js : List (ℕ × Place)) (h : AllAreIdle i idle) (same : HasSameJobs idle mid) (more : known_jobs j ≡ known_jobs i ++ js) (within : (p : ℕ) (x : ℕ × Place) → slice_get js p ≡ Some x → x.0 < length mid.steps) (flags : (p n : ℕ) (q : Place) → slice_get (known_jobs i) p ≡ Some (n, q) → is_faulty_now j (n, q) ≡ is_faulty_now i (n, q)) where
  abbrev flag : ℕ × Place → Bool
  flag = is_faulty_now j

  abbrev now : Idles
  now = with_all_new flag js mid

  numbers : mid.known ≡ length (known_jobs i)
  numbers = same.known ∙ h.known

  stays : (c : ℕ) (k : ℕ × Place) → IsIdle idle.steps c k → IsIdle now.steps c k
  stays c k (inl a) = inl (all-stay flag js mid false c k (subst (In k) (sym (same.good c)) a))
  stays c k (inr a) = inr (all-stay flag js mid true c k (subst (In k) (sym (same.faulty c)) a))

  new-one : (n p : ℕ) (x : ℕ × Place) → n ≡ length (known_jobs i) + p → slice_get js p ≡ Some x → IsIdle now.steps x.0 (n, x.1)
  new-one n p x e there = by (flag x) refl
    where
      place : mid.known + p ≡ n
      place = ap (λ m. m + p) numbers ∙ sym e

      by : (b : Bool) → flag x ≡ b → IsIdle now.steps x.0 (n, x.1)
      by true g = inr (subst (λ m. In (m, x.1) (of_step now.steps x.0).faulty) place (subst (λ b. In (mid.known + p, x.1) (queue b (of_step now.steps x.0))) g (all-new flag js mid p x there (within p x there))))
      by false g = inl (subst (λ m. In (m, x.1) (of_step now.steps x.0).good) place (subst (λ b. In (mid.known + p, x.1) (queue b (of_step now.steps x.0))) g (all-new flag js mid p x there (within p x there))))

  from-new : (b : Bool) (c : ℕ) (k : ℕ × List ℕ) → IsNew flag js mid.known b c k → slice_get (known_jobs j) k.0 ≡ Some (c, k.1)
  from-new b c k w =
      let at : k.0 ≡ length (known_jobs i) + w.at = w.number ∙ ap (λ m. m + w.at) numbers in
      ap (λ l. slice_get l k.0) more ∙ ap (slice_get (known_jobs i ++ js)) at ∙ in-behind (known_jobs i) js w.at ∙ w.there

  from-old : (c : ℕ) (k : ℕ × List ℕ) → IsIdle idle.steps c k → slice_get (known_jobs j) k.0 ≡ Some (c, k.1)
  from-old c k a = ap (λ l. slice_get l k.0) more ∙ in-front (known_jobs i) js k.0 (c, k.1) (h.none_else c k a)

  old-flag : (c : ℕ) (k : ℕ × List ℕ) → IsIdle idle.steps c k → flag (c, k.1) ≡ is_faulty_now i (c, k.1)
  old-flag c k a = flags k.0 c k.1 (h.none_else c k a)

  placed : (c : ℕ) → IsKept (λ n. false) now.known (of_step now.steps c).good × IsKept (λ n. false) now.known (of_step now.steps c).faulty
  placed c =
      let p = all-placed flag js mid (λ d. record {
        good = subst (λ l. IsKept (λ n. false) mid.known l) (sym (same.good d)) (subst (λ m. IsKept (λ n. false) m (of_step idle.steps d).good) (sym same.known) (h.good_kept d));
        faulty = subst (λ l. IsKept (λ n. false) mid.known l) (sym (same.faulty d)) (subst (λ m. IsKept (λ n. false) m (of_step idle.steps d).faulty) (sym same.known) (h.faulty_kept d));
      }) c in
      (p.good, p.faulty)

  pub added-idle : AllAreIdle j (with_all_new (is_faulty_now j) js mid)
  added-idle = record {
    known = all-known flag js mid ∙ ap (λ m. m + length js) numbers ∙ sym (ap length more ∙ length-append (known_jobs i) js);
    good_kept = λ c. (placed c).0;
    faulty_kept = λ c. (placed c).1;
    all = λ n x e. on_either (in-both (known_jobs i) js n x (ap (λ l. slice_get l n) (sym more) ∙ e)) (λ a. stays x.0 (n, x.1) (h.all n x a)) (λ a. new-one n a.0 x a.1.0 a.1.1);
    none_else = λ c k a. on_either a
        (λ g. on_either (all-of flag js mid false c k g) (λ w. from-new false c k w) (λ o. from-old c k (inl (subst (In k) (same.good c) o))))
        (λ g. on_either (all-of flag js mid true c k g) (λ w. from-new true c k w) (λ o. from-old c k (inr (subst (In k) (same.faulty c) o))));
    good = λ c k g. on_either (all-of flag js mid false c k g) (λ w. w.flag) (λ o. let a = subst (In k) (same.good c) o in old-flag c k (inl a) ∙ h.good c k a);
    faulty = λ c k g. on_either (all-of flag js mid true c k g) (λ w. w.flag) (λ o. let a = subst (In k) (same.faulty c) o in old-flag c k (inr a) ∙ h.faulty c k a);
  }

-- ---- what follows at other steps stays

followed-same : (i j : Intakes) (c : ℕ) → OthersStay c i j → (k : ℕ) → (k ≡ c → ⊥) → followed_at i k ≡ followed_at j k
followed-same i j c o k ne = ap (λ m. option_map_or in_order m []) (sym (o k ne))

pub places-both : (xs ys : List Outcome) → job_places (xs ++ ys) ≡ job_places xs ++ job_places ys
places-both [] ys = refl
places-both (job_at q ∷ xs) ys = ap (λ l. q ∷ l) (places-both xs ys)
places-both (list_at q n ∷ xs) ys = places-both xs ys
places-both (fault_at q l ∷ xs) ys = places-both xs ys

pub others-both : (xs ys : List Outcome) → others_among (xs ++ ys) ≡ others_among xs ++ others_among ys
others-both [] ys = refl
others-both (job_at q ∷ xs) ys = others-both xs ys
others-both (list_at q n ∷ xs) ys = ap (λ l. list_at q n ∷ l) (others-both xs ys)
others-both (fault_at q l ∷ xs) ys = ap (λ m. fault_at q l ∷ m) (others-both xs ys)

abbrev pub jobs_at : Intakes → ℕ → List (ℕ × Place)
jobs_at i n = map (λ q. (n, q)) (job_places (followed_at i n))

abbrev pub things_at : Intakes → ℕ → List (ℕ × Outcome)
things_at i n = map (λ o. (n, o)) (others_among (followed_at i n))

mapped-there : {A B : Type 0} (g : A → B) (xs : List A) (p : ℕ) (y : B) → slice_get (map g xs) p ≡ Some y → (x : A) × (y ≡ g x)
mapped-there g [] p y e = cc
mapped-there g (x ∷ xs) zero y e = let f : g x ≡ y = cc in (x, sym f)
mapped-there g (x ∷ xs) (suc p) y e = mapped-there g xs p y e

pub own-steps : (count : ℕ) (qs : List Place) (n : ℕ) → count < n → (p : ℕ) (x : ℕ × Place) → slice_get (map (λ q. (count, q)) qs) p ≡ Some x → x.0 < n
own-steps count qs n lt p x e =
    let m = mapped-there (λ (q : Place). (count, q)) qs p x e in
    subst (λ k. k < n) (sym (ap (λ (y : ℕ × Place). y.0) m.1)) lt

one-longer : {A : Type 0} (xs : List A) (n : ℕ) (x : A) → slice_get xs n ≡ Some x → slice_get xs (suc n) ≡ None → length xs ≡ suc n
one-longer [] n x e g = cc
one-longer (y ∷ []) zero x e g = refl
one-longer (y ∷ z ∷ xs) zero x e g = cc
one-longer (y ∷ xs) (suc n) x e g = ap suc (one-longer xs n x e g)

pub idle-within : (ss : List StepIdle) (k : ℕ) (j : ℕ × List ℕ) → IsIdle ss k j → k < length ss
idle-within [] k j (inl h) = absurd h
idle-within [] k j (inr h) = absurd h
idle-within (s ∷ ss) zero j h = omega arith
idle-within (s ∷ ss) (suc k) j h = omega (arith, idle-within ss k j h)

-- ---- a step more

-- a matcher that was told nothing
pub started-none : (st : Strategy) (mm : List (Name × ℕ)) (o : Option Matcher) → IsStartedAt st mm o → IsToldAt st mm [] o
started-none st mm None w = absurd w
started-none st mm (Some m) w = record { strategy_is = w.strategy_is; mismatch_is = w.mismatch_is; told = subst (λ l. IsPermutation l []) (sym w.told_is) (IsPermutation-refl []); held = w.held_is }

module _ (tells : ℕ → Step → List Told) (count : ℕ) (s : Step) where
  pub but-own : IsPermutation [] (but_at count tells count s)
  but-own = subst (λ b. IsPermutation [] (if b then [] else tells count s)) (sym (eq-eqb count count refl)) (IsPermutation-refl [])

  pub but-other : (n : ℕ) → (n ≡ count → ⊥) → but_at count tells n s ≡ tells n s
  but-other n ne = by (n == count) refl
    where
      by : (b : Bool) → (n == count) ≡ b → (if b then [] else tells n s) ≡ tells n s
      by true g = absurd (ne (eqb-true n count g))
      by false g = refl

-- the intakes before and after a step was added that was told this
pub record IsAdded (count : ℕ) (st : Strategy) (mm : List (Name × ℕ)) (ts : List Told) (i j : Intakes) : Type 0 where
  pub told : IsToldAt st mm ts (matcher_at j count)
  pub others : OthersStay count i j
  pub jobs : known_jobs j ≡ known_jobs i ++ jobs_at j count
  pub waiting : waiting_things j ≡ waiting_things i ++ things_at j count
  pub intaken : AreIntaken j

module _ (f : Flow) (tells : ℕ → Step → List Told) (count : ℕ) (i j : Intakes) (idle mid : Idles) (s : Name × Step) (st : Strategy) (mm : List (Name × ℕ)) (ts : List Told) (goes : ℕ → Step → List Told) (h : HaveBegun f tells count i idle) (at : slice_get f.steps count ≡ Some s) (st_is : st ≡ strategy_of s.1) (mm_is : mm ≡ mismatches f s.1) (own_goes : IsPermutation ts (goes count s.1)) (other_goes : (n : ℕ) (t : Step) → (n ≡ count → ⊥) → goes n t ≡ tells n t) (a : IsAdded count st mm ts i j) (same : HasSameJobs idle mid) (many : length mid.steps ≡ count + 1) (levels : (n : ℕ) → n < count → (of_step mid.steps n).levels ≡ (of_step idle.steps n).levels) (last : (of_step mid.steps count).levels ≡ step_level f s.1) where
  own : (t : Name × Step) (n : ℕ) → slice_get f.steps n ≡ Some t → n ≡ count → t ≡ s
  own t n e is = let g : Some t ≡ Some s = sym e ∙ ap (slice_get f.steps) is ∙ at in cc

  started-told : (o : Option Matcher) → IsToldAt st mm ts o → HasBegun f s.1 (goes count s.1) o
  started-told None w = absurd w
  started-told (Some m) w = record { strategy_is = w.strategy_is ∙ st_is; mismatch_is = w.mismatch_is ∙ mm_is; told = IsPermutation-trans (matching m).told ts (goes count s.1) w.told own_goes; held = w.held }

  there : (o : Option Matcher) → IsToldAt st mm ts o → matcher_at j count ≡ o → length j.matchers.items ≡ count + 1
  there None w e = absurd w
  there (Some m) w e = one-longer j.matchers.items count m e (a.others (suc count) (next count) ∙ slice_get_past i.matchers.items (suc count) (let n = h.as_many in omega (arith, n))) ∙ plus count
    where
      next : (c : ℕ) → suc c ≡ c → ⊥
      next c p = omega (arith, p)

      plus : (c : ℕ) → suc c ≡ c + 1
      plus c = omega arith

  flags-stay : (p n : ℕ) (q : Place) → slice_get (known_jobs i) p ≡ Some (n, q) → is_faulty_now j (n, q) ≡ is_faulty_now i (n, q)
  flags-stay p n q e =
      let lt : n < count = subst (λ m. n < m) h.steps (idle-within idle.steps n (p, q) (h.idle_are.all p (n, q) e)) in
      ap (λ o. faulty_now_at o q) (a.others n (ne_of_lt {a = n} {b = count} lt))

  pub step-begun : (now : Idles) → now ≡ with_all_new (is_faulty_now j) (drop (length (known_jobs i)) (known_jobs j)) mid → HaveBegun f goes (count + 1) j now
  step-begun now is = subst (HaveBegun f goes (count + 1) j) (sym (is ∙ ap (λ l. with_all_new (is_faulty_now j) l mid) (ap (drop (length (known_jobs i))) a.jobs ∙ drop-append_seam (known_jobs i) (jobs_at j count)))) begun
    where
      lt : count < length mid.steps
      lt = let m = many in omega (arith, m)

      matchers : (n : ℕ) (t : Name × Step) → n < count + 1 → slice_get f.steps n ≡ Some t → HasBegun f t.1 (goes n t.1) (matcher_at j n)
      matchers n t low e = by (n == count) refl
        where
          not-both : (b : Bool) → b ≡ false → b ≡ true → ⊥
          not-both b p q = cc

          below : (n c : ℕ) → n < c + 1 → (n ≡ c → ⊥) → n < c
          below n c p q = omega (arith, p, q)

          by : (b : Bool) → (n == count) ≡ b → HasBegun f t.1 (goes n t.1) (matcher_at j n)
          by true g =
              let is : n ≡ count = eqb-true n count g in
              subst (λ (u : Name × Step). HasBegun f u.1 (goes n u.1) (matcher_at j n)) (sym (own t n e is)) (subst (λ m. HasBegun f s.1 (goes m s.1) (matcher_at j m)) (sym is) (started-told (matcher_at j count) a.told))
          by false g =
              let ne : n ≡ count → ⊥ = λ is. not-both (n == count) g (eq-eqb n count is) in
              subst (HasBegun f t.1 (goes n t.1)) (sym (a.others n ne)) (subst (λ l. HasBegun f t.1 l (matcher_at i n)) (sym (other_goes n t.1 ne)) (h.matchers n t (below n count low ne) e))

      begun : HaveBegun f goes (count + 1) j (with_all_new (is_faulty_now j) (jobs_at j count) mid)
      begun = record {
        intaken = a.intaken;
        as_many = there (matcher_at j count) a.told refl;
        matchers = matchers;
        jobs_are =
            lists-more (jobs_at i) (jobs_at j) count (known_jobs i) [] (jobs_at j count) (known_jobs j) (h.jobs_are ∙ sym (append-nil (flat_map (jobs_at i) (range_with_len 0 count))))
            (λ k low. ap (λ os. map (λ q. (k, q)) (job_places os)) (followed-same i j count a.others k (ne_of_lt {a = k} {b = count} low))) refl a.jobs;
        waiting_are =
            lists-more (things_at i) (things_at j) count (waiting_things i) [] (things_at j count) (waiting_things j) (h.waiting_are ∙ sym (append-nil (flat_map (things_at i) (range_with_len 0 count))))
            (λ k low. ap (λ os. map (λ o. (k, o)) (others_among os)) (followed-same i j count a.others k (ne_of_lt {a = k} {b = count} low))) refl a.waiting;
        steps = all-many (is_faulty_now j) (jobs_at j count) mid ∙ many;
        levels = λ n t low e. all-levels (is_faulty_now j) (jobs_at j count) mid n ∙ level n t low e;
        idle_are = added-idle i j idle mid (jobs_at j count) h.idle_are same a.jobs (own-steps count (job_places (followed_at j count)) (length mid.steps) lt) flags-stay;
      }
        where
          level : (n : ℕ) (t : Name × Step) → n < count + 1 → slice_get f.steps n ≡ Some t → (of_step mid.steps n).levels ≡ step_level f t.1
          level n t low e = by (n == count) refl
            where
              not-both : (b : Bool) → b ≡ false → b ≡ true → ⊥
              not-both b p q = cc

              below : (n c : ℕ) → n < c + 1 → (n ≡ c → ⊥) → n < c
              below n c p q = omega (arith, p, q)

              by : (b : Bool) → (n == count) ≡ b → (of_step mid.steps n).levels ≡ step_level f t.1
              by true g =
                  let is : n ≡ count = eqb-true n count g in
                  ap (λ m. (of_step mid.steps m).levels) is ∙ last ∙ ap (λ (u : Name × Step). step_level f u.1) (sym (own t n e is))
              by false g =
                  let low2 : n < count = below n count low (λ is. not-both (n == count) g (eq-eqb n count is)) in
                  levels n low2 ∙ h.levels n t low2 e
