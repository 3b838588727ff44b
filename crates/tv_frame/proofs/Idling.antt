-- The idle jobs of a frame once the touched steps have shown what they held.
use Rattle.std.specs.Option.{option_map_or}
use Rattle.std.specs.Prelude.{◌≡◌, refl, ℕ, zero, suc, ◌+◌, ◌<◌, ◌≤◌, ◌⊎◌, ◌==◌, ◌&&◌, ◌||◌, nat_lt, Bool, true, false, if◌then◌else◌, List, [], ◌∷◌, ◌++◌, length, map, Some, slice_get}
use Rattle.std.specs.Cmp.Lexicographic.{bytes_decides}
use Rattle.std.proofs.Common.{sym, ap, subst, ◌∙◌, arith, eq-eqb, inl, inr, length-append}
use Rattle.std.proofs.lemmas.Bool.{and_parts, cases_lt, true≢false, or_from, or_parts}
use Rattle.std.proofs.lemmas.Bool.Decides.{nat_tests}
use Rattle.std.proofs.lemmas.List.{length-map}
use Rattle.std.proofs.lemmas.Option.{slice_get_within}
use Rattle.tv_lemmas.specs.Members.{Each, In}
use Rattle.tv_lemmas.proofs.Members.{of-flat, of-map}
use Rattle.tv_value.specs.Nested.{Place}
use Rattle.tv_value.specs.Orders.{same_name}
use Rattle.tv_value.specs.Values.{Name}
use Rattle.tv_flow.specs.Flows.{Flow, Step}
use Rattle.tv_flow.specs.Formed.{is_ascending}
use Rattle.tv_lemmas.proofs.Cases.{on_either, on_test}
use Rattle.tv_lemmas.proofs.Lists.{get-map, get-within, in-front, in-behind, of-image}
use Rattle.tv_strategy.specs.Splits.{same_place}
use Rattle.tv_strategy.proofs.PlaceLemmas.{same-equal}
use Rattle.tv_naming.specs.Naming.{has_name}
use Rattle.tv_naming.specs.Numbers.{position}
use Rattle.tv_naming.proofs.ByPosition.{names_of}
use Rattle.tv_naming.proofs.FormedParts.{steps-ascend}
use Rattle.tv_matching.specs.Matchers.{Outcome, fault_at, job_at, list_at}
use Rattle.tv_matching.specs.Told.{Told}
use Rattle.tv_intake.specs.declared.intakes.Intakes.{Intakes}
use Rattle.tv_intake.specs.Intaken.{AreIntaken, CanShow, brought_at, known_jobs, matcher_at}
use Rattle.tv_intake.specs.Sorting as intake
use Rattle.tv_idle.specs.Idles.{Idles, StepIdle, none_idle, of_step}
use Rattle.tv_idle.specs.Kept.{are_below, starts_gone}
use Rattle.tv_spread.specs.Spreads.{MakeAll, binds_fault, is_faulty_now, new_jobs, new_places, with_all_new}
use Rattle.tv_spread.proofs.AddingLemmas.{all-many}
use Rattle.tv_spread.proofs.Showing.{made-faulty}
use Rattle.tv_model.specs.instance.Events as events
use Rattle.tv_model.specs.instance.Events.{Event, fault_set, gave, gives_at, has_result, is_taken, is_telling, takes_at, took}
use Rattle.tv_framing.specs.Answers.{numbered}
use Rattle.tv_framing.specs.Frames.{with_event}
use Rattle.tv_framing.specs.Views.{View}
use Rattle.tv_framing.specs.engine.WiredFlows.{IsWired}
use Rattle.tv_framing.proofs.engine.Endings.{position-of}
use Rattle.tv_framing.proofs.feeds.WholeSteps.{named-there}
use Rattle.tv_framing.specs.matches.Stated.{IsBrought}
use Rattle.tv_framing.specs.matches.Steps.{IsStepAt}
use Rattle.tv_lemmas.proofs.Members.{in-slice as at-in}
use Rattle.tv_framing.specs.turns.IdleJobs.{AreIdleOf, AreInOrder, IsIdle}
use Rattle.tv_frame.specs.Kept.{AreIdle, named_job, step_name}
use Rattle.tv_frame.specs.Prepared.{is_one_of}
use Rattle.tv_frame.specs.Shown.{IsRunning}
use Rattle.tv_frame.specs.Tables.{levels_in}
use Rattle.tv_frame.proofs.Added.{AreInPlace, IsNew, all-known, all-levels, all-new, all-of, all-placed, all-stay, queue}
use Rattle.tv_frame.proofs.Flags.{flag-kept, known-within}
use Rattle.tv_frame.proofs.NewJobs.{new-untold}
use Rattle.tv_frame.proofs.Shown.{brings, made-at}
use Rattle.tv_frame.proofs.ShownLists.{one-each}

-- ---- lists

-- an element behind, with its place there
record IsBehind {A : Type 0} (xs ys : List A) (m : ℕ) (x : A) : Type 0 where
  at : ℕ
  number : m ≡ length xs + at
  there : slice_get ys at ≡ Some x

split-get : {A : Type 0} (xs ys : List A) (m : ℕ) (x : A) → slice_get (xs ++ ys) m ≡ Some x → (slice_get xs m ≡ Some x) ⊎ IsBehind xs ys m x
split-get [] ys m x e = inr (record { at = m; number = omega arith; there = e })
split-get (y ∷ xs) ys zero x e = inl e
split-get (y ∷ xs) ys (suc m) x e =
    on_either (split-get xs ys m x e) (λ h. inl h)
    (λ h. let n = h.number in inr (record { at = h.at; number = omega (arith, n); there = h.there }))

in-one : (cs : List ℕ) (c : ℕ) → In c cs → is_one_of cs c ≡ true
in-one [] c i = absurd i
in-one (d ∷ cs) c (inl e) = ap (λ b. b || is_one_of cs c) (eq-eqb d c (sym e))
in-one (d ∷ cs) c (inr i) = right (d == c) (is_one_of cs c) (in-one cs c i)
  where
    right : (a b : Bool) → b ≡ true → (a || b) ≡ true
    right true b h = refl
    right false b h = h

place-job : (q : Place) (os : List Outcome) → In q (intake.job_places os) → In (job_at q) os
place-job q [] i = absurd i
place-job q (job_at r ∷ os) (inl e) = inl (ap job_at e)
place-job q (job_at r ∷ os) (inr i) = inr (place-job q os i)
place-job q (list_at r n ∷ os) i = inr (place-job q os i)
place-job q (fault_at r l ∷ os) i = inr (place-job q os i)

below-all : (n : ℕ) (js : List (ℕ × List ℕ)) → ((j : ℕ × List ℕ) → In j js → j.0 < n) → are_below n js ≡ true
below-all n [] h = refl
below-all n (j ∷ js) h = first j.0 n (are_below n js) (h j (inl refl)) (below-all n js (λ k i. h k (inr i)))
  where
    first : (a n : ℕ) (b : Bool) → a < n → b ≡ true → (nat_lt a n && b) ≡ true
    first a n b l e = grind (arith, nat_tests)

-- ---- an event and idle jobs

module _ (v : View) (e : Event) (tells : is_telling e ≡ true) (runs : IsRunning v e) (s : Name) (q : Place) where
  not-takes : (d : Event) → is_telling d ≡ true → takes_at s q d ≡ false
  not-takes (gave t r vs) h = refl
  not-takes (events.closed t r n) h = refl
  not-takes (fault_set t r f) h = refl
  not-takes (took t r) h = absurd (true≢false (sym h))

  -- a job that gives runs
  not-gives : (d : Event) → IsRunning v d → is_taken v.events s q ≡ false → gives_at s q d ≡ false
  not-gives (gave t r vs) h free =
      on_test (gives_at s q (gave t r vs))
      (λ k.
      let p = and_parts (same_name s t) (same_place q r) k in
      let a : s ≡ t = (bytes_decides s t).0 p.0 in
      let b : q ≡ r = same-equal q r p.1 in
      absurd (true≢false (sym (ap (λ u. is_taken v.events u r) a ∙ h) ∙ (ap (is_taken v.events s) (sym b) ∙ free))))
      (λ k. k)
  not-gives (events.closed t r n) h free = refl
  not-gives (fault_set t r f) h free = refl
  not-gives (took t r) h free = refl

  stays-free : (is_taken v.events s q ≡ false) × (has_result v.events s q ≡ false) → (is_taken (e ∷ v.events) s q ≡ false) × (has_result (e ∷ v.events) s q ≡ false)
  stays-free h = (
    or_from (takes_at s q e) (is_taken v.events s q) (not-takes e tells) h.0,
    or_from (gives_at s q e) (has_result v.events s q) (not-gives e runs h.0) h.1,
  )

-- ---- all of it

-- what is used of a frame before and after
pub record Idling (flows : List (Name × Flow)) (v : View) (e : Event) (cs : List ℕ) (i j : Intakes) (idle : Idles) (made : MakeAll cs i j) : Type 0 where
  pub wired : IsWired v.flow
  pub tells : is_telling e ≡ true
  pub runs : IsRunning v e
  pub sound : AreIntaken i
  pub can : Each (λ c. CanShow (matcher_at i c)) cs
  pub within : Each (λ c. c < length v.flow.steps) cs
  pub as_many : length i.matchers.items ≡ length v.flow.steps
  pub jobs_are : v.jobs ≡ map (named_job v.flow) (known_jobs i)
  pub jobs : known_jobs j ≡ known_jobs i ++ new_jobs i cs
  pub before : AreIdle v i idle
  pub told : ℕ → List Told
  pub after : ℕ → List Told
  pub os : ℕ → List Outcome
  pub brought : IsBrought flows (levels_in v.flow) v e told after os (brings cs i j made)

module _ (flows : List (Name × Flow)) (v : View) (e : Event) (cs : List ℕ) (i j : Intakes) (idle : Idles) (made : MakeAll cs i j) (h : Idling flows v e cs i j idle made) where
  abbrev xs : List (ℕ × Place)
  xs = new_jobs i cs

  abbrev news : List (Name × Place)
  news = map (named_job v.flow) xs

  abbrev view : View
  view = with_event v e news

  abbrev now : Idles
  now = with_all_new (binds_fault i) xs idle

  known-many : length v.jobs ≡ idle.known
  known-many = ap length h.jobs_are ∙ length-map (known_jobs i) (named_job v.flow) ∙ sym h.before.known

  ascending : is_ascending (names_of v.flow.steps) ≡ true
  ascending = steps-ascend v.flow h.wired.formed

  -- ---- a new job

  pub record IsOfStep (x : ℕ × Place) : Type 0 where
    pub one : is_one_of cs x.0 ≡ true
    pub brought : In (job_at x.1) (brings cs i j made x.0)
    pub step : Name × Step
    pub at : IsStepAt v x.0 step

  new-of : (p : ℕ) (x : ℕ × Place) → slice_get xs p ≡ Some x → IsOfStep x
  new-of p x k =
      let a = of-flat (λ c. map (λ (q : Place). (c, q)) (new_places i c)) x cs (at-in xs p x k) in
      let b = of-map (λ (q : Place). (a.0, q)) x (new_places i a.0) a.2 in
      let one = in-one cs a.0 a.1 in
      let t = get-within v.flow.steps a.0 (one-each (λ c. c < length v.flow.steps) cs a.0 h.within one) in
      subst IsOfStep (sym b.2)
      (record {
        one = one;
        brought = subst (λ c. In (job_at b.0) (if c then brought_at i a.0 else [])) (sym one) (place-job b.0 (brought_at i a.0) b.1);
        step = t.0;
        at = t.1;
      })

  step-is : (c : ℕ) (s : Name × Step) → IsStepAt v c s → step_name v.flow c ≡ s.0
  step-is c s a = ap (λ o. option_map_or (λ (t : Name × Step). t.0) o []) a

  -- ---- numbers

  old-number : (m : ℕ) (x : Name × Place) → numbered v m ≡ Some x → numbered view m ≡ Some x
  old-number m x k = in-front v.jobs news m x k

  new-number : (p : ℕ) (c : ℕ) (q : Place) (s : Name × Step) → IsStepAt v c s → slice_get xs p ≡ Some (c, q) → numbered view (idle.known + p) ≡ Some (s.0, q)
  new-number p c q s a k =
      ap (λ m. slice_get (v.jobs ++ news) (m + p)) (sym known-many)
      ∙ in-behind v.jobs news p
      ∙ get-map (named_job v.flow) xs p (c, q) k
      ∙ ap (λ n. Some (n, q)) (step-is c s a)

  -- ---- the parts of what is said of idle jobs

  queue-of : (b : Bool) (c : ℕ) (k : ℕ × List ℕ) → In k (queue b (of_step now.steps c)) → IsNew (binds_fault i) xs idle.known b c k ⊎ In k (queue b (of_step idle.steps c))
  queue-of b c k m = all-of (binds_fault i) xs idle b c k m

  old-idle : (c : ℕ) (k : ℕ × List ℕ) → IsIdle idle.steps c k → IsIdle now.steps c k
  old-idle c k m = on_either m (λ g. inl (all-stay (binds_fault i) xs idle false c k g)) (λ g. inr (all-stay (binds_fault i) xs idle true c k g))

  new-idle : (p : ℕ) (x : ℕ × Place) → slice_get xs p ≡ Some x → IsIdle now.steps x.0 (idle.known + p, x.1)
  new-idle p x k =
      let o = new-of p x k in
      let l : x.0 < length idle.steps = subst (λ m. x.0 < m) (sym h.before.as_many) (slice_get_within v.flow.steps x.0 o.step o.at) in
      by (binds_fault i x) (all-new (binds_fault i) xs idle p x k l)
    where
      by : (b : Bool) → In (idle.known + p, x.1) (queue b (of_step now.steps x.0)) → IsIdle now.steps x.0 (idle.known + p, x.1)
      by true m = inr m
      by false m = inl m

  -- an idle job is a new one or was idle
  idle-of : {C : Type 0} (c : ℕ) (k : ℕ × List ℕ) → IsIdle now.steps c k → ((b : Bool) → IsNew (binds_fault i) xs idle.known b c k → C) → (IsIdle idle.steps c k → C) → C
  idle-of c k m new old =
      on_either m
      (λ g. on_either (queue-of false c k g) (new false) (λ o. old (inl o)))
      (λ g. on_either (queue-of true c k g) (new true) (λ o. old (inr o)))

  no-step : (c : ℕ) (b : Bool) (k : ℕ × List ℕ) → length idle.steps ≤ c → In k (queue b (of_step idle.steps c)) → ⊥
  no-step c b k l m = by b (subst (λ s. In k (queue b s)) (past idle.steps c l) m)
    where
      past : (ss : List StepIdle) (c : ℕ) → length ss ≤ c → of_step ss c ≡ none_idle 0
      past [] c l = refl
      past (s ∷ ss) zero l = absurd (omega arith)
      past (s ∷ ss) (suc c) l = past ss c (omega arith)

      by : (b : Bool) → In k (queue b (none_idle 0)) → ⊥
      by true m = m
      by false m = m

  -- the step of an idle job is there
  idle-step : (c : ℕ) (b : Bool) (k : ℕ × List ℕ) → In k (queue b (of_step idle.steps c)) → (s : Name × Step) × IsStepAt v c s
  idle-step c b k m =
      on_either (cases_lt c (length idle.steps))
      (λ l. get-within v.flow.steps c (subst (λ n. c < n) h.before.as_many l))
      (λ l. absurd (no-step c b k l m))

  idle-by : (c : ℕ) (b : Bool) (k : ℕ × List ℕ) → In k (queue b (of_step idle.steps c)) → IsIdle idle.steps c k
  idle-by c true k m = inr m
  idle-by c false k m = inl m

  number-below : (c : ℕ) (b : Bool) (k : ℕ × List ℕ) → In k (queue b (of_step idle.steps c)) → k.0 < idle.known
  number-below c b k m =
      let s = idle-step c b k m in
      subst (λ n. k.0 < n) known-many (slice_get_within v.jobs k.0 (s.0.0, k.1) (h.before.all.known c s.0 k s.1 (idle-by c b k m)))

  placed-before : (c : ℕ) → AreInPlace (binds_fault i) idle.known (of_step idle.steps c)
  placed-before c = record {
    good = record {
      below = below-all idle.known (of_step idle.steps c).good (λ k m. number-below c false k m);
      front = starts (of_step idle.steps c).good;
      order = h.before.all.order.good c;
    };
    faulty = record {
      below = below-all idle.known (of_step idle.steps c).faulty (λ k m. number-below c true k m);
      front = starts (of_step idle.steps c).faulty;
      order = h.before.all.order.faulty c;
    };
  }
    where
      starts : (js : List (ℕ × List ℕ)) → starts_gone (λ n. false) js ≡ false
      starts [] = refl
      starts (j ∷ js) = refl

  in-order : AreInOrder now.steps
  in-order = record {
    good = λ c. (all-placed (binds_fault i) xs idle placed-before c).good.order;
    faulty = λ c. (all-placed (binds_fault i) xs idle placed-before c).faulty.order;
  }

  are-steps : (m : ℕ) (x : Name × Place) → numbered view m ≡ Some x → has_name v.flow.steps x.0 ≡ true
  are-steps m x k =
      on_either (split-get v.jobs news m x k) (h.before.all.steps m x)
      (λ b.
      let y = of-image (named_job v.flow) xs b.at x b.there in
      let o = new-of b.at y.0 y.1 in
      subst (λ (z : Name × Place). has_name v.flow.steps z.0 ≡ true) y.2
      (subst (λ n. has_name v.flow.steps n ≡ true) (sym (step-is y.0.0 o.step o.at)) (named-there v.flow.steps y.0.0 o.step o.at)))

  all-idle : (m : ℕ) (x : Name × Place) → numbered view m ≡ Some x → is_taken (e ∷ v.events) x.0 x.1 ≡ false → has_result (e ∷ v.events) x.0 x.1 ≡ false → IsIdle now.steps (position x.0 v.flow.steps) (m, x.1)
  all-idle m x k t r =
      on_either (split-get v.jobs news m x k)
      (λ o. old-idle (position x.0 v.flow.steps) (m, x.1) (h.before.all.all m x o (or_parts (takes_at x.0 x.1 e) (is_taken v.events x.0 x.1) t).1 (or_parts (gives_at x.0 x.1 e) (has_result v.events x.0 x.1) r).1))
      (λ b.
      let y = of-image (named_job v.flow) xs b.at x b.there in
      let o = new-of b.at y.0 y.1 in
      let at : position x.0 v.flow.steps ≡ y.0.0 =
      ap (λ n. position n v.flow.steps) (sym (ap (λ (z : Name × Place). z.0) y.2) ∙ step-is y.0.0 o.step o.at)
      ∙ position-of v.flow.steps y.0.0 o.step ascending o.at in
      let number : m ≡ idle.known + b.at = b.number ∙ ap (λ n. n + b.at) known-many in
      subst (λ c. IsIdle now.steps c (m, x.1)) (sym at)
      (subst (λ n. IsIdle now.steps y.0.0 (n, x.1)) (sym number)
      (subst (λ q. IsIdle now.steps y.0.0 (idle.known + b.at, q)) (ap (λ (z : Name × Place). z.1) y.2) (new-idle b.at y.0 y.1))))

  all-numbered : (c : ℕ) (s : Name × Step) (k : ℕ × List ℕ) → slice_get v.flow.steps c ≡ Some s → IsIdle now.steps c k → numbered view k.0 ≡ Some (s.0, k.1)
  all-numbered c s k a m =
      idle-of c k m
      (λ b n. ap (slice_get (v.jobs ++ news)) n.number ∙ new-number n.at c k.1 s a n.there)
      (λ o. old-number k.0 (s.0, k.1) (h.before.all.known c s k a o))

  all-free : (c : ℕ) (s : Name × Step) (k : ℕ × List ℕ) → slice_get v.flow.steps c ≡ Some s → IsIdle now.steps c k → (is_taken (e ∷ v.events) s.0 k.1 ≡ false) × (has_result (e ∷ v.events) s.0 k.1 ≡ false)
  all-free c s k a m =
      idle-of c k m
      (λ b n.
      let u = new-untold flows (levels_in v.flow) v e h.told h.after h.os (brings cs i j made) h.brought c s a k.1 (new-of n.at (c, k.1) n.there).brought in
      (u.1, u.0))
      (λ o. stays-free v e h.tells h.runs s.0 k.1 (h.before.all.free c s k a o))

  are-idle-of : AreIdleOf view now.steps
  are-idle-of = record { order = in-order; steps = are-steps; all = all-idle; known = all-numbered; free = all-free }

  -- ---- what is said of them

  said-new : (b : Bool) (c : ℕ) (k : ℕ × List ℕ) → IsNew (binds_fault i) xs idle.known b c k → is_faulty_now j (c, k.1) ≡ b
  said-new b c k n = made-faulty (matcher_at i c) (matcher_at j c) (made-at cs i j made c (new-of n.at (c, k.1) n.there).one) k.1 ∙ n.flag

  same-number : (a c : ℕ) (t s : Name × Step) → IsStepAt v a t → IsStepAt v c s → step_name v.flow a ≡ s.0 → a ≡ c
  same-number a c t s l m e =
      sym (position-of v.flow.steps a t ascending l)
      ∙ ap (λ n. position n v.flow.steps) (sym (step-is a t l) ∙ e)
      ∙ position-of v.flow.steps c s ascending m

  said-old : (b c' : Bool) (c : ℕ) (k : ℕ × List ℕ) → In k (queue b (of_step idle.steps c)) → is_faulty_now i (c, k.1) ≡ c' → is_faulty_now j (c, k.1) ≡ c'
  said-old b c' c k m said =
      let s = idle-step c b k m in
      let there : slice_get (map (named_job v.flow) (known_jobs i)) k.0 ≡ Some (s.0.0, k.1) = ap (λ l. slice_get l k.0) (sym h.jobs_are) ∙ h.before.all.known c s.0 k s.1 (idle-by c b k m) in
      let y = of-image (named_job v.flow) (known_jobs i) k.0 (s.0.0, k.1) there in
      let within = known-within cs i j made h.sound h.can k.0 y.0.0 y.0.1 y.1 in
      let t = get-within v.flow.steps y.0.0 (subst (λ n. y.0.0 < n) h.as_many within) in
      let same : y.0.0 ≡ c = same-number y.0.0 c t.0 s.0 t.1 s.1 (ap (λ (z : Name × Place). z.0) y.2) in
      let place : y.0.1 ≡ k.1 = ap (λ (z : Name × Place). z.1) y.2 in
      let known : slice_get (known_jobs i) k.0 ≡ Some (c, k.1) = y.1 ∙ (λ l. Some (same l, place l)) in
      flag-kept cs i j made h.sound h.can k.0 c k.1 known ∙ said

  pub are-idle : AreIdle view j now
  are-idle = record {
    all = are-idle-of;
    known =
        all-known (binds_fault i) xs idle
        ∙ ap (λ n. n + length xs) h.before.known
        ∙ sym (length-append (known_jobs i) xs)
        ∙ ap length (sym h.jobs);
    as_many = all-many (binds_fault i) xs idle ∙ h.before.as_many;
    levels = λ c s a. all-levels (binds_fault i) xs idle c ∙ h.before.levels c s a;
    good = λ c k m. on_either (queue-of false c k m) (said-new false c k) (λ o. said-old false false c k o (h.before.good c k o));
    faulty = λ c k m. on_either (queue-of true c k m) (said-new true c k) (λ o. said-old true true c k o (h.before.faulty c k o));
  }
