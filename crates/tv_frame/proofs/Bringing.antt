-- The jobs that become known with an event are those that the steps that hold tellings bring.
use Rattle.std.specs.Option.{option_map_or}
use Rattle.std.specs.Prelude.{◌≡◌, refl, ℕ, zero, suc, ◌+◌, ◌==◌, ◌<◌, ◌≤◌, ◌||◌, Bool, true, false, if◌then◌else◌, List, [], ◌∷◌, ◌++◌, flat_map, length, map, Option, Some, None, IsPermutation, sum_by}
use Rattle.std.proofs.Common.{sym, ap, ap₂, subst, ◌∙◌, append-nil, arith, length-append}
use Rattle.std.proofs.lemmas.Bool.Decides.{nat_tests}
use Rattle.std.proofs.lemmas.List.{length-map}
use Rattle.std.proofs.lemmas.List.Sorted.{IsPermutation-refl, length_permutation}
use Rattle.std.proofs.lemmas.List.Sums.{sum_by-cons}
use Rattle.std.proofs.lemmas.Bool.{eqb-true}
use Rattle.tv_lemmas.specs.Members.{Each}
use Rattle.tv_lemmas.proofs.Cases.{on_test}
use Rattle.tv_value.specs.Strategies.{Strategy}
use Rattle.tv_value.specs.Values.{Name}
use Rattle.tv_value.specs.Views.{strategy_view}
use Rattle.tv_flow.specs.Flows.{Flow, Step}
use Rattle.tv_strategy.proofs.Each.{each-weaken}
use Rattle.tv_naming.specs.Naming.{numbered}
use Rattle.tv_model.specs.instance.Steps.{strategy_of}
use Rattle.tv_check.specs.declared.plans.FlowPlan.{FlowPlan}
use Rattle.tv_matching.specs.Matchers.{Outcome, out}
use Rattle.tv_matching.specs.Told.{Told, matched_after}
use Rattle.tv_match.specs.declared.matchers.Matcher.{Matcher}
use Rattle.tv_match.specs.Ahead.{in_order_ahead}
use Rattle.tv_match.specs.Filed.{filed}
use Rattle.tv_match.specs.Seen.{IsSound, in_order, matching}
use Rattle.tv_match.proofs.AllMade.{ahead-matched}
use Rattle.tv_match.proofs.Faults.{all-in_order}
use Rattle.tv_intake.specs.Intaken.{IsSoundAt, brought_at, matcher_at}
use Rattle.tv_intake.specs.Sorting.{brought, job_places, jobs_among}
use Rattle.tv_intake.proofs.IntakeLemmas.{ahead-parts}
use Rattle.tv_outputs.specs.Known.{Nodes}
use Rattle.tv_spread.specs.Spreads.{IsAscending, new_count}
use Rattle.tv_model.specs.instance.Events.{Event}
use Rattle.tv_framing.specs.Frames.{AreNewWith, IsFrame, with_event}
use Rattle.tv_framing.specs.Views.{View}
use Rattle.tv_framing.specs.matches.Jobs.{all_jobs, jobs_of}
use Rattle.tv_framing.specs.matches.Stated.{IsBrought}
use Rattle.tv_framing.specs.matches.Steps.{IsStepTold}
use Rattle.tv_framing.proofs.matches.LawLemmas.{new_jobs-are_brought}
use Rattle.tv_frame.specs.declared.frame.Frame.{Frame}
use Rattle.tv_frame.specs.Calls.{Brings}
use Rattle.tv_frame.specs.Kept.{HasMatcher, followed_by}
use Rattle.tv_frame.specs.Prepared.{IsReadyFor, IsToldWith, is_one_of}
use Rattle.tv_frame.specs.Tables.{levels_in}
use Rattle.tv_frame.proofs.Keeping.{kept-ranked}
use Rattle.tv_spread.proofs.Showing.{places-many}

-- ---- one step: what its matcher was told, and what it brings

abbrev pub told_by : Option Matcher → List Told
told_by None = []
told_by (Some m) = (matching m).told

-- with what it holds, where it holds some of the event
abbrev pub told_with : Bool → Option Matcher → List Told
told_with b None = []
told_with true (Some m) = (matching m).told ++ (matching m).held
told_with false (Some m) = (matching m).told

abbrev pub brought_with : Bool → Option Matcher → List Outcome
brought_with b None = []
brought_with true (Some m) = brought m
brought_with false (Some m) = []

order-matched : (m : Matcher) (s : Strategy) → IsSound m → (matching m).strategy ≡ s → IsPermutation (in_order m) (map (out s) (matched_after s (matching m).told))
order-matched m s sound is =
    subst (λ t. IsPermutation (in_order m) (map (out t) (matched_after t (matching m).told))) is
    (all-in_order (strategy_view m.tree) m.mismatch (filed m.root) m.log m.out m.told m.given sound.keeps)

pub told-before : (v : View) (s : Name × Step) (o : Option Matcher) → HasMatcher v s o → IsSoundAt o → IsStepTold v s (told_by o) (followed_by o)
told-before v s None h sound = absurd h
told-before v s (Some m) h sound = record { told = h.told; outcomes = order-matched m (strategy_of s.1) sound h.strategy_is }

pub told-after : (v : View) (e : Event) (s : Name × Step) (b : Bool) (o : Option Matcher) → HasMatcher v s o → IsSoundAt o → IsToldWith v e s b o → IsStepTold (with_event v e []) s (told_with b o) (followed_by o ++ brought_with b o)
told-after v e s b None h sound t = absurd h
told-after v e s true (Some m) h sound t = record {
  told = t.told;
  outcomes =
      subst (λ os. IsPermutation os (map (out (strategy_of s.1)) (matched_after (strategy_of s.1) ((matching m).told ++ (matching m).held)))) (sym (ahead-parts m))
      (subst (λ w. IsPermutation (in_order_ahead m) (map (out w) (matched_after w ((matching m).told ++ (matching m).held)))) h.strategy_is (ahead-matched m sound));
}
told-after v e s false (Some m) h sound t = record {
  told = t.told;
  outcomes =
      subst (λ os. IsPermutation os (map (out (strategy_of s.1)) (matched_after (strategy_of s.1) (matching m).told))) (sym (append-nil (in_order m)))
      (order-matched m (strategy_of s.1) sound h.strategy_is);
}

-- ---- how many jobs

-- of m steps, the first of which has number k
abbrev total : (ℕ → ℕ) → ℕ → ℕ → ℕ
total g k zero = 0
total g k (suc m) = g k + total g (suc k) m

total-same : (g h : ℕ → ℕ) (k m : ℕ) → ((c : ℕ) → k ≤ c → g c ≡ h c) → total g k m ≡ total h k m
total-same g h k zero e = refl
total-same g h k (suc m) e = ap₂ (λ a b. a + b) (e k (omega arith)) (total-same g h (suc k) m (λ c le. e c (omega (arith, le))))

jobs-counted : (os : ℕ → List Outcome) (k : ℕ) (ss : List (Name × Step)) → length (flat_map (λ (x : ℕ × (Name × Step)). jobs_of x.1.0 (os x.0)) (numbered k ss)) ≡ total (λ c. jobs_among (os c)) k (length ss)
jobs-counted os k [] = refl
jobs-counted os k (s ∷ ss) =
    length-append (jobs_of s.0 (os k)) (flat_map (λ (x : ℕ × (Name × Step)). jobs_of x.1.0 (os x.0)) (numbered (suc k) ss))
    ∙ ap₂ (λ a b. a + b) (length-map (job_places (os k)) (λ q. (s.0, q)) ∙ places-many (os k)) (jobs-counted os (suc k) ss)

-- the number of one of these steps, nothing of any other
abbrev if_one : (ℕ → ℕ) → List ℕ → ℕ → ℕ
if_one g cs c = if is_one_of cs c then g c else 0

unlike : (a b : ℕ) → b < a → (a == b) ≡ false
unlike a b h = grind (arith, nat_tests)

apart : (a b : ℕ) → (a == b) ≡ false → a ≡ b → ⊥
apart a b h e = grind (arith, nat_tests)

not-one : (cs : List ℕ) (k : ℕ) → Each (λ c. k < c) cs → is_one_of cs k ≡ false
not-one [] k h = refl
not-one (c ∷ cs) k h = ap₂ (λ a b. a || b) (unlike c k h.0) (not-one cs k h.1)

sum-ones : (g : ℕ → ℕ) (m k : ℕ) (cs : List ℕ) → IsAscending cs → Each (λ c. k ≤ c) cs → Each (λ c. c < k + m) cs → total (if_one g cs) k m ≡ sum_by g cs
sum-ones g zero k [] up low high = refl
sum-ones g zero k (c ∷ cs) up low high = let l = low.0 in let h = high.0 in absurd (omega (arith, l, h))
sum-ones g (suc m) k [] up low high = let r = sum-ones g m (suc k) [] tt tt tt in omega (arith, r)
sum-ones g (suc m) k (c ∷ cs) up low high =
    on_test (c == k)
    (λ same.
    let e : c ≡ k = eqb-true c k same in
    let above : Each (λ d. k < d) cs = subst (λ x. Each (λ d. x < d) cs) e up.0 in
    let r = sum-ones g m (suc k) cs up.1 (each-weaken (λ d. k < d) (λ d. suc k ≤ d) (λ d lt. omega (arith, lt)) cs above) (each-weaken (λ d. d < k + suc m) (λ d. d < suc k + m) (λ d lt. omega (arith, lt)) cs high.1) in
    let first : if_one g (c ∷ cs) k ≡ g c = ap (λ b. if b || is_one_of cs k then g k else 0) same ∙ ap g (sym e) in
    let others : total (if_one g (c ∷ cs)) (suc k) m ≡ total (if_one g cs) (suc k) m =
    total-same (if_one g (c ∷ cs)) (if_one g cs) (suc k) m (λ d le. ap (λ b. if b || is_one_of cs d then g d else 0) (ap (λ x. x == d) e ∙ lesser k d (omega (arith, le)))) in
    ap₂ (λ a b. a + b) first (others ∙ r) ∙ sym (sum_by-cons g c cs))
    (λ other.
    let ne = apart c k other in
    let l = low.0 in
    let lt : k < c = further k c l (λ e. ne (sym e)) in
    let above : Each (λ d. k < d) cs = each-weaken (λ d. c < d) (λ d. k < d) (λ d le. omega (arith, le, lt)) cs up.0 in
    let r = sum-ones g m (suc k) (c ∷ cs) up ((omega (arith, lt), each-weaken (λ d. k < d) (λ d. suc k ≤ d) (λ d le. omega (arith, le)) cs above)) (each-weaken (λ d. d < k + suc m) (λ d. d < suc k + m) (λ d le. omega (arith, le)) (c ∷ cs) high) in
    ap (λ b. (if b then g k else 0) + total (if_one g (c ∷ cs)) (suc k) m) (not-one (c ∷ cs) k (lt, above)) ∙ zero-first (total (if_one g (c ∷ cs)) (suc k) m) ∙ r)
  where
    lesser : (a b : ℕ) → a < b → (a == b) ≡ false
    lesser a b h = grind (arith, nat_tests)

    further : (a b : ℕ) → a ≤ b → (a ≡ b → ⊥) → a < b
    further a b h ne = grind arith

    zero-first : (a : ℕ) → 0 + a ≡ a
    zero-first a = omega arith

-- ---- a frame that is ready

module _ (flows : List (Name × Flow)) (plan : FlowPlan) (pool : Nodes) (f : Frame) (v : View) (n : ℕ) (s : Name × Step) (e : Event) (r : IsReadyFor flows plan pool f v n s e) where
  abbrev pub told_before : ℕ → List Told
  told_before c = told_by (matcher_at f.intakes c)

  abbrev pub told_after : ℕ → List Told
  told_after c = told_with (is_one_of f.spread.touched.items c) (matcher_at f.intakes c)

  abbrev pub followed : ℕ → List Outcome
  followed c = followed_by (matcher_at f.intakes c)

  abbrev pub brought_by : ℕ → List Outcome
  brought_by c = brought_with (is_one_of f.spread.touched.items c) (matcher_at f.intakes c)

  pub is-brought : IsBrought flows (levels_in v.flow) v e told_before told_after followed brought_by
  is-brought = record {
    next = r.next;
    of_flow = kept-ranked flows plan pool f v r.keeps;
    before_it = λ c t at. told-before v t (matcher_at f.intakes c) (r.keeps.matchers_are c t at) (r.keeps.intaken.sound c);
    after_it =
        λ c t at.
        told-after v e t (is_one_of f.spread.touched.items c) (matcher_at f.intakes c) (r.keeps.matchers_are c t at) (r.keeps.intaken.sound c) (r.told c t at);
  }

  pub new-come : AreNewWith v e (all_jobs v.flow brought_by) × IsFrame (with_event v e (all_jobs v.flow brought_by))
  new-come = new_jobs-are_brought flows (levels_in v.flow) v e told_before told_after followed brought_by is-brought (all_jobs v.flow brought_by) (IsPermutation-refl (all_jobs v.flow brought_by))

  brought-at : (c : ℕ) → jobs_among (brought_by c) ≡ if_one (λ d. jobs_among (brought_at f.intakes d)) f.spread.touched.items c
  brought-at c = by (is_one_of f.spread.touched.items c) (matcher_at f.intakes c) refl
    where
      by : (b : Bool) (o : Option Matcher) → matcher_at f.intakes c ≡ o → jobs_among (brought_with b o) ≡ (if b then jobs_among (brought_at f.intakes c) else 0)
      by true None e = sym (ap (λ x. jobs_among (option_map_or brought x [])) e)
      by false None e = refl
      by true (Some m) e = sym (ap (λ x. jobs_among (option_map_or brought x [])) e)
      by false (Some m) e = refl

  pub new-counted : length (all_jobs v.flow brought_by) ≡ new_count f.intakes f.spread.touched.items
  new-counted =
      jobs-counted brought_by 0 v.flow.steps
      ∙ total-same (λ c. jobs_among (brought_by c)) (if_one (λ d. jobs_among (brought_at f.intakes d)) f.spread.touched.items) 0 (length v.flow.steps) (λ c le. brought-at c)
      ∙ sum-ones (λ d. jobs_among (brought_at f.intakes d)) (length v.flow.steps) 0 f.spread.touched.items r.show.once
      (each-weaken (λ c. c < length f.idle.steps) (λ c. 0 ≤ c) (λ c lt. omega arith) f.spread.touched.items r.show.within)
      (each-weaken (λ c. c < length f.idle.steps) (λ c. c < 0 + length v.flow.steps) (λ c lt. let m = r.keeps.idle_are.as_many in omega (arith, m, lt)) f.spread.touched.items r.show.within)

  -- so many jobs become known
  pub ready-brings : Brings v e (new_count f.intakes f.spread.touched.items)
  ready-brings instance results depth x =
      length_permutation _ _ (new-come.0 instance results depth x) ∙ new-counted
