-- A step added to the idle jobs, with room for its first job, and a frame of no steps yet.
use Rattle.std.specs.Option.{option_map_or}
use Rattle.std.specs.Prelude.{Option, Some, None, ◌≡◌, ◌⊎◌, refl, ℕ, zero, suc, ◌+◌, ◌<◌, ◌≤◌, false, List, [], ◌∷◌, ◌++◌, drop, length, map, replicate, slice_set, sum_by}
use Rattle.std.proofs.Common.{arith, sym, ap, subst, ◌∙◌, inl, inr}
use Rattle.std.proofs.Math.Seq.{drop-append_seam}
use Rattle.std.proofs.lemmas.List.{length-map}
use Rattle.tv_value.specs.Nested.{Place}
use Rattle.tv_value.specs.Strategies.{Strategy}
use Rattle.tv_value.specs.Values.{Name}
use Rattle.tv_value.specs.Views.{strategy_view}
use Rattle.tv_flow.specs.Flows.{Flow, Step}
use Rattle.tv_flow.specs.Views.{flow_view}
use Rattle.tv_lemmas.proofs.Cases.{on_either}
use Rattle.tv_strategy.specs.Conditions.{number_of}
use Rattle.tv_strategy.specs.Measures.{strategy_depth}
use Rattle.tv_check.specs.declared.plans.FlowPlan.{FlowPlan}
use Rattle.tv_check.specs.declared.plans.StepPlan.{StepPlan}
use Rattle.tv_check.specs.Plans as plan
use Rattle.tv_check.specs.PlanViews.{step_plan_view}
use Rattle.tv_model.specs.instance.Steps.{strategy_of}
use Rattle.tv_check.specs.Ports.{mismatches}
use Rattle.tv_check.specs.Wirings.{all_after}
use Rattle.tv_check.specs.declared.wiring.Wiring.{Wiring}
use Rattle.tv_telling.specs.declared.endings.endings.Endings.{Endings}
use Rattle.tv_telling.specs.endings.Ends.{IsSound as IsSoundEndings}
use Rattle.tv_matching.specs.Told.{Told}
use Rattle.tv_match.specs.declared.matchers.Matcher.{Matcher}
use Rattle.tv_match.specs.Seen.{in_order, matching}
use Rattle.tv_intake.specs.declared.intakes.Intakes.{Intakes}
use Rattle.tv_intake.specs.Intaken.{AreIntaken, HoldsThese, IsSoundAt, OthersStay, brought_at, brought_in, followed_at, known_jobs, matcher_at, waiting_things, IsToldAt}
use Rattle.tv_intake.specs.Sorting.{job_places, jobs_among, others_among}
use Rattle.tv_spread.specs.Spreads.{IsLevelled, new_places}
use Rattle.tv_spread.proofs.Showing.{Shows, new-there, new-at, made-levels, places-at, ordered-at, places-many}
use Rattle.tv_match.specs.declared.told.Told as code
use Rattle.std.proofs.lemmas.List.Sums.{sum_by-cons}
use Rattle.tv_lemmas.specs.Members.{Each}
use Rattle.tv_idle.specs.Idles.{Idles, StepIdle, none_idle, of_step, with_rooms_of}
use Rattle.tv_spread.specs.Spreads.{IsAt}
use Rattle.tv_framing.proofs.feeds.WholeSteps.{endings-start}
use Rattle.tv_framing.specs.engine.EndedSteps.{AreEndingsOf}
use Rattle.tv_frame.specs.Tables.{levels_in}
use Rattle.tv_check.specs.Tables.{step_level}
use Rattle.tv_frame.proofs.Beginning.{HasSameJobs, IsAdded}
use Rattle.tv_frame.proofs.TableLemmas.{wiring-is}
use Rattle.tv_frame.proofs.Added.{set-many, at-set}

-- ---- one step of all

push-at : (steps : List StepIdle) (s : StepIdle) (c : ℕ) → ((c ≡ length steps) × (of_step (steps ++ s ∷ []) c ≡ s)) ⊎ ((of_step (steps ++ s ∷ []) c ≡ of_step steps c) × (c ≡ length steps → ⊥))
push-at [] s zero = inl (refl, refl)
push-at [] s (suc c) = inr (refl, not-zero c)
  where
    not-zero : (c : ℕ) → suc c ≡ 0 → ⊥
    not-zero c p = omega (arith, p)
push-at (t ∷ ts) s zero = inr (refl, not-zero (length ts))
  where
    not-zero : (c : ℕ) → 0 ≡ suc c → ⊥
    not-zero c p = omega (arith, p)
push-at (t ∷ ts) s (suc c) = on_either (push-at ts s c) (λ h. inl (ap suc h.0, h.1)) (λ h. inr (h.0, λ e. h.1 (less c (length ts) e)))
  where
    less : (c n : ℕ) → suc c ≡ suc n → c ≡ n
    less c n p = omega (arith, p)

past-at : (steps : List StepIdle) → of_step steps (length steps) ≡ none_idle 0
past-at [] = refl
past-at (t ∷ ts) = past-at ts

push-many : (steps : List StepIdle) (s : StepIdle) → length (steps ++ s ∷ []) ≡ length steps + 1
push-many [] s = refl
push-many (t ∷ ts) s = let m = push-many ts s in omega (arith, m)

-- a step was added, of jobs with so many indices, and its rooms were taken
module _ (idle a r m : Idles) (count depth : ℕ) (many : length idle.steps ≡ count) (added : a.steps ≡ idle.steps ++ none_idle depth ∷ []) (a_known : a.known ≡ idle.known) (rooms : r.steps ≡ slice_set a.steps count (with_rooms_of (of_step r.steps count) (of_step a.steps count))) (r_known : r.known ≡ a.known) (m_steps : m.steps ≡ r.steps) (m_known : m.known ≡ r.known) where
  pub as-many : length m.steps ≡ count + 1
  as-many =
      let e = ap length m_steps in
      let s = ap length rooms in
      let t = set-many a.steps count (with_rooms_of (of_step r.steps count) (of_step a.steps count)) in
      let n = ap length added in
      let p = push-many idle.steps (none_idle depth) in
      omega (arith, e, s, t, n, p, many)

  -- P of a step's own parts, whatever its rooms are
  parts : {B : Type 0} (g : StepIdle → B) → ((x y : StepIdle) → g (with_rooms_of x y) ≡ g y) → (c : ℕ) → g (of_step m.steps c) ≡ g (of_step (idle.steps ++ none_idle depth ∷ []) c)
  parts g free c =
      ap (λ l. g (of_step l c)) (m_steps ∙ rooms)
      ∙ on_either (at-set a.steps count c (with_rooms_of (of_step r.steps count) (of_step a.steps count)))
      (λ h. ap g h.1 ∙ free (of_step r.steps count) (of_step a.steps count) ∙ ap (λ k. g (of_step a.steps k)) (sym h.0))
      (λ h. ap g h)
      ∙ ap (λ l. g (of_step l c)) added

  none-there : {B : Type 0} (g : StepIdle → B) → g (none_idle depth) ≡ g (none_idle 0) → (c : ℕ) → g (of_step (idle.steps ++ none_idle depth ∷ []) c) ≡ g (of_step idle.steps c)
  none-there g free c =
      on_either (push-at idle.steps (none_idle depth) c)
      (λ h. ap g h.1 ∙ free ∙ ap g (sym (past-at idle.steps)) ∙ ap (λ k. g (of_step idle.steps k)) (sym h.0))
      (λ h. ap g h.0)

  pub same-jobs : HasSameJobs idle m
  same-jobs = record {
    known = m_known ∙ r_known ∙ a_known;
    good = λ c. parts (λ s. s.good) (λ x y. refl) c ∙ none-there (λ s. s.good) refl c;
    faulty = λ c. parts (λ s. s.faulty) (λ x y. refl) c ∙ none-there (λ s. s.faulty) refl c;
  }

  pub levels-last : (of_step m.steps count).levels ≡ depth
  levels-last =
      parts (λ s. s.levels) (λ x y. refl) count
      ∙ on_either (push-at idle.steps (none_idle depth) count) (λ h. ap (λ (s : StepIdle). s.levels) h.1) (λ h. absurd (h.1 (sym many)))

  pub levels-before : (n : ℕ) → n < count → (of_step m.steps n).levels ≡ (of_step idle.steps n).levels
  levels-before n lt =
      parts (λ s. s.levels) (λ x y. refl) n
      ∙ on_either (push-at idle.steps (none_idle depth) n) (λ h. absurd (below n (length idle.steps) count lt many h.0)) (λ h. ap (λ (s : StepIdle). s.levels) h.0)
    where
      below : (n l c : ℕ) → n < c → l ≡ c → n ≡ l → ⊥
      below n l c p q e = omega (arith, p, q, e)

-- ---- the places of jobs have as many indices as the strategy has levels

-- the jobs that a step has from the start
pub first-jobs : (j : Intakes) (c d levels : ℕ) (st : Strategy) (mm : List (Name × ℕ)) (ts : List Told) (before : List (ℕ × Place)) → AreIntaken j → IsToldAt st mm ts (matcher_at j c) → d ≡ strategy_depth (number_of mm) st → levels ≡ d → known_jobs j ≡ before ++ map (λ q. (c, q)) (job_places (followed_at j c)) → (known : ℕ) → known ≡ length before → Each (IsAt c levels) (drop known (known_jobs j))
first-jobs j c d levels st mm ts before a started deep e jobs known k =
    subst (Each (IsAt c levels)) (sym (ap (λ n. drop n (known_jobs j)) k ∙ ap (drop (length before)) jobs ∙ drop-append_seam before (map (λ q. (c, q)) (job_places (followed_at j c)))))
    (new-at c levels (job_places (followed_at j c)) (by (matcher_at j c) (a.sound c) started))
  where
    by : (o : Option Matcher) → IsSoundAt o → IsToldAt st mm ts o → Each (λ q. length q ≡ levels) (job_places (option_map_or in_order o []))
    by None s w = absurd w
    by (Some m) s w =
        let depth : strategy_depth (number_of (matching m).mismatch) (matching m).strategy ≡ levels = (λ i. strategy_depth (number_of (w.mismatch_is i)) (w.strategy_is i)) ∙ sym deep ∙ sym e in
        subst (λ n. Each (λ q. length q ≡ n) (job_places (in_order m))) depth (places-at (strategy_depth (number_of (matching m).mismatch) (matching m).strategy) (in_order m) (ordered-at m s))

-- ---- endings

pub endings-of : (p : FlowPlan) (after : List (List ℕ)) (e : Endings) → after ≡ p.wiring.after → IsSoundEndings after e → e.whole.items ≡ replicate (length after) false → AreEndingsOf (flow_view p.flow) (levels_in (flow_view p.flow)) [] e × (e.whole.items ≡ replicate (length (flow_view p.flow).steps) false)
endings-of p after e is sound whole =
    let all : after ≡ all_after (flow_view p.flow) = is ∙ ap (λ (w : Wiring). w.after) (wiring-is p) in
    let marks : e.whole.items ≡ replicate (length (all_after (flow_view p.flow))) false = whole ∙ ap (λ l. replicate (length l) false) all in
    (endings-start (flow_view p.flow) (levels_in (flow_view p.flow)) e (subst (λ l. IsSoundEndings l e) all sound) marks, marks ∙ ap (λ n. replicate n false) (length-map (flow_view p.flow).steps _))

-- ---- a step's plan

pub plan-parts : (f : Flow) (q : StepPlan) (s : Name × Step) → step_plan_view q ≡ plan.step_plan f s → (strategy_view q.tree ≡ strategy_of s.1) × (q.mismatch ≡ mismatches f s.1) × (q.depth ≡ step_level f s.1)
plan-parts f q (n, s) e = (ap (λ (r : plan.StepPlan). r.tree) e, ap (λ (r : plan.StepPlan). r.mismatch) e, ap (λ (r : plan.StepPlan). r.depth) e)

pub step-room : (old new : List StepIdle) (s : StepIdle) (count : ℕ) → new ≡ old ++ s ∷ [] → length old ≡ count → count < length new
step-room old new s count e many = let n = ap length e in let p = push-many old s in omega (arith, n, p, many)

pub added-at : (i j : Intakes) (n count : ℕ) → n ≡ count → (st : Strategy) (mm : List (Name × ℕ)) (ts : List Told) → IsToldAt st mm ts (matcher_at j n) → OthersStay n i j → known_jobs j ≡ known_jobs i ++ map (λ q. (n, q)) (job_places (followed_at j n)) → waiting_things j ≡ waiting_things i ++ map (λ o. (n, o)) (others_among (followed_at j n)) → AreIntaken j → IsAdded count st mm ts i j
added-at i j n count e st mm ts s o js ws a = subst (λ k. IsAdded k st mm ts i j) e (record { told = s; others = o; jobs = js; waiting = ws; intaken = a })

-- ---- rooms of a step that is there

module _ (idle r m : Idles) (count : ℕ) (rooms : r.steps ≡ slice_set idle.steps count (with_rooms_of (of_step r.steps count) (of_step idle.steps count))) (r_known : r.known ≡ idle.known) (m_steps : m.steps ≡ r.steps) (m_known : m.known ≡ r.known) where
  own-parts : {B : Type 0} (g : StepIdle → B) → ((x y : StepIdle) → g (with_rooms_of x y) ≡ g y) → (c : ℕ) → g (of_step m.steps c) ≡ g (of_step idle.steps c)
  own-parts g free c =
      ap (λ l. g (of_step l c)) (m_steps ∙ rooms)
      ∙ on_either (at-set idle.steps count c (with_rooms_of (of_step r.steps count) (of_step idle.steps count)))
      (λ h. ap g h.1 ∙ free (of_step r.steps count) (of_step idle.steps count) ∙ ap (λ k. g (of_step idle.steps k)) (sym h.0))
      (λ h. ap g h)

  pub taken-jobs : HasSameJobs idle m
  taken-jobs = record {
    known = m_known ∙ r_known;
    good = λ c. own-parts (λ s. s.good) (λ x y. refl) c;
    faulty = λ c. own-parts (λ s. s.faulty) (λ x y. refl) c;
  }

  pub taken-many : length m.steps ≡ length idle.steps
  taken-many = ap length (m_steps ∙ rooms) ∙ set-many idle.steps count (with_rooms_of (of_step r.steps count) (of_step idle.steps count))

  pub taken-levels : (n : ℕ) → (of_step m.steps n).levels ≡ (of_step idle.steps n).levels
  taken-levels n = own-parts (λ s. s.levels) (λ x y. refl) n

-- ---- what a step brings with what it holds

held-levels : (o p : Option Matcher) (ts : List code.Told) (s t : StepIdle) → HoldsThese ts o p → t.levels ≡ s.levels → IsLevelled o s → IsLevelled p t
held-levels None p ts s t h e l = absurd h
held-levels (Some m) None ts s t h e l = absurd h
held-levels (Some m) (Some n) ts s t h e l = e ∙ l ∙ (λ i. strategy_depth (number_of (sym h.0.mismatch_is i)) (sym h.0.strategy_is i))

module _ (c : ℕ) (i r k : Intakes) (ts : List code.Told) (holds : HoldsThese ts (matcher_at i c) (matcher_at r c)) (shows : Shows c r k) (known : ℕ) (known_is : known ≡ length (known_jobs r)) where
  there : drop known (known_jobs k) ≡ map (λ q. (c, q)) (new_places r c)
  there = ap (λ n. drop n (known_jobs k)) known_is ∙ new-there c r k shows

  pub new-places-at : (s t : StepIdle) → t.levels ≡ s.levels → IsLevelled (matcher_at i c) s → Each (IsAt c t.levels) (drop known (known_jobs k))
  new-places-at s t e l =
      subst (Each (IsAt c t.levels)) (sym there)
      (new-at c t.levels (new_places r c) (made-levels (matcher_at r c) (matcher_at k c) shows.made (shows.intaken.sound c) t (held-levels (matcher_at i c) (matcher_at r c) ts s t holds e l)))

  pub new-numbers : (steps : List ℕ) (j : Intakes) (room jobs : ℕ) → steps ≡ c ∷ [] → r.matchers.items ≡ j.matchers.items → room ≡ jobs → jobs ≡ sum_by (λ s. jobs_among (brought_at j s)) steps → length (drop known (known_jobs k)) ≤ room
  new-numbers steps j room jobs one same is count =
      let e = ap length there in
      let m = length-map {B = ℕ × Place} (new_places r c) (λ q. (c, q)) in
      let p = places-many (brought_at r c) in
      let n = count ∙ ap (sum_by (λ s. jobs_among (brought_at j s))) one ∙ sum_by-cons (λ s. jobs_among (brought_at j s)) c [] in
      let q = ap (λ ms. jobs_among (brought_in ms c)) same in
      omega (arith, e, m, p, n, q, is)
