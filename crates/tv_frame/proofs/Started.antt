-- A frame whose steps have begun keeps the view of which nothing was told.
use Rattle.std.specs.List.{list_all, range_with_len}
use Rattle.std.specs.Option.{option_map_or}
use Rattle.std.specs.Prelude.{◌≡◌, ◌≢◌, refl, ℕ, zero, suc, ◌+◌, ◌<◌, ◌≤◌, ◌==◌, Bool, true, false, List, [], ◌∷◌, ◌++◌, IsPermutation, filter, flat_map, if◌then◌else◌, is_some, length, map, Option, Some, None, replicate, slice_get, unwrap_or}
use Rattle.std.proofs.Common.{arith, sym, ap, subst, ◌∙◌, append-nil, eq-eqb, eqb-true}
use Rattle.std.proofs.lemmas.List.{length-map, map-append}
use Rattle.std.proofs.lemmas.List.Sorted.{IsPermutation-refl}
use Rattle.std.proofs.lemmas.Option.{get_or_from_slice_get, slice_get_within}
use Rattle.std.proofs.lemmas.Simd.{map-map}
use Rattle.tv_lemmas.proofs.Lists.{get-map, get-within, of-get_map}
use Rattle.tv_value.specs.Nested.{Place, list, no_trees}
use Rattle.tv_value.specs.Orders.{named, same_name}
use Rattle.tv_value.specs.Values.{HasDepth, Name, Value, holds_fault}
use Rattle.tv_flow.specs.Flows.{Flow, Step}
use Rattle.tv_flow.specs.Formed.{is_ascending, is_depth}
use Rattle.tv_flow.specs.Views.{flow_view}
use Rattle.tv_naming.specs.Naming.{has_name, numbered}
use Rattle.tv_naming.specs.Numbers.{position}
use Rattle.tv_naming.proofs.ByPosition.{named-at, names_of, position-at}
use Rattle.tv_naming.proofs.FormedParts.{ascending, flow-inputs, steps-ascend}
use Rattle.tv_parts.specs.Partials.{wanting}
use Rattle.tv_pool.specs.Pool.{IsLive}
use Rattle.tv_cell.specs.declared.piece.Piece.{Piece}
use Rattle.tv_cell.specs.PieceValues.{piece_values}
use Rattle.tv_cell.specs.Soundness.{AreSound}
use Rattle.tv_check.specs.declared.plans.FlowPlan.{FlowPlan}
use Rattle.tv_telling.specs.declared.endings.endings.Endings.{Endings}
use Rattle.tv_matching.specs.Matchers.{Outcome, out}
use Rattle.tv_matching.specs.Told.{Told, matched_after}
use Rattle.tv_match.specs.declared.matchers.Matcher.{Matcher}
use Rattle.tv_match.specs.Seen.{in_order, matching}
use Rattle.tv_match.proofs.AllMade.{ahead-matched, none-ahead}
use Rattle.tv_intake.specs.declared.intakes.Intakes.{Intakes}
use Rattle.tv_intake.specs.Intaken.{IsSoundAt, followed_at, known_jobs, matcher_at, waiting_things}
use Rattle.tv_intake.specs.Sorting as intake
use Rattle.tv_idle.specs.Idles.{Idles}
use Rattle.tv_outputs.specs.Known.{Nodes, depths, known, tree_in}
use Rattle.tv_outputs.specs.Kept.{Stand}
use Rattle.tv_model.specs.Agreeing.{InputsHave}
use Rattle.tv_model.specs.RightDepths.{HaveTheseDepths}
use Rattle.tv_framing.specs.Answers.{has_ended_now, numbered as by_number}
use Rattle.tv_framing.specs.Frames.{IsFrame}
use Rattle.tv_framing.specs.Stated.{IsOfDepths}
use Rattle.tv_framing.specs.Views.{View}
use Rattle.tv_framing.specs.engine.EndedSteps.{AreEndingsOf}
use Rattle.tv_framing.specs.engine.WiredFlows.{IsWired}
use Rattle.tv_framing.proofs.engine.Steps.{all-have_ended}
use Rattle.tv_framing.specs.matches.Jobs.{all_jobs, jobs_of}
use Rattle.tv_framing.specs.matches.Steps.{IsOfRankedFlow, IsStepAt, IsStepTold}
use Rattle.tv_framing.specs.matches.Waiting.{waiting_of}
use Rattle.tv_framing.proofs.matches.LawLemmas.{all-wait_at_first, frames-start}
use Rattle.tv_framing.proofs.faults.LawLemmas.{start-is_true}
use Rattle.tv_framing.specs.starts.Starts.{step_start}
use Rattle.tv_framing.specs.starts.Stated.{IsBegun}
use Rattle.tv_framing.proofs.starts.LawLemmas.{start-is_told}
use Rattle.tv_framing.specs.turns.IdleJobs.{AreIdleOf, IsIdle}
use Rattle.tv_frame.specs.declared.frame.Frame.{Frame}
use Rattle.tv_frame.specs.Calls.{CanStart, Starts}
use Rattle.tv_frame.specs.Kept.{AreIdle, AreOuts, AreWaiting, HasMatcher, named_job, step_name, things_of}
use Rattle.tv_frame.specs.Started.{AreFirstOuts, HasBegun, HaveBegun, at_start, named_values}
use Rattle.tv_frame.specs.Tables.{AreTables, first_tree, levels_in, tree_depths}
use Rattle.tv_frame.proofs.Plans.{levels-are}
use Rattle.tv_frame.proofs.TableLemmas.{plan-wired}
use Rattle.tv_frame.proofs.Coming.{as-declared}
use Rattle.tv_frame.proofs.Beginning.{idle-within}
use Rattle.tv_frame.proofs.Keeping.{levels-are as levels-at}
use Rattle.tv_frame.proofs.ShownLists.{things-append}

-- ---- lists

own-name : {A : Type 0} (xs : List (Name × A)) → is_ascending (names_of xs) ≡ true → (k : ℕ) (x : Name × A) → slice_get xs k ≡ Some x → named x.0 xs ≡ Some x.1
own-name {A = A} xs h k x e =
    subst (λ (y : Name × A). named y.0 xs ≡ Some y.1) (get_or_from_slice_get xs k x x e) (named-at xs k x h (within xs k x e))
  where
    within : (xs : List (Name × A)) (k : ℕ) (x : Name × A) → slice_get xs k ≡ Some x → k < length xs
    within [] k x e = cc
    within (y ∷ ys) zero x e = omega arith
    within (y ∷ ys) (suc k) x e = omega (arith, within ys k x e)

own-position : {A : Type 0} (xs : List (Name × A)) → is_ascending (names_of xs) ≡ true → (k : ℕ) (x : Name × A) → k < length xs → slice_get xs k ≡ Some x → position x.0 xs ≡ k
own-position {A = A} xs h k x lt e = ap (λ (y : Name × A). position y.0 xs) (sym (get_or_from_slice_get xs k x x e)) ∙ position-at xs k x h lt

-- ---- values by names

pub value-names : (xs : List (Name × ℕ)) (vs : List Value) → length vs ≡ length xs → map (λ x. x.0) (named_values xs vs) ≡ map (λ x. x.0) xs
value-names [] vs e = refl
value-names (x ∷ xs) [] e = cc
value-names (x ∷ xs) (v ∷ vs) e = ap (λ l. x.0 ∷ l) (value-names xs vs (omega (arith, e)))

pub values-named : (xs : List (Name × ℕ)) (vs : List Value) → length vs ≡ length xs → map (λ x. x.1) (named_values xs vs) ≡ vs
values-named [] [] e = refl
values-named [] (v ∷ vs) e = cc
values-named (x ∷ xs) [] e = cc
values-named (x ∷ xs) (v ∷ vs) e = ap (λ l. v ∷ l) (values-named xs vs (omega (arith, e)))

value-finds : (xs : List (Name × ℕ)) (vs : List Value) → HaveTheseDepths (map (λ x. x.1) xs) vs → (p : Name) (d : ℕ) → named p xs ≡ Some d → HasDepth (unwrap_or (named p (named_values xs vs)) (list tt no_trees)) d
value-finds [] vs h p d e = cc
value-finds (x ∷ xs) [] h p d e = absurd h
value-finds (x ∷ xs) (v ∷ vs) h p d e = by (same_name p x.0) e (λ k. value-finds xs vs h.1 p d k)
  where
    by : (b : Bool) → (if b then Some x.1 else named p xs) ≡ Some d → (named p xs ≡ Some d → HasDepth (unwrap_or (named p (named_values xs vs)) (list tt no_trees)) d) → HasDepth (unwrap_or (if b then Some v else named p (named_values xs vs)) (list tt no_trees)) d
    by true q rec = let f : x.1 ≡ d = cc in subst (HasDepth v) f h.0
    by false q rec = rec q

pub values-have : (all : List (Name × ℕ)) (vs : List Value) → HaveTheseDepths (map (λ x. x.1) all) vs → (xs : List (Name × ℕ)) → ((k : ℕ) (x : Name × ℕ) → slice_get xs k ≡ Some x → named x.0 all ≡ Some x.1) → InputsHave xs (named_values all vs)
values-have all vs h [] f = tt
values-have all vs h (x ∷ xs) f = (value-finds all vs h x.0 x.1 (f 0 x refl), values-have all vs h xs (λ k y e. f (suc k) y e))

-- ---- things by steps

things-own : (n : ℕ) (os : List Outcome) → things_of n (map (λ o. (n, o)) os) ≡ os
things-own n [] = refl
things-own n (o ∷ os) =
    ap (λ b. map (λ (x : ℕ × Outcome). x.1) (if b then (n, o) ∷ filter (λ (x : ℕ × Outcome). x.0 == n) (map (λ o. (n, o)) os) else filter (λ (x : ℕ × Outcome). x.0 == n) (map (λ o. (n, o)) os))) (eq-eqb n n refl)
    ∙ ap (λ l. o ∷ l) (things-own n os)

things-other : (n k : ℕ) → (k == n) ≡ false → (os : List Outcome) → things_of n (map (λ o. (k, o)) os) ≡ []
things-other n k e [] = refl
things-other n k e (o ∷ os) =
    ap (λ b. map (λ (x : ℕ × Outcome). x.1) (if b then (k, o) ∷ filter (λ (x : ℕ × Outcome). x.0 == n) (map (λ o. (k, o)) os) else filter (λ (x : ℕ × Outcome). x.0 == n) (map (λ o. (k, o)) os))) e
    ∙ things-other n k e os

module _ (brings : ℕ → List Outcome) (n : ℕ) where
  abbrev placed : ℕ → List (ℕ × Outcome)
  placed k = map (λ o. (k, o)) (brings k)

  things-none : (a c : ℕ) → n < a → things_of n (flat_map placed (range_with_len a c)) ≡ []
  things-none a zero h = refl
  things-none a (suc c) h =
      things-append n (placed a) (flat_map placed (range_with_len (a + 1) c))
      ∙ ap (λ l. l ++ things_of n (flat_map placed (range_with_len (a + 1) c))) (things-other n a (differ (a == n) refl) (brings a))
      ∙ things-none (a + 1) c (omega (arith, h))
    where
      differ : (b : Bool) → (a == n) ≡ b → (a == n) ≡ false
      differ true e = let f : a ≡ n = eqb-true a n e in absurd (omega (arith, f, h))
      differ false e = e

  things-at : (a c : ℕ) → a ≤ n → n < a + c → things_of n (flat_map placed (range_with_len a c)) ≡ brings n
  things-at a zero h k = absurd (omega (arith, h, k))
  things-at a (suc c) h k =
      things-append n (placed a) (flat_map placed (range_with_len (a + 1) c)) ∙ by (a == n) refl (λ m. things-at (a + 1) c m (omega (arith, k)))
    where
      not-both : (b : Bool) → b ≡ false → b ≡ true → ⊥
      not-both b p q = cc

      before : (a ≡ n → ⊥) → a + 1 ≤ n
      before g = omega (arith, h, g)

      by : (b : Bool) → (a == n) ≡ b → (a + 1 ≤ n → things_of n (flat_map placed (range_with_len (a + 1) c)) ≡ brings n) → things_of n (placed a) ++ things_of n (flat_map placed (range_with_len (a + 1) c)) ≡ brings n
      by true e r =
          let f : a ≡ n = eqb-true a n e in
          ap (λ l. things_of n (placed a) ++ l) (things-none (a + 1) c (omega (arith, f)))
          ∙ append-nil (things_of n (placed a))
          ∙ ap (λ m. things_of n (map (λ o. (m, o)) (brings m))) f
          ∙ things-own n (brings n)
      by false e r =
          ap (λ l. l ++ things_of n (flat_map placed (range_with_len (a + 1) c))) (things-other n a e (brings a))
          ∙ r (before (λ f. not-both (a == n) e (eq-eqb a n f)))

-- ---- jobs by steps

module _ (f : Flow) (os : ℕ → List Outcome) where
  abbrev jobs_at : ℕ → List (ℕ × Place)
  jobs_at k = map (λ q. (k, q)) (intake.job_places (os k))

  jobs-along : (k : ℕ) (ss : List (Name × Step)) → ((j : ℕ) (s : Name × Step) → slice_get ss j ≡ Some s → step_name f (k + j) ≡ s.0) → map (named_job f) (flat_map jobs_at (range_with_len k (length ss))) ≡ flat_map (λ (x : ℕ × (Name × Step)). jobs_of x.1.0 (os x.0)) (numbered k ss)
  jobs-along k [] h = refl
  jobs-along k (s ∷ ss) h =
      let n : k + 1 ≡ suc k = omega arith in
      let k_is : k + 0 ≡ k = omega arith in
      let name : step_name f k ≡ s.0 = ap (step_name f) (sym k_is) ∙ h 0 s refl in
      let first : map (named_job f) (jobs_at k) ≡ jobs_of s.0 (os k) =
      map-map (named_job f) (λ q. (k, q)) (intake.job_places (os k)) ∙ ap (λ m. map (λ q. (m, q)) (intake.job_places (os k))) name
      in
      map-append (named_job f) (jobs_at k) (flat_map jobs_at (range_with_len (k + 1) (length ss)))
      ∙ ap (λ l. l ++ map (named_job f) (flat_map jobs_at (range_with_len (k + 1) (length ss)))) first
      ∙ ap (λ j. jobs_of s.0 (os k) ++ map (named_job f) (flat_map jobs_at (range_with_len j (length ss)))) n
      ∙ ap (λ l. jobs_of s.0 (os k) ++ l) (jobs-along (suc k) ss (λ j t e. let m : suc k + j ≡ k + suc j = omega arith in ap (step_name f) m ∙ h (suc j) t e))

-- ---- trees and endings

none-known : (ds : List ℕ) (j : ℕ) → tree_in (map (λ d. wanting) ds) j ≡ wanting
none-known [] j = refl
none-known (d ∷ ds) zero = refl
none-known (d ∷ ds) (suc j) = none-known ds j

none-ended : (n : ℕ) → n ≢ 0 → list_all (λ b. b) (replicate n false) ≡ false
none-ended zero h = absurd (h refl)
none-ended (suc n) h = refl

-- ---- what the matchers were told

abbrev told_in : Option Matcher → List Told
told_in None = []
told_in (Some m) = (matching m).told

module _ (flows : List (Name × Flow)) (p : FlowPlan) (vs : List Value) (can : CanStart flows p vs) where
  abbrev flow : Flow
  flow = flow_view p.flow

  abbrev values : List (Name × Value)
  values = named_values flow.inputs vs

  wired : IsWired (flow_view p.flow)
  wired = plan-wired p

  steps-rise : is_ascending (names_of (flow_view p.flow).steps) ≡ true
  steps-rise = steps-ascend (flow_view p.flow) wired.formed

  pub many : length vs ≡ length (flow_view p.flow).inputs
  many = as-declared (map (λ x. x.1) (flow_view p.flow).inputs) vs can.right ∙ length-map (flow_view p.flow).inputs (λ (x : Name × ℕ). x.1)

  pub inputs-named : (k : ℕ) (x : Name × ℕ) → slice_get (flow_view p.flow).inputs k ≡ Some x → named x.0 (flow_view p.flow).inputs ≡ Some x.1
  inputs-named k x e = own-name (flow_view p.flow).inputs (ascending is_depth 0 16 (flow_view p.flow).inputs (flow-inputs (flow_view p.flow) wired.formed)) k x e

  module _ (i : Intakes) (idle : Idles) (h : HaveBegun (flow_view p.flow) (at_start (flow_view p.flow) (named_values (flow_view p.flow).inputs vs)) (length (flow_view p.flow).steps) i idle) where
    abbrev pub first_view : View
    first_view = record { flow = flow_view p.flow; inputs = named_values (flow_view p.flow).inputs vs; events = []; jobs = map (named_job (flow_view p.flow)) (known_jobs i) }

    of-depths : IsOfDepths flows (levels_in (flow_view p.flow)) first_view
    of-depths = record {
      flow = can.agrees;
      inputs = values-have (flow_view p.flow).inputs vs can.right (flow_view p.flow).inputs inputs-named;
      levels_are = levels-are (flow_view p.flow) wired;
    }

    begun : IsBegun flows (levels_in (flow_view p.flow)) first_view
    begun = record { depths = of-depths; wired = wired; events = refl }

    ranked-flow : IsOfRankedFlow flows (levels_in (flow_view p.flow)) first_view
    ranked-flow = record { depths = of-depths; formed = wired.formed; ranked = wired.ranked }

    matcher-kept : (n : ℕ) (s : Name × Step) → IsStepAt first_view n s → HasMatcher first_view s (matcher_at i n)
    matcher-kept n s at = by (matcher_at i n) (h.matchers n s (slice_get_within (flow_view p.flow).steps n s at) at)
      where
        by : (o : Option Matcher) → HasBegun (flow_view p.flow) s.1 (step_start (flow_view p.flow) (named_values (flow_view p.flow).inputs vs) s.1) o → HasMatcher first_view s o
        by None b = absurd b
        by (Some m) b = record {
          strategy_is = b.strategy_is;
          mismatch_is = b.mismatch_is;
          told = start-is_told flows (levels_in (flow_view p.flow)) first_view begun n s at (matching m).told b.told;
          truly = start-is_true flows (levels_in (flow_view p.flow)) first_view begun n s at (matching m).told b.told;
        }

    step-told : (n : ℕ) (s : Name × Step) → IsStepAt first_view n s → IsStepTold first_view s (told_in (matcher_at i n)) (followed_at i n)
    step-told n s at = by (matcher_at i n) (h.intaken.sound n) (h.matchers n s (slice_get_within (flow_view p.flow).steps n s at) at)
      where
        by : (o : Option Matcher) → IsSoundAt o → HasBegun (flow_view p.flow) s.1 (step_start (flow_view p.flow) (named_values (flow_view p.flow).inputs vs) s.1) o → IsStepTold first_view s (told_in o) (option_map_or in_order o [])
        by None k b = absurd b
        by (Some m) k b =
            let told_is : (matching m).told ++ (matching m).held ≡ (matching m).told = ap (λ l. (matching m).told ++ l) b.held ∙ append-nil (matching m).told in
            record {
              told = start-is_told flows (levels_in (flow_view p.flow)) first_view begun n s at (matching m).told b.told;
              outcomes =
                  subst (λ t. IsPermutation (in_order m) (map (out t) (matched_after t (matching m).told))) b.strategy_is
                  (subst (λ l. IsPermutation (in_order m) (map (out (matching m).strategy) (matched_after (matching m).strategy l))) told_is
                  (subst (λ l. IsPermutation l (map (out (matching m).strategy) (matched_after (matching m).strategy ((matching m).told ++ (matching m).held)))) (none-ahead m k b.held) (ahead-matched m k)));
            }

    name-at : (j : ℕ) (s : Name × Step) → slice_get (flow_view p.flow).steps j ≡ Some s → step_name (flow_view p.flow) j ≡ s.0
    name-at j s e = ap (λ o. option_map_or (λ (t : Name × Step). t.0) o []) e

    jobs-are : map (named_job (flow_view p.flow)) (known_jobs i) ≡ all_jobs (flow_view p.flow) (followed_at i)
    jobs-are =
        ap (map (named_job (flow_view p.flow))) h.jobs_are
        ∙ jobs-along (flow_view p.flow) (followed_at i) 0 (flow_view p.flow).steps (λ j s e. let n : 0 + j ≡ j = omega arith in ap (step_name (flow_view p.flow)) n ∙ name-at j s e)

    frame-starts : IsFrame first_view
    frame-starts =
        frames-start flows (levels_in (flow_view p.flow)) first_view ranked-flow (λ n. told_in (matcher_at i n)) (followed_at i) (λ n s at. step-told n s at)
        (subst (IsPermutation (map (named_job (flow_view p.flow)) (known_jobs i))) jobs-are (IsPermutation-refl (map (named_job (flow_view p.flow)) (known_jobs i)))) refl

    all-wait : AreWaiting first_view (matcher_at i) (waiting_things i)
    all-wait n s at =
        let others = intake.others_among (followed_at i n) in
        let lt : n < 0 + length (flow_view p.flow).steps = let k = slice_get_within (flow_view p.flow).steps n s at in omega (arith, k) in
        let le : 0 ≤ n = omega arith in
        let same : things_of n (waiting_things i) ≡ waiting_of [] s.0 (followed_at i n) =
        ap (things_of n) h.waiting_are ∙ things-at (λ k. intake.others_among (followed_at i k)) n 0 (length (flow_view p.flow).steps) le lt ∙ sym (all-wait_at_first s.0 (followed_at i n))
        in
        subst (IsPermutation (things_of n (waiting_things i))) same (IsPermutation-refl (things_of n (waiting_things i)))

    -- the step at which a known job is
    step-of-job : (n : ℕ) (y : ℕ × Place) → slice_get (known_jobs i) n ≡ Some y → (s : Name × Step) × (slice_get (flow_view p.flow).steps y.0 ≡ Some s)
    step-of-job n y e =
        let lt = idle-within idle.steps y.0 (n, y.1) (h.idle_are.all n y e) in
        get-within (flow_view p.flow).steps y.0 (subst (λ m. y.0 < m) h.steps lt)

    job-at : (n : ℕ) (x : Name × Place) → by_number first_view n ≡ Some x → (y : ℕ × Place) × ((slice_get (known_jobs i) n ≡ Some y) × (x ≡ named_job (flow_view p.flow) y))
    job-at n x e = of-get_map (named_job (flow_view p.flow)) (known_jobs i) n x e

    idle-starts : AreIdleOf first_view idle.steps
    idle-starts = record {
      order = record { good = λ k. (h.idle_are.good_kept k).order; faulty = λ k. (h.idle_are.faulty_kept k).order };
      steps = λ n x e.
          let y = job-at n x e in
          let s = step-of-job n y.0 y.1.0 in
          let name : x.0 ≡ s.0.0 = ap (λ (z : Name × Place). z.0) y.1.1 ∙ name-at y.0.0 s.0 s.1 in
          ap (has_name (flow_view p.flow).steps) name ∙ ap is_some (own-name (flow_view p.flow).steps steps-rise y.0.0 s.0 s.1);
      all = λ n x e a b.
          let y = job-at n x e in
          let s = step-of-job n y.0 y.1.0 in
          let name : x.0 ≡ s.0.0 = ap (λ (z : Name × Place). z.0) y.1.1 ∙ name-at y.0.0 s.0 s.1 in
          let at : y.0.0 ≡ position x.0 (flow_view p.flow).steps = sym (ap (λ m. position m (flow_view p.flow).steps) name ∙ own-position (flow_view p.flow).steps steps-rise y.0.0 s.0 (slice_get_within (flow_view p.flow).steps y.0.0 s.0 s.1) s.1) in
          let place : y.0.1 ≡ x.1 = ap (λ (z : Name × Place). z.1) (sym y.1.1) in
          subst (λ q. IsIdle idle.steps (position x.0 (flow_view p.flow).steps) (n, q)) place (subst (λ k. IsIdle idle.steps k (n, y.0.1)) at (h.idle_are.all n y.0 y.1.0));
      known = λ k s j e d.
          let got = h.idle_are.none_else k j d in
          ap (λ o. o) (slice_named j.0 (k, j.1) got) ∙ ap (λ m. Some (m, j.1)) (name-at k s e);
      free = λ k s j e d. (refl, refl);
    }
      where
        slice_named : (n : ℕ) (y : ℕ × Place) → slice_get (known_jobs i) n ≡ Some y → slice_get (map (named_job (flow_view p.flow)) (known_jobs i)) n ≡ Some (named_job (flow_view p.flow) y)
        slice_named n y e = get-map (named_job (flow_view p.flow)) (known_jobs i) n y e

    are-idle : AreIdle first_view i idle
    are-idle = record {
      all = idle-starts;
      known = h.idle_are.known;
      as_many = h.steps;
      levels = λ n s at. h.levels n s (slice_get_within (flow_view p.flow).steps n s at) at ∙ sym (levels-at (flow_view p.flow) wired n s at);
      good = h.idle_are.good;
      faulty = h.idle_are.faulty;
    }

    first-outs : (e : Endings) → AreEndingsOf (flow_view p.flow) (levels_in (flow_view p.flow)) [] e → e.whole.items ≡ replicate (length (flow_view p.flow).steps) false → (outs : Option (List Piece)) → AreFirstOuts p vs outs → AreOuts first_view (has_ended_now (levels_in (flow_view p.flow)) first_view) outs
    first-outs e are none outs o = by outs o
      where
        ended : list_all (λ b. b) (replicate (length (flow_view p.flow).steps) false) ≡ has_ended_now (levels_in (flow_view p.flow)) first_view
        ended = ap (list_all (λ b. b)) (sym none) ∙ all-have_ended (flow_view p.flow) wired (levels_in (flow_view p.flow)) [] e are

        by : (outs : Option (List Piece)) → AreFirstOuts p vs outs → AreOuts first_view (has_ended_now (levels_in (flow_view p.flow)) first_view) outs
        by None k = sym ended ∙ none-ended (length (flow_view p.flow).steps) k
        by (Some ps) k = (
          sym ended ∙ ap (λ n. list_all (λ b. b) (replicate n false)) k.0,
          k.1,
          k.2 first_view refl (values-named (flow_view p.flow).inputs vs many) (value-names (flow_view p.flow).inputs vs many),
        )

-- a frame made of such parts keeps that view
pub record IsMadeOf (p : FlowPlan) (ps : List Piece) (pool : Nodes) (f : Frame) : Type 0 where
  pub inputs : f.inputs ≡ ps
  pub sound : AreSound ps
  pub marked : f.faulty_inputs.items ≡ map holds_fault (piece_values ps)
  pub tables : AreTables (flow_view p.flow) f.tables
  pub endings : AreEndingsOf (flow_view p.flow) (levels_in (flow_view p.flow)) [] f.endings
  pub none_whole : f.endings.whole.items ≡ replicate (length (flow_view p.flow).steps) false
  pub begun : HaveBegun (flow_view p.flow) (at_start (flow_view p.flow) (named_values (flow_view p.flow).inputs (piece_values ps))) (length (flow_view p.flow).steps) f.intakes f.idle
  pub live : IsLive pool f.region
  pub stand : Stand pool f.outputs f.region
  pub depths : depths f.outputs ≡ tree_depths (flow_view p.flow)
  pub known : known pool f.outputs ≡ map (λ d. wanting) (tree_depths (flow_view p.flow))
  pub outs : AreFirstOuts p (piece_values ps) f.outs

pub starts : (flows : List (Name × Flow)) (p : FlowPlan) (ps : List Piece) (pool : Nodes) (f : Frame) → IsMadeOf p ps pool f → CanStart flows p (piece_values ps) → Starts flows p (piece_values ps) pool f
starts flows p ps pool f m can = (
  first_view flows p (piece_values ps) can f.intakes f.idle m.begun,
  refl,
  values-named (flow_view p.flow).inputs (piece_values ps) (many flows p (piece_values ps) can),
  record {
    flow_is = refl;
    frame = frame-starts flows p (piece_values ps) can f.intakes f.idle m.begun;
    of_depths = of-depths flows p (piece_values ps) can f.intakes f.idle m.begun;
    inputs_are = record {
      names = value-names (flow_view p.flow).inputs (piece_values ps) (many flows p (piece_values ps) can);
      values = values-named (flow_view p.flow).inputs (piece_values ps) (many flows p (piece_values ps) can) ∙ ap piece_values (sym m.inputs);
      sound = subst AreSound (sym m.inputs) m.sound;
      marked = m.marked ∙ ap (λ l. map holds_fault (piece_values l)) (sym m.inputs);
    };
    tables_are = m.tables;
    live = m.live;
    stand = m.stand;
    deep = m.depths;
    trees_are = λ n s at k lt. ap (λ ts. tree_in ts (first_tree (flow_view p.flow).steps n + k)) m.known ∙ none-known (tree_depths (flow_view p.flow)) (first_tree (flow_view p.flow).steps n + k);
    endings_are = m.endings;
    intaken = m.begun.intaken;
    as_many = m.begun.as_many;
    matchers_are = matcher-kept flows p (piece_values ps) can f.intakes f.idle m.begun;
    jobs_are = refl;
    waiting_are = all-wait flows p (piece_values ps) can f.intakes f.idle m.begun;
    idle_are = are-idle flows p (piece_values ps) can f.intakes f.idle m.begun;
    outs_are = first-outs flows p (piece_values ps) can f.intakes f.idle m.begun f.endings m.endings m.none_whole f.outs m.outs;
  },
)
