-- The loop over the steps by rank.
use Rattle.std.specs.Prelude.{◌≡◌, refl, ◌⊎◌, ℕ, zero, suc, ◌<◌, List, [], ◌∷◌, length, replicate, Bool, true, Option, Some, slice_get, slice_index_or, Result, Ok, Err, IfOk}
use Rattle.std.proofs.Common.{arith, sym, ap, subst, ◌∙◌, set, inl, inr}
use Rattle.std.proofs.lemmas.Option.{none-some, same_Some}
use Rattle.tv_value.specs.Nested.{Place}
use Rattle.tv_value.specs.Values.{JobName, Name}
use Rattle.tv_gate.specs.Outcomes.{Giving}
use Rattle.tv_flow.specs.Flows as spec
use Rattle.tv_flow.specs.Flows.{Document}
use Rattle.tv_flow.specs.Views.{flow_view}
use Rattle.tv_lineage.specs.Kept.{Groups, Kept, records_of}
use Rattle.tv_strategy.specs.Conditions.{number_of}
use Rattle.tv_strategy.specs.Measures.{strategy_depth}
use Rattle.tv_naming.specs.Numbers.{position}
use Rattle.tv_model.specs.instance.Ranks.{ranked}
use Rattle.tv_model.specs.instance.Steps.{strategy_of}
use Rattle.tv_check.specs.Ports.{mismatches}
use Rattle.tv_check.specs.Plans as plan
use Rattle.tv_check.specs.declared.plans.FlowPlan.{FlowPlan}
use Rattle.tv_check.specs.declared.plans.StepPlan.{StepPlan}
use Rattle.tv_frame.specs.Levels.{What}
use Rattle.tv_frame.specs.MainSteps.{main_steps}
use Rattle.tv_lineage.specs.Members.{HaveSame}
use Rattle.tv_strategy.specs.Origins.{Origin}
use Rattle.tv_model.specs.records.Recorded.{main_records}
use Rattle.tv_model.specs.Meanings.{meaning}
use Rattle.std.proofs.lemmas.List.Sorted.{IsPermutation-sym}
use Rattle.std.proofs.lemmas.Bool.{cases_eq}
use Rattle.tv_lemmas.proofs.Members.{in-slice}
use Rattle.tv_lemmas.proofs.Lists.{get-within, filter-all}
use Rattle.tv_naming.proofs.Forms.{steps-named}
use Rattle.tv_matching.proofs.Members.{in-permutes}
use Rattle.tv_frame.proofs.matches.Ranks.{ranked-permutes}
use Rattle.tv_lemmas.proofs.Members.{get-in as in-at}
use Rattle.tv_frame.proofs.Order.{rank-is}
use Rattle.tv_frame.proofs.TableLemmas.{as-many-steps, plan-wired, step-of}
use Rattle.tv_traces.specs.OfNodes.{IsWalked}
use Rattle.tv_traces.specs.Feeds.{job_at}
use Rattle.tv_traces.specs.Grouped.{AllAreGrouped, Grows, IsGrouped}
use Rattle.tv_traces.specs.Shapes.{Shape, no_shape}
use Rattle.tv_traces.specs.Seen.{AreSeen}
use Rattle.tv_traces.specs.Staged.{IsStage}
use Rattle.tv_forest.specs.runs.Stated.{IsMainFlow}
use Rattle.tv_traces.proofs.Adding.{stage-end, stage-next, stage-start}
use Rattle.tv_traces.proofs.Groups.{all-grow}
use Rattle.tv_traces.specs.Stepping.{telling_of}
use Rattle.tv_traces.specs.Traced.{AreTraces, AreTracesBy}
use Rattle.tv_traces.specs.Views.{node_view, shapes_view}
use Rattle.tv_traces.specs.declared.node.Node.{Node}
use Rattle.tv_traces.specs.declared.traces.Traces.{Traces}

-- ---- no shapes

none-at : (us : List Shape) (count n : ℕ) → us ≡ replicate count no_shape → slice_index_or us n no_shape ≡ no_shape
none-at us count n e = ap (λ l. slice_index_or l n no_shape) e ∙ by count n
  where
    by : (count n : ℕ) → slice_index_or (replicate count no_shape) n no_shape ≡ no_shape
    by zero n = refl
    by (suc count) zero = refl
    by (suc count) (suc n) = by count n

pub none-grouped : (flow : spec.Flow) (gs : Groups) (us : List Shape) (count : ℕ) → us ≡ replicate count no_shape → AllAreGrouped flow gs us
none-grouped flow gs us count e n s h = subst (IsGrouped (job_at s.0) gs []) (sym (none-at us count n e)) tt

pub none-staged : (known : Origin → Bool) (settled : JobName → Bool) (gives : Giving) (d : Document) (flow : spec.Flow) → IsMainFlow d flow → (k : Kept) (us : List Shape) (count : ℕ) → records_of k ≡ [] → us ≡ replicate count no_shape → IsStage gives d flow known settled 0 k us
none-staged known settled gives d flow is k us count e f = stage-start gives d flow is known settled k us e (λ n. none-at us count n f)

-- ---- one more

set-here : (us : List Node) (n : ℕ) (u : Node) → n < length us → slice_index_or (shapes_view (set us n u)) n no_shape ≡ node_view u
set-here [] n u h = absurd (none n h)
  where
    none : (n : ℕ) → n < 0 → ⊥
    none n h = omega arith
set-here (v ∷ us) zero u h = refl
set-here (v ∷ us) (suc n) u h = set-here us n u (less n (length us) h)
  where
    less : (a b : ℕ) → suc a < suc b → a < b
    less a b h = omega arith

pub set-long : (us : List Node) (n : ℕ) (u : Node) → length (set us n u) ≡ length us
set-long [] n u = refl
set-long (v ∷ us) zero u = refl
set-long (v ∷ us) (suc n) u = ap suc (set-long us n u)

set-there : (us : List Node) (n k : ℕ) (u : Node) → (k ≡ n → ⊥) → slice_index_or (shapes_view (set us n u)) k no_shape ≡ slice_index_or (shapes_view us) k no_shape
set-there [] n k u h = refl
set-there (v ∷ us) zero zero u h = absurd (h refl)
set-there (v ∷ us) zero (suc k) u h = refl
set-there (v ∷ us) (suc n) zero u h = refl
set-there (v ∷ us) (suc n) (suc k) u h = set-there us n k u (λ e. h (ap suc e))

module _ (p : FlowPlan) (n r : ℕ) (lt : n < length p.steps) (rank : (q : StepPlan) → slice_get p.steps n ≡ Some q → q.rank ≡ r) (what : ℕ → Place → Option What) (done : ℕ → Place → Bool) (old now : Kept) (us vs : List Node) (u : Node) (long : length us ≡ length p.steps) (is : vs ≡ set us n u)
    (walked : (s : Name × spec.Step) → slice_get (flow_view p.flow).steps n ≡ Some s → IsWalked (telling_of (flow_view p.flow) (shapes_view us) (what n) (done n) s) s (strategy_depth (number_of (mismatches (flow_view p.flow) s.1)) (strategy_of s.1)) old now (node_view u)) where
  abbrev flow : spec.Flow
  flow = flow_view p.flow

  here : (s : Name × spec.Step) × (slice_get flow.steps n ≡ Some s)
  here = get-within flow.steps n (subst (λ m. n < m) (as-many-steps p) lt)

  of-rank : position here.0.0 (ranked flow.steps) ≡ r
  of-rank =
      let q = get-within p.steps n lt in
      let w = step-of p n q.0 q.1 in
      let same : w.0 ≡ here.0 = same_Some w.0 here.0 (sym w.1.0 ∙ here.1) in
      ap (λ (s : Name × spec.Step). position s.0 (ranked flow.steps)) (sym same) ∙ sym (ap (λ (z : plan.StepPlan). z.rank) w.1.1) ∙ rank q.0 q.1

  at-n : slice_index_or (shapes_view vs) n no_shape ≡ node_view u
  at-n = ap (λ l. slice_index_or (shapes_view l) n no_shape) is ∙ set-here us n u (subst (λ m. n < m) (sym long) lt)

  others : (k : ℕ) → (k ≡ n → ⊥) → slice_index_or (shapes_view vs) k no_shape ≡ slice_index_or (shapes_view us) k no_shape
  others k h = ap (λ l. slice_index_or (shapes_view l) k no_shape) is ∙ set-there us n k u h

  pub more-staged : (known : Origin → Bool) (settled : JobName → Bool) (gives : Giving) (d : Document) → IsMainFlow d flow → AreSeen known settled flow (main_steps (meaning gives d)) what done → IsStage gives d flow known settled r old (shapes_view us) → IsStage gives d flow known settled (suc r) now (shapes_view vs)
  more-staged known settled gives d is seen stage =
      stage-next gives d flow is known settled what done seen n r here.0 here.1 of-rank old now (shapes_view us) (shapes_view vs) stage
      (strategy_depth (number_of (mismatches flow here.0.1)) (strategy_of here.0.1)) refl (node_view u) (walked here.0 here.1) at-n others

  pub more-grouped : AllAreGrouped flow old.groups (shapes_view us) → AllAreGrouped flow now.groups (shapes_view vs)
  more-grouped all k s h = by (cases_eq k n)
    where
      grown : Grows old.groups now.groups
      grown = (walked here.0 here.1).grows

      by : (k ≡ n) ⊎ (k ≡ n → ⊥) → IsGrouped (job_at s.0) now.groups [] (slice_index_or (shapes_view vs) k no_shape)
      by (inl e) =
          let same : here.0 ≡ s = same_Some here.0 s (sym here.1 ∙ ap (slice_get flow.steps) (sym e) ∙ h) in
          subst (λ (z : Name × spec.Step). IsGrouped (job_at z.0) now.groups [] (slice_index_or (shapes_view vs) k no_shape)) same
          (subst (IsGrouped (job_at here.0.0) now.groups []) (sym (ap (λ i. slice_index_or (shapes_view vs) i no_shape) e ∙ at-n)) (walked here.0 here.1).grouped)
      by (inr f) = subst (IsGrouped (job_at s.0) now.groups []) (sym (others k f)) (all-grow flow old.groups now.groups (shapes_view us) grown all k s h)

-- ---- each rank is that of a step

pub rank-there : (p : FlowPlan) (r : ℕ) → r < length p.steps → ((n : ℕ) (q : StepPlan) → slice_get p.steps n ≡ Some q → q.rank ≡ r → ⊥) → ⊥
rank-there p r lt none =
    let flow = flow_view p.flow in
    let wired = plan-wired p in
    let s = get-within (ranked flow.steps) r (subst (λ m. r < m) (as-many-steps p ∙ sym wired.ranked) lt) in
    let i = in-permutes s.0 flow.steps (ranked flow.steps) (IsPermutation-sym _ _ (ranked-permutes flow.steps (steps-named flow wired.formed).rise wired.ranked)) (in-slice (ranked flow.steps) r s.0 s.1) in
    let n = in-at s.0 flow.steps i in
    let q = get-within p.steps n.0 (inside p n.0 s.0 n.1) in
    let w = step-of p n.0 q.0 q.1 in
    let same : w.0 ≡ s.0 = same_Some w.0 s.0 (sym w.1.0 ∙ n.1) in
    none n.0 q.0 q.1 (ap (λ (z : plan.StepPlan). z.rank) w.1.1 ∙ ap (λ (x : Name × spec.Step). position x.0 (ranked flow.steps)) same ∙ rank-is flow wired r s.0 s.1)
  where
    inside : (p : FlowPlan) (k : ℕ) (s : Name × spec.Step) → slice_get (flow_view p.flow).steps k ≡ Some s → k < length p.steps
    inside p k s e = subst (λ m. k < m) (sym (as-many-steps p)) (got-below (flow_view p.flow).steps k s e)
      where
        got-below : {A : Type 0} (xs : List A) (k : ℕ) (x : A) → slice_get xs k ≡ Some x → k < length xs
        got-below [] k x e = absurd (none-some x e)
        got-below (y ∷ xs) zero x e = more (length xs)
          where
            more : (a : ℕ) → 0 < suc a
            more a = omega arith
        got-below (y ∷ xs) (suc k) x e = more k (length xs) (got-below xs k x e)
          where
            more : (a b : ℕ) → a < b → suc a < suc b
            more a b h = omega arith

-- ---- in the end

pub all-staged : (known : Origin → Bool) (settled : JobName → Bool) (gives : Giving) (d : Document) (p : FlowPlan) (r : ℕ) (t : Traces) → IsMainFlow d (flow_view p.flow) → r ≡ length p.steps → IsStage gives d (flow_view p.flow) known settled r t.records (shapes_view t.shapes.items) → AreTracesBy known settled gives d (flow_view p.flow) t
all-staged known settled gives d p r t is e h =
    let stage = subst (λ n. IsStage gives d (flow_view p.flow) known settled n t.records (shapes_view t.shapes.items)) (e ∙ as-many-steps p) h in
    record { flow_is = is; records = stage-end gives d (flow_view p.flow) is known settled t.records (shapes_view t.shapes.items) stage; shapes = stage.shapes }

pub all-traced : {E : Type 0} (gives : Giving) (d : Document) (p : FlowPlan) (o : Result Traces E) → IsMainFlow d (flow_view p.flow) → IfOk o (AreTracesBy (λ o. true) (λ n. true) gives d (flow_view p.flow)) → IfOk o (AreTraces gives d (flow_view p.flow))
all-traced gives d p (Ok t) is h = record { flow_is = is; records = subst (HaveSame (records_of t.records)) (filter-all (main_records (meaning gives d))) h.records; shapes = h.shapes }
all-traced gives d p (Err e) is h = tt
