-- One step after another: with what is worked out of the next one more is done, and in the end all is.
use Rattle.std.specs.Prelude.{◌≡◌, refl, ◌⊎◌, ◌+◌, ℕ, zero, suc, Bool, true, List, [], ◌∷◌, ◌++◌, length, Option, Some, option_and_then, slice_get, slice_index_or}
use Rattle.std.proofs.Common.{arith, sym, ap, ap₂, subst, ◌∙◌, inl, inr, append_assoc}
use Rattle.std.proofs.lemmas.Option.{none-some, same_Some}
use Rattle.std.proofs.lemmas.List.{append-nil}
use Rattle.tv_lemmas.specs.Members.{In}
use Rattle.tv_lemmas.proofs.Members.{each_in, in-flat, in-left, in-right, of-flat}
use Rattle.tv_value.specs.Nested.{Place, at, item_at, leaf, list, no_trees, nodes, nodes_below, nodes_from, tree}
use Rattle.tv_value.specs.Values.{JobName, Name}
use Rattle.tv_gate.specs.Outcomes.{Giving}
use Rattle.tv_flow.specs.Flows.{Document, Flow, Step}
use Rattle.tv_lineage.specs.Kept.{Kept, records_of}
use Rattle.tv_lineage.specs.Lineages.{Record}
use Rattle.tv_lineage.specs.Members.{HaveSame}
use Rattle.tv_strategy.specs.Conditions.{number_of}
use Rattle.tv_strategy.specs.Iterations.{Binding, Iteration, Iterations, job, passed}
use Rattle.tv_strategy.specs.Measures.{strategy_depth}
use Rattle.tv_strategy.specs.Origins.{Origin}
use Rattle.tv_naming.specs.Numbers.{position}
use Rattle.tv_model.specs.instance.Ranks.{ranked}
use Rattle.tv_model.specs.instance.Steps.{bound_values, endings_of, strategy_of}
use Rattle.tv_check.specs.Ports.{mismatches, ports_of}
use Rattle.tv_model.specs.instance.ByResults.{InstanceStep, PlacedJob, jobs_at_node, step_of}
use Rattle.tv_model.specs.Meanings.{meaning}
use Rattle.tv_model.proofs.Sound.{StandsAt, all-stand as nodes-all-stand, nodes-stand}
use Rattle.tv_frame.specs.Levels.{What}
use Rattle.tv_frame.specs.MainSteps.{main_steps}
use Rattle.tv_model.specs.records.Recorded.{main_records}
use Rattle.tv_traces.specs.OfNodes.{IsWalked, Telling, Tells}
use Rattle.tv_traces.specs.Feeds.{job_at}
use Rattle.tv_traces.specs.Seen.{AreSeen, IsSeen}
use Rattle.tv_traces.specs.Settled.{records_of_settled}
use Rattle.tv_traces.specs.Shapes.{Shape, ShowsKnown, no_shape}
use Rattle.tv_traces.specs.Noted.{HaveRecords, IsNoted, IsRecordOf}
use Rattle.tv_traces.specs.Staged.{IsStage, steps_until}
use Rattle.tv_forest.specs.runs.Stated.{IsMainFlow}
use Rattle.tv_traces.specs.Walking.{begins_of}
use Rattle.tv_traces.proofs.Records.{have-same, main-placed, placed-main, step-main}
use Rattle.tv_traces.proofs.Stages.{at-rank, many, more-shown, new, new-in, new-levels, new-told, until-next}

-- ---- what stands at a place is a node

mutual
  at-node : (t : Iteration) (p q : Place) (u : Iteration) → at t q ≡ Some u → In (p ++ q, u) (nodes_below p t)
  at-node (leaf s e) p [] u h = inl (ap₂ (λ a b. (a, b)) (append-nil p) (sym (same_Some (leaf s e) u h)))
  at-node (leaf s e) p (i ∷ q) u h = absurd (none-some u h)
  at-node (list s ts) p [] u h = inl (ap₂ (λ a b. (a, b)) (append-nil p) (sym (same_Some (list s ts) u h)))
  at-node (list s ts) p (i ∷ q) u h = inr (subst (λ k. In (p ++ (k ∷ q), u) (nodes_from p 0 ts)) (from-none i) (at-item ts p 0 i q u h))
    where
      from-none : (i : ℕ) → 0 + i ≡ i
      from-none i = omega arith

  at-item : (ts : Iterations) (p : Place) (j i : ℕ) (q : Place) (u : Iteration) → option_and_then (λ t. at t q) (item_at ts i) ≡ Some u → In (p ++ ((j + i) ∷ q), u) (nodes_from p j ts)
  at-item no_trees p j i q u h = absurd (none-some u h)
  at-item (tree t ts) p j zero q u h =
      in-left _ (nodes_below (p ++ j ∷ []) t) (nodes_from p (suc j) ts)
      (subst (λ l. In (l, u) (nodes_below (p ++ j ∷ []) t)) (append_assoc p (j ∷ []) q ∙ ap (λ k. p ++ (k ∷ q)) (sym (more-none j))) (at-node t (p ++ j ∷ []) q u h))
    where
      more-none : (j : ℕ) → j + 0 ≡ j
      more-none j = omega arith
  at-item (tree t ts) p j (suc i) q u h =
      in-right _ (nodes_below (p ++ j ∷ []) t) (nodes_from p (suc j) ts)
      (subst (λ k. In (p ++ (k ∷ q), u) (nodes_from p (suc j) ts)) (later j i) (at-item ts p (suc j) i q u h))
    where
      later : (j i : ℕ) → suc j + i ≡ j + suc i
      later j i = omega arith

module _ (gives : Giving) (d : Document) (flow : Flow) (is : IsMainFlow d flow) where
  -- before any step is done
  pub stage-start : (known : Origin → Bool) (settled : JobName → Bool) (k : Kept) (us : List Shape) → records_of k ≡ [] → ((n : ℕ) → slice_index_or us n no_shape ≡ no_shape) → IsStage gives d flow known settled 0 k us
  stage-start known settled k us e f = record {
    shapes = λ t. f (position t flow.steps);
    own = λ x i. absurd (subst (In x) e i);
    all = λ g i. absurd i;
  }

  module _ (known : Origin → Bool) (settled : JobName → Bool) (what : ℕ → Place → Option What) (done : ℕ → Place → Bool) (all_seen : AreSeen known settled flow (main_steps (meaning gives d)) what done)
      (n r : ℕ) (s : Name × Step) (here : slice_get flow.steps n ≡ Some s) (of_rank : position s.0 (ranked flow.steps) ≡ r)
      (old now : Kept) (us more : List Shape) (stage : IsStage gives d flow known settled r old us) where
    abbrev telling : Telling
    telling = record { flow = flow; shapes = us; ports = ports_of flow s.1; begins = begins_of flow s.1; what = what n; settled = done n; name = s.0 }

    abbrev g : InstanceStep
    g = new gives d flow is n r s here of_rank

    abbrev it : Iteration
    it = g.step.iteration

    abbrev before : List Origin
    before = endings_of step_of (steps_until gives d flow r) s.1.after

    seen : IsSeen known settled (what n) (done n) s g.step
    seen = all_seen n s g.step here (step-main gives d flow is g (new-in gives d flow is n r s here of_rank)) refl

    tells : Tells telling known s it
    tells = record { name = refl; told = new-told gives d flow is n r s here of_rank known settled us stage.shapes (what n) (done n) seen }

    -- a job at a place
    placed : (q : Place) (src : List Origin) (b : Binding) → at it q ≡ Some (leaf src (job b)) → In (record { step = s.0; place = q; inputs = bound_values s.1 b; waits = src ++ before }) g.jobs
    placed q src b e = in-flat (jobs_at_node s.0 s.1 before) (q, leaf src (job b)) _ (nodes it) (at-node it [] q (leaf src (job b)) e) (inl refl)

    -- and a job of the step stands at one
    pub record IsAt (k : PlacedJob) : Type 0 where
      pub sources : List Origin
      pub binding : Binding
      pub stands : at it k.place ≡ Some (leaf sources (job binding))
      pub step : k.step ≡ s.0

    node-job : (k : PlacedJob) (x : Place × Iteration) → at it x.0 ≡ Some x.1 → In k (jobs_at_node s.0 s.1 before x) → IsAt k
    node-job k (q, leaf src (job b)) e (inl h) = subst IsAt (sym h) (record { sources = src; binding = b; stands = e; step = refl })
    node-job k (q, leaf src (job b)) e (inr h) = absurd h
    node-job k (q, leaf src (passed m x)) e h = absurd h
    node-job k (q, list src ts) e h = absurd h

    job-at : (k : PlacedJob) → In k g.jobs → IsAt k
    job-at k i =
        let x = of-flat (jobs_at_node s.0 s.1 before) k (nodes it) i in
        node-job k x.0 (each_in (λ (y : Place × Iteration). StandsAt it y.0 y.1) (nodes it) (nodes-stand (StandsAt it) it [] (nodes-all-stand it it [] refl)) x.0 x.1) x.2

    -- with its shape and records one more is done
    pub stage-next : (levels_of : ℕ) → levels_of ≡ strategy_depth (number_of (mismatches flow s.1)) (strategy_of s.1) → (u : Shape) → IsWalked telling s levels_of old now u → slice_index_or more n no_shape ≡ u → ((k : ℕ) → (k ≡ n → ⊥) → slice_index_or more k no_shape ≡ slice_index_or us k no_shape) → IsStage gives d flow known settled (suc r) now more
    stage-next m e u walked at_n others = record {
      shapes = more-shown gives d flow is n r s here of_rank known settled us stage.shapes (what n) (done n) more (λ some. subst (λ v. ShowsKnown (job_at s.0) known [] v it) (sym at_n) (told.0 some)) others;
      own = λ x i. by x (told.1.only x i);
      all = λ f i k j z. each f (subst (In f) (until-next gives d flow is r s (at-rank gives d flow is n r s here of_rank)) i) k j z;
    }
      where
        told : ((s.1.outputs ≡ [] → ⊥) → ShowsKnown (job_at s.0) known [] u it) × IsNoted (done n) s it (records_of old) (records_of now) × HaveRecords (done n) s.0 [] it (records_of now)
        told = walked.told known it tells (subst (Rattle.tv_strategy.specs.Levels.HasLevels it) (sym e) (new-levels gives d flow is n r s here of_rank))

        by : (x : Record) → In x (records_of old) ⊎ IsRecordOf (done n) s it x → In x (main_records (meaning gives d)) × (settled x.job ≡ true)
        by x (inl i) = stage.own x i
        by x (inr h) = (
          subst (λ z. In z (main_records (meaning gives d))) (sym h.is)
              (placed-main gives d flow is g (new-in gives d flow is n r s here of_rank) (record { step = s.0; place = h.place; inputs = bound_values s.1 h.binding; waits = h.sources ++ before }) (placed h.place h.sources h.binding h.stands)),
          subst (λ (z : Record). settled z.job ≡ true) (sym h.is) (sym (seen.jobs h.place h.sources h.binding h.stands) ∙ h.is_settled),
        )

        each : (f : InstanceStep) → In f (g ∷ steps_until gives d flow r) → (k : PlacedJob) → In k f.jobs → settled (job_at k.step k.place) ≡ true → (x : Record) × In x (records_of now) × (x.job ≡ job_at k.step k.place)
        each f (inl p) k j z =
            let h = job-at k (subst (λ (y : InstanceStep). In k y.jobs) p j) in
            let x = told.2 k.place h.sources h.binding h.stands (seen.jobs k.place h.sources h.binding h.stands ∙ subst (λ y. settled (job_at y k.place) ≡ true) h.step z) in
            (x.0, x.1, x.2 ∙ ap (λ y. job_at y k.place) (sym h.step))
        each f (inr i) k j z = let x = stage.all f i k j z in (x.0, told.1.kept x.0 x.1, x.2)

  -- in the end the records are those of the settled main jobs
  pub stage-end : (known : Origin → Bool) (settled : JobName → Bool) (k : Kept) (us : List Shape) → IsStage gives d flow known settled (length flow.steps) k us → HaveSame (records_of k) (records_of_settled settled (meaning gives d))
  stage-end known settled k us h =
      have-same gives d flow is settled (records_of k) h.own (λ r i z.
      let p = main-placed gives d flow is r i in
      let x = h.all p.step (subst (λ ss. In p.step (Rattle.tv_model.specs.instance.ByResults.steps_by [] (Rattle.tv_traces.specs.Staged.main_results gives d flow) (Rattle.tv_model.specs.Instances.given_of flow d.inputs) [] ss)) (sym (many gives d flow is)) p.there) p.placed p.among (sym (ap (λ (y : Record). settled y.job) p.same) ∙ z) in
      (x.0, x.1, x.2 ∙ ap (λ (y : Record). y.job) (sym p.same)))
