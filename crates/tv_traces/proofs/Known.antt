-- What is told of the main instance while it is open is all that is known of it.
use Rattle.std.specs.List.{list_all}
use Rattle.std.specs.Prelude.{◌≡◌, refl, ℕ, Bool, true, false, filter, find, if◌then◌else◌, List, [], ◌∷◌, map, Option, Some, slice_get}
use Rattle.std.proofs.Common.{ap, inl, inr, subst, sym, ◌∙◌}
use Rattle.std.proofs.lemmas.Bool.{or_right}
use Rattle.std.proofs.lemmas.Option.{same_Some}
use Rattle.tv_lemmas.specs.Members.{In}
use Rattle.tv_lemmas.proofs.Members.{in-map, of-map}
use Rattle.tv_value.specs.Nested.{Place, at, leaf, list}
use Rattle.tv_value.specs.Orders.{same_name}
use Rattle.tv_value.specs.Values.{JobName, Name}
use Rattle.tv_gate.specs.Outcomes.{Giving}
use Rattle.tv_flow.specs.Flows.{Document, Flow, Step}
use Rattle.tv_strategy.specs.Iterations.{Binding, Iteration, job, passed}
use Rattle.tv_strategy.specs.Origins.{Origin}
use Rattle.tv_model.specs.instance.Delivered.{StepMeaning}
use Rattle.tv_model.specs.instance.ByResults.{InstanceStep, step_of}
use Rattle.tv_model.specs.instance.Events.{has_level, has_result, is_taken, known_by}
use Rattle.tv_model.specs.instance.Legality.{AreLegal}
use Rattle.tv_model.specs.instance.Wholeness.{origin_at}
use Rattle.tv_frame.proofs.instances.Events.{level-known, result-known}
use Rattle.tv_model.specs.Lineages.{is_outermost}
use Rattle.tv_model.specs.Made.{Meaning}
use Rattle.tv_model.specs.Meanings.{meaning}
use Rattle.tv_forest.specs.HistoryEntries.{History}
use Rattle.tv_forest.specs.Histories.{is_settled_name}
use Rattle.tv_frame.specs.FramingViews.{View}
use Rattle.tv_frame.proofs.Frames.{in-finds, steps-distinct}
use Rattle.tv_forest.specs.views.InRun.{IsInRun}
use Rattle.tv_forest.proofs.views.Endings.{listed-step}
use Rattle.tv_forest.proofs.views.Jobs.{ends-told}
use Rattle.tv_forest.proofs.views.Runs.{Runs, in-all, results_here, runs, steps_here}
use Rattle.tv_frame.specs.Levels.{FaultsAreKnown, Fit, IsNoJob, Level}
use Rattle.tv_frame.specs.MainSteps.{main_steps}
use Rattle.tv_traces.specs.Feeds.{job_at}
use Rattle.tv_traces.specs.KnownInRun.{AreJobsTold, AreLevelsTold}
use Rattle.tv_traces.specs.Seen.{AreKnownBy, IsKnownBy, Spot}
use Rattle.tv_traces.proofs.Records.{outermost}

pub of-main : (f : StepMeaning) (ss : List StepMeaning) → In f (filter (λ s. is_outermost s.instance) ss)
    → In f ss × (is_outermost f.instance ≡ true)
of-main f [] i = absurd i
of-main f (s ∷ ss) i = by (is_outermost s.instance) refl i (of-main f ss)
  where
    rest : List StepMeaning
    rest = filter (λ t. is_outermost t.instance) ss

    by : (b : Bool) → is_outermost s.instance ≡ b → In f (if b then s ∷ rest else rest)
        → (In f rest → In f ss × (is_outermost f.instance ≡ true)) → In f (s ∷ ss) × (is_outermost f.instance ≡ true)
    by true e (inl same) rec = (inl same, ap (λ (t : StepMeaning). is_outermost t.instance) same ∙ e)
    by true e (inr j) rec = let r = rec j in (inr r.0, r.1)
    by false e j rec = let r = rec j in (inr r.0, r.1)

-- of any meaning, so that a document's isn't unfolded
module _ (gives : Giving) (flows : List (Name × Flow)) (m : Meaning) (past : History) (levels : Name → ℕ) (v : View) (r : Runs gives flows m past [] levels v) (ls : List Level) (js : List Spot) (told : AreLevelsTold v ls) (jobs : AreJobsTold v js) where
  abbrev fs : List InstanceStep
  fs = steps_here gives flows m past [] levels v r

  abbrev known : Origin → Bool
  known = known_by [] v.events

  abbrev settled : JobName → Bool
  settled = is_settled_name m past

  own : (f : StepMeaning) → In f (main_steps m) → In f (map step_of fs)
  own f among =
      let i = of-main f m.steps among in
      let g = listed-step gives flows m past [] levels v r f i.0 (outermost f.instance i.1) in
      subst (λ s. In s (map step_of fs)) (sym g.2) (in-map step_of g.0 fs g.1)

  fit : Fit v.flow (map step_of fs) ls
  fit = in-all gives flows m past [] levels v r (λ instance results gs. Fit v.flow (map step_of gs) ls) told.fit

  faults : FaultsAreKnown known v.flow (map step_of fs) ls
  faults = in-all gives flows m past [] levels v r (λ instance results gs. FaultsAreKnown (known_by instance v.events) v.flow (map step_of gs) ls) told.faults

  legal : AreLegal [] fs v.events
  legal = in-all gives flows m past [] levels v r (λ instance results gs. AreLegal instance gs v.events) r.frame.legal

  settled-is : (s : Name) (q : Place) → settled (job_at s q) ≡ has_result v.events s q
  settled-is s q = r.told.results s q

  module _ (n : ℕ) (s : Name × Step) (f : StepMeaning) (here : slice_get v.flow.steps n ≡ Some s) (among : In f (main_steps m)) (named : f.step ≡ s.0) where
    -- a settled job stands in the step, with all its sources known
    stands : (q : Place) → has_result v.events s.0 q ≡ true → (src : List Origin) × (b : Binding) × (at f.iteration q ≡ Some (leaf src (job b))) × (list_all known src ≡ true)
    stands q h =
        let e = ends-told [] fs (s.0, q) v.events legal (or_right (is_taken v.events s.0 q) (has_result v.events s.0 q) h) in
        let g = of-map step_of f fs (own f among) in
        let same = distinct e.step g.0 e.is_step g.1 (e.name ∙ sym (ap (λ (y : StepMeaning). y.step) (sym g.2) ∙ named)) in
        (e.sources, e.binding, ap (λ (y : StepMeaning). at y.iteration q) (g.2 ∙ ap step_of (sym same)) ∙ e.node, e.known)
      where
        distinct : (a b : InstanceStep) → In a fs → In b fs → a.step.step ≡ b.step.step → a ≡ b
        distinct a b i j e =
            let apart = steps-distinct v [] (results_here gives flows m past [] levels v r) in
            same_Some a b (sym (in-finds fs apart a i) ∙ ap (λ (y : Name). find (λ (g : InstanceStep). same_name y g.step.step) fs) e ∙ in-finds fs apart b j)

    level-told : (q : Place) (t : Iteration) → IsNoJob t → known (origin_at (job_at s.0) q t) ≡ true → has_level v.events s.0 q ≡ true
    level-told q (leaf src (job b)) u h = absurd u
    level-told q (leaf src (passed k d)) u h = level-known [] v.events s.0 q ∙ h
    level-told q (list src ts) u h = level-known [] v.events s.0 q ∙ h

    known-by : IsKnownBy known settled ls js n s f
    known-by = record {
      levels = λ q t e u h. told.all n s q here (level-told q t u h);
      faults = λ l i e k w a c. faults l s f i (ap (slice_get v.flow.steps) e ∙ here) (own f among) named k w a c;
      there = λ q i.
          let j = jobs.told n q i in
          let h : has_result v.events s.0 q ≡ true = subst (λ (y : Name × Step). has_result v.events y.0 q ≡ true) (same_Some j.0 s (sym j.1 ∙ here)) j.2 in
          let x = stands q h in
          (x.0, x.1, x.2, settled-is s.0 q ∙ h);
      jobs = λ q src b e. sym (result-known [] v.events s.0 q) ∙ sym (settled-is s.0 q);
      all = λ q src b e h.
          let g : has_result v.events s.0 q ≡ true = sym (settled-is s.0 q) ∙ h in
          let x = stands q g in
          (jobs.all n s q here g, subst (λ os. list_all known os ≡ true) (same-sources (sym x.2 ∙ e)) x.3);
    }
      where
        same-sources : {a b : List Origin} {c d : Binding} → ◌≡◌ {A = Option Iteration} (Some (leaf a (job c))) (Some (leaf b (job d))) → a ≡ b
        same-sources h = cc

  all-known : AreKnownBy known settled v.flow (main_steps m) ls js
  all-known = record {
    fit = record { of_step = fit.of_step; there = λ l s f i e among named. fit.there l s f i e (own f among) named };
    each = λ n s f here among named. known-by n s f here among named;
  }

pub main-known : (gives : Giving) (d : Document) (past : History) (levels : Name → ℕ) (v : View) → IsInRun gives d past [] levels v → (ls : List Level) (js : List Spot) → AreLevelsTold v ls → AreJobsTold v js → AreKnownBy (known_by [] v.events) (is_settled_name (meaning gives d) past) v.flow (main_steps (meaning gives d)) ls js
main-known gives d past levels v w ls js told jobs = all-known gives d.flows (meaning gives d) past levels v (runs gives d past [] levels v w) ls js told jobs
