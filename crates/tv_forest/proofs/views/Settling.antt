-- Which lists can be closed and which faults passed in the run, by the view.
use Rattle.std.specs.Prelude.{◌≡◌, refl, ℕ, Bool, true, false, List, Option, Some, None, find, filter_map, option_and_then}
use Rattle.std.specs.Cmp.Lexicographic.{bytes_decides}
use Rattle.std.specs.List.{list_all}
use Rattle.std.proofs.Common.{sym, subst, ◌∙◌}
use Rattle.std.proofs.lemmas.Bool.{true≢false}
use Rattle.tv_lemmas.specs.Members.{In}
use Rattle.tv_lemmas.proofs.Members.{each_in, found-in, of-flat, of-options}
use Rattle.tv_lemmas.proofs.Cases.{on_test}
use Rattle.tv_value.specs.Nested.{Place, at, count, leaf, list, nodes, note}
use Rattle.tv_value.specs.Orders.{same_name}
use Rattle.tv_value.specs.Values.{JobName, Name}
use Rattle.tv_gate.specs.Outcomes.{Giving}
use Rattle.tv_flow.specs.Flows.{Flow}
use Rattle.tv_strategy.specs.Iterations.{Iteration, job, passed}
use Rattle.tv_strategy.specs.Origins.{Origin}
use Rattle.tv_model.specs.instance.Delivered.{StepMeaning}
use Rattle.tv_model.specs.instance.Steps.{spot}
use Rattle.tv_model.specs.instance.ByResults.{InstanceStep}
use Rattle.tv_model.specs.instance.Endings.{IsOwn}
use Rattle.tv_model.specs.instance.Events as events
use Rattle.tv_model.specs.instance.Events.{Event, event_place, event_step, fault_set, gave, known_by, took}
use Rattle.tv_model.specs.instance.Fitting.{FitsNode}
use Rattle.tv_model.specs.instance.Legality.{HasSources, IsFresh, IsLegalNext, node_of}
use Rattle.tv_model.specs.Levels.{Level, level_at, levels}
use Rattle.tv_model.specs.Made.{Meaning}
use Rattle.tv_model.proofs.Formed.{level-instance}
use Rattle.tv_history.specs.Entries.{History, closed, fault_passed}
use Rattle.tv_history.specs.Histories.{can_settle, is_legal_after}
use Rattle.tv_framing.specs.instances.InHistory.{Finds, IsStepHere}
use Rattle.tv_framing.specs.instances.OwnNodes.{NodesHave}
use Rattle.tv_framing.specs.instances.Stated.{SettlesLegally}
use Rattle.tv_framing.proofs.instances.Legal.{node-here}
use Rattle.tv_framing.proofs.instances.Settling.{settlements-are_legal}
use Rattle.tv_framing.specs.Answers.{CanSettle, NothingSettles, is_settlement}
use Rattle.tv_framing.specs.Views.{View}
use Rattle.tv_framing.proofs.Frames.{in-finds, steps-distinct}
use Rattle.tv_forest.specs.views.Stated.{entry_of}
use Rattle.tv_forest.proofs.views.Endings.{listed-step, own-instance, step-listed}
use Rattle.tv_forest.proofs.views.Jobs.{node-at}
use Rattle.tv_forest.proofs.views.Ready.{all-own}
use Rattle.tv_forest.proofs.views.Runs.{Runs, in-all, results_here, steps_here}

module _ (gives : Giving) (flows : List (Name × Flow)) (m : Meaning) (past : History) (I : JobName) (depths : Name → ℕ) (v : View) (r : Runs gives flows m past I depths v) where
  abbrev fs : List InstanceStep
  fs = steps_here gives flows m past I depths v r

  abbrev known : Origin → Bool
  known = known_by I v.events

  abbrev Own : Origin → Type 0
  Own o = IsOwn I o.known

  first-step : (f : InstanceStep) → In f fs → Finds fs f
  first-step f i = in-finds fs (steps-distinct v I (results_here gives flows m past I depths v r)) f i

  step-here : (f : InstanceStep) → In f fs → IsStepHere m I fs f
  step-here f i = record {
    first = first-step f i;
    listed = step-listed gives flows m past I depths v r f i;
    here = own-instance gives flows m past I depths v r f i;
    own = (each_in (NodesHave Own) fs (all-own gives flows m past I depths v r) f i).sources;
  }

  settles-here : (f : InstanceStep) → In f fs → SettlesLegally gives m past I v.events fs f
  settles-here f i = settlements-are_legal gives m past I v.events r.told r.is_open fs f (step-here f i)

  -- a legal event is of one of the steps
  legal-step : (e : Event) → IsLegalNext I fs v.events e → (f : InstanceStep) × In f fs × (event_step e ≡ f.step.step)
  legal-step e l = by (find (λ (f : InstanceStep). same_name (event_step e) f.step.step) fs) refl l.sources
    where
      by : (o : Option InstanceStep) → find (λ (f : InstanceStep). same_name (event_step e) f.step.step) fs ≡ o
          → HasSources known (option_and_then (λ (f : InstanceStep). at f.step.iteration (event_place e)) o)
          → (f : InstanceStep) × In f fs × (event_step e ≡ f.step.step)
      by None k h = absurd h
      by (Some f) k h = let w = found-in (λ (g : InstanceStep). same_name (event_step e) g.step.step) fs f k in (f, w.0, (bytes_decides (event_step e) f.step.step).0 w.1)

  pub settling-legal : (e : Event) → CanSettle v e → is_legal_after gives m past (entry_of I e) ≡ true
  settling-legal e h = by e h.0 (in-all gives flows m past I depths v r (λ instance results fs. IsLegalNext instance fs v.events e) h.1)
    where
      by : (e : Event) → is_settlement e ≡ true → IsLegalNext I fs v.events e
          → is_legal_after gives m past (entry_of I e) ≡ true
      by (gave s q vs) k l = absurd (true≢false (sym k))
      by (events.closed s q n) k l =
          let w = legal-step (events.closed s q n) l in
          subst (λ t. is_legal_after gives m past (closed (spot I t q) n) ≡ true) (sym w.2)
          ((settles-here w.0 w.1).closing q n (subst (λ t. IsLegalNext I fs v.events (events.closed t q n)) w.2 l))
      by (fault_set s q d) k l =
          let w = legal-step (fault_set s q d) l in
          subst (λ t. is_legal_after gives m past (fault_passed (spot I t q)) ≡ true) (sym w.2)
          ((settles-here w.0 w.1).passing q d (subst (λ t. IsLegalNext I fs v.events (fault_set t q d)) w.2 l))
      by (took s q) k l = absurd (true≢false (sym k))

  -- what stands there is legal as this event
  legal-there : (f : InstanceStep) → In f fs → (e : Event) → f.step.step ≡ event_step e → (u : Iteration)
      → at f.step.iteration (event_place e) ≡ Some u → FitsNode e (Some u) → list_all known (note u) ≡ true
      → IsFresh v.events e → IsLegalNext I fs v.events e
  legal-there f i e n u a fits k fresh =
      let here : node_of fs e ≡ Some u = node-here I fs f (first-step f i) e ((bytes_decides f.step.step (event_step e)).1 n) ∙ a in
      record { fits = subst (FitsNode e) (sym here) fits; sources = subst (HasSources known) (sym here) k; fresh = fresh }

  none-legal : NothingSettles v → (e : Event) → is_settlement e ≡ true → IsLegalNext I fs v.events e → ⊥
  none-legal h e s l = in-all gives flows m past I depths v r (λ instance results fs. IsLegalNext instance fs v.events e → ⊥) (h e s) l

  none-at : NothingSettles v → (f : InstanceStep) → In f fs → (q : Place) (u : Iteration) (l : Level)
      → at f.step.iteration q ≡ Some u → level_at f.step (q, u) ≡ Some l → can_settle m past l ≡ true → ⊥
  none-at h f i q (leaf s (job b)) l a e k = cc
  none-at h f i q (leaf s (passed c d)) l a e k =
      let w = (settles-here f i).new q (leaf s (passed c d)) l a e k in
      none-legal h (fault_set f.step.step q d) refl (legal-there f i (fault_set f.step.step q d) refl (leaf s (passed c d)) a refl w.0 w.1)
  none-at h f i q (list s ts) l a e k =
      let w = (settles-here f i).new q (list s ts) l a e k in
      none-legal h (events.closed f.step.step q (count ts)) refl (legal-there f i (events.closed f.step.step q (count ts)) refl (list s ts) a refl w.0 w.1)

  pub nothing-settles : NothingSettles v → (l : Level) → In l (levels m.steps) → l.instance ≡ I
      → can_settle m past l ≡ false
  nothing-settles h l i e = on_test (can_settle m past l) (λ k. absurd (none k)) (λ k. k)
    where
      none : can_settle m past l ≡ true → ⊥
      none k =
          let s = of-flat (λ (s : StepMeaning). filter_map (level_at s) (nodes s.iteration)) l m.steps i in
          let x = of-options (level_at s.0) l (nodes s.0.iteration) s.2 in
          let f = listed-step gives flows m past I depths v r s.0 s.1 (sym (level-instance s.0 x.0 l x.2) ∙ e) in
          none-at h f.0 f.1 x.0.0 x.0.1 l
          (node-at f.0.step.iteration x.0.0 x.0.1 (subst (λ (t : StepMeaning). In x.0 (nodes t.iteration)) f.2 x.1))
          (subst (λ (t : StepMeaning). level_at t x.0 ≡ Some l) f.2 x.2) k
