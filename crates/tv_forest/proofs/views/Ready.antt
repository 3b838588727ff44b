-- Which jobs of the run are ready, by the view.
use Rattle.std.specs.Prelude.{◌≡◌, refl, ℕ, ◌&&◌, ◌++◌, not, Bool, true, false, List, [], ◌∷◌, Option, Some, None, find, length, if◌then◌else◌}
use Rattle.std.specs.Cmp.Lexicographic.{bytes_decides}
use Rattle.std.specs.List.{list_all}
use Rattle.std.proofs.Common.{sym, ap, ap₂, subst, ◌∙◌}
use Rattle.std.proofs.lemmas.Bool.{and_from, and_parts, not-true, or_right}
use Rattle.tv_lemmas.specs.Members.{Each, In}
use Rattle.tv_lemmas.proofs.Members.{each_in, in_each}
use Rattle.tv_lemmas.proofs.Lists.{all-second}
use Rattle.tv_value.specs.Nested.{Place, leaf}
use Rattle.tv_value.specs.Orders.{named, same_name}
use Rattle.tv_value.specs.Values.{JobName, Name, Value}
use Rattle.tv_gate.specs.Outcomes.{Giving}
use Rattle.tv_flow.specs.Flows.{Flow, Step}
use Rattle.tv_strategy.specs.Iterations.{job}
use Rattle.tv_strategy.specs.Origins.{Origin}
use Rattle.tv_strategy.specs.Sources.{AtNodes}
use Rattle.tv_strategy.proofs.Sources.{each-append}
use Rattle.tv_strategy.proofs.Each.{each-weaken}
use Rattle.tv_model.specs.instance.Delivered.{Delivered}
use Rattle.tv_model.specs.instance.Ranks.{is_among, ranked}
use Rattle.tv_model.specs.instance.Steps.{endings_of}
use Rattle.tv_model.proofs.Ranks.{IsOrdered, not-among}
use Rattle.tv_model.specs.instance.ByResults.{InstanceStep, Results, last_first, step_by, step_of, steps_by}
use Rattle.tv_model.specs.instance.Counting.{have_ended_by}
use Rattle.tv_model.specs.instance.Endings.{IsOwn, has_ended, have_ended}
use Rattle.tv_model.specs.instance.Events.{has_result, is_taken, known_by}
use Rattle.tv_model.specs.instance.Readiness.{are_known}
use Rattle.tv_framing.specs.instances.InHistory.{IsJobAt}
use Rattle.tv_framing.specs.instances.OwnNodes.{NodesHave}
use Rattle.tv_framing.proofs.instances.LawLemmas.{nodes-are_own}
use Rattle.tv_framing.proofs.instances.Readiness.{ready-by_events}
use Rattle.tv_framing.proofs.instances.Settling.{sources-at}
use Rattle.tv_model.specs.Instances.{given_of}
use Rattle.tv_model.specs.Jobs.{Job}
use Rattle.tv_model.specs.Made.{Meaning}
use Rattle.tv_model.specs.Meanings.{flow_meaning}
use Rattle.tv_model.proofs.Earlier.{at_nodes-weaken}
use Rattle.tv_model.proofs.Fed.{each-flat_map, either}
use Rattle.tv_model.proofs.Instances.{given-free}
use Rattle.tv_model.proofs.Sound.{IsFree}
use Rattle.tv_model.proofs.Whole.{rank-each}
use Rattle.tv_history.specs.Entries.{History}
use Rattle.tv_history.specs.Histories.{is_ready}
use Rattle.tv_framing.specs.Answers.{IsReadyJob, after_of}
use Rattle.tv_framing.specs.Views.{View}
use Rattle.tv_framing.proofs.Endings.{ended-in_all}
use Rattle.tv_forest.proofs.views.Jobs.{Finds, IsHere, ends-known, found-here, known-ends, same-sources, settled-told}
use Rattle.tv_forest.proofs.views.Runs.{Runs, in-all, results_here, steps_here}
use Rattle.tv_forest.proofs.views.Steps.{Standing, as_step, earlier-in, job-waits, step-in}

-- ---- the steps after which a job runs

still-among : (done : List Name) (n : Name) (ns : List Name) → list_all (is_among done) ns ≡ true
    → list_all (is_among (n ∷ done)) ns ≡ true
still-among done n [] h = refl
still-among done n (m ∷ ns) h =
    let p = and_parts (is_among done m) (list_all (is_among done) ns) h in
    and_from (is_among (n ∷ done) m) (list_all (is_among (n ∷ done)) ns) (or_right (same_name m n) (is_among done m) p.0) (still-among done n ns p.1)

module _ (known : Origin → Bool) (I : JobName) (results : Results) (given : List (Name × Delivered)) where
  -- steps that are taken later don't change whether earlier ones have ended
  ended-earlier : (done : List Name) (fs : List InstanceStep) (ns : List Name) (ss : List (Name × Step))
      → list_all (is_among done) ns ≡ true → IsOrdered done ss
      → have_ended known (steps_by I results given fs ss) ns ≡ have_ended known fs ns
  ended-earlier done fs ns [] h o = refl
  ended-earlier done fs ns (s ∷ ss) h o =
      ended-earlier (s.0 ∷ done) (step_by I results given fs s ∷ fs) ns ss (still-among done s.0 ns h) o.1.1
      ∙ ap (λ b. (if b then has_ended known (step_by I results given fs s) else true) && have_ended known fs ns) (not-among done ns s.0 h o.1.0)

find-named : (steps : List (Name × Step)) (n : Name) (s : Step) → named n steps ≡ Some s
    → find (λ (t : Name × Step). same_name n t.0) steps ≡ Some (n, s)
find-named [] n s e = cc
find-named (t ∷ ts) n s e = by (same_name n t.0) refl e (λ k. find-named ts n s k)
  where
    by : (b : Bool) → same_name n t.0 ≡ b → (if b then Some t.1 else named n ts) ≡ Some s
        → (named n ts ≡ Some s → find (λ (u : Name × Step). same_name n u.0) ts ≡ Some (n, s))
        → (if b then Some t else find (λ (u : Name × Step). same_name n u.0) ts) ≡ Some (n, s)
    by true q k rec =
        let name : t.0 ≡ n = sym ((bytes_decides n t.0).0 q) in
        let step : t.1 ≡ s = cc in
        ap₂ (λ (a : Name) (b : Step). Some (a, b)) name step
    by false q k rec = rec k

module _ (gives : Giving) (flows : List (Name × Flow)) (m : Meaning) (past : History) (I : JobName) (levels : Name → ℕ) (v : View) (r : Runs gives flows m past I levels v) where
  abbrev fs : List InstanceStep
  fs = steps_here gives flows m past I levels v r

  abbrev inside : Name → JobName → List (Name × Value) → Meaning
  inside = flow_meaning gives flows r.nesting

  abbrev Stands : Type 0
  Stands = Standing gives inside I v.flow v.inputs

  abbrev Own : Origin → Type 0
  Own o = IsOwn I o.known

  -- every node that the instance's steps have or wait for is its own
  pub all-own : Each (NodesHave Own) fs
  all-own =
      nodes-are_own I (results_here gives flows m past I levels v r) (given_of v.flow v.inputs) (ranked v.flow.steps)
      (each-weaken (λ (d : Name × Delivered). AtNodes IsFree d.1.value) (λ (d : Name × Delivered). AtNodes Own d.1.value)
      (λ d h. at_nodes-weaken IsFree Own (λ o k. subst (IsOwn I) (sym k.0) tt) d.1.value h) (given_of v.flow v.inputs) (given-free v.flow v.inputs))

  endings-own : (gs : List InstanceStep) → Each (NodesHave Own) gs → (ns : List Name)
      → Each Own (endings_of step_of gs ns)
  endings-own gs h ns =
      each-flat_map (NodesHave Own) Own (λ (f : InstanceStep). if is_among ns f.step.step then f.step.ending else [])
      (λ f w. either (Each Own) (is_among ns f.step.step) f.step.ending [] w.ending tt) gs h

  earlier-own : (t : Stands) → Each (NodesHave Own) t.earlier
  earlier-own t = in_each (NodesHave Own) t.earlier (λ f i. each_in (NodesHave Own) fs all-own f (earlier-in gives inside I v.flow v.inputs t f i))

  -- the steps after which it runs have ended where they have by the view
  ended-told : (t : Stands)
      → have_ended (known_by I v.events) t.earlier t.step.1.after ≡ have_ended_by v.events levels (last_first (ranked v.flow.steps) []) t.step.1.after
  ended-told t =
      let known = known_by I v.events in
      sym (ended-earlier known I (results_here gives flows m past I levels v r) (given_of v.flow v.inputs) t.done t.earlier t.step.1.after (t.step ∷ t.later) (all-second (is_among t.done) _ t.step.1.after t.ordered.0) t.ordered)
      ∙ ap (λ gs. have_ended known gs t.step.1.after) t.all_steps
      ∙ in-all gives flows m past I levels v r (λ instance results fs. have_ended (known_by instance v.events) fs t.step.1.after ≡ have_ended_by v.events levels (last_first (ranked v.flow.steps) []) t.step.1.after)
      (ended-in_all flows v r.frame r.depths.flow r.depths.inputs levels r.depths.levels_are t.step.1.after)

  after-told : (t : Stands) (s : Name) → t.step.0 ≡ s → after_of v s ≡ t.step.1.after
  after-told t s e =
      let steps = each_in (λ (s : Name × Step). named s.0 v.flow.steps ≡ Some s.1) (ranked v.flow.steps) ranked_named t.step t.of_flow in
      ap (λ n. after_of v n) (sym e)
      ∙ ap (λ (o : Option (Name × Step)). elim o as (λ x. List Name) [ None ↦ [] | Some u ↦ u.1.after ]) (find-named v.flow.steps t.step.0 t.step.1 steps)
    where
      ranked_named : Each (λ (s : Name × Step). named s.0 v.flow.steps ≡ Some s.1) (ranked v.flow.steps)
      ranked_named = rank-each gives (λ n. Unit {0}) (λ (s : Name × Step). named s.0 v.flow.steps ≡ Some s.1) (length v.flow.steps) [] v.flow.steps r.steps

  module _ (j : Job) (x : Name × Place) (w : Finds gives flows m past I levels v r j x) where
    abbrev is : IsHere gives flows m past I levels v r j x
    is = found-here gives flows m past I levels v r j x w

    abbrev step : InstanceStep
    step = as_step gives inside I v.flow v.inputs is.stands

    waits : j.waits ≡ is.sources ++ endings_of step_of is.stands.earlier is.stands.step.1.after
    waits = ap (λ (i : Job). i.waits) is.is_job ∙ job-waits gives inside I v.flow v.inputs is.stands x.1 is.sources is.binding

    at-job : IsJobAt past I v.events is.stands.earlier j x.0 x.1 is.sources is.stands.step.1.after
    at-job = record {
      name = w.name;
      within = w.within;
      settled = settled-told gives flows m past I levels v r j x w;
      waits = waits;
      own =
          subst (Each Own) (sym waits)
          (each-append Own is.sources (endings_of step_of is.stands.earlier is.stands.step.1.after)
          (sources-at Own step.step.iteration x.1 (leaf is.sources (job is.binding)) (each_in (NodesHave Own) fs all-own step (step-in gives inside I v.flow v.inputs is.stands)).sources is.node)
          (endings-own is.stands.earlier (earlier-own is.stands) is.stands.step.1.after));
    }

    abbrev has_after : Bool
    has_after = have_ended_by v.events levels (last_first (ranked v.flow.steps) []) (after_of v x.0)

    ready-is : is_ready m past j ≡ (not (is_taken v.events x.0 x.1) && not (has_result v.events x.0 x.1) && (are_known I v.events is.sources && has_after))
    ready-is =
        ready-by_events m past I v.events r.told r.is_open is.stands.earlier j x.0 x.1 is.sources is.stands.step.1.after at-job
        ∙ ap (λ b. not (is_taken v.events x.0 x.1) && not (has_result v.events x.0 x.1) && (are_known I v.events is.sources && b))
        (ended-told is.stands ∙ ap (have_ended_by v.events levels (last_first (ranked v.flow.steps) [])) (sym (after-told is.stands x.0 is.name)))

    pub ready-told : is_ready m past j ≡ true → In x v.jobs × IsReadyJob levels v x
    ready-told h =
        let p = and_parts (not (is_taken v.events x.0 x.1) && not (has_result v.events x.0 x.1)) (are_known I v.events is.sources && has_after) (sym ready-is ∙ h) in
        let q = and_parts (not (is_taken v.events x.0 x.1)) (not (has_result v.events x.0 x.1)) p.0 in
        let k = and_parts (are_known I v.events is.sources) has_after p.1 in (
          ends-known gives flows m past I levels v r x (record {
            step = step;
            is_step = step-in gives inside I v.flow v.inputs is.stands;
            name = is.name;
            sources = is.sources;
            binding = is.binding;
            node = is.node;
            known = k.0;
          }),
          record { idle = not-true (is_taken v.events x.0 x.1) q.0; without_result = not-true (has_result v.events x.0 x.1) q.1; after = k.1 },
        )

    pub told-ready : In x v.jobs → IsReadyJob levels v x → is_ready m past j ≡ true
    told-ready i h =
        let e = known-ends gives flows m past I levels v r x i in
        let idle : not (is_taken v.events x.0 x.1) ≡ true = ap not h.idle in
        let without : not (has_result v.events x.0 x.1) ≡ true = ap not h.without_result in
        ready-is
        ∙ and_from (not (is_taken v.events x.0 x.1) && not (has_result v.events x.0 x.1)) (are_known I v.events is.sources && has_after)
        (and_from (not (is_taken v.events x.0 x.1)) (not (has_result v.events x.0 x.1)) idle without)
        (and_from (are_known I v.events is.sources) has_after (same-sources gives flows m past I levels v r x e j is) h.after)
