-- What is said of a known job is so in all instances.
use Rattle.std.specs.Option.{option_map_or}
use Rattle.std.specs.Prelude.{◌≡◌, refl, ℕ, ◌<◌, ◌++◌, Bool, List, [], Option, Some, None, slice_get}
use Rattle.std.proofs.Common.{sym, ap, subst, ◌∙◌, inl}
use Rattle.std.proofs.lemmas.List.Sorted.{IsPermutation-sym}
use Rattle.std.proofs.lemmas.Option.{same_Some, slice_get_within}
use Rattle.tv_lemmas.specs.Members.{In}
use Rattle.tv_lemmas.proofs.Members.{each_in, in-flat}
use Rattle.tv_lemmas.proofs.Lists.{get-map, get-within}
use Rattle.tv_value.specs.Nested.{Place, at, leaf, list, nodes}
use Rattle.tv_value.specs.Values.{JobName, Name}
use Rattle.tv_flow.specs.Flows.{Flow, Step}
use Rattle.tv_strategy.specs.Conditions.{EachOnce}
use Rattle.tv_strategy.specs.Iterations.{Iteration, job, passed}
use Rattle.tv_strategy.specs.Measures.{leaf_names}
use Rattle.tv_model.specs.instance.Delivered.{Delivered, feed_delivers}
use Rattle.tv_model.specs.instance.Steps.{bound_values, endings_of}
use Rattle.tv_check.specs.declared.plans.FlowPlan.{FlowPlan}
use Rattle.tv_outputs.specs.Known.{Nodes}
use Rattle.tv_matching.specs.Items.{kind_of}
use Rattle.tv_matching.specs.Told.{faulty_at}
use Rattle.tv_matching.proofs.Members.{in-permutes}
use Rattle.tv_match.specs.declared.matchers.Matcher.{Matcher}
use Rattle.tv_match.specs.Seen.{matching}
use Rattle.tv_intake.specs.Intaken.{IsFaultyAt, IsSoundAt, known_jobs, matcher_at}
use Rattle.tv_spread.specs.Spreads.{faulty_now_at, is_faulty_now}
use Rattle.tv_model.specs.instance.ByResults.{InstanceStep, PlacedJob, Results, iteration_on, jobs_at_node, step_of}
use Rattle.tv_model.specs.instance.Events.{Extends, gave, known_by}
use Rattle.tv_framing.proofs.instances.Settling.{node-listed}
use Rattle.tv_model.specs.Instances.{given_of}
use Rattle.tv_framing.specs.Answers.{numbered}
use Rattle.tv_framing.specs.Frames as frames
use Rattle.tv_framing.specs.Frames.{FitsKind}
use Rattle.tv_framing.specs.Views.{AreOfDepth, View, steps_with}
use Rattle.tv_framing.proofs.Frames.{job-end, known-stands}
use Rattle.tv_framing.proofs.starts.Steps.{IsMade, IsPlaced, all_depths, steps-placed}
use Rattle.tv_framing.specs.matches.Steps.{IsStepAt}
use Rattle.tv_lemmas.proofs.Members.{in-slice as at-in}
use Rattle.tv_framing.proofs.faults.LawLemmas.{jobs-hold_what_is_said}
use Rattle.tv_frame.specs.declared.frame.Frame.{Frame}
use Rattle.tv_frame.specs.Calls.{HoldsError, IsJob, IsJobAmong}
use Rattle.tv_frame.specs.Kept.{HasMatcher, Keeps, named_job, step_name}
use Rattle.tv_frame.specs.Ready.{IsFirstOfStep}
use Rattle.tv_frame.specs.Tables.{levels_in}
use Rattle.tv_frame.proofs.Keeping.{kept-wired}

module _ (flows : List (Name × Flow)) (plan : FlowPlan) (pool : Nodes) (f : Frame) (v : View) (k : Keeps flows plan pool f v) where
  -- ---- whether it binds a fault

  pub said-holds : (n : ℕ) (s : Name × Step) → IsStepAt v n s → (q : Place) → In (s.0, q) v.jobs → HoldsError v (s.0, q) (is_faulty_now f.intakes (n, q))
  said-holds n s there q known = by (matcher_at f.intakes n) (k.matchers_are n s there) (k.intaken.sound n)
    where
      by : (o : Option Matcher) → HasMatcher v s o → IsSoundAt o → HoldsError v (s.0, q) (faulty_now_at o q)
      by None h a = absurd h
      by (Some m) h a =
          subst (λ g. HoldsError v (s.0, q) (faulty_at g (matching m).told q)) (sym h.strategy_is)
          (jobs-hold_what_is_said flows (levels_in v.flow) v k.frame k.of_depths (kept-wired flows plan pool f v k) n s there
          (subst (λ t. EachOnce (leaf_names t) (leaf_names t)) h.strategy_is a.keeps.suits.leaves_differ) (matching m).told h.told h.truly q known)

  pub first-binds : (n : ℕ) (s : Name × Step) → IsStepAt v n s → (b : Bool) (m : ℕ) → IsFirstOfStep (levels_in v.flow) v (λ q. is_faulty_now f.intakes (n, q)) s.0 b (Some m) → (j : Name × Place) → numbered v m ≡ Some j → HoldsError v j b
  first-binds n s there b m h j e =
      subst (λ x. HoldsError v x b) (same_Some (s.0, h.place) j (sym h.is.job ∙ e))
      (subst (HoldsError v (s.0, h.place)) h.is.said (said-holds n s there h.place (at-in v.jobs m (s.0, h.place) h.is.job)))

  -- ---- that it is a job

  module _ (s : Name) (q : Place) (known : In (s, q) v.jobs) (instance : JobName) (results : Results) (depth : AreOfDepth v instance results) (x : Extends results v.events) where
    abbrev fs : List InstanceStep
    fs = steps_with v instance results

    abbrev given : List (Name × Delivered)
    given = given_of v.flow v.inputs

    made : (g : InstanceStep) → In g fs → IsMade v.flow (levels_in v.flow) instance results given g
    made g i =
        (each_in (IsPlaced v.flow (levels_in v.flow) instance results given flows (all_depths flows (levels_in v.flow) v k.of_depths (kept-wired flows plan pool f v k)) fs) fs (steps-placed flows (levels_in v.flow) v k.of_depths (kept-wired flows plan pool f v k) instance results depth) g i).own

    at-node : (g : InstanceStep) → In g fs → g.step.step ≡ s → (u : Iteration) → at g.step.iteration q ≡ Some u → FitsKind (gave s q []) (kind_of u) → IsJobAmong (s, q) fs
    at-node g i e (leaf sources (job b)) there h =
        let own = made g i in
        let waits = endings_of step_of own.before own.step.after in
        let it = iteration_on (feed_delivers step_of given own.before) own.step in
        let j : PlacedJob = record { step = own.name; place = q; inputs = bound_values own.step b; waits = sources ++ waits } in
        let listed : In (q, leaf sources (job b)) (nodes it) = subst (λ (d : InstanceStep). In (q, leaf sources (job b)) (nodes d.step.iteration)) own.is (node-listed g.step.iteration q (leaf sources (job b)) there) in
        record {
          step = g;
          among = i;
          job = j;
          of_step = subst (λ (d : InstanceStep). In j d.jobs) (sym own.is) (in-flat (jobs_at_node own.name own.step waits) (q, leaf sources (job b)) j (nodes it) listed (inl refl));
          name = ap (λ (d : InstanceStep). d.step.step) (sym own.is) ∙ e;
          place = refl;
        }
    at-node g i e (leaf sources (passed m d)) there h = absurd h
    at-node g i e (list sources ts) there h = absurd h

    job-among : IsJobAmong (s, q) fs
    job-among =
        let says = known_by instance v.events in
        let r = job-end says fs s q (in-permutes (s, q) (frames.known_jobs says fs) v.jobs (IsPermutation-sym v.jobs (frames.known_jobs says fs) (k.frame.known instance results depth x)) known) in
        let u = known-stands says r.0.step.iteration r.3 r.4 in
        at-node r.0 r.1 r.2 u.0 (ap (at r.0.step.iteration) (sym r.5) ∙ u.1) (subst (FitsKind (gave s q [])) u.2 r.6)

  -- ---- by its number

  module _ (number n : ℕ) (q : Place) (there : slice_get (known_jobs f.intakes) number ≡ Some (n, q)) where
    pub named-known : In (named_job v.flow (n, q)) v.jobs
    named-known =
        at-in v.jobs number (named_job v.flow (n, q))
        (ap (λ l. slice_get l number) k.jobs_are ∙ get-map (named_job v.flow) (known_jobs f.intakes) number (n, q) there)

    pub job-is : IsJob v (named_job v.flow (n, q))
    job-is instance results depth x = job-among (step_name v.flow n) q named-known instance results depth x

    module _ (b : Bool) (said : IsFaultyAt (matcher_at f.intakes n) q b) where
      matcher : (m : Matcher) × (matcher_at f.intakes n ≡ Some m) × (b ≡ is_faulty_now f.intakes (n, q))
      matcher = by (matcher_at f.intakes n) refl said
        where
          by : (o : Option Matcher) → matcher_at f.intakes n ≡ o → IsFaultyAt o q b → (m : Matcher) × (matcher_at f.intakes n ≡ Some m) × (b ≡ is_faulty_now f.intakes (n, q))
          by None e h = absurd h
          by (Some m) e h = (m, e, h ∙ sym (ap (λ o. faulty_now_at o q) e))

      pub step : (s : Name × Step) × (slice_get v.flow.steps n ≡ Some s)
      step =
          get-within v.flow.steps n
          (subst (λ l. n < l) k.as_many (slice_get_within f.intakes.matchers.items n matcher.0 matcher.1))

      pub its-name : step_name v.flow n ≡ step.0.0
      its-name = ap (λ o. option_map_or (λ (t : Name × Step). t.0) o []) step.1

      pub known : In (step.0.0, q) v.jobs
      known = subst (λ t. In (t, q) v.jobs) its-name named-known

      pub job-holds : HoldsError v (named_job v.flow (n, q)) b
      job-holds =
          subst (λ c. HoldsError v (named_job v.flow (n, q)) c) (sym matcher.2)
          (subst (λ t. HoldsError v (t, q) (is_faulty_now f.intakes (n, q))) (sym its-name)
          (said-holds n step.0 step.1 q known))
