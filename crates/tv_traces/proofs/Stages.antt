-- The steps of the main instance, one after another by rank: each is told by the shapes of those before.
use Rattle.std.specs.List.{list_all}
use Rattle.std.specs.Prelude.{◌≡◌, refl, ℕ, zero, suc, ◌≤◌, Bool, true, false, cond, find, List, [], ◌∷◌, ◌++◌, drop, length, Option, Some, slice_get, slice_index_or, take}
use Rattle.std.proofs.Common.{arith, sym, ap, subst, ◌∙◌, inl, inr}
use Rattle.std.proofs.Math.Path.{fun_ext}
use Rattle.std.proofs.lemmas.List.{take_all}
use Rattle.std.proofs.lemmas.Option.{none-some, same_Some}
use Rattle.std.proofs.lemmas.List.Sorted.{IsPermutation-sym}
use Rattle.tv_lemmas.specs.Members.{In}
use Rattle.tv_value.specs.Nested.{Place, at, leaf, notes}
use Rattle.tv_value.specs.Orders.{same_name}
use Rattle.tv_value.specs.Values.{JobName, Name}
use Rattle.tv_value.proofs.NameLemmas.{same_name-is, same_name-refl}
use Rattle.tv_gate.specs.Outcomes.{Giving}
use Rattle.tv_flow.specs.Flows.{Document, Feed, Flow, Step}
use Rattle.tv_strategy.specs.Iterations.{Binding, job}
use Rattle.tv_strategy.specs.Levels.{HasLevels, IsJob}
use Rattle.tv_strategy.specs.Origins.{Origin, Traced, from_job}
use Rattle.tv_strategy.specs.Measures.{strategy_depth}
use Rattle.tv_strategy.specs.Conditions.{number_of}
use Rattle.tv_strategy.proofs.AtDepth.{iteration-levels}
use Rattle.tv_naming.specs.Numbers.{position}
use Rattle.tv_naming.proofs.Forms.{steps-named}
use Rattle.tv_model.specs.instance.Delivered.{feed_delivers}
use Rattle.tv_model.specs.instance.Ranks.{ranked}
use Rattle.tv_model.specs.instance.Steps.{port_iteration, port_mismatch, strategy_of}
use Rattle.tv_check.specs.Feeds.{feed_numbered}
use Rattle.tv_check.specs.Ports.{mismatches, ports_of}
use Rattle.tv_matching.proofs.Members.{in-permutes}
use Rattle.tv_model.specs.instance.ByResults.{InstanceStep, Results, outputs_by, step_by, step_of, steps_by}
use Rattle.tv_frame.proofs.instances.Meant.{own_results-are_of_depth}
use Rattle.tv_model.specs.Agreeing.{Agrees, NestsWithin, StepsNest}
use Rattle.tv_model.specs.Instances.{given_of}
use Rattle.tv_model.specs.Meanings.{flow_meaning}
use Rattle.tv_frame.specs.Levels.{What}
use Rattle.tv_model.specs.records.Recorded.{marks_of}
use Rattle.tv_check.specs.PlanViews.{IsOfDocument}
use Rattle.tv_forest.proofs.AcceptedDocuments.{accepted-agrees}
use Rattle.tv_forest.proofs.views.OwnDepths.{jobs-give}
use Rattle.tv_frame.specs.engine.WiredFlows.{IsWired}
use Rattle.tv_frame.proofs.engine.Accepted.{accepted-wired}
use Rattle.tv_frame.specs.FramingViews.{AreOfDepth, View}
use Rattle.tv_frame.specs.matches.Steps.{IsOfRankedFlow}
use Rattle.tv_frame.proofs.matches.Ranks.{AreApart, position-at_number, ranked-permutes}
use Rattle.tv_lemmas.proofs.Members.{get-in as in-at}
use Rattle.tv_lemmas.proofs.Members.{in-slice as at-in}
use Rattle.tv_frame.proofs.matches.Steps.{ArePaired, IsMadeOf, made-step, rising, steps-paired}
use Rattle.tv_frame.specs.Tables.{levels_in}
use Rattle.tv_frame.proofs.Order.{rank-is}
use Rattle.tv_frame.proofs.Plans.{leaves-differ, levels-are, rank-of}
use Rattle.tv_traces.specs.Feeds.{feed_marks, job_at}
use Rattle.tv_traces.specs.Seen.{IsSeen}
use Rattle.tv_traces.specs.Shapes.{Shape, ShowsKnown, no_shape}
use Rattle.tv_traces.specs.Staged.{main_results, steps_until}
use Rattle.tv_forest.specs.runs.Stated.{IsMainFlow}
use Rattle.tv_traces.specs.Standing.{AreShapesOf, IsStepOf, ShapeOf}
use Rattle.tv_traces.specs.Walking.{IsToldOf, begins_of}
use Rattle.tv_traces.proofs.Bound.{fault-marks, job-marks}
use Rattle.tv_traces.proofs.FeedLemmas.{feed-marks}
use Rattle.tv_traces.proofs.Sources.{bound-known}

-- ---- lists

take-next : {A : Type 0} (xs : List A) (r : ℕ) (x : A) → slice_get xs r ≡ Some x → take (suc r) xs ≡ take r xs ++ x ∷ []
take-next [] r x e = absurd (none-some x e)
take-next (y ∷ xs) zero x e = ap (λ z. z ∷ []) (same_Some y x e)
take-next (y ∷ xs) (suc r) x e = ap (λ l. y ∷ l) (take-next xs r x e)

take-drop : {A : Type 0} (xs : List A) (r : ℕ) → xs ≡ take r xs ++ drop r xs
take-drop [] zero = refl
take-drop [] (suc r) = refl
take-drop (x ∷ xs) zero = refl
take-drop (x ∷ xs) (suc r) = ap (λ l. x ∷ l) (take-drop xs r)

in-take : {A : Type 0} (xs : List A) (r : ℕ) (x : A) → In x (take r xs) → In x xs
in-take [] zero x i = i
in-take [] (suc r) x i = i
in-take (y ∷ xs) zero x i = absurd i
in-take (y ∷ xs) (suc r) x (inl e) = inl e
in-take (y ∷ xs) (suc r) x (inr i) = inr (in-take xs r x i)

-- ---- steps after steps

module _ (instance : JobName) (results : Results) (given : List (Name × Rattle.tv_model.specs.instance.Delivered.Delivered)) where
  by-append : (fs : List InstanceStep) (xs ys : List (Name × Step)) → steps_by instance results given fs (xs ++ ys) ≡ steps_by instance results given (steps_by instance results given fs xs) ys
  by-append fs [] ys = refl
  by-append fs (x ∷ xs) ys = by-append (step_by instance results given fs x ∷ fs) xs ys

  by-more : (fs : List InstanceStep) (xs : List (Name × Step)) (g : InstanceStep) → In g fs → In g (steps_by instance results given fs xs)
  by-more fs [] g i = i
  by-more fs (x ∷ xs) g i = by-more (step_by instance results given fs x ∷ fs) xs g (inr i)

  -- what is so of each step as it is made is so of all
  pub by-each : (P : InstanceStep → Type 0) (fs : List InstanceStep) (xs : List (Name × Step)) → ((gs : List InstanceStep) (x : Name × Step) → In x xs → P (step_by instance results given gs x)) → ((g : InstanceStep) → In g fs → P g) → (g : InstanceStep) → In g (steps_by instance results given fs xs) → P g
  by-each P fs [] h k g i = k g i
  by-each P fs (x ∷ xs) h k g i = by-each P (step_by instance results given fs x ∷ fs) xs (λ gs y j. h gs y (inr j)) (λ m j. first m j) g i
    where
      first : (m : InstanceStep) → In m (step_by instance results given fs x ∷ fs) → P m
      first m (inl e) = subst P (sym e) (h fs x (inl refl))
      first m (inr j) = k m j

module _ (gives : Giving) (d : Document) (flow : Flow) (is : IsMainFlow d flow) where
  abbrev given : List (Name × Rattle.tv_model.specs.instance.Delivered.Delivered)
  given = given_of flow d.inputs

  agrees : Agrees d
  agrees = accepted-agrees d is.formed is.accepted

  of-document : IsOfDocument flow
  of-document = ∣ (d, (d.main, is.formed, is.accepted, is.is_main)) ∣₁

  wired : IsWired flow
  wired = accepted-wired flow of-document

  nests : StepsNest (NestsWithin d.flows 7) flow.steps
  nests =
      let n = agrees.nests in
      let same = same_Some n.0 flow (sym n.1 ∙ is.is_main) in
      subst (λ (g : Flow). StepsNest (NestsWithin d.flows 7) g.steps) same n.2

  abbrev view : View
  view = record { flow = flow; inputs = d.inputs; events = []; jobs = [] }

  of-depth : AreOfDepth view [] (main_results gives d flow)
  of-depth =
      own_results-are_of_depth gives (flow_meaning gives d.flows 7) [] flow d.inputs
      (jobs-give gives d is.formed is.accepted 7 flow nests (agrees.flows d.main flow is.is_main) [] d.inputs (agrees.inputs flow is.is_main))

  ranked-flow : IsOfRankedFlow d.flows (levels_in flow) view
  ranked-flow = record {
    depths = record { flow = agrees.flows d.main flow is.is_main; inputs = agrees.inputs flow is.is_main; levels_are = levels-are flow wired };
    formed = wired.formed;
    ranked = wired.ranked;
  }

  abbrev all : List InstanceStep
  all = steps_by [] (main_results gives d flow) given [] (ranked flow.steps)

  paired : ArePaired flow all flow.steps
  paired = steps-paired d.flows (levels_in flow) view ranked-flow [] (main_results gives d flow) of-depth

  apart : AreApart flow.steps
  apart = rising d.flows (levels_in flow) view ranked-flow

  -- all of them
  pub many : take (length flow.steps) (ranked flow.steps) ≡ ranked flow.steps
  many = take_all (length flow.steps) (ranked flow.steps) (few (length (ranked flow.steps)) (length flow.steps) wired.ranked)
    where
      few : (a b : ℕ) → a ≡ b → a ≤ b
      few a b e = omega arith

  abbrev until : ℕ → List InstanceStep
  until r = steps_until gives d flow r

  until-in : (r : ℕ) (g : InstanceStep) → In g (until r) → In g all
  until-in r g i =
      subst (λ ss. In g (steps_by [] (main_results gives d flow) given [] ss)) (sym (take-drop (ranked flow.steps) r))
      (subst (In g) (sym (by-append [] (main_results gives d flow) given [] (take r (ranked flow.steps)) (drop r (ranked flow.steps))))
      (by-more [] (main_results gives d flow) given (until r) (drop r (ranked flow.steps)) g i))

  pub until-next : (r : ℕ) (s : Name × Step) → slice_get (ranked flow.steps) r ≡ Some s → until (suc r) ≡ step_by [] (main_results gives d flow) given (until r) s ∷ until r
  until-next r s e = ap (steps_by [] (main_results gives d flow) given []) (take-next (ranked flow.steps) r s e) ∙ by-append [] (main_results gives d flow) given [] (take r (ranked flow.steps)) (s ∷ [])

  -- a step that was ranked has its number by its name
  ranked-number : (s : Name × Step) → In s (ranked flow.steps) → slice_get flow.steps (position s.0 flow.steps) ≡ Some s
  ranked-number s i =
      let r = in-at s flow.steps (in-permutes s flow.steps (ranked flow.steps) (IsPermutation-sym _ _ (ranked-permutes flow.steps (steps-named flow wired.formed).rise wired.ranked)) i) in
      ap (slice_get flow.steps) (position-at_number flow.steps apart r.0 s r.1) ∙ r.1

  -- each step that was made is one of the flow's
  pub all-stand : (r : ℕ) (g : InstanceStep) → In g (until r) → IsStepOf flow g
  all-stand r =
      by-each [] (main_results gives d flow) given (IsStepOf flow) [] (take r (ranked flow.steps))
      (λ gs x i. record {
        step = x.1;
        here = ranked-number x (in-take (ranked flow.steps) r x i);
        gives = _;
        levels = _;
        outputs = refl;
      })
      (λ g i. absurd i)

  -- the step of a number and rank
  module _ (n r : ℕ) (s : Name × Step) (here : slice_get flow.steps n ≡ Some s) (of_rank : position s.0 (ranked flow.steps) ≡ r) where
    pub at-rank : slice_get (ranked flow.steps) r ≡ Some s
    at-rank = let k = rank-of flow wired n s here in ap (slice_get (ranked flow.steps)) (sym of_rank ∙ rank-is flow wired k.0 s k.1) ∙ k.1

    abbrev pub new : InstanceStep
    new = step_by [] (main_results gives d flow) given (until r) s

    pub new-in : In new all
    new-in = until-in (suc r) new (subst (In new) (sym (until-next r s at-rank)) (inl refl))

    made : IsMadeOf flow s new
    made = made-step flow all flow.steps apart paired s (at-in flow.steps n s here) new new-in refl

    -- its levels, by the plan
    pub new-levels : HasLevels new.step.iteration (strategy_depth (number_of (mismatches flow s.1)) (strategy_of s.1))
    new-levels =
        subst (λ (g : Name → ℕ). HasLevels new.step.iteration (strategy_depth g (strategy_of s.1))) (sym (fun_ext made.numbers))
        (subst (λ t. HasLevels t (strategy_depth (port_mismatch new.step.inputs) (strategy_of s.1))) (sym made.iterates)
        (iteration-levels (port_iteration new.step.inputs) (port_mismatch new.step.inputs) made.levels (strategy_of s.1) made.dots))

    module _ (known : Origin → Bool) (settled : JobName → Bool) (shapes : List Shape) (shown : AreShapesOf known flow (until r) shapes) (what : Place → Option What) (done : Place → Bool) where
      told-marks : (f : Feed) (q : Place) (w : Traced) → list_all known (notes w) ≡ true → at (feed_delivers step_of given (until r) f).value q ≡ Some w → feed_marks flow shapes (feed_numbered flow f) q ≡ marks_of w
      told-marks = feed-marks known flow d.inputs (until r) shapes (all-stand r) shown

      -- it is told by the shapes of the steps before, and by what is seen of it
      pub new-told : IsSeen known settled what done s new.step → IsToldOf known done flow shapes (ports_of flow s.1) (begins_of flow s.1) what s new.step.iteration
      new-told seen = record {
        jobs = λ q r' b e z.
            job-marks known flow s new made (feed_delivers step_of given (until r)) refl shapes told-marks q b (is-job q r' b e)
            (bound-known known new.step.inputs (strategy_of s.1) q r' b (ap (λ t. at t q) (sym made.iterates) ∙ e) (bind q r' b e z).1);
        lists = seen.lists;
        faults = λ q r' m e h k.
            let t = seen.faults q r' m e h k in
            (t.0, t.1, fault-marks known flow s new made (feed_delivers step_of given (until r)) refl shapes told-marks (leaves-differ flow of-document n s here) q t.0 m t.2.from t.2.is_known);
        around = seen.around;
        long = seen.long;
        came_there = seen.came_there;
        settled_known = λ q r' b e z. (bind q r' b e z).0;
      }
        where
          is-job : (q : Place) (r' : List Origin) (b : Binding) → at new.step.iteration q ≡ Some (leaf r' (job b)) → IsJob (at new.step.iteration q) b
          is-job q r' b e = subst (λ o. IsJob o b) (sym e) refl

          bind : (q : Place) (r' : List Origin) (b : Binding) → at new.step.iteration q ≡ Some (leaf r' (job b)) → done q ≡ true → (known (from_job (job_at s.0 q)) ≡ true) × (list_all known r' ≡ true)
          bind q r' b e z = seen.bind q r' b e (sym (seen.jobs q r' b e) ∙ z)

      -- with its shape the shapes are those of one step more
      pub more-shown : (more : List Shape) → ((s.1.outputs ≡ [] → ⊥) → ShowsKnown (job_at s.0) known [] (slice_index_or more n no_shape) new.step.iteration) → ((k : ℕ) → (k ≡ n → ⊥) → slice_index_or more k no_shape ≡ slice_index_or shapes k no_shape) → AreShapesOf known flow (until (suc r)) more
      more-shown more h same t = subst (λ gs. ShapeOf known (find (λ (g : InstanceStep). same_name t g.step.step) gs) (slice_index_or more (position t flow.steps) no_shape)) (sym (until-next r s at-rank)) (by (same_name t s.0) refl)
        where
          number : position s.0 flow.steps ≡ n
          number = position-at_number flow.steps apart n s here

          no-outputs : s.1.outputs ≡ [] → new.step.outputs ≡ []
          no-outputs o = ap (outputs_by [] s.0 _ _ new.step.iteration 0) o

          other : same_name t s.0 ≡ false → position t flow.steps ≡ n → ⊥
          other e f = differ (named-first t flow.steps s (ap (slice_get flow.steps) f ∙ here)) e
            where
              named-first : (t : Name) (xs : List (Name × Step)) (x : Name × Step) → slice_get xs (position t xs) ≡ Some x → t ≡ x.0
              named-first t [] x e = absurd (none-some x e)
              named-first t (y ∷ xs) x e = pick (same_name t y.0) refl e (named-first t xs x)
                where
                  pick : (b : Bool) → same_name t y.0 ≡ b → slice_get (y ∷ xs) (cond b 0 (suc (position t xs))) ≡ Some x → (slice_get xs (position t xs) ≡ Some x → t ≡ x.0) → t ≡ x.0
                  pick true g h rec = same_name-is t y.0 g ∙ ap (λ (z : Name × Step). z.0) (same_Some y x h)
                  pick false g h rec = rec h

              differ : t ≡ s.0 → same_name t s.0 ≡ false → ⊥
              differ g e = no (sym (subst (λ m. same_name t m ≡ true) g (same_name-refl t)) ∙ e)
                where
                  no : true ≡ false → ⊥
                  no h = cc

          by : (b : Bool) → same_name t s.0 ≡ b → ShapeOf known (cond b (Some new) (find (λ (g : InstanceStep). same_name t g.step.step) (until r))) (slice_index_or more (position t flow.steps) no_shape)
          by true e = λ some. subst (λ k. ShowsKnown (job_at s.0) known [] (slice_index_or more k no_shape) new.step.iteration) (sym (ap (λ m. position m flow.steps) (same_name-is t s.0 e) ∙ number)) (h (λ o. some (no-outputs o)))
          by false e = subst (ShapeOf known (find (λ (g : InstanceStep). same_name t g.step.step) (until r))) (sym (same (position t flow.steps) (other e))) (shown t)
