-- Each step of a flow stands among the steps of an instance, fed by what these deliver.
use Rattle.std.specs.Prelude.{◌≡◌, refl, ℕ, zero, suc, ◌∷◌, flat_map, List, [], map, Some, slice_get}
use Rattle.std.proofs.Common.{sym, ap, ap₂, subst, ◌∙◌, inl}
use Rattle.std.proofs.lemmas.Option.{none-some, same_Some}
use Rattle.tv_lemmas.specs.Members.{In}
use Rattle.tv_lemmas.proofs.Members.{in-slice}
use Rattle.tv_value.specs.Values.{JobName, Name}
use Rattle.tv_flow.specs.Flows.{Feed, Flow, Link, Step, StepInput, constant, link, merge}
use Rattle.tv_naming.proofs.FormedParts.{steps-ascend}
use Rattle.tv_model.specs.instance.CheckedDepths.{feed_depth, flow_depths, link_depth, steps_depths}
use Rattle.tv_model.specs.instance.Delivered.{Delivered, feed_delivers}
use Rattle.tv_model.specs.instance.Ranks.{feed_steps, link_step, ranked}
use Rattle.tv_check.proofs.Ranked.{all-ranked}
use Rattle.tv_model.proofs.Ranks.{IsOrdered, ranked-ordered}
use Rattle.tv_model.specs.Agreeing.{FeedAgrees, InputsAgree, OneDepth, StepsAgree}
use Rattle.tv_model.specs.Instances.{given_of}
use Rattle.tv_model.proofs.Delivers.{depths_of, given-depths}
use Rattle.tv_model.specs.instance.ByResults.{InstanceStep, Results, outputs_by, ports_on, result_at, step_by, step_of, steps_by}
use Rattle.tv_model.specs.instance.OwnDepths.{AreLevels}
use Rattle.tv_framing.specs.Stated.{IsOfDepths}
use Rattle.tv_framing.specs.Views.{View, steps_with}
use Rattle.tv_framing.specs.engine.WiredFlows.{IsWired}
use Rattle.tv_framing.proofs.feeds.Depths.{all-so_far, delivered-depth, more-so_far, so_far, step-levels}
use Rattle.tv_framing.proofs.feeds.Stays.{AreAmong, among-left, among-right, fed-before, in-more, link-stays, names, ports-stay}

module _ (flows : List (Name × Flow)) (levels : Name → ℕ) (instance : JobName) (results : Results) (given : List (Name × Delivered)) where
  -- g is the step s of the flow: its feeds are delivered by the steps of the instance, and its outputs have the levels of the plan
  pub record StandsFor (fs : List InstanceStep) (s : Name × Step) (g : InstanceStep) : Type 0 where
    pub name : g.step.step ≡ s.0
    pub inputs : g.step.inputs ≡ ports_on (feed_delivers step_of given fs) s.1.inputs
    pub outputs : g.step.outputs ≡ outputs_by instance s.0 (result_at results s.0) (levels s.0) g.step.iteration 0 s.1.outputs
    pub agree : InputsAgree (depths_of given) (so_far fs) s.1.inputs

  pub record IsStanding (fs : List InstanceStep) (s : Name × Step) : Type 0 where
    pub step : InstanceStep
    pub there : In step fs
    pub stands : StandsFor fs s step

  module _ (fs : List InstanceStep) (ss : List (Name × Step)) (ordered : IsOrdered (names fs) ss) where
    abbrev all : List InstanceStep
    all = steps_by instance results given fs ss

    link-depths : (ls : List Link) → AreAmong (names fs) (flat_map link_step ls) → map (link_depth (depths_of given) (so_far fs)) ls ≡ map (link_depth (depths_of given) (so_far all)) ls
    link-depths [] h = refl
    link-depths (l ∷ ls) h =
        ap₂ (λ d ds. d ∷ ds)
        (sym (delivered-depth given fs (link l))
        ∙ ap (λ (d : Delivered). d.depth) (link-stays instance results given fs ss ordered l (among-left (names fs) (link_step l) (flat_map link_step ls) h))
        ∙ delivered-depth given all (link l))
        (link-depths ls (among-right (names fs) (link_step l) (flat_map link_step ls) h))

    feed-agrees : (d : Feed) → AreAmong (names fs) (feed_steps d) → FeedAgrees (depths_of given) (so_far fs) d → FeedAgrees (depths_of given) (so_far all) d
    feed-agrees (link l) h k = tt
    feed-agrees (merge ls) h k = subst OneDepth (link-depths ls h) k
    feed-agrees (constant v) h k = k

    inputs-agree : (is : List (Name × StepInput)) → AreAmong (names fs) (flat_map (λ (i : Name × StepInput). feed_steps i.1.from) is) → InputsAgree (depths_of given) (so_far fs) is → InputsAgree (depths_of given) (so_far all) is
    inputs-agree [] h k = tt
    inputs-agree (i ∷ is) h k = (
      feed-agrees i.1.from (among-left (names fs) (feed_steps i.1.from) (flat_map (λ (j : Name × StepInput). feed_steps j.1.from) is) h) k.0,
      inputs-agree is (among-right (names fs) (feed_steps i.1.from) (flat_map (λ (j : Name × StepInput). feed_steps j.1.from) is) h) k.1,
    )

  pub stands-at : (fs : List InstanceStep) (ss : List (Name × Step)) → IsOrdered (names fs) ss → StepsAgree flows (depths_of given) (so_far fs) ss → AreLevels levels (depths_of given) (so_far fs) ss → (j : ℕ) (s : Name × Step) → slice_get ss j ≡ Some s → IsStanding (steps_by instance results given fs ss) s
  stands-at fs [] o a l j s e = absurd (none-some s e)
  stands-at fs ((m, t) ∷ ss) o a l zero s e =
      let g = step_by instance results given fs (m, t) in
      subst (IsStanding (steps_by instance results given fs ((m, t) ∷ ss))) (same_Some (m, t) s e)
      (record {
        step = g;
        there = in-more instance results given g (g ∷ fs) ss (inl refl);
        stands = record {
          name = refl;
          inputs = ports-stay instance results given fs ((m, t) ∷ ss) o t o.0;
          outputs = ap (λ d. outputs_by instance m (result_at results m) d g.step.iteration 0 t.outputs) (step-levels given fs t ∙ sym l.0);
          agree = inputs-agree fs ((m, t) ∷ ss) o t.inputs (fed-before instance results given fs ((m, t) ∷ ss) o t o.0) a.0.feeds;
        };
      })
  stands-at fs ((m, t) ∷ ss) o a l (suc j) s e =
      let more = sym (more-so_far instance results given fs m t) in
      stands-at (step_by instance results given fs (m, t) ∷ fs) ss o.1.1
      (subst (λ x. StepsAgree flows (depths_of given) x ss) more a.1) (subst (λ x. AreLevels levels (depths_of given) x ss) more l.1) j s e

-- ---- of a frame

module _ (flows : List (Name × Flow)) (levels : Name → ℕ) (v : View) (depths : IsOfDepths flows levels v) (wired : IsWired v.flow)
    (instance : JobName) (results : Results) where
  abbrev pub given : List (Name × Delivered)
  given = given_of v.flow v.inputs

  abbrev pub Stands : Name × Step → Type 0
  Stands s = IsStanding flows levels instance results given (steps_with v instance results) s

  is-ranked : (n : ℕ) (s : Name × Step) → slice_get v.flow.steps n ≡ Some s → (j : ℕ) × (slice_get (ranked v.flow.steps) j ≡ Some s)
  is-ranked n s e = all-ranked v.flow.steps (steps-ascend v.flow wired.formed) wired.ranked s (n, e)

  pub in-ranked : (n : ℕ) (s : Name × Step) → slice_get v.flow.steps n ≡ Some s → In s (ranked v.flow.steps)
  in-ranked n s e = let r = is-ranked n s e in in-slice (ranked v.flow.steps) r.0 s r.1

  pub stands : (n : ℕ) (s : Name × Step) → slice_get v.flow.steps n ≡ Some s → Stands s
  stands n s e =
      let r = is-ranked n s e in
      let same = sym (given-depths v.inputs v.flow.inputs) in
      stands-at flows levels instance results given [] (ranked v.flow.steps) (ranked-ordered v.flow.steps)
      (subst (λ x. StepsAgree flows x [] (ranked v.flow.steps)) same depths.flow.steps)
      (subst (λ x. AreLevels levels x [] (ranked v.flow.steps)) same depths.levels_are) r.0 s r.1

  -- what a feed delivers has the depth of the check
  pub fed-depth : (d : Feed) → (feed_delivers step_of given (steps_with v instance results) d).depth ≡ feed_depth v.flow.inputs (flow_depths v.flow) d
  fed-depth d =
      delivered-depth given (steps_with v instance results) d
      ∙ ap (λ x. feed_depth (depths_of given) x d) (all-so_far instance results given [] (ranked v.flow.steps))
      ∙ ap (λ x. feed_depth x (steps_depths x [] (ranked v.flow.steps)) d) (given-depths v.inputs v.flow.inputs)
