-- The jobs that a frame knows by number: their steps and places, and that they are told by the names of the view's jobs.
use Rattle.std.specs.Option.{option_map_or}
use Rattle.std.specs.Prelude.{◌≡◌, ℕ, ◌<◌, List, [], length, map, Some, slice_get}
use Rattle.std.proofs.Common.{sym, ap, subst, ◌∙◌}
use Rattle.std.proofs.lemmas.List.{map-id}
use Rattle.std.proofs.lemmas.List.Sorted.{IsPermutation-sym}
use Rattle.std.proofs.lemmas.Option.{get_or_from_slice_get}
use Rattle.std.proofs.lemmas.Simd.{map-map}
use Rattle.tv_lemmas.proofs.Members.{each_in, in-slice}
use Rattle.tv_lemmas.proofs.Lists.{get-within, of-image, get-map}
use Rattle.tv_value.specs.Nested.{Place, at}
use Rattle.tv_value.specs.Values.{Name}
use Rattle.tv_flow.specs.Flows.{Flow, Step}
use Rattle.tv_strategy.specs.Iterations.{job}
use Rattle.tv_naming.specs.Numbers.{position}
use Rattle.tv_naming.proofs.ByPosition.{position-at}
use Rattle.tv_naming.proofs.FormedParts.{steps-ascend}
use Rattle.tv_check.specs.declared.plans.FlowPlan.{FlowPlan}
use Rattle.tv_matching.proofs.Members.{in-permutes}
use Rattle.tv_outputs.specs.Known.{Nodes}
use Rattle.tv_model.specs.instance.Events.{gave, known_by}
use Rattle.tv_frame.specs.instances.Stated.{HasItsLevels}
use Rattle.tv_frame.proofs.instances.Levels.{steps-have_their_levels}
use Rattle.tv_frame.specs.Frames as frames
use Rattle.tv_frame.specs.Frames.{FitsKind}
use Rattle.tv_frame.specs.FramingViews.{View, steps_with}
use Rattle.tv_frame.proofs.Frames.{job-end, known-stands}
use Rattle.tv_frame.proofs.Numbers.{jobs-differ}
use Rattle.tv_frame.proofs.Possible.{some-possible}
use Rattle.tv_intake.specs.declared.found.Found.{Found}
use Rattle.tv_intake.specs.Intaken.{followed_in, known_jobs, placed, thing_in}
use Rattle.tv_intake.proofs.IntakeLemmas.{jobs-there, step-within}
use Rattle.tv_frame.specs.declared.frame.Frame.{Frame}
use Rattle.tv_frame.specs.Kept.{Keeps, named_job, step_name}
use Rattle.tv_frame.specs.Tables.{levels_in}
use Rattle.tv_frame.proofs.JobInputs.{item-deep}
use Rattle.tv_frame.proofs.Keeping.{kept-ranked}
use Rattle.tv_frame.proofs.Lists.{same-maps}

-- the job of a spot, by the number of its step
abbrev pub numbered_job : List (Name × Step) → Name × Place → ℕ × Place
numbered_job steps x = (position x.0 steps, x.1)

module _ (flows : List (Name × Flow)) (plan : FlowPlan) (pool : Nodes) (f : Frame) (v : View) (k : Keeps flows plan pool f v) where
  -- ---- one job

  module _ (m n : ℕ) (q : Place) (there : slice_get (known_jobs f.intakes) m ≡ Some (n, q)) where
    -- it is of a step of the flow
    pub step-low : n < length v.flow.steps
    step-low =
        let ms = f.intakes.matchers.items in
        let r = of-image (λ (x : Found). placed (thing_in ms x)) f.intakes.jobs.items m (n, q) there in
        let low = each_in (λ (x : Found). x.at < length (followed_in ms x.step)) f.intakes.jobs.items (jobs-there ms f.intakes.jobs.items f.intakes.waiting.items k.intaken) r.0 (in-slice f.intakes.jobs.items m r.0 r.1) in
        subst (λ l. n < l) k.as_many (subst (λ l. l < length ms) (ap (λ (j : ℕ × Place). j.0) r.2)
        (step-within ms r.0.step r.0.at low))

    pub its-step : (s : Name × Step) × (slice_get v.flow.steps n ≡ Some s)
    its-step = get-within v.flow.steps n step-low

    pub its-name : step_name v.flow n ≡ its-step.0.0
    its-name = ap (λ o. option_map_or (λ (t : Name × Step). t.0) o []) its-step.1

    -- the view has it by that name
    pub named-there : slice_get v.jobs m ≡ Some (named_job v.flow (n, q))
    named-there = ap (λ l. slice_get l m) k.jobs_are ∙ get-map (named_job v.flow) (known_jobs f.intakes) m (n, q) there

    pub numbered-so : numbered_job v.flow.steps (named_job v.flow (n, q)) ≡ (n, q)
    numbered-so =
        ap (λ c. (c, q))
        (ap (λ t. position t v.flow.steps) its-name
        ∙ ap (λ (t : Name × Step). position t.0 v.flow.steps)
        (sym (get_or_from_slice_get v.flow.steps n its-step.0 its-step.0 its-step.1))
        ∙ position-at v.flow.steps n its-step.0 (steps-ascend v.flow (kept-ranked flows plan pool f v k).formed) step-low)

    -- its place has an index for each level of the step
    pub place-deep : length q ≡ levels_in v.flow its-step.0.0
    place-deep =
        let r = some-possible v [] k.frame.given in
        let known = known_by [] v.events in
        let fs = steps_with v [] r.0 in
        let name = step_name v.flow n in
        let end = job-end known fs name q
        (in-permutes (name, q) (frames.known_jobs known fs) v.jobs (IsPermutation-sym _ _ (k.frame.known [] r.0 r.1 r.2))
        (in-slice v.jobs m (name, q) named-there)) in
        let has = (each_in (HasItsLevels (levels_in v.flow)) fs (steps-have_their_levels flows v.flow k.of_depths.flow v.inputs k.of_depths.inputs [] r.0 r.1
        (levels_in v.flow) k.of_depths.levels_are) end.0 end.1).levels_told in
        let st = known-stands known end.0.step.iteration end.3 end.4 in
        item-deep end.0.step.iteration (levels_in v.flow end.0.step.step) q name st.0 has
        (ap (at end.0.step.iteration) (sym end.5) ∙ st.1) (subst (FitsKind (gave name q [])) st.2 end.6)
        ∙ ap (levels_in v.flow) (end.2 ∙ its-name)

  -- ---- all

  -- no two are one
  pub known-apart : (m n : ℕ) (i j : ℕ × Place) → slice_get (known_jobs f.intakes) m ≡ Some i
      → slice_get (known_jobs f.intakes) n ≡ Some j → i ≡ j → m ≡ n
  known-apart m n i j e g same =
      jobs-differ v k.frame (step_name v.flow i.0) i.1 m n (named-there m i.0 i.1 e)
      (named-there n j.0 j.1 g ∙ ap (λ x. Some (named_job v.flow x)) (sym same))

  -- they are the jobs of the view by the numbers of their steps
  pub by-names : map (numbered_job v.flow.steps) v.jobs ≡ known_jobs f.intakes
  by-names =
      ap (map (numbered_job v.flow.steps)) k.jobs_are
      ∙ map-map (numbered_job v.flow.steps) (named_job v.flow) (known_jobs f.intakes)
      ∙ same-maps (λ x. numbered_job v.flow.steps (named_job v.flow x)) (λ x. x) (known_jobs f.intakes)
      (λ n x e. numbered-so n x.0 x.1 e)
      ∙ map-id (known_jobs f.intakes)
