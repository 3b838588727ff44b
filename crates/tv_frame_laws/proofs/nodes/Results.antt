-- Where a job has a result, its place is known in the tree of each output of its step.
use Rattle.std.specs.Cmp.Lexicographic.{bytes_decides}
use Rattle.std.specs.Prelude.{◌≡◌, ◌≢◌, refl, ℕ, Bool, true, false, ◌||◌, List, [], ◌∷◌, Option, Some, None, slice_get}
use Rattle.std.proofs.Common.{sym, subst}
use Rattle.std.proofs.lemmas.Bool.{and_parts, true≢false}
use Rattle.tv_value.specs.Nested.{Place, at, leaf, list}
use Rattle.tv_value.specs.Orders.{same_name}
use Rattle.tv_value.specs.Values.{Name, Value}
use Rattle.tv_flow.specs.Flows.{Step}
use Rattle.tv_strategy.specs.Iterations.{Iteration, job, passed}
use Rattle.tv_strategy.specs.Origins.{Origin}
use Rattle.tv_parts.specs.Partials.{Partial, known_at, wanting}
use Rattle.tv_model.specs.instance.ByResults.{InstanceStep}
use Rattle.tv_model.specs.instance.Events as events
use Rattle.tv_model.specs.instance.Events.{Events, fault_set, gave, has_result, is_spot, took}
use Rattle.tv_model.specs.instance.Fitting.{FitStep, FitsNode}
use Rattle.tv_frame.proofs.instances.Legal.{legal-fit}
use Rattle.tv_frame.specs.Arriving.{part_so_far}
use Rattle.tv_frame.specs.Frames.{IsFrame}
use Rattle.tv_frame.specs.FramingViews.{View, steps_with}
use Rattle.tv_frame.proofs.Frames.{in-finds, steps-distinct}
use Rattle.tv_frame.proofs.Possible.{some-possible}
use Rattle.tv_frame.specs.engine.WiredFlows.{IsWired}
use Rattle.tv_frame.proofs.engine.Pieces.{so_far-shows}
use Rattle.tv_frame.proofs.engine.Showing.{IsItemIf}
use Rattle.tv_frame.proofs.framing_starts.Instances.{step-there}

item-known : {A : Type 0} (b : Bool) (p : Partial A) → b ≡ true → IsItemIf b p → p ≢ wanting
item-known true p e h = λ w. subst (IsItemIf true) w h
item-known false p e h = absurd (true≢false (sym e))

module _ (f : InstanceStep) (q : Place) where
  -- a job stands there
  abbrev IsOfJob : Option Iteration → Type 0
  IsOfJob o = (r : List Origin) × ((b : _) × (o ≡ Some (leaf r (job b))))

  job-fits : (t : Name) (x : Place) (vs : List Value) (o : Option Iteration) → FitsNode (gave t x vs) o → IsOfJob o
  job-fits t x vs None h = absurd h
  job-fits t x vs (Some (leaf r (job b))) h = (r, (b, refl))
  job-fits t x vs (Some (leaf r (passed m d))) h = absurd h
  job-fits t x vs (Some (list r ts)) h = absurd h

  -- where a result was told
  job-there : (es : Events) → FitStep f es → has_result es f.step.step q ≡ true → IsOfJob (at f.step.iteration q)
  job-there [] fit h = absurd (true≢false (sym h))
  job-there (gave t x vs ∷ es) fit h = by (is_spot f.step.step q t x) refl h (λ k. job-there es fit.1 k)
    where
      by : (b : Bool) → is_spot f.step.step q t x ≡ b → (b || has_result es f.step.step q) ≡ true → (has_result es f.step.step q ≡ true → IsOfJob (at f.step.iteration q)) → IsOfJob (at f.step.iteration q)
      by true e k rec =
          let same = and_parts (same_name f.step.step t) (same_name q x) e in
          subst (λ y. IsOfJob (at f.step.iteration y)) (sym ((bytes_decides q x).0 same.1)) (job-fits t x vs (at f.step.iteration x) (fit.0 same.0))
      by false e k rec = rec k
  job-there (events.closed t x n ∷ es) fit h = job-there es fit.1 h
  job-there (fault_set t x d ∷ es) fit h = job-there es fit.1 h
  job-there (took t x ∷ es) fit h = job-there es fit.1 h

  -- and so the tree has an item there
  known-there : (k levels declared : ℕ) (es : Events) → FitStep f es → has_result es f.step.step q ≡ true → known_at q (part_so_far f.step.step k levels declared es) ≢ wanting
  known-there k levels declared es fit h =
      let j = job-there es fit h in
      item-known (has_result es f.step.step q) (known_at q (part_so_far f.step.step k levels declared es)) h
      (so_far-shows f k levels declared es fit q (leaf j.0 (job j.1.0)) j.1.1)

-- THE PLACE IS KNOWN, in a frame, in whatever tree of the step
pub result-known : (v : View) → IsFrame v → IsWired v.flow → (n : ℕ) (s : Name × Step) → slice_get v.flow.steps n ≡ Some s
    → (q : Place) → has_result v.events s.0 q ≡ true → (k levels declared : ℕ) → known_at q (part_so_far s.0 k levels declared v.events) ≢ wanting
result-known v frame wired n s e q h k levels declared =
    let r = some-possible v [] frame.given in
    let gs = steps_with v [] r.0 in
    let st = step-there v wired n s e [] r.0 in
    let fits = legal-fit [] gs st.0 (in-finds gs (steps-distinct v [] r.0) st.0 st.1) v.events (frame.legal [] r.0 r.1 r.2) in
    subst (λ (m : Name). known_at q (part_so_far m k levels declared v.events) ≢ wanting) st.2
    (known-there st.0 q k levels declared v.events fits (subst (λ (m : Name). has_result v.events m q ≡ true) (sym st.2) h))
