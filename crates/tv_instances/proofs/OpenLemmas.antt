-- What is looked up of an open instance by the number of a job.
use Rattle.std.specs.Option.{option_map_or}
use Rattle.std.specs.Prelude.{◌≡◌, ℕ, ◌<◌, List, [], Some, length, map, slice_get}
use Rattle.std.proofs.Common.{sym, ap, subst, ◌∙◌}
use Rattle.std.proofs.lemmas.List.{length-map}
use Rattle.std.proofs.lemmas.Option.{same_Some, slice_get_within}
use Rattle.tv_lemmas.specs.Members.{In}
use Rattle.tv_lemmas.proofs.Lists.{of-image, get-map}
use Rattle.tv_lemmas.proofs.Members.{in-slice}
use Rattle.tv_value.specs.Nested.{Place}
use Rattle.tv_value.specs.Values.{Name}
use Rattle.tv_flow.specs.Flows.{Document, Flow, Step}
use Rattle.tv_naming.specs.Numbers.{position}
use Rattle.tv_naming.proofs.FormedParts.{steps-ascend}
use Rattle.tv_check.specs.declared.plans.FlowPlan.{FlowPlan}
use Rattle.tv_outputs.specs.Known.{Nodes}
use Rattle.tv_intake.specs.Intaken.{known_jobs}
use Rattle.tv_frame.specs.Answers.{numbered}
use Rattle.tv_frame.specs.FramingViews.{View}
use Rattle.tv_frame.specs.matches.Steps.{IsStepAt}
use Rattle.tv_frame.proofs.turns.Ranks.{number-of}
use Rattle.tv_frame.specs.Kept.{Keeps, named_job, step_name}
use Rattle.tv_frame.specs.Tables.{levels_in}
use Rattle.tv_frame.proofs.Keeping.{kept-ranked}
use Rattle.tv_seats.specs.Seats.{Seat}
use Rattle.tv_forest.specs.seats.Seated.{spot_of}
use Rattle.tv_instances.specs.Levels.{AreKept}
use Rattle.tv_instances.specs.Standing.{IsOpen, job_of}
use Rattle.tv_instances.specs.declared.open.Open.{Open}
use Rattle.tv_instances.proofs.KnownJobs.{by-names, its-step, numbered-so}
use Rattle.tv_instances.proofs.Quiet.{quiet-as}

-- the spot of a seat of a step
pub spot-at : (steps : List (Name × Step)) (s : Seat) (t : Name × Step) → slice_get steps s.step ≡ Some t
    → spot_of steps s ≡ (t.0, s.place)
spot-at steps s t e = ap (λ o. (option_map_or (λ u. u.0) o [], s.place)) e

module _ (d : Document) (plan : FlowPlan) (pool : Nodes) (o : Open) (v : View) (io : IsOpen d plan pool o v) where
  abbrev ss : List Seat
  ss = o.seats.seats

  pub as-many : length ss ≡ length (known_jobs o.frame.intakes)
  as-many = sym (length-map ss job_of) ∙ ap length io.known

  -- a step has levels
  pub step-leveled : (n : ℕ) → n < length v.flow.steps → n < length o.seats.levels
  step-leveled n low =
      subst (λ l. n < length l) (sym io.levels)
      (subst (λ m. n < m) (sym (length-map v.flow.steps (λ (s : Name × Step). levels_in v.flow s.0))) low)

  -- the same instance with another frame that keeps the view, and other rooms
  pub still-open : (after : Nodes) (p : Open) → Keeps d.flows plan after p.frame v → p.seats.seats ≡ ss
      → p.seats.levels ≡ o.seats.levels → p.turns ≡ o.turns → p.levels.settled ≡ o.levels.settled → IsOpen d plan after p v
  still-open after p k seats levels turns kept = record {
    keeps = k;
    known =
        ap (map job_of) seats
        ∙ io.known
        ∙ sym (by-names d.flows plan pool o.frame v io.keeps)
        ∙ by-names d.flows plan after p.frame v k;
    levels = levels ∙ io.levels;
    quiet = quiet-as v ss p.seats.seats o.turns p.turns seats turns io.quiet;
    kept = subst (AreKept v) (sym kept) io.kept;
  }

  -- ---- a job by its number

  module _ (n : ℕ) (s : Seat) (there : slice_get ss n ≡ Some s) where
    pub known-at : slice_get (known_jobs o.frame.intakes) n ≡ Some (s.step, s.place)
    known-at = ap (λ l. slice_get l n) (sym io.known) ∙ get-map job_of ss n s there

    pub is-known : n < length (known_jobs o.frame.intakes)
    is-known = slice_get_within (known_jobs o.frame.intakes) n (s.step, s.place) known-at

    pub numbered-at : numbered v n ≡ Some (spot_of v.flow.steps s)
    numbered-at =
        ap (λ l. slice_get l n) io.keeps.jobs_are
        ∙ get-map (named_job v.flow) (known_jobs o.frame.intakes) n (s.step, s.place) known-at

    pub its-step-at : (t : Name × Step) × IsStepAt v s.step t
    its-step-at = its-step d.flows plan pool o.frame v io.keeps n s.step s.place known-at

    -- where the frame has it at that step and place
    pub found-at : (k : ℕ) (q : Place) → slice_get (known_jobs o.frame.intakes) n ≡ Some (k, q) → (s.step ≡ k) × (s.place ≡ q)
    found-at k q e =
        let same = same_Some (s.step, s.place) (k, q) (sym known-at ∙ e) in
        (ap (λ (j : ℕ × Place). j.0) same, ap (λ (j : ℕ × Place). j.1) same)

    module _ (t : Name × Step) (at : IsStepAt v s.step t) where
      pub numbered-step : numbered v n ≡ Some (t.0, s.place)
      numbered-step = numbered-at ∙ ap Some (spot-at v.flow.steps s t at)

      pub in-view : In (t.0, s.place) v.jobs
      in-view = in-slice v.jobs n (t.0, s.place) numbered-step

  -- ---- a seat by its job

  -- a job at a place of a step has a seat there
  pub seat-at : (m k : ℕ) (t : Name × Step) (q : Place) → IsStepAt v k t → numbered v m ≡ Some (t.0, q)
      → (s : Seat) × (slice_get ss m ≡ Some s) × (s.step ≡ k) × (s.place ≡ q)
  seat-at m k t q at e =
      let j = of-image (named_job v.flow) (known_jobs o.frame.intakes) m (t.0, q)
      (ap (λ l. slice_get l m) (sym io.keeps.jobs_are) ∙ e) in
      let w = of-image job_of ss m j.0 (ap (λ l. slice_get l m) io.known ∙ j.1) in
      let rise = steps-ascend v.flow (kept-ranked d.flows plan pool o.frame v io.keeps).formed in
      let number : position (step_name v.flow j.0.0) v.flow.steps ≡ j.0.0 =
      ap (λ (i : ℕ × Place). i.0) (numbered-so d.flows plan pool o.frame v io.keeps m j.0.0 j.0.1 j.1) in
      let named : step_name v.flow j.0.0 ≡ t.0 = ap (λ (x : Name × Place). x.0) j.2 in (
        w.0,
        w.1,
        ap (λ (i : ℕ × Place). i.0) w.2
            ∙ sym number
            ∙ ap (λ a. position a v.flow.steps) named
            ∙ number-of v.flow.steps k t rise at,
        ap (λ (i : ℕ × Place). i.1) w.2 ∙ ap (λ (x : Name × Place). x.1) j.2,
      )

-- a step of the flow by one view is one by another
pub step-too : (d e : Document) (plan : FlowPlan) (pool : Nodes) (o : Open) (v w : View) → IsOpen d plan pool o v
    → IsOpen e plan pool o w → (n : ℕ) → n < length v.flow.steps → n < length w.flow.steps
step-too d e plan pool o v w io jo n low =
    subst (λ (f : Flow). n < length f.steps) (io.keeps.flow_is ∙ sym jo.keeps.flow_is) low
