-- The jobs that became known with an event sit down, and how the seats of an open instance go on with them.
use Rattle.std.specs.Prelude.{◌≡◌, refl, ℕ, ◌+◌, ◌<◌, ◌≤◌, List, [], ◌∷◌, ◌++◌, Some, drop, length, map, slice_get}
use Rattle.std.proofs.Common.{sym, ap, subst, ◌∙◌, arith}
use Rattle.std.proofs.Math.Seq.{drop-append_seam}
use Rattle.std.proofs.lemmas.List.{length-append, length-map, map-append}
use Rattle.std.proofs.lemmas.Option.{get_or_from_slice_get}
use Rattle.tv_value.specs.Nested.{Place}
use Rattle.tv_value.specs.Values.{Name}
use Rattle.tv_flow.specs.Flows.{Document, Flow, Step}
use Rattle.tv_check.specs.declared.plans.FlowPlan.{FlowPlan}
use Rattle.tv_outputs.specs.Known.{Nodes}
use Rattle.tv_intake.specs.Intaken.{known_jobs}
use Rattle.tv_model.specs.instance.Events.{Event}
use Rattle.tv_frame.specs.Frames.{Comes}
use Rattle.tv_frame.specs.FramingStated.{IsOfDepths}
use Rattle.tv_frame.specs.FramingViews.{View}
use Rattle.tv_frame.specs.declared.frame.Frame.{Frame}
use Rattle.tv_frame.specs.Kept.{Keeps, named_job}
use Rattle.tv_frame.specs.Tables.{levels_in}
use Rattle.tv_seats.specs.Seats.{Seat, Seated, levels_of}
use Rattle.tv_seats.specs.declared.stage.Stage.TheVariants as stage
use Rattle.tv_forest.specs.seats.GoingOn.{AreNewSeats, GoesOn}
use Rattle.tv_forest.specs.seats.Seated.{spot_of}
use Rattle.tv_instances.specs.Seating.{CanSit, seat_for, unseated}
use Rattle.tv_instances.specs.Standing.{IsOpen, job_of}
use Rattle.tv_instances.specs.declared.open.Open.{Open}
use Rattle.tv_instances.proofs.KnownJobs.{by-names, its-step, known-apart, numbered_job, place-deep, step-low}
use Rattle.tv_lemmas.proofs.Lists.{in-behind, of-image, get-map}

-- the jobs of seats, and then others
module _ (f : Frame) (x : Seated) (more : List (ℕ × Place)) (begins : known_jobs f.intakes ≡ map job_of x.seats ++ more) where
  pub others-unseated : unseated f x.seats ≡ more
  others-unseated =
      ap (drop (length x.seats)) begins
      ∙ ap (λ n. drop n (map job_of x.seats ++ more)) (sym (length-map x.seats job_of))
      ∙ drop-append_seam (map job_of x.seats) more

  as-many : length (known_jobs f.intakes) ≡ length x.seats + length more
  as-many = ap length begins ∙ length-append (map job_of x.seats) more ∙ ap (λ n. n + length more) (length-map x.seats job_of)

  module _ (flows : List (Name × Flow)) (plan : FlowPlan) (pool : Nodes) (v : View) (k : Keeps flows plan pool f v) where
    -- a frame that keeps a view can sit
    pub may-sit : x.levels ≡ map (λ s. levels_in v.flow s.0) v.flow.steps → length more ≤ x.room → CanSit f x
    may-sit levels room = record {
      steps = λ n j e l. (low n j e, deep n j e);
      apart = known-apart flows plan pool f v k;
      first = ap (λ l. map job_of x.seats ++ l) others-unseated ∙ sym begins;
      room = let l = as-many in omega (arith, l, room);
    }
      where
        low : (n : ℕ) (j : ℕ × Place) → slice_get (known_jobs f.intakes) n ≡ Some j → j.0 < length x.levels
        low n j e =
            subst (λ l. j.0 < length l) (sym levels)
            (subst (λ n. j.0 < n) (sym (length-map v.flow.steps (λ (s : Name × Step). levels_in v.flow s.0)))
            (step-low flows plan pool f v k n j.0 j.1 e))

        deep : (n : ℕ) (j : ℕ × Place) → slice_get (known_jobs f.intakes) n ≡ Some j → length j.1 ≡ levels_of x.levels j.0
        deep n j e =
            let s = its-step flows plan pool f v k n j.0 j.1 e in
            place-deep flows plan pool f v k n j.0 j.1 e
            ∙ sym (get_or_from_slice_get (map (λ (t : Name × Step). levels_in v.flow t.0) v.flow.steps) j.0
            (levels_in v.flow s.0.0) 0 (get-map (λ (t : Name × Step). levels_in v.flow t.0) v.flow.steps j.0 s.0 s.1))
            ∙ ap (λ l. levels_of l j.0) (sym levels)

    -- those that sit down are new, each at a step of the flow
    pub new-seats : AreNewSeats v.flow.steps (map seat_for (unseated f x.seats))
    new-seats = record { waiting = waits; there = stand }
      where
        waits : (n : ℕ) (s : Seat) → slice_get (map seat_for (unseated f x.seats)) n ≡ Some s → s.stage ≡ stage.Waiting
        waits n s e = let r = of-image seat_for (unseated f x.seats) n s e in ap (λ (t : Seat). t.stage) (sym r.2)

        stand : (n : ℕ) (s : Seat) → slice_get (map seat_for (unseated f x.seats)) n ≡ Some s
            → (t : Name × Step) × (slice_get v.flow.steps s.step ≡ Some t)
        stand n s e =
            let r = of-image seat_for (unseated f x.seats) n s e in
            let h = ap (λ l. slice_get l (length (map job_of x.seats) + n)) begins ∙ in-behind (map job_of x.seats) more n
            ∙ ap (λ l. slice_get l n) (sym others-unseated) ∙ r.1 in
            let t = its-step flows plan pool f v k (length (map job_of x.seats) + n) r.0.0 r.0.1 h in
            (t.0, ap (λ (u : Seat). slice_get v.flow.steps u.step) (sym r.2) ∙ t.1)

-- the instance is open, and w is its view with one event more, which the frame g keeps; x are seats of its jobs
module _ (d : Document) (plan : FlowPlan) (pool : Nodes) (o : Open) (v : View) (io : IsOpen d plan pool o v)
    (after : Nodes) (g : Frame) (w : View) (e : Event) (n : ℕ) (c : Comes v w e n) (k : Keeps d.flows plan after g w)
    (x : Seated) (same : map job_of x.seats ≡ map job_of o.seats.seats) where
  abbrev steps : List (Name × Step)
  steps = v.flow.steps

  -- the frame knows so many more jobs
  pub known-more : (more : List (ℕ × Place)) × (known_jobs g.intakes ≡ map job_of x.seats ++ more) × (length more ≡ n)
  known-more = (
    map (numbered_job steps) c.jobs.0,
    sym (by-names d.flows plan after g w k)
        ∙ ap (λ (f : Flow). map (numbered_job f.steps) w.jobs) c.flow
        ∙ ap (map (numbered_job steps)) c.jobs.1
        ∙ map-append (numbered_job steps) v.jobs c.jobs.0
        ∙ ap (λ l. l ++ map (numbered_job steps) c.jobs.0)
        (by-names d.flows plan pool o.frame v io.keeps ∙ sym io.known ∙ sym same),
    length-map c.jobs.0 (numbered_job steps) ∙ c.jobs.2,
  )

  -- those that sit down are so many
  pub many-sit : length (map seat_for (unseated g x.seats)) ≡ n
  many-sit =
      length-map (unseated g x.seats) seat_for
      ∙ ap length (others-unseated g x known-more.0 known-more.1)
      ∙ known-more.2

  pub can-sit : x.levels ≡ o.seats.levels → n ≤ x.room → CanSit g x
  can-sit levels room =
      may-sit g x known-more.0 known-more.1 d.flows plan after w k
      (levels ∙ io.levels ∙ ap (λ (f : Flow). map (λ s. levels_in f s.0) f.steps) (sym c.flow))
      (subst (λ m. m ≤ x.room) (sym known-more.2) room)

  -- the seats go on with those that sit down
  pub goes-on : GoesOn d (levels_in v.flow) v w e (map seat_for (unseated g x.seats))
  goes-on = record {
    follows = record { flow = c.flow; inputs = c.inputs; events = c.events };
    frame = k.frame;
    depths = subst (λ (f : Flow). IsOfDepths d.flows (levels_in f) w) c.flow k.of_depths;
    jobs = jobs;
    new = subst (λ (f : Flow). AreNewSeats f.steps (map seat_for (unseated g x.seats))) c.flow
        (new-seats g x known-more.0 known-more.1 d.flows plan after w k);
  }
    where
      spots : (js : List (ℕ × Place)) → map (named_job v.flow) js ≡ map (spot_of steps) (map seat_for js)
      spots [] = refl
      spots (j ∷ js) = ap (λ l. named_job v.flow j ∷ l) (spots js)

      jobs : w.jobs ≡ v.jobs ++ map (spot_of steps) (map seat_for (unseated g x.seats))
      jobs =
          k.jobs_are
          ∙ ap (λ (f : Flow). map (named_job f) (known_jobs g.intakes)) c.flow
          ∙ ap (map (named_job v.flow)) known-more.1
          ∙ map-append (named_job v.flow) (map job_of x.seats) known-more.0
          ∙ ap (λ l. l ++ map (named_job v.flow) known-more.0)
          (ap (map (named_job v.flow)) (same ∙ io.known) ∙ sym io.keeps.jobs_are)
          ∙ ap (λ l. v.jobs ++ l) (spots known-more.0 ∙ ap (λ l. map (spot_of steps) (map seat_for l))
          (sym (others-unseated g x known-more.0 known-more.1)))

  module _ (none : n ≡ 0) where
    none-more : known-more.0 ≡ []
    none-more = nothing known-more.0 (known-more.2 ∙ none)
      where
        nothing : (l : List (ℕ × Place)) → length l ≡ 0 → l ≡ []
        nothing [] h = refl
        nothing (j ∷ l) h = absurd (omega (arith, h))

    -- with none where none becomes known
    pub goes-on_alone : GoesOn d (levels_in v.flow) v w e []
    goes-on_alone =
        subst (λ l. GoesOn d (levels_in v.flow) v w e (map seat_for l))
        (others-unseated g x known-more.0 known-more.1 ∙ none-more) goes-on

    pub known-alone : map job_of x.seats ++ [] ≡ known_jobs g.intakes
    known-alone = ap (λ l. map job_of x.seats ++ l) (sym none-more) ∙ sym known-more.1
