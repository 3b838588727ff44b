-- A job of an open instance that can be bounced, by its number: what it gives, and what the calls that bounce it want.
use Rattle.std.specs.Prelude.{◌≡◌, ℕ, ◌<◌, true, List, Some, codes, is_some, length, map, slice_get, slice_index_or}
use Rattle.std.proofs.Common.{ap, arith, subst, sym, ◌∙◌}
use Rattle.std.proofs.lemmas.Option.{same_Some, slice_get-get_or, slice_get_within}
use Rattle.tv_value.specs.Values.{JobName, Name, Value}
use Rattle.tv_gate.specs.Outcomes.{Giving}
use Rattle.tv_flow.specs.Flows.{Document, Flow, Step}
use Rattle.tv_dispatch.specs.Jobs.{error_results, fault_makers}
use Rattle.tv_check.specs.RunViews.{run_view}
use Rattle.tv_model.specs.Jobs.{Job}
use Rattle.tv_history.specs.Entries.{History}
use Rattle.tv_instances.specs.Answers.{AreInputs, IsReadyJob}
use Rattle.tv_frame.specs.Prepared.{MayGive}
use Rattle.tv_frame.specs.Tables.{levels_in}
use Rattle.tv_seats.specs.Stages.{is_waiting}
use Rattle.tv_instances.specs.seats.Seated.{spot_of}
use Rattle.tv_instances.specs.Forest.{Instances}
use Rattle.tv_history.specs.Runs.{past_of}
use Rattle.tv_instances.specs.declared.events.Spot.{Spot}
use Rattle.tv_run.specs.Changes.{IsOpenHere, IsReadyIn, IsSeatHere, MayBeBouncedIn}
use Rattle.tv_run.specs.Jobs.{IsOfOpen, step_of}
use Rattle.tv_run.specs.Rooms.{IsAsBefore}
use Rattle.tv_run.specs.Settlements.{BouncesIn, IsBouncedJob, IsOpenIn, OfOpen}
use Rattle.tv_run.specs.Standing.{Stands, names_of, run_of}
use Rattle.tv_run.specs.declared.instances.Instance as code
use Rattle.tv_run.specs.declared.run.OpenRun.{OpenRun}
use Rattle.tv_run.proofs.Bounces as bounces
use Rattle.tv_run.proofs.Itself.{its-code, read-is}
use Rattle.tv_run.proofs.JobLemmas.{IsKnownAs, known-as, low, open-is, step-is}
use Rattle.tv_run.proofs.Numbers.{job-named, job-of_known, known-number}

module _ (gives : Giving) (r : OpenRun) (xs : Instances) (k : ℕ) (j : Job) (st : Stands gives r xs)
    (b : IsBouncedJob gives r xs k j) where
  abbrev d : Document
  d = run_view r.run

  abbrev past : History
  past = past_of (run_of r)

  pub known : (t : Name × Step) × IsKnownAs r xs k b.outer b.number b.instance b.seat t
  known = known-number gives r xs st k b.outer b.number b.instance b.seat j b.is_number

  abbrev pub step : Name × Step
  step = known.0

  pub known-as_it : IsKnownAs r xs k b.outer b.number b.instance b.seat step
  known-as_it = known.1

  flow-is : b.view.flow ≡ b.instance.flow
  flow-is =
      bounces.same-flow gives d past xs st.stand b.outer b.number b.instance b.seat j b.view b.is_number.is_job b.is_open

  at-step : slice_get b.view.flow.steps b.seat.step ≡ Some step
  at-step = ap (λ (f : Flow). slice_get f.steps b.seat.step) flow-is ∙ known.1.step

  pub seat-here : IsSeatHere r xs b.outer b.instance b.view b.number b.seat step
  seat-here = record {
    here = record { fits = st.fits; there = b.is_number.is_job.instance; is_open = b.is_open };
    seat = b.is_number.is_job.seat;
    step = known.1.step;
  }

  pub of-open : IsOfOpen r k
  of-open =
      let o = open-is r b.outer known.1.itself b.instance b.view known.1.kept b.is_open in
      record {
        job = record { instance = b.outer; number = b.number };
        there = known.1.number;
        itself = known.1.itself;
        instance = known.1.is_itself;
        opened = o.itself;
        is_open = o.there;
      }

  pub job-low : k < length r.jobs.items
  job-low = low r xs st.fits k b.outer b.number b.instance b.seat step known.1

  -- an error document of these inputs under this name is its result
  pub result-is :
      (at : JobName) → slice_get (names_of r) k ≡ Some at
      → (ins : List Value) → AreInputs b.view (spot_of b.instance.flow.steps b.seat) ins
      → (t : Step) → step_of r k ≡ Some t → (outs : List (Name × ℕ)) → outs ≡ t.outputs
      → error_results at (codes "bounced") (fault_makers ins) (map (λ o. o.1) outs) ≡ j.result
  result-is at called ins are t of_step outs e =
      let name =
      same_Some at j.name
      (sym called ∙ job-named gives r xs st k b.outer b.number b.instance b.seat j b.is_number) in
      let same =
      same_Some t step.1
      (sym of_step ∙ step-is r xs st.fits k b.outer b.number b.instance b.seat step known.1) in
      bounces.result-is gives d past xs st.stand b.outer b.number b.instance b.seat j b.view b.is_number.is_job b.is_open
      b.ready b.faulty step at-step at name ins are outs (e ∙ ap (λ (u : Step). u.outputs) same)

  pub may-give : (vs : List Value) → vs ≡ j.result → MayGive b.view step b.seat.place vs
  may-give vs e =
      subst (MayGive b.view step b.seat.place) (sym e)
      (bounces.may-give gives d past xs st.stand b.outer b.number b.instance b.seat j b.view b.is_number.is_job b.is_open
      b.ready b.faulty step at-step)

  pub waits : is_waiting b.seat.stage ≡ true
  waits =
      bounces.is-waiting gives d past xs st.stand b.outer b.number b.instance b.seat j b.view b.is_number.is_job b.is_open
      b.ready b.faulty

  pub free : IsReadyJob (levels_in b.view.flow) b.view (step.0, b.seat.place)
  free =
      bounces.free gives d past xs st.stand b.outer b.number b.instance b.seat j b.view b.is_number.is_job b.is_open b.ready
      b.faulty step at-step

  -- once room is taken it may be
  pub may-bounce : (m : OpenRun) → IsAsBefore r m → (vs : List Value) (p : Spot)
      → IsReadyIn m b.outer b.view b.seat step vs p
      → MayBeBouncedIn m xs b.outer b.instance b.view b.number b.seat step vs p
  may-bounce m before vs p ready = record {
    seat = record {
      here = record {
        fits = before.fits xs st.fits;
        there = b.is_number.is_job.instance;
        is_open = b.is_open;
      };
      seat = b.is_number.is_job.seat;
      step = known.1.step;
    };
    ready = ready;
    waits = waits;
    free = free;
  }

-- it is open there
pub open-here : (gives : Giving) (r : OpenRun) (i : ℕ) (o : IsOpenIn gives r i) → IsOpenHere r o.instances i o.instance o.view
open-here gives r i o = record { fits = o.stands.fits; there = o.there; is_open = o.is_open }

-- what was found to bounce is such a job
module _ (gives : Giving) (r : OpenRun) (i n : ℕ) (o : IsOpenIn gives r i) (found : OfOpen r i (BouncesIn n)) where
  abbrev its : BouncesIn n o.instance o.view
  its = found o.instances o.instance o.view o.stands.fits o.there o.is_open

  module _ (c : code.Instance) (at : slice_get r.instances.items i ≡ Some c) (k : ℕ)
      (listed : slice_get c.jobs.items n ≡ Some k) where
    abbrev pub bounced-job : (j : Job) × IsBouncedJob gives r o.instances k j
    bounced-job =
        let st = o.stands in
        let kept = st.fits.kept i c o.instance at o.there in
        let w =
        known-as r o.instances st.fits k i n o.instance its.0 (kept.numbered n k listed) o.there its.1 in
        let j = job-of_known gives r o.instances st k i n o.instance its.0 w.0 w.1 in (
          j.0,
          record {
            outer = i;
            number = n;
            instance = o.instance;
            seat = its.0;
            is_number = j.1;
            view = o.view;
            is_open = o.is_open;
            ready = its.2;
            faulty = its.3;
          },
        )

-- ---- by what the code reads

module _ (gives : Giving) (r : OpenRun) (i n : ℕ) (o : IsOpenIn gives r i) (found : OfOpen r i (BouncesIn n))
    (g : code.Instance) (read : g ≡ slice_index_or r.instances.items i g) where
  pub here-open : IsOpenHere r o.instances i o.instance o.view
  here-open = open-here gives r i o

  pub listed-low : n < length g.jobs.items
  listed-low =
      let c = its-code r i o.instances o.instance o.view here-open in
      let s = its gives r i n o found in
      let low = slice_get_within o.instance.seats n s.0 s.1 in
      let many = c.kept.as_many (ap is_some o.is_open) in
      let same = ap (λ (a : code.Instance). length a.jobs.items) (read-is r i o.instances o.instance o.view here-open g read) in
      omega (arith, low, many, same)

  module _ (k : ℕ) (at : k ≡ slice_index_or g.jobs.items n k) where
    abbrev pub read-job : (j : Job) × IsBouncedJob gives r o.instances k j
    read-job =
        bounced-job gives r i n o found (its-code r i o.instances o.instance o.view here-open).itself
        (its-code r i o.instances o.instance o.view here-open).there k
        (subst (λ (a : code.Instance). slice_get a.jobs.items n ≡ Some k)
        (read-is r i o.instances o.instance o.view here-open g read)
        (slice_get-get_or g.jobs.items n k listed-low ∙ ap Some (sym at)))
