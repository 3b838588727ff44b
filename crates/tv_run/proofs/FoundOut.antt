-- The job of a ticket whose try is out, by the numbers that the code finds.
use Rattle.std.specs.Prelude.{◌≡◌, ℕ, ◌<◌, Bool, List, Some, length, slice_get}
use Rattle.std.proofs.Common.{ap, subst, sym, ◌∙◌}
use Rattle.std.proofs.lemmas.Option.{same_Some, slice_get_within}
use Rattle.tv_value.specs.Values.{Value}
use Rattle.tv_gate.specs.Outcomes.{Giving}
use Rattle.tv_dispatch.specs.Jobs.{Ask}
use Rattle.tv_seats.specs.Stages.{is_out}
use Rattle.tv_instances.specs.Forest.{Instances}
use Rattle.tv_history.specs.declared.ticket.Ticket.{Ticket}
use Rattle.tv_instances.specs.declared.events.Spot.{Spot}
use Rattle.tv_run.specs.Accepting.{IsOutHere}
use Rattle.tv_run.specs.Changes.{IsOpenHere, IsReadyIn, IsSeatHere, MayBeGivenIn}
use Rattle.tv_run.specs.Following.{numbered_in}
use Rattle.tv_run.specs.Jobs.{step_number_of}
use Rattle.tv_run.specs.Rooms.{IsAsBefore}
use Rattle.tv_run.specs.Standing.{Stands}
use Rattle.tv_run.specs.declared.instances.Numbered.{Numbered}
use Rattle.tv_run.specs.declared.run.OpenRun.{OpenRun}
use Rattle.tv_run.proofs.AskedOut.{IsAskedOut}
use Rattle.tv_run.proofs.Given.{SettlesAsked, its-runs, was-taken}
use Rattle.tv_run.proofs.JobLemmas.{step_number-is}

module _ (gives : Giving) (r : OpenRun) (xs : Instances) (st : Stands gives r xs) (t : Ticket) (k : Ask)
    (o : IsAskedOut gives r xs t k) where
  -- its step
  module _ (n : ℕ) (found : step_number_of r t.job ≡ Some n) where
    pub step-found : n ≡ o.seat.step
    step-found =
        same_Some n o.seat.step
        (sym found ∙ step_number-is r xs st.fits t.job o.outer o.number o.instance o.seat o.step o.known)

    pub step-low : n < length o.instance.flow.steps
    step-low =
        subst (λ m. m < length o.instance.flow.steps) (sym step-found)
        (slice_get_within o.instance.flow.steps o.seat.step o.step o.known.step)

  module _ (m : Numbered) (e : slice_get r.jobs.items t.job ≡ Some m) where
    -- its instance, and its number there
    pub found-is : m ≡ numbered_in o.outer o.number
    found-is = same_Some m (numbered_in o.outer o.number) (sym e ∙ o.known.number)

    -- in the run b, which is as before
    module _ (b : OpenRun) (pre : IsAsBefore r b) where
      pub open-here : IsOpenHere b xs m.instance o.instance o.view
      open-here = record {
        fits = pre.fits xs st.fits;
        there = ap (λ (u : Numbered). slice_get xs u.instance) found-is ∙ o.known.there;
        is_open = o.is_open;
      }

      pub out-here : IsOutHere b xs m.instance o.instance o.view m.number o.seat
      out-here = record {
        here = open-here;
        seat = ap (λ (u : Numbered). slice_get o.instance.seats u.number) found-is ∙ o.known.seat;
        out = ap is_out o.stands;
      }

      pub seat-here : IsSeatHere b xs m.instance o.instance o.view m.number o.seat o.step
      seat-here = record { here = open-here; seat = out-here.seat; step = o.known.step }

module _ (gives : Giving) (r : OpenRun) (xs : Instances) (st : Stands gives r xs) (t : Ticket) (right : Bool)
    (vs : List Value) (a : SettlesAsked gives r xs t right vs) (m : Numbered)
    (e : slice_get r.jobs.items t.job ≡ Some m) (b : OpenRun) (pre : IsAsBefore r b) (p : Spot)
    (ready : IsReadyIn b m.instance a.asked.view a.asked.seat a.asked.step vs p) where
  -- which may be given its result
  pub given-here : MayBeGivenIn b xs m.instance a.asked.instance a.asked.view m.number a.asked.seat a.asked.step vs p
  given-here = record {
    seat = seat-here gives r xs st t a.ask a.asked m e b pre;
    ready = ready;
    runs = its-runs gives r xs st t right vs a;
    taken = was-taken gives r xs st t right vs a;
  }
