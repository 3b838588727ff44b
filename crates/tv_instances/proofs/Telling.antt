-- An open instance whose frame was told an event: the jobs that became known with it sit down.
use Rattle.std.specs.Prelude.{◌≡◌, ℕ, ◌∷◌, ◌++◌, [], List, length, map}
use Rattle.std.proofs.Common.{sym, ap, arith, subst, ◌∙◌}
use Rattle.tv_flow.specs.Flows.{Document, Flow}
use Rattle.tv_model.specs.instance.Ranks.{ranked}
use Rattle.tv_check.specs.declared.plans.FlowPlan.{FlowPlan}
use Rattle.tv_outputs.specs.Known.{Nodes}
use Rattle.tv_model.specs.instance.Events.{Event}
use Rattle.tv_frame.specs.Frames.{Comes, with_event}
use Rattle.tv_frame.specs.FramingViews.{AreGiven, View}
use Rattle.tv_frame.proofs.Possible.{some-possible}
use Rattle.tv_frame.specs.Calls.{Brings, GoesOn}
use Rattle.tv_frame.specs.declared.frame.Frame.{Frame}
use Rattle.tv_frame.specs.Tables.{levels_in}
use Rattle.tv_seats.specs.Seats.{Seat, Seated}
use Rattle.tv_instances.specs.Events.{IsTold}
use Rattle.tv_instances.specs.Levels.{AreKept, Kept}
use Rattle.tv_instances.specs.Seating.{AllSit, CanSit, IsKept, seat_for, unseated}
use Rattle.tv_instances.specs.Standing.{IsOpen, job_of}
use Rattle.tv_instances.specs.Turns.{TakeIn}
use Rattle.tv_instances.specs.declared.turns.Turns.{Turns}
use Rattle.tv_instances.specs.declared.open.Open.{Open}
use Rattle.tv_instances.proofs.Quiet.{AreOf, begun-then, of-more, still-quiet}
use Rattle.tv_instances.proofs.Seats.{all-known}
use Rattle.tv_instances.proofs.Sitting.{can-sit, goes-on, many-sit}

-- so many jobs become known with an event, and no other number
brings-once :
    (v w : View) (e : Event) (k n m : ℕ) → Comes v w e k → AreGiven (ranked w.flow.steps) w.events
    → Brings v e n → Brings v e m → n ≡ m
brings-once v w e k n m c given b g =
    let there : AreGiven (ranked v.flow.steps) (e ∷ v.events) =
    subst (λ (f : Flow). AreGiven (ranked f.steps) (e ∷ v.events)) c.flow
    (subst (AreGiven (ranked w.flow.steps)) c.events given) in
    let r = some-possible (with_event v e []) [] there in
    sym (b [] r.0 r.1 r.2) ∙ g [] r.0 r.1 r.2

-- the frame g was told the event; y are the seats by then, with room for the jobs that become known with it
module _ (d : Document) (plan : FlowPlan) (pool : Nodes) (o : Open) (v : View) (io : IsOpen d plan pool o v) (e : Event)
    (more : ℕ) (brings : Brings v e more) (after : Nodes) (g : Frame) (on : GoesOn d.flows plan after g v e) (y : Seated)
    (jobs : map job_of y.seats ≡ map job_of o.seats.seats) (levels : y.levels ≡ o.seats.levels) (room : y.room ≡ more) where
  abbrev w : View
  w = on.0

  same-number : on.1 ≡ more
  same-number = brings-once v w e on.1 on.1 more on.2 on.4.frame.given on.3 brings

  pub then-kept : IsKept g
  then-kept = (plan, after, d.flows, w, on.4)

  pub then-can : CanSit g y
  then-can =
      can-sit d plan pool o v io after g w e on.1 on.2 on.4 y jobs levels
      (let n = same-number in omega (arith, n, room))

  pub then-told : (z : Seated) → AllSit g y z → (u : Turns) → TakeIn o.turns u (length y.seats) z.seats
      → (ls : Kept) → AreKept w ls.settled
      → AreOf o.seats.seats y.seats o.turns.positions.items u.from → (ss : List Seat) → y.seats ≡ ss
      → IsTold d plan after (record { frame = g; seats = z; turns = u; levels = ls }) v e more ss
  then-told z all u take ls kept of ss is = record {
    view = w;
    new = map seat_for (unseated g y.seats);
    is_open = record {
      keeps = on.4;
      known = all-known g y z then-can all;
      levels =
          all.levels ∙ levels ∙ io.levels ∙ ap (λ (f : Flow). map (λ s. levels_in f s.0) f.steps) (sym on.2.flow);
      quiet =
          still-quiet v w on.2.flow (begun-then v w e on.2.events) o.seats.seats z.seats o.turns u io.quiet take.positions
          take.fewer
          (of-more o.seats.seats y.seats z.seats (map seat_for (unseated g y.seats)) o.turns.positions.items u.from all.seats
          of take.ahead);
      kept = kept;
    };
    goes_on = goes-on d plan pool o v io after g w e on.1 on.2 on.4 y jobs;
    many = many-sit d plan pool o v io after g w e on.1 on.2 on.4 y jobs ∙ same-number;
    seats = all.seats ∙ ap (λ l. l ++ map seat_for (unseated g y.seats)) is;
  }

-- quiet steps are passed
pub told-passed : (d : Document) (plan : FlowPlan) (pool : Nodes) (m p : Open) (v : View) (e : Event) (more : ℕ)
    (ss : List Seat) → IsTold d plan pool m v e more ss
    → ((w : View) → IsOpen d plan pool m w → IsOpen d plan pool p w) → p.seats ≡ m.seats
    → IsTold d plan pool p v e more ss
told-passed d plan pool m p v e more ss t opens same = record {
  view = t.view;
  new = t.new;
  is_open = opens t.view t.is_open;
  goes_on = t.goes_on;
  many = t.many;
  seats = ap (λ (u : Seated). u.seats) same ∙ t.seats;
}
