-- An instance that starts: the jobs that its frame knows sit down.
use Rattle.std.specs.Prelude.{◌≡◌, ◌≤◌, List, [], ◌++◌, length, map}
use Rattle.tv_frame.specs.turns.FirstReady.{by_falling_rank}
use Rattle.std.proofs.Common.{arith, sym, ap, subst, ◌∙◌}
use Rattle.tv_value.specs.Values.{Value}
use Rattle.tv_flow.specs.Flows.{Document, Flow}
use Rattle.tv_flow.specs.Views.{flow_view}
use Rattle.tv_check.specs.declared.plans.FlowPlan.{FlowPlan}
use Rattle.tv_outputs.specs.Known.{Nodes}
use Rattle.tv_intake.specs.Intaken.{known_jobs}
use Rattle.tv_frame.specs.FramingViews.{View}
use Rattle.tv_frame.specs.Calls.{Starts}
use Rattle.tv_frame.specs.declared.frame.Frame.{Frame}
use Rattle.tv_frame.specs.Kept.{Keeps}
use Rattle.tv_frame.specs.Tables.{levels_in}
use Rattle.tv_seats.specs.Seats.{Seated}
use Rattle.tv_forest.specs.seats.GoingOn.{AreNewSeats}
use Rattle.tv_instances.specs.Levels.{AreKept, Kept}
use Rattle.tv_instances.specs.Seating.{AllSit, CanSit, IsKept, seat_for, unseated}
use Rattle.tv_instances.specs.Standing.{StartsOpen, job_of}
use Rattle.tv_instances.specs.Turns.{AreTurns, TakeIn}
use Rattle.tv_instances.specs.declared.turns.Turns.{Turns}
use Rattle.tv_instances.proofs.LevelLemmas.{none-kept}
use Rattle.tv_instances.proofs.Seats.{all-known}
use Rattle.tv_instances.proofs.Sitting.{may-sit, new-seats}

module _ (d : Document) (plan : FlowPlan) (values : List Value) (pool : Nodes) (f : Frame)
    (st : Starts d.flows plan values pool f) (x : Seated) (none : x.seats ≡ [])
    (levels : x.levels ≡ map (λ s. levels_in (flow_view plan.flow) s.0) (flow_view plan.flow).steps) where
  abbrev v : View
  v = st.0

  keeps : Keeps d.flows plan pool f v
  keeps = st.3

  pub first-kept : IsKept f
  first-kept = (plan, pool, d.flows, v, keeps)

  first-levels : x.levels ≡ map (λ s. levels_in v.flow s.0) v.flow.steps
  first-levels = levels ∙ ap (λ (g : Flow). map (λ s. levels_in g s.0) g.steps) (sym keeps.flow_is)

  begins : known_jobs f.intakes ≡ map job_of x.seats ++ known_jobs f.intakes
  begins = ap (λ l. map job_of l ++ known_jobs f.intakes) (sym none)

  module _ (room : length (known_jobs f.intakes) ≤ x.room) where
    pub first-can : CanSit f x
    first-can = may-sit f x (known_jobs f.intakes) begins d.flows plan pool v keeps first-levels room

    pub starts-open : (y : Seated) → AllSit f x y → (t u : Turns)
        → AreTurns (by_falling_rank (flow_view plan.flow)) t.positions.items → t.from ≡ 0
        → TakeIn t u (length x.seats) y.seats → (ls : Kept) → ls.settled ≡ []
        → StartsOpen d plan values pool (record { frame = f; seats = y; turns = u; levels = ls })
    starts-open y all t u turns from take ls none-settled = record {
      view = v;
      untold = st.1;
      inputs = st.2;
      is_open = record {
        keeps = keeps;
        known = all-known f x y first-can all;
        levels = all.levels ∙ first-levels;
        quiet = record {
          turns =
              subst (λ (g : Flow). AreTurns (by_falling_rank g) u.positions.items) (sym keeps.flow_is)
              (subst (AreTurns (by_falling_rank (flow_view plan.flow))) (sym take.positions) turns);
          inside = let a = take.fewer in omega (arith, a, from);
          quiet = λ n s e low. let a = take.fewer in absurd (omega (arith, low, a, from));
        };
        kept = subst (AreKept v) (sym none-settled) (none-kept v st.1);
      };
      new =
          subst (AreNewSeats v.flow.steps)
          (sym (all.seats ∙ ap (λ l. l ++ map seat_for (unseated f x.seats)) none))
          (new-seats f x (known_jobs f.intakes) begins d.flows plan pool v keeps);
    }
