-- The main instance before any entry.
use Rattle.std.specs.Prelude.{◌≡◌, refl, ℕ, zero, suc, List, [], ◌∷◌, Some, slice_get}
use Rattle.std.proofs.Common.{subst, sym}
use Rattle.std.proofs.lemmas.Option.{none-some, same_Some}
use Rattle.tv_value.specs.Values.{Name}
use Rattle.tv_gate.specs.Outcomes.{Giving}
use Rattle.tv_flow.specs.Flows.{Document, Flow}
use Rattle.tv_model.proofs.Tests.{true≠false}
use Rattle.tv_framing.specs.Views.{View}
use Rattle.tv_seats.specs.Seats.{Seat}
use Rattle.tv_seats.specs.declared.stage.Stage.TheVariants as stage
use Rattle.tv_forest.specs.runs.Stated.{IsMainFlow}
use Rattle.tv_forest.specs.seats.GoingOn.{IsNew}
use Rattle.tv_forest.proofs.seats.Runs.{sit-at_start}
use Rattle.tv_forest.specs.Entries.{Starting, main_of}
use Rattle.tv_forest.specs.Forest.{Instance, Instances, IsAt, Stand, Stays}
use Rattle.tv_forest.proofs.SeatLemmas.{waiting-not_nested}

module _ (gives : Giving) (d : Document) (levels : Flow → Name → ℕ) (v : View) (ss : List Seat)
    (main : IsMainFlow d v.flow) (inputs : v.inputs ≡ d.inputs) (new : IsNew d (levels v.flow) v ss) where
  abbrev x : Instance
  x = main_of v ss

  abbrev xs : Instances
  xs = x ∷ []

  alone : (P : ℕ → Instance → Type 0) → P 0 x → (i : ℕ) (y : Instance) → IsAt xs i y → P i y
  alone P here zero y e = subst (P 0) (same_Some x y e) here
  alone P here (suc i) y e = absurd (none-some y e)

  starts : Stand gives d levels [] xs
  starts = record {
    formed = main.formed;
    accepted = main.accepted;
    legal = refl;
    main = (
      x,
      refl,
      record {
        unnamed = refl;
        is_flow = main.is_main;
        inputs = λ w e. subst (λ (u : View). u.inputs ≡ d.inputs) (same_Some v w e) inputs;
      },
    );
    each =
        alone (λ i y. Stays gives d levels [] y y.view)
        (refl, sit-at_start gives d (levels v.flow) v ss main inputs new);
    opened = λ i y e. absurd (none-some y e);
    nested = λ i n k y s j is h. absurd (none-nested i n k y s is.instance is.seat h);
    apart = λ i k y z e f q.
        alone (λ n u. n ≡ k) (alone (λ n u. 0 ≡ n) refl k z f) i y e;
    all = λ j i h. absurd (true≠false (sym h));
  }
    where
      none-nested : (i n k : ℕ) (y : Instance) (s : Seat) → IsAt xs i y → slice_get y.seats n ≡ Some s
          → s.stage ≡ stage.Nested k → ⊥
      none-nested i n k y s at =
          alone (λ i y. slice_get y.seats n ≡ Some s → s.stage ≡ stage.Nested k → ⊥)
          (λ e h. waiting-not_nested s.stage k (new.new.waiting n s e) h) i y at

pub starting : Starting
starting = starts
