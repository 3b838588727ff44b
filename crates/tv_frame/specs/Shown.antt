-- What the steps of an event's second half make of a frame: what came is put into trees, and what was worked ahead is shown.
use Rattle.std.specs.Prelude.{◌≡◌, ℕ, ◌<◌, ◌++◌, Bool, true, false, List, [], ◌∷◌, Option, Some, None, length, slice_set}
use Rattle.tv_value.specs.Nested.{list, no_trees}
use Rattle.tv_value.specs.Values.{Value}
use Rattle.tv_cell.specs.declared.piece.Piece.{Piece}
use Rattle.tv_check.specs.declared.wiring.Wiring.{Wiring}
use Rattle.tv_telling.specs.declared.endings.endings.Endings.{Endings}
use Rattle.tv_telling.specs.endings.Ends.{AreTurned, IsSound, is_whole}
use Rattle.tv_intake.specs.Intaken.{AreIntaken, known_jobs, waiting_things}
use Rattle.tv_spread.specs.Spreads.{MakeAll, binds_fault, new_jobs, new_things, with_all_new}
use Rattle.tv_model.specs.instance.Events as events
use Rattle.tv_model.specs.instance.Events.{Event, fault_set, gave, is_taken, took}
use Rattle.tv_framing.specs.Views.{View}
use Rattle.tv_frame.specs.declared.frame.Frame.{Frame}

-- ---- trees

-- what is put into trees: an empty list into the one tree of a step without outputs
abbrev pub values_put : List Value → List Value
values_put [] = list tt no_trees ∷ []
values_put (v ∷ vs) = v ∷ vs

-- the same but for its trees
pub record HasOtherTrees (f g : Frame) : Type 0 where
  pub region : g.region ≡ f.region
  pub tables : g.tables ≡ f.tables
  pub inputs : g.inputs ≡ f.inputs
  pub faulty_inputs : g.faulty_inputs.items ≡ f.faulty_inputs.items
  pub intakes : g.intakes ≡ f.intakes
  pub idle : g.idle ≡ f.idle
  pub endings : g.endings ≡ f.endings
  pub spread : g.spread ≡ f.spread
  pub whole : g.ahead.whole ≡ f.ahead.whole
  pub outs_ahead : g.ahead.outs ≡ f.ahead.outs
  pub outs : g.outs ≡ f.outs

-- ---- running jobs

-- a job that gives runs
abbrev pub IsRunning : View → Event → Type 0
IsRunning v (gave s q vs) = is_taken v.events s q ≡ true
IsRunning v (events.closed s q n) = Unit {0}
IsRunning v (fault_set s q d) = Unit {0}
IsRunning v (took s q) = Unit {0}

-- ---- endings

-- step n may be marked whole
pub record CanTurnWhole (w : Wiring) (n : ℕ) (x : Endings) : Type 0 where
  pub sound : IsSound w.after x
  pub turned : AreTurned w.after w.dependents
  pub within : n < length w.after
  pub growing : is_whole x n ≡ false

pub record IsMarkedAt (w : Wiring) (n : ℕ) (x y : Endings) : Type 0 where
  pub sound : IsSound w.after y
  pub marked : y.whole.items ≡ slice_set x.whole.items n true

-- it is marked whole where it turns whole
abbrev pub IsMarked : Bool → Wiring → ℕ → Endings → Endings → Type 0
IsMarked true w n x y = IsMarkedAt w n x y
IsMarked false w n x y = y ≡ x

-- the same but for its endings
pub record HasOtherEndings (f g : Frame) : Type 0 where
  pub region : g.region ≡ f.region
  pub tables : g.tables ≡ f.tables
  pub inputs : g.inputs ≡ f.inputs
  pub faulty_inputs : g.faulty_inputs.items ≡ f.faulty_inputs.items
  pub outputs : g.outputs ≡ f.outputs
  pub intakes : g.intakes ≡ f.intakes
  pub idle : g.idle ≡ f.idle
  pub outs_ahead : g.ahead.outs ≡ f.ahead.outs
  pub outs : g.outs ≡ f.outs

-- ---- outputs

-- those that were made ahead, where there are such
abbrev pub outs_after : Option (List Piece) → Option (List Piece) → Option (List Piece)
outs_after None now = now
outs_after (Some ps) now = Some ps

-- the same but for its outputs
pub record HasOtherOuts (f g : Frame) : Type 0 where
  pub region : g.region ≡ f.region
  pub tables : g.tables ≡ f.tables
  pub inputs : g.inputs ≡ f.inputs
  pub faulty_inputs : g.faulty_inputs.items ≡ f.faulty_inputs.items
  pub outputs : g.outputs ≡ f.outputs
  pub intakes : g.intakes ≡ f.intakes
  pub idle : g.idle ≡ f.idle
  pub endings : g.endings ≡ f.endings

-- ---- all of it

-- what the touched steps held is made, step n is marked where it turned whole, and outputs that were made ahead are there
pub record IsShown (w : Wiring) (n : ℕ) (f g : Frame) : Type 0 where
  pub region : g.region ≡ f.region
  pub tables : g.tables ≡ f.tables
  pub inputs : g.inputs ≡ f.inputs
  pub faulty_inputs : g.faulty_inputs.items ≡ f.faulty_inputs.items
  pub outputs : g.outputs ≡ f.outputs
  pub made : MakeAll f.spread.touched.items f.intakes g.intakes
  pub jobs : known_jobs g.intakes ≡ known_jobs f.intakes
      ++ new_jobs f.intakes f.spread.touched.items
  pub waiting : waiting_things g.intakes ≡ waiting_things f.intakes
      ++ new_things f.intakes f.spread.touched.items
  pub idle : g.idle ≡ with_all_new (binds_fault f.intakes)
      (new_jobs f.intakes f.spread.touched.items) f.idle
  pub intaken : AreIntaken g.intakes
  pub marked : IsMarked f.ahead.whole w n f.endings g.endings
  pub outs : g.outs ≡ outs_after f.ahead.outs f.outs
