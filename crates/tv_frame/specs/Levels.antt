-- The lists and passed faults of an instance's steps: where they stand, how long a list is, and which leaf a fault came from.
use Rattle.std.specs.Prelude.{◌≡◌, ◌<◌, ℕ, Bool, true, List, Option, Some, None, drop, length, slice_get}
use Rattle.tv_lemmas.specs.Members.{In}
use Rattle.tv_value.specs.Nested.{Place, at, count, leaf, list}
use Rattle.tv_value.specs.Values.{ErrorDoc, Name, fault}
use Rattle.tv_flow.specs.Flows.{Flow, Step}
use Rattle.tv_strategy.specs.Iterations.{Iteration, job, passed}
use Rattle.tv_strategy.specs.Origins.{Mark, Origin}
use Rattle.tv_frame.specs.Starts.{starts}
use Rattle.tv_model.specs.instance.Delivered.{Ported, StepMeaning}
use Rattle.tv_model.specs.instance.Steps.{port_mismatch, strategy_of}
use Rattle.tv_value.specs.Orders.{named}

-- a list of so many items, or a fault that came from the leaf of that number
pub data What : Type 0 where
  closed : ℕ → What
  came : ℕ → What

pub record Level : Type 0 where
  pub step : ℕ
  pub place : Place
  pub what : What

-- in the value at the port of leaf k a fault with this mark stands at what is left of the place where the leaf begins, above all
-- that the port binds
pub record CameFrom (s : Step) (f : StepMeaning) (q : Place) (k : ℕ)
    (m : Option Mark) : Type 0 where
  pub port : Name
  pub start : ℕ
  pub begins : slice_get (starts (port_mismatch f.inputs) 0 (strategy_of s)) k ≡ Some (port, start)
  pub ported : Ported
  pub is_port : named port f.inputs ≡ Some ported
  pub origin : Origin
  pub document : ErrorDoc
  pub stands : at ported.value (drop start q) ≡ Some (leaf origin (fault document))
  pub above : length (drop start q) < ported.mismatch
  pub mark : origin.mark ≡ m

-- what is told of what stands at q in the iteration of a step
abbrev pub FitsThere : Step → StepMeaning → Place → What → Option Iteration → Type 0
FitsThere s f q w None = ⊥
FitsThere s f q (closed n) (Some (list r ts)) = count ts ≡ n
FitsThere s f q (closed n) (Some (leaf r e)) = ⊥
FitsThere s f q (came k) (Some (list r ts)) = ⊥
FitsThere s f q (came k) (Some (leaf r (job b))) = ⊥
FitsThere s f q (came k) (Some (leaf r (passed m e))) = CameFrom s f q k m

abbrev pub IsNoJob : Iteration → Type 0
IsNoJob (leaf r (job b)) = ⊥
IsNoJob (leaf r (passed m e)) = Unit {0}
IsNoJob (list r ts) = Unit {0}

-- these are levels of the steps of an instance of the flow
pub record Fit (flow : Flow) (fs : List StepMeaning) (ls : List Level) : Type 0 where
  pub of_step : (l : Level) → In l ls → l.step < length flow.steps
  pub there :
      (l : Level) (s : Name × Step) (f : StepMeaning) → In l ls
      → slice_get flow.steps l.step ≡ Some s → In f fs
      → f.step ≡ s.0 → FitsThere s.1 f l.place l.what (at f.iteration l.place)

-- a passed fault came from one that is known
abbrev pub IsFromKnown : (Origin → Bool) → Step → StepMeaning → Place → What → Type 0
IsFromKnown known s f q w =
    (k : ℕ) → w ≡ came k → (m : Option Mark) (c : CameFrom s f q k m) → known c.origin ≡ true

-- so it is of each passed fault among these levels
abbrev pub FaultsAreKnown : (Origin → Bool) → Flow → List StepMeaning → List Level → Type 0
FaultsAreKnown known flow fs ls =
    (l : Level) (s : Name × Step) (f : StepMeaning) → In l ls
    → slice_get flow.steps l.step ≡ Some s → In f fs
    → f.step ≡ s.0 → IsFromKnown known s.1 f l.place l.what

-- that one is there
pub record IsAmong (ls : List Level) (n : ℕ) (q : Place) : Type 0 where
  pub level : Level
  pub among : In level ls
  pub of_step : level.step ≡ n
  pub place : level.place ≡ q

-- and these are all of them
pub record AreLevels (flow : Flow) (fs : List StepMeaning) (ls : List Level) : Type 0 where
  pub fit : Fit flow fs ls
  pub all :
      (n : ℕ) (s : Name × Step) (f : StepMeaning) (q : Place) (t : Iteration)
      → slice_get flow.steps n ≡ Some s
      → In f fs → f.step ≡ s.0 → at f.iteration q ≡ Some t → IsNoJob t → IsAmong ls n q
