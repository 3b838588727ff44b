-- What is seen of the steps of an instance of which some nodes are known, and when what is told of it is all that is known so far.
use Rattle.std.specs.List.{list_all}
use Rattle.std.specs.Prelude.{◌≡◌, ◌<◌, ◌++◌, ◌∷◌, ℕ, Bool, true, List, Option, Some, slice_get}
use Rattle.tv_lemmas.specs.Members.{In}
use Rattle.tv_value.specs.Nested.{Place, at, count, leaf, list}
use Rattle.tv_value.specs.Values.{ErrorDoc, JobName, Name}
use Rattle.tv_flow.specs.Flows.{Flow, Step}
use Rattle.tv_strategy.specs.Iterations.{Binding, Iteration, Iterations, job, passed}
use Rattle.tv_strategy.specs.Origins.{Mark, Origin, from_job}
use Rattle.tv_model.specs.instance.Delivered.{StepMeaning}
use Rattle.tv_model.specs.instance.Wholeness.{origin_at}
use Rattle.tv_frame.specs.Levels.{CameFrom, Fit, IsAmong, IsFromKnown, IsNoJob, Level, What, came, closed}
use Rattle.tv_traces.specs.Feeds.{job_at}
use Rattle.tv_traces.specs.Walking.{IsFault, IsListOf}

-- a fault that is known came from there
pub record CameFromKnown (known : Origin → Bool) (s : Step) (f : StepMeaning) (q : Place) (k : ℕ)
    (m : Option Mark) : Type 0 where
  pub from : CameFrom s f q k m
  pub is_known : known from.origin ≡ true

-- of step s, which is f, this is told by place, and these jobs are settled
pub record IsSeen (known : Origin → Bool) (settled : JobName → Bool) (what : Place → Option What)
    (done : Place → Bool) (s : Name × Step) (f : StepMeaning) : Type 0 where
  pub lists :
      (q : Place) (r : List Origin) (ts : Iterations) → at f.iteration q ≡ Some (list r ts)
      → known (origin_at (job_at s.0) q (list r ts)) ≡ true → what q ≡ Some (closed (count ts))
  pub faults :
      (q : Place) (r : List Origin) (m : Option Mark) (e : ErrorDoc)
      → at f.iteration q ≡ Some (leaf r (passed m e))
      → known (origin_at (job_at s.0) q (leaf r (passed m e))) ≡ true
      → (k : ℕ) × (what q ≡ Some (came k)) × CameFromKnown known s.1 f q k m
  pub around :
      (q : Place) (i : ℕ) (p : Place) (t : Iteration) → at f.iteration (q ++ i ∷ p) ≡ Some t
      → known (origin_at (job_at s.0) (q ++ i ∷ p) t) ≡ true
      → (n : ℕ) × (what q ≡ Some (closed n)) × (i < n)
  pub long :
      (q : Place) (n : ℕ) (t : Iteration) → what q ≡ Some (closed n) → at f.iteration q ≡ Some t
      → IsListOf n t
  pub came_there :
      (q : Place) (k : ℕ) (t : Iteration) → what q ≡ Some (came k) → at f.iteration q ≡ Some t
      → IsFault t
  pub jobs :
      (q : Place) (r : List Origin) (b : Binding) → at f.iteration q ≡ Some (leaf r (job b))
      → done q ≡ settled (job_at s.0 q)
  pub bind :
      (q : Place) (r : List Origin) (b : Binding) → at f.iteration q ≡ Some (leaf r (job b))
      → settled (job_at s.0 q) ≡ true
      → (known (from_job (job_at s.0 q)) ≡ true) × (list_all known r ≡ true)

-- so it is of each
abbrev pub AreSeen : (Origin → Bool) → (JobName → Bool) → Flow → List StepMeaning
    → (ℕ → Place → Option What) → (ℕ → Place → Bool) → Type 0
AreSeen known settled flow fs what done =
    (n : ℕ) (s : Name × Step) (f : StepMeaning) → slice_get flow.steps n ≡ Some s → In f fs
    → f.step ≡ s.0 → IsSeen known settled (what n) (done n) s f

-- ---- what is known so far

-- a settled job of a step of that number
abbrev pub Spot : Type 0
Spot = ℕ × Place

-- of step s, which is f and has number n, these are the levels and the settled jobs that are known
pub record IsKnownBy (known : Origin → Bool) (settled : JobName → Bool) (ls : List Level)
    (js : List Spot) (n : ℕ) (s : Name × Step) (f : StepMeaning) : Type 0 where
  pub levels :
      (q : Place) (t : Iteration) → at f.iteration q ≡ Some t → IsNoJob t
      → known (origin_at (job_at s.0) q t) ≡ true → IsAmong ls n q
  pub faults : (l : Level) → In l ls → l.step ≡ n → IsFromKnown known s.1 f l.place l.what
  pub there :
      (q : Place) → In (n, q) js
      → (r : List Origin) × (b : Binding) × (at f.iteration q ≡ Some (leaf r (job b)))
      × (settled (job_at s.0 q) ≡ true)
  pub jobs :
      (q : Place) (r : List Origin) (b : Binding) → at f.iteration q ≡ Some (leaf r (job b))
      → known (from_job (job_at s.0 q)) ≡ settled (job_at s.0 q)
  pub all :
      (q : Place) (r : List Origin) (b : Binding) → at f.iteration q ≡ Some (leaf r (job b))
      → settled (job_at s.0 q) ≡ true → In (n, q) js × (list_all known r ≡ true)

-- so it is of each step of the flow, and the levels fit it
pub record AreKnownBy (known : Origin → Bool) (settled : JobName → Bool) (flow : Flow)
    (fs : List StepMeaning) (ls : List Level) (js : List Spot) : Type 0 where
  pub fit : Fit flow fs ls
  pub each :
      (n : ℕ) (s : Name × Step) (f : StepMeaning) → slice_get flow.steps n ≡ Some s → In f fs
      → f.step ≡ s.0 → IsKnownBy known settled ls js n s f
