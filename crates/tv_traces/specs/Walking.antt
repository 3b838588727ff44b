-- What the jobs and passed faults of a step used, and when this is told of its iteration.
use Rattle.std.specs.Option.{option_map_or}
use Rattle.std.specs.Prelude.{◌≡◌, ◌<◌, ◌≤◌, ◌++◌, ℕ, ◌==◌, Bool, true, List, [], ◌∷◌, drop, find, flat_map, map, Option, Some, slice_index_or, take}
use Rattle.tv_value.specs.Nested.{Place, at, count, leaf, list}
use Rattle.tv_value.specs.Values.{ErrorDoc, Name}
use Rattle.tv_flow.specs.Flows.{Flow, Step}
use Rattle.tv_lineage.specs.Kept.{Part}
use Rattle.tv_lineage.specs.Touching as marks
use Rattle.tv_strategy.specs.Conditions.{number_of}
use Rattle.tv_strategy.specs.Iterations.{Binding, Iteration, Iterations, job, passed}
use Rattle.tv_strategy.specs.Origins.{Mark, Origin, from_job}
use Rattle.tv_model.specs.instance.Steps.{bound_values, strategy_of}
use Rattle.tv_check.specs.declared.ports.Port.{Port}
use Rattle.tv_check.specs.Ports.{mismatches}
use Rattle.tv_frame.specs.Starts.{starts}
use Rattle.tv_model.specs.instance.Wholeness.{origin_at}
use Rattle.tv_model.specs.Lineages.{mark_or, used}
use Rattle.tv_model.specs.records.Recorded.{mark_of}
use Rattle.tv_frame.specs.Levels.{What, came, closed}
use Rattle.tv_traces.specs.Feeds.{element_marks, element_parts, feed_told, job_at, node_marks, node_parts}
use Rattle.tv_traces.specs.Shapes.{Shape}

-- where the part of each leaf begins in the place of a job
abbrev pub begins_of : Flow → Step → List ℕ
begins_of flow s = map (λ x. x.1) (starts (number_of (mismatches flow s)) 0 (strategy_of s))

-- the part of a place that is of a port
abbrev pub part_in : List ℕ → Port → Place → Place
part_in begins p q = take p.levels (drop (slice_index_or begins p.leaf 0) q)

module _ {A : Type 0} (of_element : Name → Place → List A) (of_node : Name → Place → Shape → List A)
    (flow : Flow) (shapes : List Shape) (ports : List Port) (begins : List ℕ) where
  -- what the job at a place binds, port by port
  abbrev pub bound_told : Place → List A
  bound_told q = flat_map (λ p. feed_told of_element of_node flow shapes p.feed
      (part_in begins p q)) ports

  -- the fault that the leaf of that number met there
  abbrev pub fault_told : ℕ → Place → List A
  fault_told k q =
      option_map_or
      (λ p. feed_told of_element of_node flow shapes p.feed (drop (slice_index_or begins k 0) q))
      (find (λ (p : Port). p.leaf == k) ports) []

abbrev pub bound_marks : Flow → List Shape → List Port → List ℕ → Place → List marks.Mark
bound_marks = bound_told element_marks node_marks

abbrev pub bound_parts : Flow → List Shape → List Port → List ℕ → Place → List Part
bound_parts = bound_told element_parts node_parts

abbrev pub fault_marks : Flow → List Shape → List Port → List ℕ → ℕ → Place → List marks.Mark
fault_marks = fault_told element_marks node_marks

-- a list of so many items at least
abbrev pub IsListOf : ℕ → Iteration → Type 0
IsListOf n (leaf r e) = ⊥
IsListOf n (list r ts) = n ≤ count ts

abbrev pub IsFault : Iteration → Type 0
IsFault (leaf r (job b)) = ⊥
IsFault (leaf r (passed m e)) = Unit {0}
IsFault (list r ts) = ⊥

-- of the iteration of step s, of which the nodes are known that `known` tells: its settled jobs used what is told of them, and its known
-- lists and passed faults are those of the table. It has a list too where only something below it is known, which is longer than that tells.
pub record IsToldOf (known : Origin → Bool) (settled : Place → Bool) (flow : Flow)
    (shapes : List Shape) (ports : List Port) (begins : List ℕ)
    (what : Place → Option What) (s : Name × Step) (it : Iteration)
    : Type 0 where
  pub jobs :
      (q : Place) (r : List Origin) (b : Binding) → at it q ≡ Some (leaf r (job b))
      → settled q ≡ true
      → bound_marks flow shapes ports begins q ≡ map mark_of (flat_map used (bound_values s.1 b))
  pub lists :
      (q : Place) (r : List Origin) (ts : Iterations) → at it q ≡ Some (list r ts)
      → known (origin_at (job_at s.0) q (list r ts)) ≡ true
      → what q ≡ Some (closed (count ts))
  pub faults :
      (q : Place) (r : List Origin) (m : Option Mark) (e : ErrorDoc)
      → at it q ≡ Some (leaf r (passed m e))
      → known (origin_at (job_at s.0) q (leaf r (passed m e))) ≡ true
      → (k : ℕ) × (what q ≡ Some (came k))
      × (fault_marks flow shapes ports begins k q ≡ map mark_of (mark_or m []))
  pub around :
      (q : Place) (i : ℕ) (p : Place) (t : Iteration) → at it (q ++ i ∷ p) ≡ Some t
      → known (origin_at (job_at s.0) (q ++ i ∷ p) t) ≡ true
      → (n : ℕ) × (what q ≡ Some (closed n)) × (i < n)
  pub long :
      (q : Place) (n : ℕ) (t : Iteration) → what q ≡ Some (closed n) → at it q ≡ Some t
      → IsListOf n t
  pub came_there :
      (q : Place) (k : ℕ) (t : Iteration) → what q ≡ Some (came k) → at it q ≡ Some t → IsFault t
  pub settled_known :
      (q : Place) (r : List Origin) (b : Binding) → at it q ≡ Some (leaf r (job b))
      → settled q ≡ true → known (from_job (job_at s.0 q)) ≡ true
