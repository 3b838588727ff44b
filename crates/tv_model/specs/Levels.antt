-- The lists and passed faults of all iterations, each with its sources.
use Rattle.std.specs.Prelude.{List, None, Option, Some, filter_map, flat_map, ℕ}
use Rattle.tv_value.specs.Nested.{Place, count, leaf, list, nodes}
use Rattle.tv_value.specs.Values.{JobName}
use Rattle.tv_strategy.specs.Iterations.{Iteration, job, passed}
use Rattle.tv_strategy.specs.Origins.{Origin}
use Rattle.tv_model.specs.instance.Delivered.{StepMeaning}
use Rattle.tv_model.specs.instance.Steps.{spot}

-- a list or passed fault of an iteration: its sources, and a list's length
pub record Level : Type 0 where
  pub name : JobName
  pub instance : JobName
  pub sources : List Origin
  pub length : Option ℕ

abbrev pub level_at : StepMeaning → Place × Iteration → Option Level
level_at s (q, leaf r (job b)) = None
level_at s (q, leaf r (passed m e)) =
    Some (record {
      name = spot s.instance s.step q;
      instance = s.instance;
      sources = r;
      length = None;
    })
level_at s (q, list r ts) =
    Some (record {
      name = spot s.instance s.step q;
      instance = s.instance;
      sources = r;
      length = Some (count ts);
    })

-- the lists and passed faults of all steps
abbrev pub levels : List StepMeaning → List Level
levels ss = flat_map (λ s. filter_map (level_at s) (nodes s.iteration)) ss
