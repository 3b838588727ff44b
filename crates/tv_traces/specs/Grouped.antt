-- Parts that stand for the items of lists.
use Rattle.std.specs.Prelude.{◌≡◌, ◌≤◌, ◌++◌, ℕ, suc, List, [], ◌∷◌, length, Some, slice_get, slice_index_or}
use Rattle.tv_lemmas.specs.Members.{Each}
use Rattle.tv_value.specs.Nested.{Place, leaf, list, no_trees, tree}
use Rattle.tv_value.specs.Values.{JobName, Name}
use Rattle.tv_flow.specs.Flows.{Flow, Step}
use Rattle.tv_lineage.specs.Kept.{Groups, IsBefore, Part, all_marks, group_marks, marks_of}
use Rattle.tv_lineage.specs.Touching.{Mark}
use Rattle.tv_traces.specs.Feeds.{job_at}
use Rattle.tv_traces.specs.Shapes.{Shape, Shapes, no_shape, shapes_used}

-- the groups that were there stand for what they stood for
pub record Grows (old new : Groups) : Type 0 where
  pub longer : length old ≤ length new
  pub same : (i : ℕ) → suc i ≤ length old → group_marks new i ≡ group_marks old i

module _ (name : Place → JobName) (gs : Groups) where
  -- the part of each list was made, and stands for what its items used
  abbrev mutual
    pub IsGrouped : Place → Shape → Type 0
    IsGrouped q (leaf g k) = Unit {0}
    IsGrouped q (list g us) = IsBefore (length gs) g × (marks_of gs g ≡ shapes_used name q 0 us)
        × ItemsAreGrouped q 0 us

    pub ItemsAreGrouped : Place → ℕ → Shapes → Type 0
    ItemsAreGrouped q i no_trees = Unit {0}
    ItemsAreGrouped q i (tree u us) = IsGrouped (q ++ i ∷ []) u × ItemsAreGrouped q (suc i) us

-- so it is of each step of the flow
abbrev pub AllAreGrouped : Flow → Groups → List Shape → Type 0
AllAreGrouped flow gs us =
    (n : ℕ) (s : Name × Step) → slice_get flow.steps n ≡ Some s
    → IsGrouped (job_at s.0) gs [] (slice_index_or us n no_shape)

-- these parts were made, and stand for these marks
pub record StandFor (gs : Groups) (ps : List Part) (ms : List Mark) : Type 0 where
  pub before : Each (IsBefore (length gs)) ps
  pub marks : all_marks gs ps ≡ ms
