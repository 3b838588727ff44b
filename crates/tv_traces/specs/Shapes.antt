-- The shape of a step's iteration as far as marks go: where its jobs stand, and which marks its passed faults have. It tells which
-- marks the outputs of the step used, whatever their values are.
use Rattle.std.specs.Prelude.{◌≡◌, ℕ, suc, Bool, true, List, [], ◌∷◌, ◌++◌, map, Option, Some, None, option_and_then}
use Rattle.tv_value.specs.Nested.{Place, Tree, Trees, item_at, leaf, list, no_trees, tree}
use Rattle.tv_value.specs.Values.{JobName}
use Rattle.tv_lineage.specs.Kept.{Part, result}
use Rattle.tv_lineage.specs.Touching.{Mark, made}
use Rattle.tv_strategy.specs.Iterations.{Iteration, Iterations, job, passed}
use Rattle.tv_strategy.specs.Origins.{Origin}
use Rattle.tv_model.specs.instance.Wholeness.{is_whole_at}
use Rattle.tv_model.specs.Lineages.{mark_or}
use Rattle.tv_model.specs.records.Recorded.{mark_of}

-- a job, or a passed fault with its mark, if it has one
pub data Stop : Type 0 where
  job_here : Stop
  passed_by : List Mark → Stop

-- each list has the part that stands for its items
abbrev pub Shape : Type 0
Shape = Tree Part Stop

abbrev pub Shapes : Type 0
Shapes = Trees Part Stop

-- where nothing is known yet
abbrev pub no_shape : Shape
no_shape = leaf (result []) (passed_by [])

-- ---- the shape of an iteration

abbrev mutual
  pub Shows : Shape → Iteration → Type 0
  Shows (leaf g job_here) (leaf s (job b)) = Unit {0}
  Shows (leaf g job_here) (leaf s (passed m e)) = ⊥
  Shows (leaf g (passed_by ms)) (leaf s (job b)) = ⊥
  Shows (leaf g (passed_by ms)) (leaf s (passed m e)) = ms ≡ map mark_of (mark_or m [])
  Shows (leaf g k) (list s ts) = ⊥
  Shows (list g us) (leaf s e) = ⊥
  Shows (list g us) (list s ts) = ShowAll us ts

  pub ShowAll : Shapes → Iterations → Type 0
  ShowAll no_trees no_trees = Unit {0}
  ShowAll no_trees (tree t ts) = ⊥
  ShowAll (tree u us) no_trees = ⊥
  ShowAll (tree u us) (tree t ts) = Shows u t × ShowAll us ts

-- ---- the shape of what is known of an iteration

abbrev pub BothHave : {A B : Type 0} → (A → B → Type 0) → Option A → Option B → Type 0
BothHave P None b = ⊥
BothHave P (Some a) None = ⊥
BothHave P (Some a) (Some b) = P a b

-- where the way to a place ends
abbrev pub ShowsAt : Shape → Iteration → Place → Type 0
ShowsAt u t [] = Shows u t
ShowsAt u (leaf s e) (i ∷ r) = Shows u (leaf s e)
ShowsAt (leaf g k) (list s ts) (i ∷ r) = ⊥
ShowsAt (list g us) (list s ts) (i ∷ r) = BothHave (λ u t. ShowsAt u t r) (item_at us i)
    (item_at ts i)

-- wherever all of t, which stands at q, is known
abbrev pub ShowsKnown : (Place → JobName) → (Origin → Bool) → Place → Shape → Iteration → Type 0
ShowsKnown name known q u t = (r : Place) → is_whole_at name known q t r ≡ true → ShowsAt u t r

-- ---- the marks that what stands at a node used; `name` names the job at a place

module _ (name : Place → JobName) where
  abbrev pub stop_used : Place → Stop → List Mark
  stop_used q job_here = made (name q) ∷ []
  stop_used q (passed_by ms) = ms

  abbrev mutual
    pub shape_used : Place → Shape → List Mark
    shape_used q (leaf g k) = stop_used q k
    shape_used q (list g us) = shapes_used q 0 us

    pub shapes_used : Place → ℕ → Shapes → List Mark
    shapes_used q i no_trees = []
    shapes_used q i (tree u us) = shape_used (q ++ i ∷ []) u ++ shapes_used q (suc i) us

-- ---- what stands at a place: where the way to it ends, and the shape there

abbrev pub reached : Place → Shape → Place → Option (Place × Shape)
reached q u [] = Some (q, u)
reached q (leaf g k) (i ∷ r) = Some (q, leaf g k)
reached q (list g us) (i ∷ r) = option_and_then (λ u. reached (q ++ i ∷ []) u r) (item_at us i)
