-- When all nodes of a step's iteration at and below a place are known. One tree of counters serves all outputs of the step, all that
-- they are bound to, and the step's ending.
use Rattle.std.specs.Prelude.{ℕ, zero, suc, ◌+◌, Bool, true, false, not, ◌&&◌, [], ◌∷◌, ◌++◌, None}
use Rattle.tv_value.specs.Nested.{leaf, list, no_trees, tree, Place}
use Rattle.tv_value.specs.Values.{JobName}
use Rattle.tv_strategy.specs.Origins.{Origin, from_job, from_level}
use Rattle.tv_strategy.specs.Iterations.{Iteration, Iterations, job, passed}

abbrev pub one_if : Bool → ℕ
one_if true = 1
one_if false = 0

-- known after, and not before
abbrev pub is_new : Bool → Bool → Bool
is_new before after = after && not before

-- `named` names the node at a place
module _ (named : Place → JobName) where
  -- where the node at a place of the iteration comes from, in every output of the step and in its ending
  abbrev pub origin_at : Place → Iteration → Origin
  origin_at q (leaf r (job b)) = from_job (named q)
  origin_at q (leaf r (passed m e)) = from_level (named q) m r
  origin_at q (list r ts) = from_level (named q) None r

  module _ (known : Origin → Bool) where
    -- each job at and below this place is known, and each list and passed fault
    abbrev mutual
      pub is_whole : Place → Iteration → Bool
      is_whole q (leaf r e) = known (origin_at q (leaf r e))
      is_whole q (list r ts) = known (origin_at q (list r ts)) && all_whole q 0 ts

      pub all_whole : Place → ℕ → Iterations → Bool
      all_whole q i no_trees = true
      all_whole q i (tree t ts) = is_whole (q ++ i ∷ []) t && all_whole q (suc i) ts

    -- the counter of a list: how many of its items are whole
    abbrev pub whole_items : Place → ℕ → Iterations → ℕ
    whole_items q i no_trees = 0
    whole_items q i (tree t ts) = one_if (is_whole (q ++ i ∷ []) t) + whole_items q (suc i) ts

    -- whether the node at r of an output is whole: inside what a job gave, where the job's result is known
    abbrev mutual
      pub is_whole_at : Place → Iteration → Place → Bool
      is_whole_at q (leaf s e) r = known (origin_at q (leaf s e))
      is_whole_at q (list s ts) [] = is_whole q (list s ts)
      is_whole_at q (list s ts) (i ∷ r) = item_whole_at q 0 ts i r

      -- the k-th of these items of the list at q, the first of which is item i
      pub item_whole_at : Place → ℕ → Iterations → ℕ → Place → Bool
      item_whole_at q i no_trees k r = false
      item_whole_at q i (tree t ts) zero r = is_whole_at (q ++ i ∷ []) t r
      item_whole_at q i (tree t ts) (suc k) r = item_whole_at q (suc i) ts k r
