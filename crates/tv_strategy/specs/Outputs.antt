-- An output of a step: its iteration with each binding replaced by what the job there made, and each passed fault by the same document with its depth changed.
use Rattle.std.specs.Prelude.{ℕ, suc, pred, ◌+◌, [], ◌∷◌, ◌++◌, List, None}
use Rattle.tv_value.specs.Nested.{leaf, list, Trees, no_trees, tree, Place}
use Rattle.tv_value.specs.Values.{JobName, Scalar, fault, Value}
use Rattle.tv_strategy.specs.Origins.{Origin, Traced, traced, from_job, from_level}
use Rattle.tv_strategy.specs.Iterations.{End, job, passed, Iteration, Iterations}

-- `named` names the node at a place, `made` is the output of the job at a place, and `declared` is the port's depth
module _ (named : Place → JobName) (made : Place → Value) (declared : ℕ) where
  -- what stands at place q for an end, with so many levels of lists still to come there
  abbrev pub end_output : Place → ℕ → List Origin → End → Traced
  end_output q levels s (job b) = traced (from_job (named q)) (made q)
  end_output q levels s (passed m e) = leaf (from_level (named q) m s)
      (fault (record e { depth = levels + declared }))

  -- the iteration below place q with each end replaced
  abbrev mutual
    pub output_below : Place → ℕ → Iteration → Traced
    output_below q levels (leaf s e) = end_output q levels s e
    output_below q levels (list s ts) = list (from_level (named q) None s)
        (outputs_from q (pred levels) 0 ts)

    pub outputs_from : Place → ℕ → ℕ → Iterations → Trees Origin Scalar
    outputs_from q levels i no_trees = no_trees
    outputs_from q levels i (tree t ts) = tree (output_below (q ++ i ∷ []) levels t)
        (outputs_from q levels (suc i) ts)
