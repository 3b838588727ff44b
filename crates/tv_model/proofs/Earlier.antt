-- What holds of every node of a value, weakened.
use Rattle.tv_value.specs.Nested.{leaf, list, Trees, no_trees, tree}
use Rattle.tv_value.specs.Values.{Scalar}
use Rattle.tv_strategy.specs.Origins.{Origin, Traced}
use Rattle.tv_strategy.specs.Sources.{AtNodes, AtAllNodes}
pub use Rattle.tv_model.specs.Earlier.{job_list, is_name_of, has_job, NeedEarlier}

mutual
  pub at_nodes-weaken : (P Q : Origin → Type 0) → ((o : Origin) → P o → Q o) → (v : Traced) → AtNodes P v → AtNodes Q v
  at_nodes-weaken P Q f (leaf o a) h = f o h
  at_nodes-weaken P Q f (list o vs) h = (f o h.0, at_all_nodes-weaken P Q f vs h.1)

  at_all_nodes-weaken : (P Q : Origin → Type 0) → ((o : Origin) → P o → Q o) → (vs : Trees Origin Scalar) → AtAllNodes P vs → AtAllNodes Q vs
  at_all_nodes-weaken P Q f no_trees h = tt
  at_all_nodes-weaken P Q f (tree v vs) h = (at_nodes-weaken P Q f v h.0, at_all_nodes-weaken P Q f vs h.1)
