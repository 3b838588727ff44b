-- Whether two values are the same, as a test.
use Rattle.std.specs.Prelude.{Bool, List, false, true, ◌&&◌, ◌==◌}
use Rattle.std.specs.Cmp.Lexicographic.{pointwise}
use Rattle.tv_value.specs.Nested.{leaf, list, Trees, no_trees, tree}
use Rattle.tv_value.specs.Orders.{same_job, same_name}
use Rattle.tv_value.specs.Values.{ErrorDoc, Scalar, Value, fault, text}

-- but for the depth
abbrev pub same_document : ErrorDoc → ErrorDoc → Bool
same_document e f = same_job e.at f.at
    && (same_name e.why f.why && pointwise same_job e.from f.from)

abbrev pub same_scalar : Scalar → Scalar → Bool
same_scalar (text t) (text u) = same_name t u
same_scalar (text t) (fault f) = false
same_scalar (fault e) (text u) = false
same_scalar (fault e) (fault f) = e.depth == f.depth && same_document e f

abbrev mutual
  pub same_value : Value → Value → Bool
  same_value (leaf n a) (leaf m b) = same_scalar a b
  same_value (leaf n a) (list m us) = false
  same_value (list n ts) (leaf m b) = false
  same_value (list n ts) (list m us) = same_trees ts us

  pub same_trees : Trees (Unit {0}) Scalar → Trees (Unit {0}) Scalar → Bool
  same_trees no_trees no_trees = true
  same_trees no_trees (tree u us) = false
  same_trees (tree t ts) no_trees = false
  same_trees (tree t ts) (tree u us) = same_value t u && same_trees ts us

abbrev pub same_values : List Value → List Value → Bool
same_values = pointwise same_value
