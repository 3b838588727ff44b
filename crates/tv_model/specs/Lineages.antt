-- Which elements of the main flow's inputs a value was made from, and which outputs from an element.
use Rattle.std.specs.List.{list_any}
use Rattle.std.specs.Prelude.{Bool, List, None, Option, Some, [], false, filter, filter_map, flat_map, if◌then◌else◌, option_and_then, option_map, true, ◌++◌, ◌∷◌}
use Rattle.tv_value.specs.Nested.{Place, Trees, at, leaf, list, no_trees, nodes, tree}
use Rattle.tv_value.specs.Orders.{in_order, named, same_job}
use Rattle.tv_value.specs.Values.{JobName, Name, Scalar}
use Rattle.tv_lineage.specs.Touching.{Label, label_cmp, touches}
use Rattle.tv_strategy.specs.Origins.{Mark, Origin, Traced, given, made}
use Rattle.tv_model.specs.Jobs.{Job}
use Rattle.tv_model.specs.Made.{Meaning}

abbrev pub mark_or : Option Mark → List Mark → List Mark
mark_or (Some m) ms = m ∷ []
mark_or None ms = ms

-- a value's mark where it has one, else the marks of its items
abbrev mutual
  pub used : Traced → List Mark
  used (leaf o a) = mark_or o.mark []
  used (list o ts) = mark_or o.mark (all_used ts)

  pub all_used : Trees Origin Scalar → List Mark
  all_used no_trees = []
  all_used (tree t ts) = used t ++ all_used ts

-- the input elements that a mark leads to; a job's mark stands for the marks of its inputs. The jobs stand in
-- job order, so those that feed a job stand after it.
abbrev pub labels : List Job → Mark → List Label
labels js (given x q) = (x, q) ∷ []
labels [] (made n) = []
labels (j ∷ js) (made n) =
    let through = flat_map (labels js) (flat_map used j.inputs) in
    let others = labels js (made n) in
    if same_job n j.name then through else others

abbrev pub is_outermost : JobName → Bool
is_outermost [] = true
is_outermost (k ∷ n) = false

abbrev pub main_jobs : Meaning → List Job
main_jobs m = filter (λ j. is_outermost j.instance) m.jobs

abbrev pub lineage : Meaning → Traced → List Label
lineage m v = in_order label_cmp (flat_map (labels (main_jobs m)) (used v))

-- the lineage of an output element, where there is one
abbrev pub lineage_of : Meaning → Name → Place → Option (List Label)
lineage_of m p q = option_map (lineage m) (option_and_then (λ v. at v q) (named p m.outputs))

abbrev pub leaf_label : Meaning → Name → Place → Name → Place × Traced → Option Label
leaf_label m x q p (r, leaf o a) =
    if list_any (touches x q) (lineage m (leaf o a)) then Some (p, r) else None
leaf_label m x q p (r, list o ts) = None

-- the output leaves that were made from an input element
abbrev pub forward : Meaning → Name → Place → List Label
forward m x q = flat_map (λ o. filter_map (leaf_label m x q o.0) (nodes o.1)) m.outputs
