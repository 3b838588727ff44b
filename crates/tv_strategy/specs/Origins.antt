-- Where each node of a value in an instance comes from, what it is marked with, and which jobs it needs.
use Rattle.std.specs.Prelude.{ℕ, suc, List, [], ◌∷◌, ◌++◌, Option, Some, None, flat_map}
use Rattle.tv_value.specs.Nested.{Tree, leaf, list, Trees, no_trees, tree, Place, map_tree}
use Rattle.tv_value.specs.Values.{Name, JobName, Scalar, Value}

-- the label that lineage speaks of: a node of an input of the flow, or the result of a job
pub data Mark : Type 0 where
  given : Name → Place → Mark
  made : JobName → Mark

-- when a node is known: from the start, once a job is settled, or once a list is closed or a fault has passed.
-- A list or passed fault of a step's iteration has a name, as a job has: the step and the place.
pub data Known : Type 0 where
  at_start : Known
  by_job : JobName → Known
  by_level : JobName → Known

pub record Origin : Type 0 where
  pub known : Known
  pub mark : Option Mark
  pub needs : List JobName

-- a value in an instance: every node has its origin
abbrev pub Traced : Type 0
Traced = Tree Origin Scalar

-- the value alone
abbrev pub plain : Traced → Value
plain v = map_tree (λ o. tt) (λ a. a) v

-- constants, the lists of merges, and lists that only wrap
abbrev pub fixed : Origin
fixed = record { known = at_start; mark = None; needs = [] }

abbrev pub from_input : Name → Place → Origin
from_input x q = record { known = at_start; mark = Some (given x q); needs = [] }

abbrev pub from_job : JobName → Origin
from_job j = record { known = by_job j; mark = Some (made j); needs = j ∷ [] }

-- what all these nodes need
abbrev pub needs_of : List Origin → List JobName
needs_of os = flat_map (λ o. o.needs) os

-- a list or passed fault of an iteration needs what its sources need
abbrev pub from_level : JobName → Option Mark → List Origin → Origin
from_level n m sources = record { known = by_level n; mark = m; needs = needs_of sources }

-- a value whose nodes all have one origin
abbrev pub traced : Origin → Value → Traced
traced o v = map_tree (λ _. o) (λ a. a) v

-- the value of an input, seen from place q
abbrev mutual
  pub input_value : Name → Place → Value → Traced
  input_value x q (leaf n a) = leaf (from_input x q) a
  input_value x q (list n ts) = list (from_input x q) (input_values x q 0 ts)

  pub input_values : Name → Place → ℕ → Trees (Unit {0}) Scalar → Trees Origin Scalar
  input_values x q i no_trees = no_trees
  input_values x q i (tree t ts) = tree (input_value x (q ++ i ∷ []) t)
      (input_values x q (suc i) ts)
