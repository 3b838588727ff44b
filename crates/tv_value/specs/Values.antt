-- Values: texts and faults in nested lists. Names of jobs, and error documents.
use Rattle.std.specs.Prelude.{◌≡◌, ℕ, zero, suc, List, [], ◌∷◌, Bool, true, false, ◌&&◌, ◌==◌}
use Rattle.std.specs.List.{list_any}
use Rattle.tv_value.specs.Nested.{Tree, leaf, list, Trees, no_trees, tree, Place, leaves}

-- a text is its bytes
abbrev pub Text : Type 0
Text = List ℕ

abbrev pub Name : Type 0
Name = List ℕ

-- a job is named by the steps and places that lead to it from the main flow inwards
abbrev pub JobName : Type 0
JobName = List (Name × Place)

-- an error that stands in the place of a value: the job that made it, the depth of what it stands for, why, and the faults that it came from
pub record ErrorDoc : Type 0 where
  pub at : JobName
  pub depth : ℕ
  pub why : Text
  pub from : List JobName

pub data Scalar : Type 0 where
  text : Text → Scalar
  fault : ErrorDoc → Scalar

-- a value as services and documents see it: a tree with no notes
abbrev pub Value : Type 0
Value = Tree (Unit {0}) Scalar

-- a text has depth 0, and a fault the depth that it states
abbrev pub scalar_depth : Scalar → ℕ
scalar_depth (text t) = 0
scalar_depth (fault e) = e.depth

-- a list has a depth where each item has one less; the empty list has every depth from 1
abbrev mutual
  pub HasDepth : {N : Type 0} → Tree N Scalar → ℕ → Type 0
  HasDepth (leaf n a) d = scalar_depth a ≡ d
  HasDepth (list n ts) zero = ⊥
  HasDepth (list n ts) (suc d) = AllHaveDepth ts d

  pub AllHaveDepth : {N : Type 0} → Trees N Scalar → ℕ → Type 0
  AllHaveDepth no_trees d = Unit {0}
  AllHaveDepth (tree t ts) d = HasDepth t d × AllHaveDepth ts d

-- the same as a test
abbrev mutual
  pub has_depth : {N : Type 0} → Tree N Scalar → ℕ → Bool
  has_depth (leaf n a) d = scalar_depth a == d
  has_depth (list n ts) zero = false
  has_depth (list n ts) (suc d) = all_have_depth ts d

  pub all_have_depth : {N : Type 0} → Trees N Scalar → ℕ → Bool
  all_have_depth no_trees d = true
  all_have_depth (tree t ts) d = has_depth t d && all_have_depth ts d

abbrev pub is_fault : Scalar → Bool
is_fault (text t) = false
is_fault (fault e) = true

-- whether a value is a fault or contains one
abbrev pub holds_fault : {N : Type 0} → Tree N Scalar → Bool
holds_fault t = list_any is_fault (leaves t)

-- the jobs that made the faults among these
abbrev pub makers_of : List Scalar → List JobName
makers_of [] = []
makers_of (text t ∷ as') = makers_of as'
makers_of (fault e ∷ as') = e.at ∷ makers_of as'

abbrev pub text_value : Text → Value
text_value t = leaf tt (text t)

abbrev pub list_value : Trees (Unit {0}) Scalar → Value
list_value vs = list tt vs

abbrev pub fault_value : ErrorDoc → Value
fault_value e = leaf tt (fault e)
