-- What is wrong with the form of a document, and where.
use Rattle.std.specs.Prelude.{ℕ, List, [], ◌∷◌, ◌++◌, map, Result, Ok, Err}
use Rattle.tv_value.specs.Values.{Text}
use Rattle.tv_value.specs.Nested.{Place}
use Rattle.tv_flow.specs.declared.faults.FormKind.{FormKind}
use Rattle.tv_flow.specs.declared.faults.Part.{Part}
use Rattle.tv_flow.specs.declared.faults.Part.TheVariants.{Key, Index}

-- the keys and indices that lead to a place of the document, the outermost first
abbrev pub Path : Type 0
Path = List Part

pub record Complaint : Type 0 where
  pub kind : FormKind
  pub path : Path

abbrev pub complaint : {A : Type 0} → FormKind → Path → Result A Complaint
complaint k p = Err (record { kind = k; path = p })

-- below a path
abbrev pub key : Path → Text → Path
key here k = here ++ Key k ∷ []

abbrev pub index : Path → ℕ → Path
index here i = here ++ Index i ∷ []

abbrev pub place : Path → Place → Path
place here q = here ++ map Index q

-- what follows from a thing that was read, unless there is a complaint
abbrev pub and_then : {A B : Type 0} → Result A Complaint → (A → Result B Complaint)
    → Result B Complaint
and_then (Ok a) f = f a
and_then (Err c) f = Err c
