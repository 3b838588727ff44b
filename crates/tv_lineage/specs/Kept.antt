-- What is kept of records: parts in place of marks, so that what many jobs used together is kept once.
use Rattle.std.specs.List.{list_any}
use Rattle.std.specs.Prelude.{Bool, List, [], flat_map, if◌then◌else◌, length, map, suc, ℕ, ◌==◌, ◌≤◌, ◌∷◌}
use Rattle.tv_lemmas.specs.Members.{Each}
use Rattle.tv_value.specs.Nested.{Place}
use Rattle.tv_value.specs.Orders.{same_job}
use Rattle.tv_value.specs.Values.{JobName, Name}
use Rattle.tv_lineage.specs.Touching.{Mark, given, made}
use Rattle.tv_lineage.specs.Lineages.{Record}

-- an element of an input, the result of a job, or a group of parts, such as the items of a list that many jobs bind
pub data Part : Type 0 where
  element : Name → Place → Part
  result : JobName → Part
  group : ℕ → Part

pub record KeptRecord : Type 0 where
  pub job : JobName
  pub parts : List Part

-- groups of parts: what each job used, and what was shared. The latest comes first; the number of a group is the number of those made before it.
abbrev pub Groups : Type 0
Groups = List (List Part)

pub record Kept : Type 0 where
  pub jobs : List KeptRecord
  pub groups : Groups

-- ---- the marks that a part stands for

abbrev pub part_marks : (ℕ → List Mark) → Part → List Mark
part_marks f (element x q) = given x q ∷ []
part_marks f (result n) = made n ∷ []
part_marks f (group i) = f i

-- a group stands for what its parts stand for, of which each group was made before it
abbrev pub group_marks : Groups → ℕ → List Mark
group_marks [] i = []
group_marks (g ∷ gs) i = if i == length gs then flat_map (part_marks (group_marks gs)) g
    else group_marks gs i

abbrev pub marks_of : Groups → Part → List Mark
marks_of gs p = part_marks (group_marks gs) p

abbrev pub all_marks : Groups → List Part → List Mark
all_marks gs ps = flat_map (marks_of gs) ps

-- the records that are kept
abbrev pub record_kept : Groups → KeptRecord → Record
record_kept gs r = record { job = r.job; used = all_marks gs r.parts }

abbrev pub records_of : Kept → List Record
records_of k = map (record_kept k.groups) k.jobs

-- ---- look-ups

abbrev pub is_noted : JobName → Kept → Bool
is_noted n k = list_any (λ (r : KeptRecord). same_job n r.job) k.jobs

abbrev pub parts_by : JobName → List KeptRecord → List Part
parts_by n rs = flat_map (λ r. if same_job n r.job then r.parts else []) rs

abbrev pub parts_in : Groups → ℕ → List Part
parts_in [] i = []
parts_in (g ∷ gs) i = if i == length gs then g else parts_in gs i

-- what a part leads on to
abbrev pub parts_next : Kept → Part → List Part
parts_next k (element x q) = []
parts_next k (result n) = parts_by n k.jobs
parts_next k (group i) = parts_in k.groups i

-- ---- what is so of groups

-- it names no group but the first so many
abbrev pub IsBefore : ℕ → Part → Type 0
IsBefore n (element x q) = Unit {0}
IsBefore n (result j) = Unit {0}
IsBefore n (group i) = suc i ≤ n

-- each group names only groups made before it
abbrev pub AreBefore : Groups → Type 0
AreBefore [] = Unit {0}
AreBefore (g ∷ gs) = Each (IsBefore (length gs)) g × AreBefore gs
