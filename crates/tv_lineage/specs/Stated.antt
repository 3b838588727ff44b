-- The laws of records, for all records, marks and elements.
use Rattle.std.specs.List.{list_any}
use Rattle.std.specs.Prelude.{Bool, List, [], length, map, suc, true, ℕ, ◌++◌, ◌↔◌, ◌≡◌, ◌∷◌}
use Rattle.tv_lemmas.specs.Members.{In}
use Rattle.tv_value.specs.Nested.{Place}
use Rattle.tv_value.specs.Orders.{place_cmp}
use Rattle.tv_value.specs.Values.{JobName, Name}
use Rattle.tv_lineage.specs.Kept.{AreBefore, IsBefore, Kept, Part, all_marks, group, marks_of, parts_in, records_of}
use Rattle.tv_lineage.specs.Lineages.{IsReached, Leaf, Record, backward, by_step, forward, is_made_from, job_at}
use Rattle.tv_lineage.specs.Members.{HaveSame, Rises}
use Rattle.tv_lineage.specs.Reaching.{AreNumbers, Begins, IsSearch, Numbers, Search, Sees, looks_left}
use Rattle.tv_lineage.specs.Tables.{AreTouched, IsTable, IsTouched, IsWhole, in_table}
use Rattle.tv_lineage.specs.Touching.{Label, Mark, label_cmp, touches}

-- `backward` has exactly the labels that are reached, in order, each once
abbrev pub BackwardIsClosure : Type 0
BackwardIsClosure =
    (rs : List Record) (used : List Mark) → ((l : Label) → In l (backward rs used)
    ↔ IsReached rs used l) × Rises label_cmp (backward rs used)

-- so it is the only such list
abbrev pub BackwardIsOnlyOne : Type 0
BackwardIsOnlyOne =
    (rs : List Record) (used : List Mark) (ls : List Label) → Rises label_cmp ls
    → ((l : Label) → In l ls ↔ IsReached rs used l) → ls ≡ backward rs used

-- the order of the records is of no account, nor that of the marks, nor how often one comes
abbrev pub OrderIsOfNoAccount : Type 0
OrderIsOfNoAccount = (rs ts : List Record) (us vs : List Mark) → HaveSame rs ts → HaveSame us vs
    → backward rs us ≡ backward ts vs

abbrev pub ForwardInAnyOrder : Type 0
ForwardInAnyOrder = (rs ts : List Record) → HaveSame rs ts → (fs : List Leaf) (x : Name) (q : Place)
    → forward rs fs x q ≡ forward ts fs x q

abbrev pub ByStepInAnyOrder : Type 0
ByStepInAnyOrder = (rs ts : List Record) → HaveSame rs ts → (s : Name) → by_step rs s ≡ by_step ts s

-- the lineage of something is touched exactly where a label that is reached is
abbrev pub MadeFromIsReached : Type 0
MadeFromIsReached =
    (rs : List Record) (x : Name) (q : Place) (used : List Mark) → (is_made_from rs x q used ≡ true)
    ↔ ((l : Label) × IsReached rs used l × (touches x q l ≡ true))

-- exactly the noted jobs of that step in the main flow, in order of place
abbrev pub ByStepHasJobs : Type 0
ByStepHasJobs =
    (rs : List Record) (s : Name) (n : JobName) → In n (by_step rs s)
    ↔ ((q : Place) × (n ≡ job_at s q) × ((r : Record) × In r rs × (r.job ≡ job_at s q)))

abbrev pub ByStepInOrder : Type 0
ByStepInOrder = (rs : List Record) (s : Name) → (qs : List Place) × Rises place_cmp qs
    × (by_step rs s ≡ map (job_at s) qs)

-- ---- what is kept

-- a new group changes nothing that names only groups made before it, and stands for its parts
abbrev pub GroupIsItsParts : Type 0
GroupIsItsParts =
    (gs : List (List Part)) (g : List Part)
    → ((p : Part) → IsBefore (length gs) p → marks_of (g ∷ gs) p ≡ marks_of gs p)
    × (marks_of (g ∷ gs) (group (length gs)) ≡ all_marks gs g)

-- what holds where the groups name only earlier ones, and the numbers are those of the jobs
module _ (ns : Numbers) (k : Kept) where
  -- a search begins with what is asked for, goes on with what was met last, and has found all once nothing is pending
  abbrev pub SearchBegins : Type 0
  SearchBegins =
      AreBefore k.groups → AreNumbers ns k → (used : List Part) (s t : Search)
      → Begins (length k.groups) s → Sees ns used s t → IsSearch ns k used t

  abbrev pub SearchGoesOn : Type 0
  SearchGoesOn =
      AreBefore k.groups → AreNumbers ns k → (used : List Part) (s t : Search) (rest : List ℕ)
      (i : ℕ)
      → s.pending ≡ rest ++ i ∷ [] → IsSearch ns k used s
      → Sees ns (parts_in k.groups i) (record s { pending = rest }) t
      → IsSearch ns k used t × (looks_left s ≡ suc (looks_left t))

  abbrev pub SearchFindsAll : Type 0
  SearchFindsAll =
      AreBefore k.groups → AreNumbers ns k → (used : List Part) (s : Search)
      → s.pending ≡ [] → IsSearch ns k used s → s.found
      ≡ backward (records_of k) (all_marks k.groups used)

  -- a table may be given any group that leads on to what it has, and is whole once no group does
  abbrev pub TableMayGrow : Type 0
  TableMayGrow =
      AreBefore k.groups → AreNumbers ns k → (x : Name) (q : Place) (bs : List Bool)
      → AreTouched k x q bs → (i : ℕ)
      → list_any (in_table ns x q bs) (parts_in k.groups i) ≡ true → IsTouched k x q (group i)

  abbrev pub TableIsWhole : Type 0
  TableIsWhole =
      AreBefore k.groups → AreNumbers ns k → (x : Name) (q : Place) (bs : List Bool)
      → IsWhole ns k x q bs → IsTable k x q (in_table ns x q bs)

-- a table tells of anything whether it was made from the element
abbrev pub TableTells : Type 0
TableTells =
    (k : Kept) → AreBefore k.groups → (x : Name) (q : Place) (t : Part → Bool) → IsTable k x q t
    → (used : List Part)
    → list_any t used ≡ is_made_from (records_of k) x q (all_marks k.groups used)
