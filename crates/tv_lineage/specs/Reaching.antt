-- How what is kept is searched, so that each group is looked at once.
use Rattle.std.specs.Prelude.{Bool, IfSome, List, None, Option, Some, [], false, length, slice_index_or, suc, true, ℕ, ◌+◌, ◌≡◌, ◌≤◌, ◌⊎◌, ◌∷◌}
use Rattle.tv_lemmas.specs.Members.{In}
use Rattle.tv_value.specs.Values.{JobName}
use Rattle.tv_lineage.specs.Kept.{Kept, Part, all_marks, element, group, group_marks, is_noted, parts_by, parts_in, records_of, result}
use Rattle.tv_lineage.specs.Lineages.{IsReached}
use Rattle.tv_lineage.specs.Members.{Rises}
use Rattle.tv_lineage.specs.Touching.{Label, label_cmp}

-- ---- numbers of jobs

-- the number of the group of what a job used, if the job was noted
abbrev pub Numbers : Type 0
Numbers = JobName → Option ℕ

abbrev pub IsNumber : Kept → JobName → Option ℕ → Type 0
IsNumber k n None = is_noted n k ≡ false
IsNumber k n (Some i) = (suc i ≤ length k.groups) × (parts_by n k.jobs ≡ parts_in k.groups i)
    × (is_noted n k ≡ true)

-- the numbers are those of what is kept
abbrev pub AreNumbers : Numbers → Kept → Type 0
AreNumbers ns k = (n : JobName) → IsNumber k n (ns n)

-- the group that a part leads on to
abbrev pub number_of : Numbers → Part → Option ℕ
number_of ns (element x q) = None
number_of ns (result n) = ns n
number_of ns (group i) = Some i

-- the groups that these parts lead on to are among the first so many
abbrev pub AreInside : Numbers → ℕ → List Part → Type 0
AreInside ns n ps = (p : Part) → In p ps → IfSome (number_of ns p) (λ i. suc i ≤ n)

-- ---- backward

-- a bit for each group, by number, that says whether it was met; the groups that were met and are still to be looked at; the labels found
pub record Search : Type 0 where
  pub met : List Bool
  pub pending : List ℕ
  pub found : List Label

abbrev pub is_met : List Bool → ℕ → Bool
is_met bs i = slice_index_or bs i false

abbrev pub IsMet : Search → ℕ → Type 0
IsMet s i = is_met s.met i ≡ true

-- an element was found, or the group that the part leads on to was met
abbrev pub IsSeen : Numbers → Search → Part → Type 0
IsSeen ns s (element x q) = In (x, q) s.found
IsSeen ns s (result n) = IfSome (ns n) (IsMet s)
IsSeen ns s (group i) = IsMet s i

-- what may still have to be looked at
abbrev pub unmet : List Bool → ℕ
unmet [] = 0
unmet (true ∷ bs) = unmet bs
unmet (false ∷ bs) = suc (unmet bs)

abbrev pub looks_left : Search → ℕ
looks_left s = length s.pending + unmet s.met

-- nothing was met of n groups
pub record Begins (n : ℕ) (s : Search) : Type 0 where
  pub met : (i : ℕ) → IsMet s i → ⊥
  pub pending : s.pending ≡ []
  pub found : s.found ≡ []
  pub size : length s.met ≡ n

-- from s to t these parts were seen, and nothing else
pub record Sees (ns : Numbers) (ps : List Part) (s t : Search) : Type 0 where
  pub seen : (p : Part) → In p ps → IsSeen ns t p
  pub still : (p : Part) → IsSeen ns s p → IsSeen ns t p
  pub found : (l : Label) → In l t.found → In l s.found ⊎ In (element l.0 l.1) ps
  pub met : (i : ℕ) → IsMet t i → IsMet s i
      ⊎ (In i t.pending × ((p : Part) × In p ps × (number_of ns p ≡ Some i)))
  pub pending : (i : ℕ) → In i s.pending → In i t.pending
  pub due : (i : ℕ) → In i t.pending → In i s.pending ⊎ IsMet t i
  pub rises : Rises label_cmp s.found → Rises label_cmp t.found
  pub left : looks_left t ≡ looks_left s
  pub size : length t.met ≡ length s.met

-- the invariant of a search from these parts: all that it holds is reached, and what is met was looked at or is pending
pub record IsSearch (ns : Numbers) (k : Kept) (used : List Part) (s : Search) : Type 0 where
  pub found : (l : Label) → In l s.found → IsReached (records_of k) (all_marks k.groups used) l
  pub met : (i : ℕ) → IsMet s i → (l : Label) → IsReached (records_of k) (group_marks k.groups i) l
      → IsReached (records_of k) (all_marks k.groups used) l
  pub began : (p : Part) → In p used → IsSeen ns s p
  pub goes_on : (i : ℕ) → IsMet s i → In i s.pending ⊎ ((p : Part) → In p (parts_in k.groups i)
      → IsSeen ns s p)
  pub due : (i : ℕ) → In i s.pending → IsMet s i
  pub rises : Rises label_cmp s.found
  pub size : length s.met ≡ length k.groups
