-- What settled jobs used, and what their marks lead to.
use Rattle.std.specs.List.{list_any}
use Rattle.std.specs.Prelude.{Bool, List, None, Option, Some, [], filter_map, flat_map, if◌then◌else◌, length, map, suc, zero, ℕ, ◌≡◌, ◌∷◌}
use Rattle.tv_lemmas.specs.Members.{In}
use Rattle.tv_value.specs.Nested.{Place}
use Rattle.tv_value.specs.Orders.{in_order, place_cmp, same_job, same_name}
use Rattle.tv_value.specs.Values.{JobName, Name}
use Rattle.tv_lineage.specs.Touching.{Label, Mark, given, label_cmp, made, touches}

-- a job, and the marks that its inputs used
pub record Record : Type 0 where
  pub job : JobName
  pub used : List Mark

-- a leaf of an output: its port, its place, and the marks that it used
pub record Leaf : Type 0 where
  pub port : Name
  pub place : Place
  pub used : List Mark

-- ---- as a relation

-- an input element's mark leads to that element; a job's mark leads, by one more step, to what a mark leads to that the job used
abbrev pub LeadsIn : List Record → ℕ → Mark → Label → Type 0
LeadsIn rs k (given x q) l = l ≡ (x, q)
LeadsIn rs zero (made n) l = ⊥
LeadsIn rs (suc k) (made n) l = (r : Record) × In r rs × (r.job ≡ n) × (m : Mark) × In m r.used
    × LeadsIn rs k m l

abbrev pub Leads : List Record → Mark → Label → Type 0
Leads rs m l = (k : ℕ) × LeadsIn rs k m l

-- one of these marks leads there
abbrev pub IsReached : List Record → List Mark → Label → Type 0
IsReached rs used l = (m : Mark) × In m used × Leads rs m l

-- ---- as functions

-- what the job of that name used
abbrev pub used_by : JobName → List Record → List Mark
used_by n rs = flat_map (λ r. if same_job n r.job then r.used else []) rs

-- the labels that a mark leads to in so many steps
abbrev pub labels_in : List Record → ℕ → Mark → List Label
labels_in rs k (given x q) = (x, q) ∷ []
labels_in rs zero (made n) = []
labels_in rs (suc k) (made n) = flat_map (labels_in rs k) (used_by n rs)

-- the input elements that were used, by port and place, each once; no way is longer than there are records
abbrev pub backward : List Record → List Mark → List Label
backward rs used = in_order label_cmp (flat_map (labels_in rs (length rs)) used)

-- whether something was made from the element x at q
abbrev pub is_made_from : List Record → Name → Place → List Mark → Bool
is_made_from rs x q used = list_any (touches x q) (backward rs used)

abbrev pub leaf_label : List Record → Name → Place → Leaf → Option Label
leaf_label rs x q f = if is_made_from rs x q f.used then Some (f.port, f.place) else None

-- the leaves that were made from the element x at q
abbrev pub forward : List Record → List Leaf → Name → Place → List Label
forward rs fs x q = filter_map (leaf_label rs x q) fs

-- the place of a job of the main flow's step s
abbrev pub place_at : Name → JobName → Option Place
place_at s [] = None
place_at s (k ∷ []) = if same_name s k.0 then Some k.1 else None
place_at s (k ∷ i ∷ n) = None

abbrev pub job_at : Name → Place → JobName
job_at s q = (s, q) ∷ []

-- the main flow's jobs of a step, in order of place
abbrev pub by_step : List Record → Name → List JobName
by_step rs s = map (job_at s) (in_order place_cmp (filter_map (λ r. place_at s r.job) rs))
