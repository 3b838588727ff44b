-- Tables of what was made from an element.
use Rattle.std.specs.List.{list_any}
use Rattle.std.specs.Prelude.{Bool, List, None, Option, Some, false, if◌then◌else◌, length, suc, true, ℕ, ◌+◌, ◌≡◌, ◌≤◌}
use Rattle.tv_value.specs.Nested.{Place}
use Rattle.tv_value.specs.Values.{Name}
use Rattle.tv_lineage.specs.Kept.{Groups, Kept, Part, element, group, marks_of, parts_in, parts_next, records_of, result}
use Rattle.tv_lineage.specs.Lineages.{IsReached}
use Rattle.tv_lineage.specs.Reaching.{Numbers, is_met, unmet}
use Rattle.tv_lineage.specs.Touching.{Label, touches}

abbrev pub is_met_by : List Bool → Option ℕ → Bool
is_met_by bs None = false
is_met_by bs (Some i) = is_met bs i

-- what holds of the parts that were made from an element that touches x at q
module _ (k : Kept) (x : Name) (q : Place) where
  abbrev pub IsTouched : Part → Type 0
  IsTouched p = (l : Label) × IsReached (records_of k) (marks_of k.groups p) l
      × (touches x q l ≡ true)

  -- a table of the parts: it has no others, and what leads to one of them is one
  pub record IsTable (t : Part → Bool) : Type 0 where
    pub sound : (p : Part) → t p ≡ true → IsTouched p
    pub elements : (y : Name) (r : Place) → touches x q (y, r) ≡ true → t (element y r) ≡ true
    pub closed : (p : Part) → list_any t (parts_next k p) ≡ true → t p ≡ true

-- the table of a bit for each group
abbrev pub in_table : Numbers → Name → Place → List Bool → Part → Bool
in_table ns x q bs (element y r) = touches x q (y, r)
in_table ns x q bs (result n) = is_met_by bs (ns n)
in_table ns x q bs (group i) = is_met bs i

-- only groups that were made from the element have a bit
abbrev pub AreTouched : Kept → Name → Place → List Bool → Type 0
AreTouched k x q bs = (i : ℕ) → is_met bs i ≡ true → IsTouched k x q (group i)

-- each of the first n groups that leads on to one in the table is in it
abbrev pub AreClosed : Numbers → Groups → Name → Place → List Bool → ℕ → Type 0
AreClosed ns gs x q bs n = (i : ℕ) → suc i ≤ n → list_any (in_table ns x q bs) (parts_in gs i)
    ≡ true → is_met bs i ≡ true

-- from bs to cs one pass was made over the first n groups, which added some or found nothing to add
pub record IsPass (ns : Numbers) (k : Kept) (x : Name) (q : Place) (n : ℕ) (bs cs : List Bool)
    (added : Bool) : Type 0 where
  pub sound : AreTouched k x q bs → AreTouched k x q cs
  pub closed : added ≡ false → AreClosed ns k.groups x q cs n
  pub closer : unmet cs + (if added then 1 else 0) ≤ unmet bs
  pub size : length cs ≡ length bs

-- exactly the groups that were made from the element have a bit
pub record IsWhole (ns : Numbers) (k : Kept) (x : Name) (q : Place) (bs : List Bool) : Type 0 where
  pub sound : AreTouched k x q bs
  pub closed : AreClosed ns k.groups x q bs (length k.groups)
