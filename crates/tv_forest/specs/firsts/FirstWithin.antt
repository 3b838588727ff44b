-- The walk: the first job inside an instance that passes, by its seats.
use Rattle.std.specs.Prelude.{Bool, List, None, Option, Some, [], false, find, if◌then◌else◌, is_some, slice_get, true, ℕ, ◌≡◌, ◌⊎◌}
use Rattle.tv_value.specs.Values.{JobName}
use Rattle.tv_gate.specs.Outcomes.{Giving}
use Rattle.tv_flow.specs.Flows.{Document}
use Rattle.tv_model.specs.Jobs.{Job}
use Rattle.tv_model.specs.Meanings.{meaning}
use Rattle.tv_history.specs.Entries.{History}
use Rattle.tv_history.specs.Histories.{has_open_instance, may_go_on, next_ask}
use Rattle.tv_history.specs.order.Chains.{is_inside}
use Rattle.tv_history.specs.order.FirstIn.{StandsBefore}
use Rattle.tv_history.specs.order.Moments.{IsJob, all_jobs, goes_on, has_offer}
use Rattle.tv_framing.specs.Views.{View}
use Rattle.tv_seats.specs.Seats.{Seat}
use Rattle.tv_forest.specs.stands.Offers.{ComesNotBefore}
use Rattle.tv_forest.specs.Entries.{InEveryForest}
use Rattle.tv_forest.specs.Forest.{Instance, IsAt, IsJobAt}

module _ (gives : Giving) (d : Document) (passes : Job → Bool) where
  -- it is the first in job order of those inside the instance that pass
  pub record IsFirst (I : JobName) (j : Job) : Type 0 where
    pub is_job : IsJob gives d j
    pub inside : is_inside I j.name ≡ true
    pub does : passes j ≡ true
    pub first :
        (k : Job) → IsJob gives d k → is_inside I k.name ≡ true → passes k ≡ true
        → (k ≡ j) ⊎ StandsBefore j k (all_jobs gives d)

  abbrev pub IsFirstWithin : JobName → Option Job → Type 0
  IsFirstWithin I None = (j : Job) → IsJob gives d j → is_inside I j.name ≡ true → passes j ≡ false
  IsFirstWithin I (Some j) = IsFirst I j

  -- what is found at a job of an instance: where its flow is open the first inside that, else the job where it passes
  pub record IsFoundAt (past : History) (j : Job) (o : Option Job) : Type 0 where
    pub within : has_open_instance past j ≡ true → IsFirstWithin j.name o
    pub itself : has_open_instance past j ≡ false → o ≡ (if passes j then Some j else None)

-- whether the ask of a job is offered, or it is offered or can open its flow
abbrev pub Passing : Giving → Document → History → (Job → Bool) → Type 0
Passing gives d past passes = (passes ≡ has_offer gives d past) ⊎ (passes ≡ goes_on gives d past)

-- what is found at the first seat, by rank and place, at which something is, is the first within the instance
pub record IsFirstOfSeats (gives : Giving) (d : Document) (passes : Job → Bool) (I : JobName)
    (v : View) (ss : List Seat)
    (found : ℕ → Option Job) : Type 0 where
  pub first :
      (n : ℕ) (s : Seat) (j : Job) → slice_get ss n ≡ Some s → found n ≡ Some j
      → ((m : ℕ) (t : Seat) → slice_get ss m ≡ Some t → is_some (found m) ≡ true
      → ComesNotBefore v t s)
      → IsFirst gives d passes I j
  pub none :
      ((n : ℕ) (s : Seat) → slice_get ss n ≡ Some s → found n ≡ None)
      → IsFirstWithin gives d passes I None

abbrev pub FirstBySeats : Type 0
FirstBySeats =
    InEveryForest (λ gives d levels past xs.
    (i : ℕ) (x : Instance) (v : View) → IsAt xs i x → x.view ≡ Some v
    → (passes : Job → Bool) → Passing gives d past passes
    → (found : ℕ → Option Job)
    → ((n : ℕ) (s : Seat) (j : Job) → IsJobAt gives d xs i n x s j
    → IsFoundAt gives d passes past j (found n))
    → IsFirstOfSeats gives d passes x.name v x.seats found)

-- the first within the main instance is the first of all
abbrev pub FirstOfAll : Type 0
FirstOfAll =
    (gives : Giving) (d : Document) (passes : Job → Bool) (o : Option Job)
    → IsFirstWithin gives d passes [] o
    → find passes (all_jobs gives d) ≡ o

-- the two tests: who may go on and has a next ask is offered, who has none can open its flow
pub record GoesOnBy (gives : Giving) (d : Document) (past : History) (j : Job) : Type 0 where
  pub offered : is_some (next_ask past j) ≡ true
      → has_offer gives d past j ≡ may_go_on (meaning gives d) past j
  pub not_offered : is_some (next_ask past j) ≡ false → has_offer gives d past j ≡ false
  pub goes_on_is : goes_on gives d past j ≡ may_go_on (meaning gives d) past j

abbrev pub GoingByNext : Type 0
GoingByNext =
    InEveryForest (λ gives d levels past xs. (j : Job) → IsJob gives d j → GoesOnBy gives d past j)
