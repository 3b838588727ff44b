-- The laws of how an entry changes where jobs stand.
use Rattle.std.specs.Prelude.{◌≡◌, ◌≢◌, not, Bool, true, false, ℕ, None, [], ◌∷◌, is_none, is_some}
use Rattle.std.specs.Option.{option_map_or}
use Rattle.tv_gate.specs.Outcomes.{Giving}
use Rattle.tv_flow.specs.Flows.{Document}
use Rattle.tv_model.specs.Jobs.{Job}
use Rattle.tv_model.specs.Lists.{first_of_list, rest_of}
use Rattle.tv_history.specs.Entries.{Entry, History, accepted, bounced, closed, ended, fault_passed, handed_out, is_out, opened, recalled}
use Rattle.tv_history.specs.Histories.{asks_left, has_open_instance, is_ask, is_idle, is_running, is_settled, next_ask}
use Rattle.tv_history.specs.order.Moments.{IsJob, IsLegal}

-- the job stands where it stood
pub record StandsAsBefore (past after : History) (k : Job) : Type 0 where
  pub running : is_running after k ≡ is_running past k
  pub out : is_out after k.name ≡ is_out past k.name
  pub settled : is_settled after k ≡ is_settled past k
  pub nested : has_open_instance after k ≡ has_open_instance past k
  pub idle : is_idle after k ≡ is_idle past k
  pub next : next_ask after k ≡ next_ask past k

-- and so do all but this one
abbrev pub OthersStand : Giving → Document → History → History → Job → Type 0
OthersStand gives d past after j =
    (k : Job) → IsJob gives d k → k ≢ j → StandsAsBefore past after k

-- the law of an entry that speaks of a job
abbrev pub ChangesJob : (Job → Entry) → (Giving → Document → History → Job → Type 0) → Type 0
ChangesJob entry Changed =
    (gives : Giving) (d : Document) (past : History) (j : Job)
    → IsJob gives d j
    → IsLegal gives d (entry j ∷ past)
    → Changed gives d past j

-- ---- handed out

-- the job is out with its next try
pub record IsHandedOut (a t : ℕ) (gives : Giving) (d : Document) (past : History) (j : Job)
    : Type 0 where
  pub running : is_running (handed_out j.name a t ∷ past) j ≡ true
  pub out : is_out (handed_out j.name a t ∷ past) j.name ≡ true
  pub settled : is_settled (handed_out j.name a t ∷ past) j ≡ false
  pub shut : has_open_instance (handed_out j.name a t ∷ past) j ≡ false
  pub next : next_ask (handed_out j.name a t ∷ past) j ≡ next_ask past j
  pub asked : option_map_or (is_ask a t) (next_ask past j) false ≡ true
  pub others : OthersStand gives d past (handed_out j.name a t ∷ past) j

abbrev pub HandingOut : Type 0
HandingOut = (a t : ℕ) → ChangesJob (λ j. handed_out j.name a t) (IsHandedOut a t)

-- ---- accepted

-- the job was out; it runs on with the try after that or with its flow, or is settled
pub record IsAccepted (a t : ℕ) (r : Bool) (gives : Giving) (d : Document) (past : History)
    (j : Job)
    : Type 0 where
  pub was_out : is_out past j.name ≡ true
  pub asked : option_map_or (is_ask a t) (next_ask past j) false ≡ true
  pub out : is_out (accepted j.name a t r ∷ past) j.name ≡ false
  pub shut : has_open_instance (accepted j.name a t r ∷ past) j ≡ false
  pub next :
      next_ask (accepted j.name a t r ∷ past) j
      ≡ first_of_list (rest_of (asks_left past j.name j.asks))
  pub settled :
      j.opens ≡ None
      → is_settled (accepted j.name a t r ∷ past) j
      ≡ is_none (next_ask (accepted j.name a t r ∷ past) j)
  pub unsettled : is_some j.opens ≡ true → is_settled (accepted j.name a t r ∷ past) j ≡ false
  pub running :
      is_running (accepted j.name a t r ∷ past) j
      ≡ not (is_settled (accepted j.name a t r ∷ past) j)
  pub others : OthersStand gives d past (accepted j.name a t r ∷ past) j

abbrev pub Accepting : Type 0
Accepting = (a t : ℕ) (r : Bool) → ChangesJob (λ j. accepted j.name a t r) (IsAccepted a t r)

-- ---- bounced

-- the job never ran, and is settled
pub record HasBounced (gives : Giving) (d : Document) (past : History) (j : Job) : Type 0 where
  pub settled : is_settled (bounced j.name ∷ past) j ≡ true
  pub running : is_running (bounced j.name ∷ past) j ≡ false
  pub out : is_out (bounced j.name ∷ past) j.name ≡ false
  pub shut : has_open_instance (bounced j.name ∷ past) j ≡ false
  pub others : OthersStand gives d past (bounced j.name ∷ past) j

abbrev pub Bouncing : Type 0
Bouncing = ChangesJob (λ j. bounced j.name) HasBounced

-- ---- opened

-- the job had asked all that it asks; it runs from now on, and its flow is open
pub record IsOpenedNow (gives : Giving) (d : Document) (past : History) (j : Job) : Type 0 where
  pub asked : next_ask past j ≡ None
  pub was_shut : has_open_instance past j ≡ false
  pub running : is_running (opened j.name ∷ past) j ≡ true
  pub out : is_out (opened j.name ∷ past) j.name ≡ false
  pub settled : is_settled (opened j.name ∷ past) j ≡ false
  pub opened_now : has_open_instance (opened j.name ∷ past) j ≡ true
  pub others : OthersStand gives d past (opened j.name ∷ past) j

abbrev pub OpeningNow : Type 0
OpeningNow = ChangesJob (λ j. opened j.name) IsOpenedNow

-- ---- ended

-- its flow was open, and the job is settled
pub record HasEndedNow (gives : Giving) (d : Document) (past : History) (j : Job) : Type 0 where
  pub was_open : has_open_instance past j ≡ true
  pub running : is_running (ended j.name ∷ past) j ≡ false
  pub out : is_out (ended j.name ∷ past) j.name ≡ false
  pub settled : is_settled (ended j.name ∷ past) j ≡ true
  pub shut : has_open_instance (ended j.name ∷ past) j ≡ false
  pub others : OthersStand gives d past (ended j.name ∷ past) j

abbrev pub EndingNow : Type 0
EndingNow = ChangesJob (λ j. ended j.name) HasEndedNow

-- ---- recalled

-- none is out, and the others stand where they stood
pub record IsCalledBack (past after : History) (k : Job) : Type 0 where
  pub out : is_out after k.name ≡ false
  pub running : is_running after k ≡ is_running past k
  pub settled : is_settled after k ≡ is_settled past k
  pub nested : has_open_instance after k ≡ has_open_instance past k
  pub next : next_ask after k ≡ next_ask past k

abbrev pub Recalling : Type 0
Recalling =
    (gives : Giving) (d : Document) (past : History) (n : ℕ)
    → IsLegal gives d (recalled n ∷ past)
    → (k : Job)
    → IsJob gives d k
    → IsCalledBack past (recalled n ∷ past) k

-- ---- what no job takes part in

-- a list that is closed, a fault that is passed, or the end of the main instance
abbrev pub speaks_of_no_job : Entry → Bool
speaks_of_no_job (closed n k) = true
speaks_of_no_job (fault_passed n) = true
speaks_of_no_job (ended []) = true
speaks_of_no_job e = false

abbrev pub Settling : Type 0
Settling =
    (gives : Giving) (d : Document) (past : History) (e : Entry)
    → speaks_of_no_job e ≡ true
    → IsLegal gives d (e ∷ past)
    → (k : Job)
    → IsJob gives d k
    → StandsAsBefore past (e ∷ past) k
