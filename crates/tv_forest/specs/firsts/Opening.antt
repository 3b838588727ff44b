-- What is settled next, and when a flow is opened.
use Rattle.std.specs.Prelude.{Bool, None, Some, false, find, is_some, slice_get, true, ℕ, ◌≡◌}
use Rattle.tv_lemmas.specs.Members.{Each}
use Rattle.tv_value.specs.Nested.{Place}
use Rattle.tv_value.specs.Values.{JobName, Name}
use Rattle.tv_gate.specs.Outcomes.{Giving}
use Rattle.tv_flow.specs.Flows.{Document, Flow}
use Rattle.tv_model.specs.instance.ByResults.{InstanceStep}
use Rattle.tv_model.specs.Jobs.{Job}
use Rattle.tv_model.specs.Meanings.{meaning}
use Rattle.tv_history.specs.Entries.{Entry, History, bounced, closed, ended, fault_passed, opened}
use Rattle.tv_history.specs.Histories.{is_legal_after, next_ask}
use Rattle.tv_history.specs.order.Moments.{IsLegal, IsQuiet, all_jobs, goes_on}
use Rattle.tv_framing.specs.Answers.{IsReadyJob, NothingSettles, has_ended_now}
use Rattle.tv_framing.specs.Views.{InAll, View}
use Rattle.tv_seats.specs.Seats.{Seat}
use Rattle.tv_seats.specs.Stages.{is_waiting}
use Rattle.tv_forest.specs.views.Stated.{HoldsFaultAt}
use Rattle.tv_forest.specs.seats.Seated.{spot_of}
use Rattle.tv_forest.specs.Entries.{InEveryForest}
use Rattle.tv_forest.specs.Forest.{Instance, IsAt}

-- ---- nothing but a flow to open

-- b says whether the job binds a fault, in all instances of the view
abbrev pub BindsFault : View → Name × Place → Bool → Type 0
BindsFault v x b =
    InAll v (λ instance results fs. Each (λ (f : InstanceStep). Each (HoldsFaultAt x b) f.jobs) fs)

-- a waiting job of the instance is ready, by its frame
abbrev pub IsReadySeat : (Flow → Name → ℕ) → Instance → View → Seat → Type 0
IsReadySeat levels x v s = (is_waiting s.stage ≡ true)
    × IsReadyJob (levels x.flow) v (spot_of x.flow.steps s)

-- of an open instance nothing can be settled, by its frame and seats: no ready job binds a fault, no list is closed, no fault
-- passed, and it doesn't end
pub record IsStill (levels : Flow → Name → ℕ) (x : Instance) (v : View) : Type 0 where
  pub bounces :
      (n : ℕ) (s : Seat) → slice_get x.seats n ≡ Some s → IsReadySeat levels x v s
      → BindsFault v (spot_of x.flow.steps s) false
  pub settles : NothingSettles v
  pub ends : has_ended_now (levels x.flow) v ≡ false

-- where that is so of all open ones, the run is quiet: jobs, lists and faults of instances that aren't open count for nothing
abbrev pub QuietByInstances : Type 0
QuietByInstances =
    InEveryForest (λ gives d levels past xs.
    ((i : ℕ) (x : Instance) (v : View) → IsAt xs i x → x.view ≡ Some v → IsStill levels x v)
    → IsQuiet gives d past)

-- ---- the rule of opening

-- the first job that goes on, where nothing is left that it asks, may open its flow
abbrev pub OpeningIsLegal : Type 0
OpeningIsLegal =
    (gives : Giving) (d : Document) (past : History) (j : Job)
    → IsQuiet gives d past
    → find (goes_on gives d past) (all_jobs gives d) ≡ Some j
    → next_ask past j ≡ None
    → is_legal_after gives (meaning gives d) past (opened j.name) ≡ true

-- no entry but of a try or a recall is legal
pub record SettlesNothing (gives : Giving) (d : Document) (past : History) : Type 0 where
  pub none_bounces : (n : JobName) → is_legal_after gives (meaning gives d) past (bounced n) ≡ false
  pub none_closes : (n : JobName) (k : ℕ)
      → is_legal_after gives (meaning gives d) past (closed n k) ≡ false
  pub none_passes : (n : JobName)
      → is_legal_after gives (meaning gives d) past (fault_passed n) ≡ false
  pub none_ends : (n : JobName) → is_legal_after gives (meaning gives d) past (ended n) ≡ false
  pub none_opens : (n : JobName) → is_legal_after gives (meaning gives d) past (opened n) ≡ false

-- where the first that goes on has an ask next, or none goes on, nothing is left to settle
abbrev pub NothingLeft : Type 0
NothingLeft =
    (gives : Giving) (d : Document) (past : History)
    → IsLegal gives d past
    → IsQuiet gives d past
    → ((j : Job) → find (goes_on gives d past) (all_jobs gives d) ≡ Some j
    → is_some (next_ask past j) ≡ true)
    → SettlesNothing gives d past

-- ---- the end

-- once the main instance has ended nothing is legal any more
abbrev pub NothingAtEnd : Type 0
NothingAtEnd =
    InEveryForest (λ gives d levels past xs.
    (x : Instance) → IsAt xs 0 x → x.view ≡ None
    → (e : Entry) → is_legal_after gives (meaning gives d) past e ≡ false)
