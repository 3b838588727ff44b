-- The laws of legal histories, for every document and all services.
use Rattle.std.specs.List.{list_any}
use Rattle.std.specs.Prelude.{IsPermutation, List, [], ◌∷◌, count_by, false, length, map, true, ℕ, ◌≡◌, ◌≤◌}
use Rattle.tv_lemmas.specs.Members.{Each, In}
use Rattle.tv_value.specs.Values.{Name, Value}
use Rattle.tv_gate.specs.Outcomes.{Giving}
use Rattle.tv_flow.specs.Flows.{Document, Flow}
use Rattle.tv_model.specs.Jobs.{Job}
use Rattle.tv_model.specs.Made.{Meaning}
use Rattle.tv_model.specs.Meanings.{flow_meaning, meaning}
use Rattle.tv_model.specs.Turns.{ask_order}
use Rattle.tv_history.specs.Alone.{HaveTries, IsFirstPart, is_by_one}
use Rattle.tv_history.specs.Entries.{Entry, History, is_out}
use Rattle.tv_history.specs.Going.{IsWellFormed, Next, OutAfter, is_recall, most_entries}
use Rattle.tv_history.specs.Histories.{can_open, can_settle_more, is_done, is_legal, is_offered, is_offered_by_meaning, out_count}
use Rattle.tv_history.specs.ReadOff.{IsAsMeant}
use Rattle.tv_history.specs.Tries.{all_tries, ask_try}

-- readiness: where nothing can be settled, the asks on offer are those of the meaning, which knows no list, closing or
-- arrival
abbrev pub OffersAreTheMeanings : Type 0
OffersAreTheMeanings =
    (gives : Giving) (d : Document) (past : History)
    → is_legal gives (meaning gives d) past ≡ true
    → can_settle_more (meaning gives d) past ≡ false
    → (j : Job) → In j (meaning gives d).jobs
    → is_offered (meaning gives d) past j ≡ is_offered_by_meaning (meaning gives d) past j

-- a legal history that isn't done, in which nothing goes on by itself
pub record IsStill (gives : Giving) (m : Meaning) (past : History) : Type 0 where
  pub legal : is_legal gives m past ≡ true
  pub not_done : is_done past ≡ false
  pub none_out : (j : Job) → In j m.jobs → is_out past j.name ≡ false
  pub quiet : can_settle_more m past ≡ false
  pub none_opens : list_any (can_open m past) m.jobs ≡ false

-- never stuck: where the main instance hasn't ended, no try is out, nothing can be settled and no flow opened, some job
-- is offered
abbrev pub IsNeverStuck : Type 0
IsNeverStuck =
    (gives : Giving) (d : Document) (past : History)
    → IsWellFormed d
    → IsStill gives (meaning gives d) past
    → list_any (is_offered (meaning gives d) past) (meaning gives d).jobs ≡ true

-- done means the meaning: where the main instance has ended, what the history says is what the meaning says
abbrev pub DoneIsAsMeant : Type 0
DoneIsAsMeant =
    (gives : Giving) (d : Document) (past : History)
    → is_legal gives (meaning gives d) past ≡ true
    → is_done past ≡ true
    → IsAsMeant gives (meaning gives d) past

-- bounded: without recalls a legal history has at most so many entries
abbrev pub HistoriesAreBounded : Type 0
HistoriesAreBounded =
    (gives : Giving) (d : Document) (past : History)
    → is_legal gives (meaning gives d) past ≡ true
    → count_by is_recall past ≡ 0
    → length past ≤ most_entries (meaning gives d)

-- progress: where the main instance hasn't ended, some entry that is no recall is legal next
abbrev pub HistoriesGoOn : Type 0
HistoriesGoOn =
    (gives : Giving) (d : Document) (past : History)
    → IsWellFormed d
    → is_legal gives (meaning gives d) past ≡ true
    → is_done past ≡ false
    → Next gives (meaning gives d) past

-- how many tries are out, entry by entry: in every legal history as many as were handed out and neither accepted nor recalled
abbrev pub TriesOutAreCounted : Type 0
TriesOutAreCounted =
    (gives : Giving) (d : Document) (past : History) (e : Entry)
    → is_legal gives (meaning gives d) (e ∷ past) ≡ true
    → OutAfter e (out_count (meaning gives d) past) (out_count (meaning gives d) (e ∷ past))

-- the accepted tries of a finished history are the asks of the order of one worker, each as often
abbrev pub TriesAreOfTheOrder : Type 0
TriesAreOfTheOrder =
    (gives : Giving) (d : Document) (past : History)
    → is_legal gives (meaning gives d) past ≡ true
    → is_done past ≡ true
    → IsPermutation (all_tries past) (map (ask_try gives) (ask_order (meaning gives d)))

-- a legal history of one worker
pub record IsOneWorkers (gives : Giving) (m : Meaning) (past : History) : Type 0 where
  pub legal : is_legal gives m past ≡ true
  pub by_one : is_by_one m past ≡ true

-- the accepted tries are a first part of the stated order, and all of it once the main instance has ended
pub record FollowsTheOrder (gives : Giving) (m : Meaning) (past : History) : Type 0 where
  pub so_far : IsFirstPart (all_tries past) (map (ask_try gives) (ask_order m))
  pub at_end : is_done past ≡ true → all_tries past ≡ map (ask_try gives) (ask_order m)

-- what one worker has asked follows the stated order, where every job that isn't bounced has a try or opens a flow; the
-- law speaks of a flow at any number of levels
abbrev pub OneWorkerIsInOrder : Type 0
OneWorkerIsInOrder =
    (gives : Giving) (flows : List (Name × Flow)) (depth : ℕ) (f : Name) (vs : List (Name × Value))
    (past : History)
    → Each (λ g. Each (λ s. 1 ≤ s.1.jobs) g.1.steps) flows
    → HaveTries (flow_meaning gives flows depth f [] vs).jobs
    → IsOneWorkers gives (flow_meaning gives flows depth f [] vs) past
    → FollowsTheOrder gives (flow_meaning gives flows depth f [] vs) past
