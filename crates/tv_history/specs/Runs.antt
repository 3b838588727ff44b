-- A run as a board has it, and the history that its entries stand for.
use Rattle.std.specs.List.{list_all, list_any}
use Rattle.std.specs.Prelude.{Bool, List, None, Option, Some, [], filter_map, if◌then◌else◌, is_some, length, map, nat_lt, not, option_and_then, option_map, reverse, slice_get, suc, true, unwrap_or, ℕ, ◌&&◌, ◌++◌, ◌∷◌, ◌≡◌}
use Rattle.std.specs.List.{range_with_len}
use Rattle.tv_value.specs.Orders.{named, same_job}
use Rattle.tv_value.specs.Values.{JobName, Name}
use Rattle.tv_gate.specs.Outcomes.{Giving}
use Rattle.tv_flow.specs.Flows.{Document, Flow}
use Rattle.tv_check.specs.Steps.{spot}
use Rattle.tv_model.specs.Jobs.{Job}
use Rattle.tv_model.specs.Made.{Meaning}
use Rattle.tv_model.specs.Meanings.{meaning}
use Rattle.tv_model.specs.Opening.{first_nested}
use Rattle.tv_history.specs.Entries as history
use Rattle.tv_history.specs.Entries.{History}
use Rattle.tv_history.specs.Histories.{is_legal}
use Rattle.tv_history.specs.activities.Agreed.{ready}
use Rattle.tv_history.specs.declared.entry.Entry.{Entry}
use Rattle.tv_history.specs.declared.entry.Entry.TheVariants as entry

pub record Run : Type 0 where
  pub document : Document
  -- job k has the k-th name
  pub names : List JobName
  -- the oldest first
  pub entries : List Entry

-- ---- names by numbers

abbrev pub name_at : List JobName → ℕ → JobName
name_at names k = unwrap_or (slice_get names k) []

-- ---- the names of instances and steps

-- the flow of the instance of that name, seen from this flow
abbrev pub flow_of : List (Name × Flow) → Name → JobName → Option Flow
flow_of flows f [] = named f flows
flow_of flows f (k ∷ n) =
    option_and_then (λ flow. option_and_then (λ s. option_and_then (λ g. flow_of flows g n)
    (first_nested s.activities)) (named k.0 flow.steps)) (named f flows)

abbrev pub step_name : Document → JobName → ℕ → Name
step_name d n k =
    unwrap_or (option_and_then (λ (f : Flow). option_map (λ s. s.0) (slice_get f.steps k))
    (flow_of d.flows d.main n)) []

abbrev pub opened_by : List JobName → Entry → Option JobName
opened_by names (entry.Opened k i) = Some (name_at names k)
opened_by names e = None

-- the instances in the order in which they were opened, the main one first
abbrev pub instances_of : List JobName → List Entry → List JobName
instances_of names es = [] ∷ filter_map (opened_by names) es

-- ---- the history

-- an entry with names in the place of numbers
abbrev pub with_names : Document → List JobName → List JobName → Entry → history.Entry
with_names d names is (entry.HandedOut k a t) = history.handed_out (name_at names k) a t
with_names d names is (entry.Accepted k a t r) = history.accepted (name_at names k) a t r
with_names d names is (entry.Bounced k) = history.bounced (name_at names k)
with_names d names is (entry.Closed i s q n) =
    history.closed (spot (name_at is i) (step_name d (name_at is i) s) q.value) n
with_names d names is (entry.Passed i s q) =
    history.fault_passed (spot (name_at is i) (step_name d (name_at is i) s) q.value)
with_names d names is (entry.Opened k i) = history.opened (name_at names k)
with_names d names is (entry.Ended i) = history.ended (name_at is i)
with_names d names is (entry.Recalled c) = history.recalled c

-- the newest first
abbrev pub past_of : Run → History
past_of r = reverse (map (with_names r.document r.names (instances_of r.names r.entries)) r.entries)

abbrev pub meant : Giving → Run → Meaning
meant gives r = meaning gives r.document

-- ---- what holds of every run

abbrev pub has_job_name : List JobName → JobName → Bool
has_job_name ns n = list_any (same_job n) ns

abbrev pub all_distinct : List JobName → Bool
all_distinct [] = true
all_distinct (n ∷ ns) = not (has_job_name ns n) && all_distinct ns

abbrev pub opened_number : Entry → Option ℕ
opened_number (entry.Opened k i) = Some i
opened_number e = None

-- its job has one of so many numbers, and its instance one of so many
abbrev pub has_numbers : ℕ → ℕ → Entry → Bool
has_numbers n m (entry.HandedOut k a t) = nat_lt k n
has_numbers n m (entry.Accepted k a t r) = nat_lt k n
has_numbers n m (entry.Bounced k) = nat_lt k n
has_numbers n m (entry.Closed i s q c) = nat_lt i m
has_numbers n m (entry.Passed i s q) = nat_lt i m
has_numbers n m (entry.Opened k i) = nat_lt k n
has_numbers n m (entry.Ended i) = nat_lt i m
has_numbers n m (entry.Recalled c) = true

-- each entry speaks of jobs with numbers, and of instances with numbers by then
abbrev pub all_have_numbers : ℕ → ℕ → List Entry → Bool
all_have_numbers n m [] = true
all_have_numbers n m (e ∷ es) =
    has_numbers n m e && all_have_numbers n (if is_some (opened_number e) then suc m else m) es

pub record IsLegalRun (gives : Giving) (r : Run) : Type 0 where
  -- each entry is legal after those before it
  pub legal : is_legal gives (meant gives r) (past_of r) ≡ true
  -- the names are distinct names of jobs
  pub distinct : all_distinct r.names ≡ true
  pub jobs : list_all (λ n. list_any (λ (j : Job). same_job n j.name) (meant gives r).jobs) r.names
      ≡ true
  -- every ready job has a number
  pub numbered : list_all (has_job_name r.names) (ready (meant gives r) (past_of r)) ≡ true
  -- instances are numbered from 1 in the order in which they were opened
  pub instances :
      filter_map opened_number r.entries
      ≡ range_with_len 1 (length (filter_map opened_number r.entries))
  -- no entry has a number that wasn't given, the main instance's being there from the start
  pub numbers : all_have_numbers (length r.names) 1 r.entries ≡ true

-- ---- one step

-- the same run with one entry more, and more names perhaps
pub record Appends (r s : Run) (e : Entry) : Type 0 where
  pub document : s.document ≡ r.document
  pub more : List JobName
  pub names : s.names ≡ r.names ++ more
  pub entries : s.entries ≡ r.entries ++ e ∷ []
