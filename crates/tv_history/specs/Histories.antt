-- The state after a history, and which histories of a run are legal. A history is read with its newest entry first,
-- and its jobs by their names.
use Rattle.std.specs.List.{list_all, list_any}
use Rattle.std.specs.Option.{option_map_or}
use Rattle.std.specs.Prelude.{Bool, List, None, Option, Some, [], count_by, false, filter_map, find, if◌then◌else◌, is_none, is_some, length, nat_lt, not, sum_by, true, ℕ, ◌&&◌, ◌+◌, ◌==◌, ◌||◌, ◌∷◌}
use Rattle.tv_value.specs.Nested.{Tree, notes}
use Rattle.tv_value.specs.Orders.{same_job, same_name}
use Rattle.tv_value.specs.Values.{JobName}
use Rattle.tv_gate.specs.Outcomes.{Giving}
use Rattle.tv_strategy.specs.Origins.{Known, Origin, at_start, by_job, by_level}
use Rattle.tv_dispatch.specs.Jobs.{Ask}
use Rattle.tv_model.specs.instance.Delivered.{StepMeaning}
use Rattle.tv_model.specs.Jobs.{Job, job_needs}
use Rattle.tv_model.specs.Levels.{Level, levels}
use Rattle.tv_model.specs.Lists.{first_of_list, rest_of}
use Rattle.tv_model.specs.Made.{Meaning}
use Rattle.tv_model.specs.Turns.{is_bounced}
use Rattle.tv_history.specs.Entries.{Entry, History, accepted, bounced, closed, ended, fault_passed, handed_out, is_accepted, is_begun_entry, is_bounced_entry, is_ended_entry, is_level_entry, is_opened_entry, is_out, opened, recalled}
use Rattle.tv_dispatch.specs.Plans.{came_right}

-- the asks that are still to come: each outcome that is accepted takes one
abbrev pub asks_left : History → JobName → List Ask → List Ask
asks_left [] n asks = asks
asks_left (e ∷ past) n asks = if is_accepted n e then rest_of (asks_left past n asks)
    else asks_left past n asks

-- the next service try
abbrev pub next_ask : History → Job → Option Ask
next_ask past j = first_of_list (asks_left past j.name j.asks)

abbrev pub is_settled : History → Job → Bool
is_settled past j =
    if is_bounced j.ending then list_any (is_bounced_entry j.name) past
    else (if is_some j.opens then list_any (is_ended_entry j.name) past
    else is_none (next_ask past j))

abbrev pub has_entry : History → JobName → Bool
has_entry past n = list_any (is_level_entry n) past

-- an instance is open from its opening to its end, the main one from the start
abbrev pub is_open : History → JobName → Bool
is_open past [] = not (list_any (is_ended_entry []) past)
is_open past (k ∷ n) = list_any (is_opened_entry (k ∷ n)) past
    && not (list_any (is_ended_entry (k ∷ n)) past)

-- the main instance is named by no job
abbrev pub has_open_instance : History → Job → Bool
has_open_instance past j = is_some j.opens && is_open past j.name

abbrev pub is_running : History → Job → Bool
is_running past j = list_any (is_begun_entry j.name) past && not (is_settled past j)

abbrev pub is_idle : History → Job → Bool
is_idle past j = is_running past j && not (is_out past j.name) && not (has_open_instance past j)

abbrev pub is_done : History → Bool
is_done past = list_any (is_ended_entry []) past

-- the state after a history of the run with this meaning
module _ (m : Meaning) where
  abbrev pub is_settled_name : History → JobName → Bool
  is_settled_name past n = option_map_or (is_settled past)
      (find (λ j. same_job n j.name) m.jobs) false

  abbrev pub is_known : History → Known → Bool
  is_known past at_start = true
  is_known past (by_job n) = is_settled_name past n
  is_known past (by_level n) = has_entry past n

  abbrev pub all_known : History → List Origin → Bool
  all_known past os = list_all (λ o. is_known past o.known) os

  abbrev pub is_ready : History → Job → Bool
  is_ready past j =
      is_open past j.instance && not (is_running past j) && not (is_settled past j)
      && all_known past j.waits

  -- how many tries are out
  abbrev pub out_count : History → ℕ
  out_count past = count_by (λ j. is_out past j.name) m.jobs

  -- fewer jobs of its step run in its instance than may
  abbrev pub has_place : History → Job → Bool
  has_place past j =
      nat_lt (count_by (λ k. same_job k.instance j.instance && same_name k.step j.step
      && is_running past k) m.jobs) j.limit

  abbrev pub may_go_on : History → Job → Bool
  may_go_on past j = is_idle past j
      || (is_ready past j && not (is_bounced j.ending) && has_place past j)

  abbrev pub is_offered : History → Job → Bool
  is_offered past j = is_some (next_ask past j) && may_go_on past j

  abbrev pub can_open : History → Job → Bool
  can_open past j = is_none (next_ask past j) && is_some j.opens && may_go_on past j

  abbrev pub can_bounce : History → Job → Bool
  can_bounce past j = is_ready past j && is_bounced j.ending

  abbrev pub can_settle : History → Level → Bool
  can_settle past l = is_open past l.instance && not (has_entry past l.name)
      && all_known past l.sources

  -- an instance can end once all its steps have ended
  abbrev pub can_end : History → JobName → Bool
  can_end past n =
      is_open past n && list_all (λ s. if same_job n s.instance then all_known past s.ending
      else true) m.steps

  abbrev pub instances : List JobName
  instances = [] ∷ filter_map (λ j. if is_some j.opens then Some j.name else None) m.jobs

  -- whether a job can be bounced, a list closed, a fault passed or an instance ended
  abbrev pub can_settle_more : History → Bool
  can_settle_more past =
      list_any (can_bounce past) m.jobs
      || list_any (can_settle past) (levels m.steps)
      || list_any (can_end past) instances

  -- what the meaning alone offers, given what is settled, running, out and open: no list, closing or arrival is named
  abbrev pub is_offered_by_meaning : History → Job → Bool
  is_offered_by_meaning past j =
      is_some (next_ask past j)
      && is_open past j.instance
      && not (is_settled past j)
      && not (is_out past j.name)
      && not (has_open_instance past j)
      && list_all (is_settled_name past) (job_needs j)
      && (is_running past j || has_place past j)

-- ---- which entry is legal next

abbrev pub is_at : Job → JobName → Bool
is_at j n = same_job n j.name

abbrev pub is_ask : ℕ → ℕ → Ask → Bool
is_ask a t k = a == k.activity && t == k.attempt

abbrev pub same_bool : Bool → Bool → Bool
same_bool true b = b
same_bool false b = not b

-- the services are read where an outcome is judged, and nowhere else
module _ (gives : Giving) (m : Meaning) where
  abbrev pub is_legal_after : History → Entry → Bool
  is_legal_after past (handed_out n a t) =
      option_map_or (λ j. is_at j n && option_map_or (is_ask a t) (next_ask past j) false)
      (find (is_offered m past) m.jobs) false
  is_legal_after past (accepted n a t r) =
      is_out past n
      && list_any (λ j. is_at j n
      && option_map_or (λ k. is_ask a t k && same_bool r (came_right gives k))
      (next_ask past j) false) m.jobs
  is_legal_after past (bounced n) = list_any (λ j. is_at j n && can_bounce m past j) m.jobs
  is_legal_after past (closed n k) =
      list_any (λ l. same_job n l.name && can_settle m past l
      && option_map_or (λ c. c == k) l.length false) (levels m.steps)
  is_legal_after past (fault_passed n) =
      list_any (λ l. same_job n l.name && can_settle m past l && is_none l.length) (levels m.steps)
  is_legal_after past (ended n) = can_end m past n
  is_legal_after past (opened n) =
      not (can_settle_more m past)
      && option_map_or (λ j. is_at j n && can_open m past j)
      (find (λ j. is_offered m past j || can_open m past j) m.jobs) false
  is_legal_after past (recalled k) = nat_lt 0 k && k == out_count m past

  abbrev pub is_legal : History → Bool
  is_legal [] = true
  is_legal (e ∷ past) = is_legal past && is_legal_after past e

-- ---- what a run holds

abbrev pub size_of : {N A : Type 0} → Tree N A → ℕ
size_of t = length (notes t)

abbrev pub step_room : StepMeaning → ℕ
step_room s =
    sum_by (λ p. size_of p.1.value) s.inputs + sum_by (λ p. size_of p.1.value) s.outputs
    + size_of s.iteration

module _ (m : Meaning) where
  -- the results kept: each output of each settled job in an open instance
  abbrev pub kept_results : History → ℕ
  kept_results past = sum_by (λ j. if is_open past j.instance && is_settled past j then length
      j.result else 0) m.jobs

  -- all nodes of the values and iterations of open instances
  abbrev pub node_room : History → ℕ
  node_room past =
      sum_by (λ s. if is_open past s.instance then step_room s else 0) m.steps
      + sum_by (λ j. if has_open_instance past j then sum_by (λ v. size_of v) j.result
      else 0) m.jobs
      + (if is_open past [] then sum_by (λ o. size_of o.1) m.outputs else 0)
