-- One job: its tries as a finished list, the judgment of an outcome, and how the tries end.
use Rattle.std.specs.Prelude.{ℕ, suc, List, [], ◌∷◌, ◌++◌, map, flat_map, length, ◌==◌, if◌then◌else◌, Option, Some, None, Result, Ok, Err, codes, decimal}
use Rattle.std.specs.List.{range_with_len}
use Rattle.tv_value.specs.Nested.{leaves}
use Rattle.tv_value.specs.Values.{Text, Name, JobName, Value, has_depth, holds_fault, makers_of, fault_value}
use Rattle.tv_value.specs.Orders.{job_name_cmp, in_order}
use Rattle.tv_gate.specs.Outcomes.{Outcome, good, bad, Giving}
use Rattle.tv_value.specs.Activities.{Activity, service, nested}

-- why output value k, of this depth, isn't right
abbrev pub value_complaint : ℕ → ℕ → Value → Option Text
value_complaint k d v =
    if holds_fault v
    then Some (codes "outcome value " ++ decimal k ++ codes " holds an error")
    else (if has_depth v d then None
    else Some (codes "outcome value " ++ decimal k ++ codes " lacks depth " ++ decimal d))

abbrev pub or_else : {A : Type 0} → Option A → Option A → Option A
or_else (Some a) o = Some a
or_else None o = o

-- the first complaint, the values counted from k
abbrev pub first_complaint : ℕ → List ℕ → List Value → Option Text
first_complaint k [] vs = None
first_complaint k (d ∷ ds) [] = None
first_complaint k (d ∷ ds) (v ∷ vs) = or_else (value_complaint k d v)
    (first_complaint (suc k) ds vs)

abbrev pub ok_unless : {A : Type 0} → A → Option Text → Result A Text
ok_unless a None = Ok a
ok_unless a (Some why) = Err why

-- the right values for outputs of these depths, or the reason why the outcome isn't right
abbrev pub judged : List ℕ → Outcome → Result (List Value) Text
judged ds (bad why) = Err why
judged ds (good vs) =
    if length vs == length ds
    then ok_unless vs (first_complaint 1 ds vs)
    else Err (codes "outcome has " ++ decimal (length vs) ++ codes " values")

-- one service try
pub record Ask : Type 0 where
  pub service : Name
  pub inputs : List Value
  -- the declared depths of what it should give
  pub outputs : List ℕ
  pub activity : ℕ
  pub attempt : ℕ

-- its outcome, judged
abbrev pub outcome_of : Giving → Ask → Result (List Value) Text
outcome_of gives a = judged a.outputs (gives a.service a.inputs a.attempt)

pub data Try : Type 0 where
  ask : Ask → Try
  open_flow : Name → Try

-- all tries on these inputs, activity by activity from number k: a service with attempts 0 to `retries`, a nested flow once
abbrev pub tries : List Value → List ℕ → ℕ → ℕ → List Activity → List Try
tries vs ds retries k [] = []
tries vs ds retries k (service s ∷ as') =
    map (λ n. ask (record { service = s; inputs = vs; outputs = ds; activity = k; attempt = n }))
    (range_with_len 0 (suc retries)) ++ tries vs ds retries (suc k) as'
tries vs ds retries k (nested f ∷ as') = open_flow f ∷ tries vs ds retries (suc k) as'

-- how the tries end: with the right values, by opening a flow, or with the reason of the last
pub data Fate : Type 0 where
  right : List Value → Fate
  opens : Name → Fate
  wrong : Text → Fate

-- the service tries that are taken, and how they end
pub record Taken : Type 0 where
  pub asks : List Ask
  pub fate : Fate

abbrev pub match_result : {A B C : Type 0} → Result A B → (A → C) → (B → C) → C
match_result (Ok a) f g = f a
match_result (Err b) f g = g b

-- the tries in order, up to the first whose outcome is right or that opens a flow; `why` is the reason so far
abbrev pub take_tries : Giving → Text → List Try → Taken
take_tries gives why [] = record { asks = []; fate = wrong why }
take_tries gives why (open_flow f ∷ ts) = record { asks = []; fate = opens f }
take_tries gives why (ask a ∷ ts) =
    match_result (outcome_of gives a)
    (λ vs. record { asks = a ∷ []; fate = right vs })
    (λ reason. let rest = take_tries gives reason ts
    in record { asks = a ∷ rest.asks; fate = rest.fate })

-- the jobs that made the faults in these inputs, in order, each once
abbrev pub fault_makers : List Value → List JobName
fault_makers vs = in_order job_name_cmp (flat_map (λ v. makers_of (leaves v)) vs)

-- a job's error document at each output
abbrev pub error_results : JobName → Text → List JobName → List ℕ → List Value
error_results name why from ds = map (λ d. fault_value (record {
  at = name;
  depth = d;
  why = why;
  from = from;
})) ds
