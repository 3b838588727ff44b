-- A job's tries as the numbers of activities and attempts, and the fold of them one step at a time.
use Rattle.std.specs.Prelude.{◌≡◌, ℕ, suc, List, [], ◌∷◌, ◌++◌, map, Bool, ◌&&◌, ◌==◌, if◌then◌else◌, Some, is_ok}
use Rattle.std.specs.List.{range_with_len, slice_get}
use Rattle.tv_gate.specs.Outcomes.{Giving}
use Rattle.tv_value.specs.Activities.{Activity, service, nested}
use Rattle.tv_dispatch.specs.Jobs.{Ask, outcome_of, Fate, right, opens, wrong}
use Rattle.tv_dispatch.specs.declared.plan.Kind.{Kind}
use Rattle.tv_dispatch.specs.declared.plan.Kind.TheVariants.{Service, Nested}
use Rattle.tv_dispatch.specs.declared.plan.Plan.{Plan}
use Rattle.tv_dispatch.specs.declared.plan.Next.{Next}
use Rattle.tv_dispatch.specs.declared.plan.Next.TheVariants as next

-- a place in the list of tries: an attempt at an activity that is a service, or an activity that opens a flow
pub data PlanTurn : Type 0 where
  asks : ℕ → ℕ → PlanTurn
  nests : ℕ → PlanTurn

-- all turns, activity by activity from number k: a service with attempts 0 to `retries`, a nested flow once
abbrev pub turns : ℕ → ℕ → List Kind → List PlanTurn
turns retries k [] = []
turns retries k (Service ∷ ks) = map (asks k) (range_with_len 0 (suc retries))
    ++ turns retries (suc k) ks
turns retries k (Nested ∷ ks) = nests k ∷ turns retries (suc k) ks

abbrev pub turns_of : Plan → List PlanTurn
turns_of p = turns p.retries 0 p.activities

-- what is left once attempt n at activity k was made
abbrev pub left_after : ℕ → ℕ → List PlanTurn → List PlanTurn
left_after k n [] = []
left_after k n (nests j ∷ ts) = left_after k n ts
left_after k n (asks j m ∷ ts) = if j == k && m == n then ts else left_after k n ts

-- the first of the turns that are left; where none is, the job has failed
abbrev pub next_try : List PlanTurn → Next
next_try [] = next.Failed
next_try (asks k n ∷ ts) = next.Ask k n
next_try (nests k ∷ ts) = next.Nest k

-- what a job does first: inputs with an error in them are given to no service
abbrev pub first_next : Plan → Bool → Next
first_next p holds_error = if holds_error then next.Bounce else next_try (turns_of p)

-- what it does after attempt n at activity k
abbrev pub next_after : Plan → ℕ → ℕ → Bool → Next
next_after p k n is_right = if is_right then next.Done else next_try (left_after k n (turns_of p))

-- what follows an outcome that is right or not; what asks nothing stays
abbrev pub answered : Plan → Next → Bool → Next
answered p (next.Ask k n) is_right = next_after p k n is_right
answered p x is_right = x

-- the asks made, by activity and attempt, where the outcomes in turn are right or not
abbrev pub asked : Plan → Next → List Bool → List (ℕ × ℕ)
asked p x [] = []
asked p (next.Ask k n) (r ∷ rs) = (k, n) ∷ asked p (next_after p k n r) rs
asked p x (r ∷ rs) = []

-- and what comes after these outcomes
abbrev pub reached : Plan → Next → List Bool → Next
reached p x [] = x
reached p x (r ∷ rs) = reached p (answered p x r) rs

-- the turns in order, up to the first whose outcome is right or that opens a flow, as far as there are outcomes
abbrev pub taken_turns : List PlanTurn → List Bool → List (ℕ × ℕ)
taken_turns [] rs = []
taken_turns (nests k ∷ ts) rs = []
taken_turns (asks k n ∷ ts) [] = []
taken_turns (asks k n ∷ ts) (r ∷ rs) = (k, n) ∷ (if r then [] else taken_turns ts rs)

abbrev pub kind_of : Activity → Kind
kind_of (service s) = Service
kind_of (nested f) = Nested

-- what comes next says how the tries ended
abbrev pub IsFate : List Activity → Fate → Next → Type 0
IsFate as' (right vs) x = x ≡ next.Done
IsFate as' (opens f) x = (k : ℕ) × (x ≡ next.Nest k) × (slice_get as' k ≡ Some (nested f))
IsFate as' (wrong why) x = x ≡ next.Failed

abbrev pub number : Ask → ℕ × ℕ
number a = (a.activity, a.attempt)

-- whether what the services give is right
abbrev pub came_right : Giving → Ask → Bool
came_right gives a = is_ok (outcome_of gives a)
