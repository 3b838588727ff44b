-- Job order: two jobs are compared at the first level where their names differ. The step of greater rank comes
-- first, with the same step the lesser place, and a prefix before what it begins.
use Rattle.std.specs.Option.{option_map_or}
use Rattle.std.specs.Prelude.{Bool, List, Option, [], false, if◌then◌else◌, nat_lt, option_and_then, suc, true, zero, ℕ, ◌&&◌, ◌==◌, ◌∷◌, ◌≡◌}
use Rattle.tv_lemmas.specs.Members.{Each, In}
use Rattle.tv_value.specs.Nested.{Place}
use Rattle.tv_value.specs.Orders.{named, same_name}
use Rattle.tv_value.specs.Values.{JobName, Name}
use Rattle.tv_flow.specs.Flows.{Flow, Step}
use Rattle.tv_model.specs.instance.Ranks.{ranked}
use Rattle.tv_model.specs.Opening.{first_nested}

-- index by index, a prefix before its extensions
abbrev pub place_before : Place → Place → Bool
place_before q [] = false
place_before [] (j ∷ r) = true
place_before (i ∷ q) (j ∷ r) = if i == j then place_before q r else nat_lt i j

-- the position of the first of that name: of steps by rank, its rank
abbrev pub rank_in : List (Name × Step) → Name → ℕ
rank_in [] n = 0
rank_in (s ∷ ss) n = if same_name n s.0 then 0 else suc (rank_in ss n)

-- the flow that a job of a step can open
abbrev pub step_flow : List (Name × Step) → Name → Option Name
step_flow steps n = option_and_then (λ (s : Step). first_nested s.activities) (named n steps)

abbrev pub same_spot : Name × Place → Name × Place → Bool
same_spot x y = same_name x.0 y.0 && same_name x.1 y.1

-- two jobs of one instance, by the steps of its flow by rank
abbrev pub spot_before : List (Name × Step) → Name × Place → Name × Place → Bool
spot_before steps x y =
    if same_name x.0 y.0 then place_before x.1 y.1
    else nat_lt (rank_in steps y.0) (rank_in steps x.0)

-- two names within one instance
abbrev pub names_before : (Name → JobName → JobName → Bool) → List (Name × Step) → JobName → JobName
    → Bool
names_before deeper steps a [] = false
names_before deeper steps [] (y ∷ b) = true
names_before deeper steps (x ∷ a) (y ∷ b) =
    if same_spot x y
    then option_map_or (λ g. deeper g a b) (step_flow steps x.0) false
    else spot_before steps x y

-- two names within an instance of the flow f, with so many levels
abbrev pub job_before : List (Name × Flow) → ℕ → Name → JobName → JobName → Bool
job_before flows zero f a b = false
job_before flows (suc k) f a b =
    option_map_or (λ (flow : Flow). names_before (job_before flows k) (ranked flow.steps) a b)
    (named f flows) false

-- how many jobs of the step n may run at once in the instance that the name a leads to
abbrev pub limit_in : (Name → JobName → Name → ℕ) → List (Name × Step) → JobName → Name → ℕ
limit_in deeper steps [] n = option_map_or (λ (s : Step). s.jobs) (named n steps) 0
limit_in deeper steps (x ∷ a) n = option_map_or (λ g. deeper g a n) (step_flow steps x.0) 0

abbrev pub limit_at : List (Name × Flow) → ℕ → Name → JobName → Name → ℕ
limit_at flows zero f a n = 0
limit_at flows (suc k) f a n =
    option_map_or (λ (flow : Flow). limit_in (limit_at flows k) (ranked flow.steps) a n)
    (named f flows) 0

-- the steps by rank of the instance that the name a leads to
abbrev pub steps_in : (Name → JobName → List (Name × Step)) → List (Name × Step) → JobName
    → List (Name × Step)
steps_in deeper steps [] = steps
steps_in deeper steps (x ∷ a) = option_map_or (λ g. deeper g a) (step_flow steps x.0) []

abbrev pub steps_at : List (Name × Flow) → ℕ → Name → JobName → List (Name × Step)
steps_at flows zero f a = []
steps_at flows (suc k) f a =
    option_map_or (λ (flow : Flow). steps_in (steps_at flows k) (ranked flow.steps) a)
    (named f flows) []

-- each with all that stand after it
abbrev pub AllPairs : {A : Type 0} → (A → A → Type 0) → List A → Type 0
AllPairs R [] = Unit {0}
AllPairs R (x ∷ xs) = Each (R x) xs × AllPairs R xs

-- no two have one key
abbrev pub Apart : {A K : Type 0} → (A → K) → List A → Type 0
Apart key [] = Unit {0}
Apart {A} {K} key (x ∷ xs) = ((y : A) → In y xs → key y ≡ key x → ⊥) × Apart key xs
