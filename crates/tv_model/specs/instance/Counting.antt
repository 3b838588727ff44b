-- Wholeness by events alone: it can be counted by whoever was told them, without the results and iterations that are not told.
use Rattle.std.specs.Prelude.{ℕ, zero, suc, ◌+◌, ◌==◌, ◌&&◌, ◌||◌, Bool, true, false, List, [], ◌∷◌, ◌++◌, if◌then◌else◌}
use Rattle.std.specs.Option.{option_map_or}
use Rattle.tv_value.specs.Nested.{Place}
use Rattle.tv_value.specs.Values.{Name}
use Rattle.tv_flow.specs.Flows.{Step}
use Rattle.tv_model.specs.instance.Ranks.{is_among}
use Rattle.tv_model.specs.instance.Events.{Events, closed_with, has_fault, has_result}
use Rattle.tv_model.specs.instance.Wholeness.{one_if}

-- how many of n items of the list at q, from item i on, are whole
abbrev pub count_whole : (Place → Bool) → Place → ℕ → ℕ → ℕ
count_whole w q i zero = 0
count_whole w q i (suc n) = one_if (w (q ++ i ∷ [])) + count_whole w q (suc i) n

-- with no level left a job stands there; above, a fault that was passed, or a list that was closed with as many items as are whole
abbrev pub whole_by : Events → Name → ℕ → Place → Bool
whole_by es s zero q = has_result es s q
whole_by es s (suc d) q =
    has_fault es s q || option_map_or (λ n. count_whole (whole_by es s d) q 0 n == n)
    (closed_with es s q) false

-- whether of these steps, the last by rank first, those that are named have ended: each is whole, and those that it runs after have
-- ended; `levels` says how many levels each iteration has
abbrev pub have_ended_by : Events → (Name → ℕ) → List (Name × Step) → List Name → Bool
have_ended_by es levels [] ns = true
have_ended_by es levels (s ∷ ss) ns =
    (if is_among ns s.0 then whole_by es s.0 (levels s.0) []
    && have_ended_by es levels ss s.1.after else true)
    && have_ended_by es levels ss ns
