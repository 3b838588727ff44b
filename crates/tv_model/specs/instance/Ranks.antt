-- The order in which the steps of a flow are taken.
use Rattle.std.specs.Prelude.{ℕ, zero, suc, List, [], ◌∷◌, ◌++◌, length, Bool, not, flat_map, filter, find}
use Rattle.std.specs.List.{list_any, list_all}
use Rattle.std.specs.Option.{option_map_or}
use Rattle.tv_value.specs.Values.{Name}
use Rattle.tv_value.specs.Orders.{same_name}
use Rattle.tv_flow.specs.Flows.{Link, input, output, Feed, link, merge, constant, Step}

-- the step that a link comes from
abbrev pub link_step : Link → List Name
link_step (input x) = []
link_step (output s p) = s ∷ []

abbrev pub feed_steps : Feed → List Name
feed_steps (link l) = link_step l
feed_steps (merge ls) = flat_map link_step ls
feed_steps (constant v) = []

-- the steps that come before: those that feed it, and those that it runs after
abbrev pub earlier_steps : Step → List Name
earlier_steps s = flat_map (λ i. feed_steps i.1.from) s.inputs ++ s.after

abbrev pub is_among : List Name → Name → Bool
is_among ns n = list_any (same_name n) ns

-- the first step whose earlier steps are all taken, again and again; the list is in order of names
abbrev pub by_rank : ℕ → List Name → List (Name × Step) → List (Name × Step)
by_rank zero done steps = []
by_rank (suc n) done steps =
    option_map_or
    (λ s. s ∷ by_rank n (s.0 ∷ done) (filter (λ t. not (same_name s.0 t.0)) steps))
    (find (λ s. list_all (is_among done) (earlier_steps s.1)) steps) []

-- the steps by rank; the rank of a step is its position here
abbrev pub ranked : List (Name × Step) → List (Name × Step)
ranked steps = by_rank (length steps) [] steps
