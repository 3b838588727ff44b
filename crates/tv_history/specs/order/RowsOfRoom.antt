-- Worked histories: the results that a run keeps, and the nodes for which it has room.
use Rattle.std.specs.Prelude.{List, [], codes, reverse, true, ℕ, ◌++◌, ◌∷◌, ◌≡◌}
use Rattle.tv_flow.specs.Flows.{Document}
use Rattle.tv_model.specs.RowsOfFlows.{opening, two_steps}
use Rattle.tv_model.specs.Writing.{meant}
use Rattle.tv_history.specs.Entries.{Entry, closed, ended, opened}
use Rattle.tv_history.specs.Histories.{kept_results, node_room}
use Rattle.tv_history.specs.RowsOfHistories.{in_right, inner, is_legal_run, n0, n1, out_first, p0, q0, spot_of}
use Rattle.tv_history.specs.order.Rows.{second}

-- after legal entries, the oldest first: so many results are kept, and so many nodes have room
abbrev pub Holds : Document → List Entry → ℕ → ℕ → Type 0
Holds d entries results nodes =
    (is_legal_run d entries ≡ true)
    × (kept_results (meant d) (reverse entries) ≡ results)
    × (node_room (meant d) (reverse entries) ≡ nodes)

-- each of two steps has a list of two texts at its port and its output, and its iteration is as long; so is the
-- output of the flow: three nodes each. The first job's result is kept while the next works on it.
abbrev pub KeepsResultOfFirstJob : Type 0
KeepsResultOfFirstJob =
    Holds two_steps [] 0 21
    × Holds two_steps (out_first p0 ∷ in_right p0 ∷ out_first q0 ∷ []) 1 21
    × Holds two_steps (out_first p0 ∷ in_right p0 ∷ out_first q0 ∷ in_right q0 ∷ []) 2 21

-- two flows are opened, and of one the only job is settled
abbrev pub two_open : List Entry
two_open =
    closed (spot_of (codes "n") []) 3 ∷ opened n0 ∷ out_first inner ∷ opened n1 ∷ out_first second
    ∷ in_right inner ∷ []

-- A list of three has four nodes, at the port, in the iteration, at the step's output and at the flow's. Each open flow
-- adds four: a text at its port, in its iteration, at its step's output and at its own. Once it has ended, its job's
-- result is no longer kept, but that of the job that opened it is.
abbrev pub KeepsResultsOfOpenInstances : Type 0
KeepsResultsOfOpenInstances =
    Holds opening [] 0 16
    × Holds opening two_open 1 24
    × Holds opening (two_open ++ ended n0 ∷ []) 1 20
