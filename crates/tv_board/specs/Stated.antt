-- While a run goes on, the pool has at least as many nodes as results are kept, and no more than the values and iterations of the open
-- instances.
use Rattle.std.specs.Prelude.{◌≤◌}
use Rattle.tv_gate.specs.Outcomes.{Giving}
use Rattle.tv_pool.specs.Pool.{live_count}
use Rattle.tv_history.specs.Histories.{kept_results, node_room}
use Rattle.tv_history.specs.Runs.{meant, past_of}
use Rattle.tv_run.specs.Standing.{StandsStill, run_of}
use Rattle.tv_run.specs.declared.run.OpenRun.{OpenRun}

-- those kept are the outputs of settled jobs in open instances
abbrev pub ResultsHaveNodes : Type 0
ResultsHaveNodes =
    (gives : Giving) (r : OpenRun) → StandsStill gives r
    → kept_results (meant gives (run_of r)) (past_of (run_of r)) ≤ live_count r.pool.regions

-- the nodes of the values and iterations of open instances, as they are meant
abbrev pub NodesHaveRoom : Type 0
NodesHaveRoom =
    (gives : Giving) (r : OpenRun) → StandsStill gives r
    → live_count r.pool.regions ≤ node_room (meant gives (run_of r)) (past_of (run_of r))
