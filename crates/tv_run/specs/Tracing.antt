-- What was made of what in a run that is done, and the settled jobs of one that goes on.
use Rattle.std.specs.Prelude.{◌≡◌, true, List, filter, map}
use Rattle.tv_gate.specs.Outcomes.{Giving}
use Rattle.tv_flow.specs.Flows.{Flow}
use Rattle.tv_check.specs.RunViews.{run_view}
use Rattle.tv_history.specs.Histories.{is_done}
use Rattle.tv_history.specs.Runs.{past_of}
use Rattle.tv_seats.specs.Seats.{Seat}
use Rattle.tv_instances.specs.stands.Seats.{is_over}
use Rattle.tv_traces.specs.Seen.{Spot}
use Rattle.tv_traces.specs.Traced.{AreTraces}
use Rattle.tv_traces.specs.declared.traces.Traces.{Traces}
use Rattle.tv_run.specs.Standing.{StandsStill, run_of}
use Rattle.tv_run.specs.declared.run.OpenRun.{OpenRun}

-- these are the traces of its document's main flow
abbrev pub IsTracedBy : Giving → OpenRun → Traces → Type 0
IsTracedBy gives r t = (flow : Flow) × AreTraces gives (run_view r.run) flow t

-- a run that is done, with its traces
abbrev pub StandsTraced : Giving → OpenRun → Traces → Type 0
StandsTraced gives r t = StandsStill gives r × (is_done (past_of (run_of r)) ≡ true)
    × IsTracedBy gives r t

-- ---- settled jobs

-- the settled ones among the jobs of these seats
abbrev pub settled_spots : List Seat → List Spot
settled_spots ss = map (λ s. (s.step, s.place)) (filter (λ s. is_over s.stage) ss)
