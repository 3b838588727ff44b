-- Each try of a job is accepted at most once: no two accepted tries of a history are of one job,
-- activity and attempt, however their outcomes came.
use Rattle.std.specs.Prelude.{◌≡◌, ℕ, true}
use Rattle.tv_value.specs.Values.{JobName}
use Rattle.tv_gate.specs.Outcomes.{Giving}
use Rattle.tv_flow.specs.Flows.{Document}
use Rattle.tv_model.specs.JobOrder.{Apart}
use Rattle.tv_model.specs.Meanings.{meaning}
use Rattle.tv_history.specs.Entries.{History}
use Rattle.tv_history.specs.Histories.{is_legal}
use Rattle.tv_history.specs.Runs.{IsLegalRun, Run, past_of}
use Rattle.tv_history.specs.Tries.{NamedTry, all_tries}

-- the job, activity and attempt of a try
abbrev pub try_named : NamedTry → JobName × ℕ × ℕ
try_named (n, (c, t, r)) = (n, c, t)

abbrev pub AcceptsEachTryOnce : History → Type 0
AcceptsEachTryOnce past = Apart try_named (all_tries past)

-- so it is in every legal history, of any document
abbrev pub HistoriesAcceptOnce : Type 0
HistoriesAcceptOnce =
    (gives : Giving) (d : Document) (past : History)
    → is_legal gives (meaning gives d) past ≡ true
    → AcceptsEachTryOnce past

-- and in that of every board: the contracts that end with one say that it is an IsLegalRun
abbrev pub BoardsAcceptOnce : Type 0
BoardsAcceptOnce =
    (gives : Giving) (b : Run) → IsLegalRun gives b → AcceptsEachTryOnce (past_of b)
