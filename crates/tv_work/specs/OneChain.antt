-- What one worker opens: instances of one chain.
use Rattle.std.specs.Prelude.{count_by, false, suc, true, ◌++◌, ◌≡◌, ◌≤◌}
use Rattle.tv_lemmas.specs.Members.{In}
use Rattle.tv_gate.specs.Outcomes.{Giving}
use Rattle.tv_model.specs.Agreeing.{NestsWithin}
use Rattle.tv_model.specs.Jobs.{Job}
use Rattle.tv_model.specs.Made.{Meaning}
use Rattle.tv_model.specs.Meanings.{nesting_limit}
use Rattle.tv_history.specs.Entries.{History}
use Rattle.tv_history.specs.Going.{IsWellFormed}
use Rattle.tv_history.specs.Histories.{has_open_instance, is_running}
use Rattle.tv_history.specs.Runs.{IsLegalRun, Run, meant, past_of}
use Rattle.tv_history.specs.order.Chains.{AreNested}
use Rattle.tv_work.specs.ByOne.{AppendsByOne}

-- no job runs, so that no other instance is open than the main one
abbrev pub NothingRuns : Giving → Run → Type 0
NothingRuns gives r = (j : Job) → In j (meant gives r).jobs → is_running (past_of r) j ≡ false

-- of two open instances one stands in the other, and at most eight are open, with the main one
pub record IsOneChain (m : Meaning) (past : History) : Type 0 where
  pub nested :
      (j k : Job)
      → In j m.jobs
      → In k m.jobs
      → has_open_instance past j ≡ true
      → has_open_instance past k ≡ true
      → AreNested j.name k.name
  pub short : suc (count_by (has_open_instance past) m.jobs) ≤ nesting_limit

-- ONE CHAIN: what one worker appends to a run in which nothing runs, whoever worked on it before, opens one chain after each entry
abbrev pub OneWorkerOpensOneChain : Type 0
OneWorkerOpensOneChain =
    (gives : Giving) (r s : Run)
    → IsWellFormed r.document
    → NestsWithin r.document.flows nesting_limit r.document.main
    → NothingRuns gives r
    → IsLegalRun gives s
    → (w : AppendsByOne gives r s)
    → (newer older : History)
    → w.appended ≡ newer ++ older
    → IsOneChain (meant gives r) (older ++ past_of r)
