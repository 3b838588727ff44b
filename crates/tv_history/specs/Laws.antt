-- How many tries of a run are out, entry by entry.
use Rattle.tv_gate.specs.Outcomes.{Giving}
use Rattle.tv_history.specs.Going.{OutAfter}
use Rattle.tv_history.specs.Calls.{out_now}
use Rattle.tv_history.specs.Runs.{Appends, IsLegalRun, Run, instances_of, with_names}
use Rattle.tv_history.specs.declared.entry.Entry.{Entry}

abbrev pub OutIsCounted : Type 0
OutIsCounted =
    (gives : Giving) (r s : Run) (e : Entry)
    → IsLegalRun gives r → IsLegalRun gives s → Appends r s e
    → OutAfter (with_names s.document s.names (instances_of s.names s.entries) e) (out_now gives r)
    (out_now gives s)
