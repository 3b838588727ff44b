-- That the order of one worker has the asks of all jobs, each as often.
use Rattle.std.specs.Prelude.{IsPermutation, flat_map}
use Rattle.tv_value.specs.Values.{JobName}
use Rattle.tv_model.specs.Made.{Meaning}
use Rattle.tv_model.specs.Turns.{ask_order, asks_of}

-- the order has each ask of each job, as often
abbrev pub IsOrdered : Meaning → JobName → Type 0
IsOrdered m I = IsPermutation (ask_order m) (flat_map asks_of m.jobs)
