-- The stages of a job.
use Rattle.std.specs.Prelude.{◌||◌, Bool, true, false}
use Rattle.tv_seats.specs.declared.stage.Stage.{Stage}
use Rattle.tv_seats.specs.declared.stage.Stage.TheVariants as stage

abbrev pub is_waiting : Stage → Bool
is_waiting stage.Waiting = true
is_waiting x = false

abbrev pub is_out : Stage → Bool
is_out (stage.Out a t) = true
is_out x = false

-- with a try next
abbrev pub is_idle : Stage → Bool
is_idle (stage.Idle a t) = true
is_idle x = false

-- with a flow next
abbrev pub is_aside : Stage → Bool
is_aside (stage.Aside a) = true
is_aside x = false

-- the flow that it opened hasn't ended
abbrev pub is_nested : Stage → Bool
is_nested (stage.Nested i) = true
is_nested x = false

-- it has begun, and isn't settled
abbrev pub runs : Stage → Bool
runs x = is_out x || is_idle x || is_aside x || is_nested x

-- its bouncing, its outcome or the end of its flow may settle it
abbrev pub may_settle : Stage → Bool
may_settle x = is_waiting x || is_out x || is_nested x

-- a try that is out is the next one again; flows stay open
abbrev pub called_back : Stage → Stage
called_back (stage.Out a t) = stage.Idle a t
called_back x = x
