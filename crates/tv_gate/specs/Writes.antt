-- What is fed to a hasher for a call: its service, the number of the attempt and its inputs.
use Rattle.std.specs.Prelude.{◌++◌}
use Rattle.std.specs.Hash as fed
use Rattle.std.specs.Hash.{HashWrites}
use Rattle.tv_value.specs.Nested.{trees_of}
use Rattle.tv_value.specs.Writes.{values_writes}
use Rattle.tv_gate.specs.Calls.{Call}

abbrev pub call_writes : Call → HashWrites
call_writes c = fed.str c.service ++ (fed.u32 c.attempt ++ values_writes (trees_of c.inputs))
