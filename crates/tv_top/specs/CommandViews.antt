-- The command that a `Request` stands for.
use Rattle.std.specs.Prelude.{Bool, None, Option, Some, false, true, ◌≤◌}
use Rattle.tv_words.specs.Stated.{IsCount}
use Rattle.tv_top.specs.Words as spec
use Rattle.tv_top.specs.declared.words.Command.{Command}
use Rattle.tv_top.specs.declared.words.Command.TheVariants.{Gen, Of}
use Rattle.tv_top.specs.declared.words.Reading.{Reading}
use Rattle.tv_top.specs.declared.words.Reading.TheVariants.{Check, Forward, Lineage, Run, Trace, Upgrade}
use Rattle.tv_top.specs.declared.words.Request.{Request}
use Rattle.tv_top.specs.declared.words.Request.TheVariants as by

-- one that reads a document
abbrev pub reading_view : Reading → spec.Command
reading_view Run = spec.run
reading_view Check = spec.check
reading_view Trace = spec.trace
reading_view Upgrade = spec.upgrade
reading_view (Lineage port place) = spec.lineage port place
reading_view (Forward port place) = spec.forward port place

abbrev pub command_view : Command → spec.Command
command_view (Of reading) = reading_view reading
command_view (Gen number) = spec.gen number

-- whoever carries it out
abbrev pub request_view : Request → spec.Command
request_view (by.One command) = command_view command
request_view (by.Run workers) = spec.run
request_view (by.Gen number workers) = spec.gen number

-- it is for more than one worker
abbrev pub is_many : Option Request → Bool
is_many None = false
is_many (Some (by.One command)) = false
is_many (Some (by.Run workers)) = true
is_many (Some (by.Gen number workers)) = true

-- the number of a generated document is 1 to 200
abbrev pub IsBounded : Command → Type 0
IsBounded (Of reading) = Unit {0}
IsBounded (Gen number) = (1 ≤ number) × (number ≤ 200)

-- and that of workers 1 to 64
abbrev pub IsBoundedRequest : Request → Type 0
IsBoundedRequest (by.One command) = IsBounded command
IsBoundedRequest (by.Run workers) = IsCount workers
IsBoundedRequest (by.Gen number workers) = ((1 ≤ number) × (number ≤ 200)) × IsCount workers
