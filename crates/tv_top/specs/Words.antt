-- The command that the words give.
use Rattle.std.specs.Prelude.{Bool, List, None, Option, Some, false, nat_lt, option_map, true, ℕ, ◌≡◌}
use Rattle.tv_value.specs.Nested.{Place}
use Rattle.tv_value.specs.Values.{Name, Text}
use Rattle.tv_words.specs.Commands as line

pub data Command : Type 0 where
  -- read a document, run it, and write the result line
  run : Command
  -- read a document, check it, and write the depths
  check : Command
  -- read a document, run it, and write which jobs asked how often
  trace : Command
  -- read a document, run it, and write which elements of the inputs made this element of an output
  lineage : Name → Place → Command
  -- read a document, run it, and write which leaves of the outputs used this element of an input
  forward : Name → Place → Command
  -- read a document, check it, and write the same document in the second format
  upgrade : Command
  -- run the generated document of a number, and write the summary; nothing is read
  gen : ℕ → Command

-- how many workers run it changes no answer
abbrev pub carried_out : line.Command → Command
carried_out (line.run workers) = run
carried_out line.check = check
carried_out line.trace = trace
carried_out (line.lineage port place) = lineage port place
carried_out (line.forward port place) = forward port place
carried_out line.upgrade = upgrade
carried_out (line.gen number workers) = gen number

-- the words are those after the program's name
abbrev pub command_of : List Text → Option Command
command_of words = option_map carried_out (line.command_of words)

-- by how many workers it is carried out, where there are threads
abbrev pub workers_of : line.Command → ℕ
workers_of (line.run workers) = workers
workers_of line.check = 1
workers_of line.trace = 1
workers_of (line.lineage port place) = 1
workers_of (line.forward port place) = 1
workers_of line.upgrade = 1
workers_of (line.gen number workers) = workers

abbrev pub is_for_many : Option line.Command → Bool
is_for_many None = false
is_for_many (Some command) = nat_lt 1 (workers_of command)

-- the words ask for a run, of a document that is read or of a generated one, by more than one worker
abbrev pub IsForMany : List Text → Type 0
IsForMany words = is_for_many (line.command_of words) ≡ true

-- they ask for anything else, or give no command
abbrev pub IsForOne : List Text → Type 0
IsForOne words = is_for_many (line.command_of words) ≡ false

-- a command that reads nothing: a generated document is run, or there is none
abbrev pub ReadsNothing : Option Command → Type 0
ReadsNothing None = Unit {0}
ReadsNothing (Some run) = ⊥
ReadsNothing (Some check) = ⊥
ReadsNothing (Some trace) = ⊥
ReadsNothing (Some (lineage p q)) = ⊥
ReadsNothing (Some (forward p q)) = ⊥
ReadsNothing (Some upgrade) = ⊥
ReadsNothing (Some (gen n)) = Unit {0}
