-- The command that the words give.
use Rattle.std.specs.Prelude.{ℕ, List, [], ◌∷◌, codes, Option, Some, None, option_map, option_and_then, if◌then◌else◌}
use Rattle.tv_value.specs.Nested.{Place}
use Rattle.tv_value.specs.Values.{Text, Name}
use Rattle.tv_value.specs.Orders.{same_name}
use Rattle.tv_words.specs.elements.Elements.{element_of}
use Rattle.tv_words.specs.Numbers.{count_of, number_of}
use Rattle.tv_words.specs.Reading.{reading_of}

pub data Command : Type 0 where
  -- read a document, run it with so many workers, and write the result line
  run : ℕ → Command
  -- read a document, check it, and write the depths
  check : Command
  -- read a document, run it, and write which jobs asked how often
  trace : Command
  -- read a document, run it, and write which elements of the inputs made this element of an output
  lineage : Name → Place → Command
  -- read a document, run it, and write which leaves of the outputs used this element of an input
  forward : Name → Place → Command
  -- read a document, check it, and write the same document in the second format
  upgrade : Command
  -- run the generated document of this number with so many workers, and write the summary
  gen : ℕ → ℕ → Command

-- the workers of an option that may be absent: then one
abbrev pub workers_of : Option Text → Option ℕ
workers_of None = Some 1
workers_of (Some t) = count_of t

-- only without `--workers`
abbrev pub unless_given : Option Text → Command → Option Command
unless_given None c = Some c
unless_given (Some t) c = None

-- one word and no `--of`
abbrev pub plain_command : Text → Option Text → Option Command
plain_command word workers =
    if same_name word (codes "run") then option_map run (workers_of workers)
    else (if same_name word (codes "check") then unless_given workers check
    else (if same_name word (codes "trace") then unless_given workers trace
    else (if same_name word (codes "upgrade") then unless_given workers upgrade else None)))

-- one word and `--of`
abbrev pub element_command : Text → Name × Place → Option Command
element_command word e =
    if same_name word (codes "lineage") then Some (lineage e.0 e.1)
    else (if same_name word (codes "forward") then Some (forward e.0 e.1) else None)

-- two words
abbrev pub numbered_command : Text → Text → Option Text → Option Command
numbered_command word number workers =
    if same_name word (codes "gen")
    then option_and_then (λ n. option_map (gen n) (workers_of workers)) (number_of number)
    else None

-- by the words, `--workers` and `--of`; all else gives no command
abbrev pub command_in : List Text → Option Text → Option Text → Option Command
command_in (word ∷ []) workers None = plain_command word workers
command_in (word ∷ []) None (Some element) = option_and_then (element_command word)
    (element_of element)
command_in (word ∷ number ∷ []) workers None = numbered_command word number workers
command_in words workers of = None

-- the command that the words after the program's name give
abbrev pub command_of : List Text → Option Command
command_of words = option_and_then (λ f. command_in f.words f.workers f.of) (reading_of words)
