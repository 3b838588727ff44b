-- What holds of numbers among the words, and of the commands that they give.
use Rattle.std.specs.Prelude.{◌≡◌, ◌≤◌, ◌↔◌, ℕ, List, Option, Some, decimal}
use Rattle.tv_value.specs.Values.{Text}
use Rattle.tv_words.specs.Numbers.{count_of, number_of}
use Rattle.tv_words.specs.Commands.{Command, run, check, trace, lineage, forward, upgrade, gen, command_of}

-- a reading takes exactly the decimal texts of the numbers from `least` to `most`, each for its number
abbrev pub ReadsFrom : ℕ → ℕ → (Text → Option ℕ) → Type 0
ReadsFrom least most reading = (t : Text) (n : ℕ) → (reading t ≡ Some n)
    ↔ ((t ≡ decimal n) × (least ≤ n) × (n ≤ most))

abbrev pub CountsAreDecimal : Type 0
CountsAreDecimal = ReadsFrom 1 64 count_of

abbrev pub NumbersAreDecimal : Type 0
NumbersAreDecimal = ReadsFrom 1 200 number_of

-- from 1 to 64 workers
abbrev pub IsCount : ℕ → Type 0
IsCount workers = (1 ≤ workers) × (workers ≤ 64)

-- the numbers of a command lie in their ranges
abbrev pub IsBounded : Command → Type 0
IsBounded (run workers) = IsCount workers
IsBounded check = Unit {0}
IsBounded trace = Unit {0}
IsBounded (lineage port place) = Unit {0}
IsBounded (forward port place) = Unit {0}
IsBounded upgrade = Unit {0}
IsBounded (gen number workers) = ((1 ≤ number) × (number ≤ 200)) × IsCount workers

abbrev pub CommandsAreBounded : Type 0
CommandsAreBounded = (words : List Text) (command : Command) → command_of words ≡ Some command
    → IsBounded command
