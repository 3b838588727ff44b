-- Worked examples that compute: words, and the command that they give.
use Rattle.std.specs.Prelude.{◌≡◌, List, [], ◌∷◌, Some, None, codes}
use Rattle.tv_value.specs.Values.{Text}
use Rattle.tv_words.specs.Commands.{Command, run, check, trace, lineage, forward, upgrade, gen, command_of}

abbrev pub gives : List Text → Command → Type 0
gives words command = command_of words ≡ Some command

abbrev pub refused : List Text → Type 0
refused words = command_of words ≡ None

abbrev pub RunsAreGiven : Type 0
RunsAreGiven =
    gives (codes "run" ∷ []) (run 1)
    × gives (codes "run" ∷ codes "--workers" ∷ codes "4" ∷ []) (run 4)
    × gives (codes "--workers" ∷ codes "64" ∷ codes "run" ∷ []) (run 64)
    × gives (codes "run" ∷ codes "--workers=3" ∷ []) (run 3)
    × gives (codes "--" ∷ codes "run" ∷ []) (run 1)

abbrev pub OthersAreGiven : Type 0
OthersAreGiven =
    gives (codes "check" ∷ []) check
    × gives (codes "trace" ∷ []) trace
    × gives (codes "upgrade" ∷ []) upgrade
    × gives (codes "lineage" ∷ codes "--of" ∷ codes "out[1,0]" ∷ [])
    (lineage (codes "out") (1 ∷ 0 ∷ []))
    × gives (codes "--of=x[]" ∷ codes "forward" ∷ []) (forward (codes "x") [])
    × gives (codes "gen" ∷ codes "200" ∷ []) (gen 200 1)
    × gives (codes "gen" ∷ codes "1" ∷ codes "--workers" ∷ codes "8" ∷ []) (gen 1 8)

-- words that `clap` refuses
abbrev pub FaultsAreRefused : Type 0
FaultsAreRefused =
    refused []
    × refused (codes "--help" ∷ [])
    × refused (codes "run" ∷ codes "-h" ∷ [])
    × refused (codes "run" ∷ codes "--version" ∷ [])
    × refused (codes "run" ∷ codes "--workers" ∷ [])
    × refused (codes "run" ∷ codes "--workers" ∷ codes "1" ∷ codes "--workers" ∷ codes "1" ∷ [])
    × refused (codes "gen" ∷ codes "--workers" ∷ codes "8" ∷ codes "1" ∷ [])
    × refused (codes "run" ∷ codes "run" ∷ codes "run" ∷ [])

-- words that aren't in the table
abbrev pub StrangersAreRefused : Type 0
StrangersAreRefused =
    refused (codes "" ∷ [])
    × refused (codes "Run" ∷ [])
    × refused (codes "help" ∷ [])
    × refused (codes "run" ∷ codes "run" ∷ [])
    × refused (codes "run" ∷ codes "--of" ∷ codes "out[]" ∷ [])
    × refused (codes "check" ∷ codes "--workers" ∷ codes "1" ∷ [])
    × refused (codes "upgrade" ∷ codes "--workers" ∷ codes "1" ∷ [])
    × refused (codes "lineage" ∷ [])
    × refused (codes "lineage" ∷ codes "--of" ∷ codes "out" ∷ [])
    × refused (codes "lineage" ∷ codes "--of" ∷ codes "out[]" ∷ codes "--workers" ∷ codes "1" ∷ [])
    × refused (codes "gen" ∷ [])

-- numbers out of their range, or spelled otherwise
abbrev pub NumbersAreRefused : Type 0
NumbersAreRefused =
    refused (codes "run" ∷ codes "--workers" ∷ codes "0" ∷ [])
    × refused (codes "run" ∷ codes "--workers" ∷ codes "65" ∷ [])
    × refused (codes "run" ∷ codes "--workers" ∷ codes "04" ∷ [])
    × refused (codes "run" ∷ codes "--workers" ∷ codes "+4" ∷ [])
    × refused (codes "run" ∷ codes "--workers=" ∷ [])
    × refused (codes "gen" ∷ codes "0" ∷ [])
    × refused (codes "gen" ∷ codes "201" ∷ [])
