-- Worked examples that compute.
use Rattle.std.specs.Prelude.{None, Some, [], codes, ◌++◌, ◌≡◌, ◌∷◌}
use Rattle.tv_value.specs.Nested.{Place}
use Rattle.tv_value.specs.Values.{Name, Text}
use Rattle.tv_words.specs.elements.Elements.{element_of}
use Rattle.tv_words.specs.elements.Lines.{element_lines}

abbrev pub reads : Text → Name → Place → Type 0
reads t n q = element_of t ≡ Some (n, q)

abbrev pub refused : Text → Type 0
refused t = element_of t ≡ None

abbrev pub ElementsAreRead : Type 0
ElementsAreRead =
    reads (codes "out[1,0]") (codes "out") (1 ∷ 0 ∷ [])
    × reads (codes "out[]") (codes "out") []
    × reads (codes "x_1[4294967295]") (codes "x_1") (4294967295 ∷ [])

-- no name, no brackets, no index between commas, or another spelling of one
abbrev pub OthersAreRefused : Type 0
OthersAreRefused =
    refused (codes "[1]")
    × refused (codes "o-t[1]")
    × refused (codes "out")
    × refused (codes "out[1")
    × refused (codes "out[1]]")
    × refused (codes "out[1],")
    × refused (codes "out[,]")
    × refused (codes "out[1,]")
    × refused (codes "out[01]")
    × refused (codes "out[+1]")
    × refused (codes "out[ 1]")
    × refused (codes "out[4294967296]")

abbrev pub LinesAreWritten : Type 0
LinesAreWritten =
    element_lines ((codes "x", 1 ∷ []) ∷ (codes "y", 0 ∷ 2 ∷ []) ∷ (codes "z", []) ∷ [])
    ≡ codes "x[1]" ++ 10 ∷ codes "y[0,2]" ++ 10 ∷ codes "z[]" ++ 10 ∷ []
