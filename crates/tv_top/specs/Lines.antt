-- The lines on standard error: of each status whose line is always the same, and of an element that isn't there.
use Rattle.std.specs.Prelude.{ℕ, [], ◌∷◌, ◌++◌, codes}
use Rattle.tv_value.specs.Nested.{Place}
use Rattle.tv_value.specs.Values.{Name, Text}
use Rattle.tv_words.specs.elements.Lines.{element_line}
use Rattle.tv_top.specs.declared.status.Status.{Status}
use Rattle.tv_top.specs.declared.status.Status.TheVariants.{Done, Usage, ReadFault, TooLong, NotJson, Form, Check, NotBuilt, NoSuchElement, WriteFault, NoMemory}

-- none for a fault of the form or of the check, or an element that isn't there, whose line says which
abbrev pub fault_line : Status → Text
fault_line Done = []
fault_line Usage =
    codes "taverna: usage: taverna run [--workers N] | check | trace | lineage --of PORT[PLACE] | forward --of PORT[PLACE] | gen N [--workers W] | upgrade" ++ 10 ∷ []
fault_line ReadFault = codes "taverna: read fault" ++ 10 ∷ []
fault_line TooLong = codes "taverna: input longer than 16777216 bytes" ++ 10 ∷ []
fault_line NotJson = codes "taverna: not JSON" ++ 10 ∷ []
fault_line Form = []
fault_line Check = []
fault_line NotBuilt = codes "taverna: not built" ++ 10 ∷ []
fault_line NoSuchElement = []
fault_line WriteFault = codes "taverna: write fault" ++ 10 ∷ []
fault_line NoMemory = codes "taverna: want of memory" ++ 10 ∷ []

-- the line of an element that isn't there
abbrev pub absent_line : Name → Place → Text
absent_line p q = codes "taverna: no element at " ++ element_line (p, q)

-- the exit code of each status
abbrev pub code_of : Status → ℕ
code_of Done = 0
code_of Usage = 2
code_of ReadFault = 3
code_of TooLong = 4
code_of NotJson = 5
code_of Form = 6
code_of Check = 7
code_of NoSuchElement = 8
code_of WriteFault = 9
code_of NoMemory = 10
code_of NotBuilt = 11
