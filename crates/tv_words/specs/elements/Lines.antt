-- The lines of elements: those that lineage lists, and those that forward use does.
use Rattle.std.specs.Prelude.{List, [], flat_map, ◌++◌, ◌∷◌}
use Rattle.tv_value.specs.Nested.{Place}
use Rattle.tv_value.specs.Printed.{element_text}
use Rattle.tv_value.specs.Values.{Name, Text}

-- a port and a place in brackets, with a line feed
abbrev pub element_line : Name × Place → Text
element_line l = element_text l ++ 10 ∷ []

-- in the order of the list
abbrev pub element_lines : List (Name × Place) → Text
element_lines ls = flat_map element_line ls
