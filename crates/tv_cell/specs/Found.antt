-- What is found at a place of a value, and an error document with another depth.
use Rattle.std.specs.Prelude.{ℕ, [], Bool, false, Option, Some, None}
use Rattle.tv_value.specs.Nested.{leaf, list}
use Rattle.tv_value.specs.Values.{ErrorDoc, Value, is_fault, text, fault, text_value}

-- what was found at a place; where nothing stands, an empty text, of which a sound piece makes no use
abbrev pub found_value : Option Value → Value
found_value (Some v) = v
found_value None = text_value []

-- whether an error document was found
abbrev pub is_document : Option Value → Bool
is_document (Some (leaf n a)) = is_fault a
is_document (Some (list n ts)) = false
is_document None = false

-- the document of a fault; of any other value an empty one, of which a sound piece makes no use
abbrev pub document_of : Value → ErrorDoc
document_of (leaf n (text t)) = record { at = []; depth = 0; why = []; from = [] }
document_of (leaf n (fault e)) = e
document_of (list n ts) = record { at = []; depth = 0; why = []; from = [] }

-- the same document of another depth
abbrev pub with_depth : ℕ → ErrorDoc → ErrorDoc
with_depth d e = record { at = e.at; depth = d; why = e.why; from = e.from }
