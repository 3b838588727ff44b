-- A document on a line, and the document that a text is.
use Rattle.std.specs.Prelude.{◌≡◌, [], ◌∷◌, ◌++◌, Option, Some, option_map, Result, Ok}
use Rattle.serde_json.specs.Read.{read}
use Rattle.serde_json.specs.Written.{compact_text}
use Rattle.tv_value.specs.Values.{Text}
use Rattle.tv_flow.specs.Complaints.{Complaint}
use Rattle.tv_flow.specs.Flows.{Document, upgraded}
use Rattle.tv_flow.specs.Forms.{form_of}
use Rattle.tv_json.specs.Documents.{document_json}

-- its compact JSON and a line feed
abbrev pub document_line : Document → Text
document_line d = compact_text (document_json d) ++ 10 ∷ []

-- the document that a text is, or the first complaint about its form; none where it isn't JSON
abbrev pub document_in : Text → Option (Result Document Complaint)
document_in text = option_map form_of (read text)

-- a document that was read, written in the second format, reads as itself in that format
abbrev pub UpgradesReadBack : Type 0
UpgradesReadBack =
    (text : Text) (d : Document) → document_in text ≡ Some (Ok d)
    → document_in (document_line (upgraded d)) ≡ Some (Ok (upgraded d))
