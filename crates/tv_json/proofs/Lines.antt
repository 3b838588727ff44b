-- A document that was read, written on a line in the second format, reads as itself in that format.
use Rattle.std.specs.Prelude.{◌≡◌, Option, Some, None, option_map, Ok, refl}
use Rattle.std.proofs.Common.{ap, ◌∙◌}
use Rattle.serde_json.specs.Data.{Data}
use Rattle.serde_json.specs.Read.{read}
use Rattle.serde_json.proofs.Nesting.{depth-read}
use Rattle.tv_value.specs.Values.{Text}
use Rattle.tv_flow.specs.Flows.{Document, upgraded}
use Rattle.tv_flow.specs.Forms.{form_of}
use Rattle.tv_json.specs.DocumentLines.{UpgradesReadBack, document_in, document_line}
use Rattle.tv_json.specs.Documents.{document_json}
use Rattle.tv_json.proofs.Back.{document-back}
use Rattle.tv_json.proofs.KeptDocuments.{upgraded-kept}
use Rattle.tv_json.proofs.KeptForms.{some}
use Rattle.tv_json.proofs.ReadTidy.{tidy-read}
use Rattle.tv_json.proofs.Tidy.{line-back}

-- the tree that the text of a document is
tree-of : (o : Option Data) (d : Document) → option_map form_of o ≡ Some (Ok d) → (j : Data) × (o ≡ Some j) × (form_of j ≡ Ok d)
tree-of None d e = absurd (cc)
tree-of (Some j) d e = (j, refl, some e)

-- of a tree that some text is
pub upgrade-back : (text : Text) (j : Data) (d : Document) → read text ≡ Some j → form_of j ≡ Ok d → document_in (document_line (upgraded d)) ≡ Some (Ok (upgraded d))
upgrade-back text j d e h =
    let k = upgraded-kept 117 j d (tidy-read text j e, depth-read text j e) h in
    ap (option_map form_of) (line-back (document_json (upgraded d)) k.tidy k.shallow) ∙ ap Some (document-back (upgraded d) k.formed k.few)

pub upgrades-read-back : UpgradesReadBack
upgrades-read-back text d e =
    let p = tree-of (read text) d e in
    upgrade-back text p.0 d p.1 p.2
