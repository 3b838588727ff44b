use Rattle.std.proofs.Common.{ap, ◌∙◌, map}
use Rattle.std.proofs.lemmas.List.{take_all}
use Rattle.serde_json.specs.Data.{array}
use Rattle.serde_json.specs.View.{items_of}
use Rattle.serde_json.proofs.Views.{view-Array}
use Rattle.tv_report.specs.FormLines.{part_json, path_json}
use Rattle.tv_report.proofs.forms.json_of_path.Goals as goal

pub returns : goal.returns
returns c =
    let parts = c.as_slice-parts.result.now in
    view-Array c.loop-part.items
    ∙ ap (λ ds. array (items_of ds)) (c.loop-part.invariant ∙ ap (map part_json) (take_all c.loop-part.part-index parts c.loop-part-test.false))
    ∙ ap path_json c.as_slice-parts.ensures
