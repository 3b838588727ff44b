use Rattle.std.proofs.Common.{◌≡◌, IfOk, ◌∙◌, subst}
use Rattle.std.proofs.lemmas.List.{map-id}
use Rattle.serde_json.specs.Data.{string}
use Rattle.serde_json.specs.View.{view as json_view}
use Rattle.tv_json.specs.Documents.{array_json}
use Rattle.tv_json.proofs.documents.json_of_names.Goals as goal

pub returns : goal.returns
returns c = subst (λ ns. IfOk c.array.result (λ j. json_view j ≡ array_json string ns)) (map-id c.as_slice.result.now ∙ c.as_slice.ensures) c.array.ensures
