use Rattle.std.proofs.Common.{◌≡◌, IfOk, ◌∙◌, subst}
use Rattle.serde_json.specs.View.{view as json_view}
use Rattle.tv_flow.proofs.Shapes.{same-each}
use Rattle.tv_json.specs.Documents.{named_json, number_json}
use Rattle.tv_json.proofs.documents.json_of_depths.Goals as goal

pub returns : goal.returns
returns c = subst (λ ds. IfOk c.named.result (λ j. json_view j ≡ named_json number_json ds)) (same-each c.as_slice.result.now ∙ c.as_slice.ensures) c.named.ensures
