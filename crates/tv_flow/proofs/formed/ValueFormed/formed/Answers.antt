use Rattle.serde_json.specs.View.{view as json_view}
use Rattle.tv_value.specs.Views.{view}
use Rattle.tv_flow.proofs.KeptValues.{value-kept}
use Rattle.tv_flow.proofs.formed.ValueFormed.formed.Goals as goal

pub returns-in-Ok-clause-kept : goal.returns-in-Ok-clause-kept
returns-in-Ok-clause-kept c = value-kept (json_view c.args.json.now) (view c.in-Ok.value) c.in-Ok.ensures
