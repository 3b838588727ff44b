use Rattle.std.proofs.Common.{ap, ◌∙◌}
use Rattle.serde_json.specs.Written.{has_float, compact_text}
use Rattle.tv_report.proofs.Plain.{path-plain}
use Rattle.tv_report.proofs.forms.path_text.Goals as goal

pub returns : goal.returns
returns c = c.in_ok-text.ensures.text (ap has_float c.in_ok-json.ensures ∙ path-plain c.args.path.now) ∙ ap compact_text c.in_ok-json.ensures
