use Rattle.std.proofs.Common.{◌≡◌, map, take}
use Rattle.serde_json.specs.View.{view as json_view}
use Rattle.tv_report.specs.FormLines.{part_json}
use Rattle.tv_report.proofs.forms.json_of_path.Given as goal

abbrev pub invariant-loop-part : goal.invariant-loop-part
invariant-loop-part l = map json_view l.items.items ≡ map part_json (take l.part-index l.parts)
