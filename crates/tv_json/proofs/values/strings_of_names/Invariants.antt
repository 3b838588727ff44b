use Rattle.std.proofs.Common.{◌≡◌, map, take}
use Rattle.serde_json.specs.View.{view}
use Rattle.serde_json.specs.Data.{string}
use Rattle.tv_value.specs.Printed.{job_text}
use Rattle.tv_json.proofs.values.strings_of_names.Given as goal

abbrev pub invariant-loop-name : goal.invariant-loop-name
invariant-loop-name l = map view l.texts.items ≡ map (λ n. string (job_text n)) (take l.name-index l.name-items)
