use Rattle.std.proofs.Common.{◌≡◌, take, string_bytes}
use Rattle.tv_value.specs.Printed.{job_text}
use Rattle.tv_json.proofs.names.job_text.Given as goal

abbrev pub invariant-loop-index : goal.invariant-loop-index
invariant-loop-index l = string_bytes l.text ≡ job_text (take l.index l.levels)
