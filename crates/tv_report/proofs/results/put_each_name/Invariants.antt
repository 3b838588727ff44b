use Rattle.std.proofs.Common.{[], ◌∷◌, take}
use Rattle.std.specs.Prelude.{flat_map}
use Rattle.json.specs.Token.{string}
use Rattle.tv_value.specs.Printed.{job_text}
use Rattle.tv_report.specs.Tokens.{Adds}
use Rattle.tv_report.proofs.results.put_each_name.Given as goal

abbrev pub invariant-loop-name : goal.invariant-loop-name
invariant-loop-name l = Adds l.initial.out l.out (flat_map (λ n. string (job_text n) ∷ []) (take l.name-index l.names))
