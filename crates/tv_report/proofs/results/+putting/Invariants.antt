use Rattle.std.proofs.Common.{take}
use Rattle.std.specs.Prelude.{flat_map}
use Rattle.tv_value.specs.Printed.{json}
use Rattle.tv_value.specs.Views.{view}
use Rattle.tv_report.specs.Tokens.{Adds, tokens_of}
use Rattle.tv_report.proofs.results.+putting.Given as goal

abbrev pub invariant-put_values-loop-value : goal.invariant-put_values-loop-value
invariant-put_values-loop-value l = Adds l.initial.out l.out (flat_map (λ v. tokens_of (json (view v))) (take l.value-index l.values))
