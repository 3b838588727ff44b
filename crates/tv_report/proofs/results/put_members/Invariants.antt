use Rattle.std.proofs.Common.{take}
use Rattle.std.specs.Prelude.{flat_map}
use Rattle.tv_value.specs.Views.{view}
use Rattle.tv_report.specs.Tokens.{Adds, value_member}
use Rattle.tv_report.proofs.results.put_members.Given as goal

abbrev pub invariant-loop-output : goal.invariant-loop-output
invariant-loop-output l = Adds l.initial.out l.out (flat_map (λ o. value_member (o.0, view o.1)) (take l.output-index l.outputs))
