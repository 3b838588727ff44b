-- The path that a place in the document stands for.
use Rattle.std.specs.Prelude.{[]}
use Rattle.tv_flow.specs.declared.at.At.{At, fold-At}
use Rattle.tv_flow.specs.declared.at.At.TheOpen.{At-F}
use Rattle.tv_flow.specs.Complaints.{Path, key, index}

abbrev pub at_step : At-F Path → Path
at_step At-F.Top = []
at_step (At-F.Key outer k) = key outer.now k.now
at_step (At-F.Index outer i) = index outer.now i

abbrev pub at_view : At → Path
at_view = fold-At Path at_step
