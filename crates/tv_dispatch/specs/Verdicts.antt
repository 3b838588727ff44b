-- The verdict of the code that a judgment stands for.
use Rattle.std.specs.Prelude.{List, Result, Ok, Err}
use Rattle.tv_value.specs.Values.{Text, Value}
use Rattle.tv_dispatch.specs.declared.judgment.Verdict.{Verdict}
use Rattle.tv_dispatch.specs.declared.judgment.Verdict.TheVariants.{Right, Wrong}

abbrev pub verdict_of : Result (List Value) Text → Verdict
verdict_of (Ok vs) = Right
verdict_of (Err why) = Wrong why
