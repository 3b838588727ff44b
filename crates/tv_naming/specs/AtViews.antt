-- The place that an `At` stands for.
use Rattle.tv_naming.specs.declared.at.At.{At}
use Rattle.tv_naming.specs.declared.at.At.TheVariants as at
use Rattle.tv_naming.specs.Faulty as told

abbrev pub at_view : At → told.Where
at_view (at.Step f s) = told.at_step f.now s.now
at_view (at.Input f s p) = told.at_input f.now s.now p.now
at_view (at.Output f s p) = told.at_output f.now s.now p.now
at_view (at.Activity f s k) = told.at_activity f.now s.now k
at_view (at.Loop f s) = told.at_loop f.now s.now
at_view (at.FlowOutput f p) = told.at_flow_output f.now p.now
