-- The complaint that a fault of the check stands for.
use Rattle.tv_naming.specs.declared.faults.CheckKind.{CheckKind}
use Rattle.tv_naming.specs.declared.faults.CheckKind.TheVariants as kind
use Rattle.tv_naming.specs.declared.faults.Spot.{Spot}
use Rattle.tv_naming.specs.declared.faults.Spot.TheVariants as spot
use Rattle.tv_naming.specs.declared.faults.CheckFault.{CheckFault}
use Rattle.tv_naming.specs.Faulty as told

abbrev pub kind_view : CheckKind → told.Kind
kind_view kind.NoSuchPort = told.no_such_port
kind_view kind.NoSuchService = told.no_such_service
kind_view kind.NoSuchFlow = told.no_such_flow
kind_view kind.FlowCycle = told.flow_cycle
kind_view kind.LinkCycle = told.link_cycle
kind_view kind.StrategyPorts = told.strategy_ports
kind_view kind.DotDepths = told.dot_depths
kind_view kind.MergeDepths = told.merge_depths
kind_view kind.NestedPorts = told.nested_ports
kind_view kind.TooDeep = told.too_deep
kind_view kind.InputMissing = told.input_missing
kind_view kind.InputUnknown = told.input_unknown
kind_view kind.InputDepth = told.input_depth
kind_view kind.LoopNested = told.loop_nested
kind_view kind.LoopDepths = told.loop_depths
kind_view kind.PrefixDepths = told.prefix_depths

abbrev pub spot_view : Spot → told.Where
spot_view spot.Main = told.at_main
spot_view (spot.Flow f) = told.at_flow f
spot_view (spot.Step f s) = told.at_step f s
spot_view (spot.Input f s p) = told.at_input f s p
spot_view (spot.Output f s p) = told.at_output f s p
spot_view (spot.Activity f s k) = told.at_activity f s k
spot_view (spot.After f s k) = told.at_after f s k
spot_view (spot.Loop f s) = told.at_loop f s
spot_view (spot.FlowOutput f p) = told.at_flow_output f p
spot_view (spot.Given p) = told.at_given p

abbrev pub fault_view : CheckFault → told.CheckComplaint
fault_view c = record {
  kind = kind_view c.kind;
  spot = spot_view c.spot;
  first = c.first;
  second = c.second;
}
