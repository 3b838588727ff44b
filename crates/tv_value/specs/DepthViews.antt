-- The depths that a `DepthSet` of the code stands for.
use Rattle.tv_value.specs.DepthSets as spec
use Rattle.tv_value.specs.declared.depth.DepthSet.{DepthSet}
use Rattle.tv_value.specs.declared.depth.DepthSet.TheVariants.{Exactly, AtLeast, NoDepth}

abbrev pub depth_set_view : DepthSet → spec.DepthSet
depth_set_view (Exactly d) = spec.exactly d
depth_set_view (AtLeast d) = spec.at_least d
depth_set_view NoDepth = spec.no_depth
