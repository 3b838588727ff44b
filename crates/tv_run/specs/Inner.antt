-- The types of what a run is made of, for those who prove of its parts.
pub use Rattle.tv_frame.specs.declared.frame.Frame.{Frame}
pub use Rattle.tv_instances.specs.declared.open.Open.{Open}
