pub mod Levels
pub mod Turns
pub mod Quiet
pub mod Standing
pub mod Seating
pub mod Firsts
pub mod Events
pub mod Tries
pub use Rattle.tv_frame.specs.Spreads
pub use Rattle.tv_frame.specs.Answers
pub use Rattle.tv_frame.specs.FramingViews
pub use Rattle.tv_frame.specs.matches
pub use Rattle.tv_frame.specs.turns as framing_turns
pub use Rattle.tv_frame.specs.FramingStated
pub use Rattle.tv_forest.specs.seats
pub use Rattle.tv_forest.specs.Entries
pub use Rattle.tv_forest.specs.Forest
pub use Rattle.tv_forest.specs.stands
pub use Rattle.tv_forest.specs.firsts as forest_firsts
pub use Rattle.tv_forest.specs.runs
pub use Rattle.tv_forest.specs.views
pub use Rattle.tv_forest.specs.tries as forest_tries
