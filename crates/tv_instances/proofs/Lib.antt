pub mod Quiet
pub mod TurnLemmas
pub mod Order
pub mod TrieLemmas
pub mod KnownJobs
pub mod Seating
pub mod Seats
pub mod Sitting
pub mod LevelLemmas
pub mod OpenLemmas
pub mod Telling
pub mod Taking
pub mod Giving
pub mod Settling
pub mod Regions
pub mod Starting
pub mod FirstSeats
pub mod FirstLemmas
pub mod Faulty
pub mod Going
pub use Rattle.tv_frame.proofs.turns as framing_turns
pub use Rattle.tv_forest.proofs.Lists
pub use Rattle.tv_forest.proofs.views
pub use Rattle.tv_forest.proofs.MainEnd
pub use Rattle.tv_forest.proofs.Recalls
pub use Rattle.tv_forest.proofs.firsts as forest_firsts
pub use Rattle.tv_forest.proofs.runs
pub use Rattle.tv_forest.proofs.Instances
pub use Rattle.tv_forest.proofs.stands
pub use Rattle.tv_forest.proofs.Opening
pub use Rattle.tv_forest.proofs.seats as forest_seats
pub use Rattle.tv_forest.proofs.tries as forest_tries
pub use Rattle.tv_forest.proofs.Entries
pub use Rattle.tv_forest.proofs.Start
pub use Rattle.tv_forest.proofs.Ends
pub use Rattle.tv_frame.proofs.Frames
