pub mod Forest
pub mod Entries
pub mod views
pub mod runs
pub mod seats
pub mod stands
pub mod firsts
pub mod tries
pub use Rattle.tv_history.specs.Entries as HistoryEntries
pub use Rattle.tv_history.specs.Histories
pub use Rattle.tv_history.specs.order
