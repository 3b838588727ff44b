pub mod Trees
pub mod Stands
pub mod Mapped
pub mod Answers
pub mod Inside
pub mod Looks
pub mod NodeCounts
pub mod nodes
