pub mod Chains
pub mod Tables
pub mod Regions
pub mod Steps
pub mod PoolLemmas
pub mod PoolLinks
pub mod Linked
