pub mod Outcome
pub mod Holdings
