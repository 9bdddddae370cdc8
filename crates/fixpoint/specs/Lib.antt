pub mod Limits
pub mod Rules
pub mod Logs
pub mod State
pub mod Sums
pub mod Finishing
