pub mod State
pub mod Events
pub mod Soundness
pub mod Replaying
pub mod Working
