pub mod Texts
pub mod Disk
pub mod Sink
pub mod Refusal
pub mod Owners
pub mod Replays
pub mod Run
