pub mod Mailboxes
pub mod Hearing
pub mod Pacing
pub mod Tallies
pub mod Turning
pub mod Finishing
pub mod Jobs
