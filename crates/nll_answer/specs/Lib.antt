pub mod Report
pub mod Texts
pub mod Answer
pub mod Running
pub mod ReplayReport
