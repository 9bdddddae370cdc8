pub mod Engine
pub mod Keeping
