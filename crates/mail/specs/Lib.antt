pub mod Channel
pub mod Limits
pub mod Order
pub mod Rings
