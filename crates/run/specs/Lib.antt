pub mod Delivery
pub mod Outcome
pub mod Table
pub mod Settling
pub mod Refusing
