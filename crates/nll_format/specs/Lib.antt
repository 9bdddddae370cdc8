pub mod Names
pub mod Kinds
pub mod Labels
pub mod Text
pub mod Parts
pub mod Listing
pub mod Reading
pub mod Lines
