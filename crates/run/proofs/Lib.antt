pub mod ConcludingLemmas
pub mod EndingLemmas
pub mod PlaceLemmas
pub mod ReasonLemmas
pub mod SettlingLemmas
pub mod TableLemmas
