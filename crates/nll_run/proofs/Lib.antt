pub mod TakingLemmas
pub mod OutcomeLemmas
