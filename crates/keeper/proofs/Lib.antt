pub mod KeepingLemmas
pub mod FirstPartLemmas
pub mod ListLemmas
pub mod DealingLemmas
pub mod DueLemmas
pub mod WholeLemmas
pub mod AloneLemmas
pub mod OwnLemmas
