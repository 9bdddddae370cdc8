pub mod LineLemmas
pub mod OwnerLemmas
pub mod ReadingLemmas
pub mod RunLemmas
pub mod SinkLemmas
pub mod WritingLemmas
