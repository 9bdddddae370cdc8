pub mod ReportLemmas
pub mod MeaningLemmas
pub mod LawLemmas
pub mod ReplayLemmas
