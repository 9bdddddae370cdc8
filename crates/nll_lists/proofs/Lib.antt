pub mod CutLawLemmas
pub mod LineLemmas
pub mod ScheduleLawLemmas
