pub mod FormLemmas
pub mod OneFormLemmas
pub mod VersionLemmas
pub mod LawLemmas
pub mod ReaderLemmas
pub mod SaidLemmas
pub mod TextLemmas
