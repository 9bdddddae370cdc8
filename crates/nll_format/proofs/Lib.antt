pub mod LabelLemmas
pub mod LinesLemmas
pub mod ListingLemmas
pub mod NameLemmas
pub mod PartLemmas
pub mod ReadingLemmas
pub mod TextLaws
