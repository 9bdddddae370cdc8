pub mod CallLemmas
pub mod StructLineLemmas
pub mod FaultLemmas
pub mod FormLemmas
pub mod GoodFieldLemmas
pub mod GroupLemmas
pub mod GrownLemmas
pub mod LawLemmas
pub mod LightLemmas
pub mod LineLemmas
pub mod NeitherLemmas
pub mod OwnLemmas
pub mod PointLemmas
pub mod SaidLemmas
pub mod ShapeLemmas
pub mod SoundLemmas
pub mod StandLemmas
pub mod StructLemmas
pub mod TextLemmas
pub mod TypedLemmas
pub mod VariableLemmas
pub mod VersionLemmas
pub mod ResolvedLemmas
pub mod NameLaws
pub mod WellHeadLemmas
pub mod WellLemmas
mod RowLemmas
mod ShapedLemmas
mod ResolvedTypeLemmas
