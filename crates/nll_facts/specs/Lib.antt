pub mod FactsForms
pub mod FactsVersions
pub mod FactsLines
pub mod FactsSaid
pub mod FactsText
pub mod FactsReading
