pub mod LiveRoundLemmas
