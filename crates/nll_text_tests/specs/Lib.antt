pub mod LiveRounds
