mod EndTextLemmas
mod KeepingLemmas
