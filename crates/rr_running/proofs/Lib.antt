pub mod Bound
pub mod Trains
pub mod Judged
pub mod NetLemmas
