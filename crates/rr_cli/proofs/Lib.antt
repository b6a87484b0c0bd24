pub mod Presence
pub mod RunningLemmas
pub mod Taken
