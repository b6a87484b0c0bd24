pub mod LinkLemmas
pub mod WayLemmas
pub mod NearLemmas
pub mod Backwards
pub mod RouteLemmas
