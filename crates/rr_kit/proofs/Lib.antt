pub mod KitLemmas
pub mod OneKit
pub mod BoardLemmas
