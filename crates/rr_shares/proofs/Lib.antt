pub mod Moves
pub mod Keeping
pub mod Heirs
pub mod Counting
pub mod Handovers
pub mod SaleLemmas
